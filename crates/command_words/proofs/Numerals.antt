-- What a numeral is read as.
use Rattle.std.proofs.Common.{◌≡◌, ℕ, ◌<◌, ◌≤◌, ◌^◌, true, rules, List, length, Result, Err, OkIff, arith}
use Rattle.std.proofs.lemmas.Bool.{leb-true, ltb-true}
use Rattle.std.proofs.lemmas.Result.{OkIff-at_err}
use Rattle.clap.proofs.WalkLemmas.{both}
use Rattle.std.specs.Char.{is_ascii_digit}
use Rattle.std.specs.List.{list_all}
use Rattle.std.specs.Str.Parse.{ParsesUnsigned, digits_value}
use Rattle.std.proofs.lemmas.Str.Parse.{IsNumeralModel, digits_value_short, numerals_by_value, parse_digits}
use Rattle.command_words.specs.Words.{is_numeral}

abbrev AreDigits : List ℕ → Type 0
AreDigits ds = list_all is_ascii_digit ds ≡ true

own : IsNumeralModel AreDigits (digits_value 10)
own = numerals_by_value AreDigits (search rules)

-- digits alone are read as their value, where it fits
pub digits_read : {E : Type 0} (bs : List ℕ) (r : Result ℕ E) → ParsesUnsigned 64 10 bs r → list_all is_ascii_digit bs ≡ true
    → OkIff r ((0 < length bs) × (digits_value 10 bs < 2 ^ 64)) (digits_value 10 bs)
digits_read bs r h p = parse_digits own 64 bs r h p

-- what is refused is no numeral of nineteen digits
pub not_numeral : {E : Type 0} (least most : ℕ) (bs : List ℕ) (r : Result ℕ E) (e : E) → ParsesUnsigned 64 10 bs r → r ≡ Err e
    → is_numeral least most bs ≡ true → ⊥
not_numeral least most bs r e h is numeral =
    let parts = both _ _ numeral in let digits = both _ _ parts.0 in let count = both _ _ digits.0 in
    let short : length bs ≤ 19 = leb-true (length bs) 19 count.1 in
    OkIff-at_err r _ _ e (digits_read bs r h digits.1) is
    (ltb-true 0 (length bs) count.0, omega (arith, digits_value_short own bs 19 digits.1 short))
