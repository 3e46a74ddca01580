-- The number of a character reference.
use Rattle.std.proofs.Common.{◌≡◌, ◌≢◌, ℕ, ◌<◌, ◌≤◌, ◌^◌, true, List, [], ◌∷◌, length, get_or, sym, ap, arith, subst}
use Rattle.std.specs.Prelude.{nat_lt}
use Rattle.std.specs.Char.{IsScalar, is_digit, digit_value}
use Rattle.std.specs.List.{list_all}
use Rattle.std.specs.Str.Parse.{AllDigits, IsNumeral, digits_value, without_leading_plus}
use Rattle.std.proofs.lemmas.Bool.Decides.{nat_tests}
use Rattle.std.proofs.lemmas.Str.Parse.{without_leading_plus_none}
use Rattle.xml_tokens.proofs.ListLemmas.{two}

less : {n m : ℕ} → nat_lt n m ≡ true → n < m
less {n} {m} h = grind (arith, nat_tests)

all-digits : (radix : ℕ) (ds : List ℕ) → list_all (λ b. is_digit b radix) ds ≡ true → AllDigits radix ds
all-digits radix [] h = tt
all-digits radix (d ∷ ds) h =
    let parts = two (is_digit d radix) (list_all (λ b. is_digit b radix) ds) h in
    (less parts.0, all-digits radix ds parts.1)

no-plus : (radix : ℕ) (ds : List ℕ) → radix ≤ 36 → 0 < length ds → list_all (λ b. is_digit b radix) ds ≡ true → get_or ds 0 0 ≢ 43
no-plus radix [] low some h e = absurd (omega (arith, some))
no-plus radix (d ∷ ds) low some h e =
    let parts = two (is_digit d radix) (list_all (λ b. is_digit b radix) ds) h in
    let small : digit_value d < radix = less parts.0 in
    let none : digit_value d ≡ 36 = ap digit_value e in
    absurd (omega (arith, small, none, low))

scalar-small : (n : ℕ) → IsScalar n → n < 2 ^ 32
scalar-small n h = grind (arith, nat_tests)

-- what isn't read as a number of 32 bits is no character's
pub too-large : (radix : ℕ) (ds : List ℕ) → radix ≤ 36 → 0 < length ds → list_all (λ b. is_digit b radix) ds ≡ true →
    ((IsNumeral radix (without_leading_plus ds) × (digits_value radix (without_leading_plus ds) < 2 ^ 32)) → ⊥) → IsScalar (digits_value radix ds) → ⊥
too-large radix ds low some h none scalar =
    let same : without_leading_plus ds ≡ ds = without_leading_plus_none ds (no-plus radix ds low some h) in
    let small : digits_value radix ds < 2 ^ 32 = scalar-small (digits_value radix ds) scalar in
    none (subst (λ (l : List ℕ). IsNumeral radix l × (digits_value radix l < 2 ^ 32)) (sym same) ((some, all-digits radix ds h), small))
