-- Lemmas on a whole number's own text.
use Rattle.std.proofs.Common.{◌≡◌, ℕ, suc, ◌-◌, ◌^◌, cond, ◌<◌, Bool, true, false, ◌&&◌, ℤ, pos, negsuc, neg_ℤ, List, [], ◌∷◌, length, get_or, take, drop, reverse, nat_eq, nat_lt, refl, ap, ◌∙◌, arith, Some, Ok}
use borrow.Author.Tests.{ltb-true, lt-ltb}
use Rattle.std.specs.Char.{is_ascii_digit, digit_value}
use Rattle.std.specs.Fmt.{decimal}
use Rattle.std.specs.Int.{IsInRange}
use Rattle.std.specs.List.{list_all, prefix_len, suffix_len}
use Rattle.std.specs.Str.Parse.{AllDigits, IsNumeral, digits_value, starts_with_minus, without_leading_sign}
use Rattle.std.proofs.Math.Nat.{sub-zero}
use Rattle.std.proofs.lemmas.Bool.Decides.{nat_tests}
use Rattle.std.proofs.lemmas.Fmt.{decimal_is_IsNumeral}
use Rattle.std.proofs.lemmas.List.{get_or-reverse, take_all}
use Rattle.std.proofs.lemmas.List.Sums.{prefix_len_is}
use Rattle.std.proofs.lemmas.Str.Parse.{digit_from_value, digit_at}
use Rattle.stx_base.specs.Character.{is_space}
use Rattle.stxpath_values.specs.Laws.{NumberIsRead}
use Rattle.stxpath_values.specs.Numeral.{whole, without_space_before, without_space_behind, stripped, number, is_numeral, stripped_number, text_number}
use Rattle.stxpath_values.specs.Outcome.{and_then}

is_digit : (c : ℕ) → digit_value c < 10 → is_ascii_digit c ≡ true
is_digit c h = let r = digit_from_value c h in grind (arith, nat_tests)

all_digits : (ds : List ℕ) → AllDigits 10 ds → list_all is_ascii_digit ds ≡ true
all_digits [] a = refl
all_digits (d ∷ ds) a = let e = is_digit d a.0 in let f = all_digits ds a.1 in rw (e, f) refl

digit-not-space : (c : ℕ) → IsInRange 48 57 c → is_space c ≡ false
digit-not-space c h = grind (arith, nat_tests)

-- a text without white space at its ends stays
stripped_same : (cs : List ℕ) → 0 < length cs → is_space (get_or cs 0 0) ≡ false → is_space (get_or cs (length cs - 1) 0) ≡ false → stripped cs ≡ cs
unfolding without_space_before without_space_behind
stripped_same cs some first last =
    let before : prefix_len is_space cs ≡ 0 = prefix_len_is is_space cs 0 0 (omega arith) (λ k lt. absurd (omega arith)) (λ lt. first) in
    let back : length cs - 1 - 0 ≡ length cs - 1 = omega arith in
    let end : is_space (get_or (reverse cs) 0 0) ≡ false = ap is_space (get_or-reverse cs 0 0 some ∙ ap (λ j. get_or cs j 0) back) ∙ last in
    let behind : suffix_len is_space cs ≡ 0 = prefix_len_is is_space (reverse cs) 0 0 (omega arith) (λ k lt. absurd (omega arith)) (λ lt. end) in
    ap (λ n. take (length (drop n cs) - suffix_len is_space (drop n cs)) (drop n cs)) before
    ∙ ap (λ n. take (length cs - n) cs) behind ∙ ap (λ n. take n cs) (sub-zero (length cs)) ∙ take_all (length cs) cs (omega arith)

-- the first and the last of digits are no white space
first : (ds : List ℕ) → IsNumeral 10 ds → is_space (get_or ds 0 0) ≡ false
first ds h = let r = digit_at ds 0 h.1 h.0 in digit-not-space _ r

last : (ds : List ℕ) → IsNumeral 10 ds → is_space (get_or ds (length ds - 1) 0) ≡ false
last ds h = let r = digit_at ds (length ds - 1) h.1 (omega (arith, h.0)) in digit-not-space _ r

-- and they have no sign
no_minus : (ds : List ℕ) → IsNumeral 10 ds → starts_with_minus ds ≡ false
no_minus [] h = absurd (omega (arith, h.0))
no_minus (d ∷ ds) h = let r = digit_from_value d h.1.0 in grind (arith, nat_tests)

unsigned : (ds : List ℕ) → IsNumeral 10 ds → without_leading_sign ds ≡ ds
unsigned [] h = absurd (omega (arith, h.0))
unsigned (d ∷ ds) h =
    let r = digit_from_value d h.1.0 in
    let minus : nat_eq d 45 ≡ false = grind (arith, nat_tests) in
    let plus : nat_eq d 43 ≡ false = grind (arith, nat_tests) in
    rw (minus, plus) refl

digits_pass : (ds : List ℕ) → IsNumeral 10 ds → (nat_lt 0 (length ds) && list_all is_ascii_digit ds) ≡ true
digits_pass ds h = let some : nat_lt 0 (length ds) ≡ true = lt-ltb _ _ h.0 in let all = all_digits ds h.1 in rw (some, all) refl

digits_numeral : (ds : List ℕ) → IsNumeral 10 ds → is_numeral ds ≡ true
unfolding is_numeral
digits_numeral ds h = ap (λ l. nat_lt 0 (length l) && list_all is_ascii_digit l) (unsigned ds h) ∙ digits_pass ds h

minus_numeral : (ds : List ℕ) → IsNumeral 10 ds → is_numeral (45 ∷ ds) ≡ true
unfolding is_numeral
minus_numeral ds h = digits_pass ds h

digits_number : (ds : List ℕ) → IsNumeral 10 ds → number ds ≡ pos (digits_value 10 ds)
unfolding number
digits_number ds h = positive (starts_with_minus ds) (without_leading_sign ds) (no_minus ds h) (unsigned ds h)
  where
    positive : (b : Bool) (l : List ℕ) → b ≡ false → l ≡ ds → cond b (neg_ℤ (pos (digits_value 10 l))) (pos (digits_value 10 l)) ≡ pos (digits_value 10 ds)
    positive b l e f = rw (e, f) refl

minus_number : (ds : List ℕ) → number (45 ∷ ds) ≡ neg_ℤ (pos (digits_value 10 ds))
unfolding number
minus_number ds = refl

-- a numeral without white space is read as its number
read : (cs : List ℕ) (z : ℤ) → stripped cs ≡ cs → is_numeral cs ≡ true → number cs ≡ z → text_number cs ≡ and_then (whole z) (λ z. Ok (Some z))
unfolding text_number stripped_number
read cs z same numeral is = ap stripped_number same ∙ rw numeral (ap (λ z. and_then (whole z) (λ z. Ok (Some z))) is)

read_digits : (ds : List ℕ) → IsNumeral 10 ds → text_number ds ≡ and_then (whole (pos (digits_value 10 ds))) (λ z. Ok (Some z))
read_digits ds h = read ds _ (stripped_same ds h.0 (first ds h) (last ds h)) (digits_numeral ds h) (digits_number ds h)

read_minus : (ds : List ℕ) → IsNumeral 10 ds → text_number (45 ∷ ds) ≡ and_then (whole (neg_ℤ (pos (digits_value 10 ds)))) (λ z. Ok (Some z))
read_minus ds h =
    let at : length (45 ∷ ds) - 1 ≡ suc (length ds - 1) = omega (arith, h.0) in
    let end : is_space (get_or (45 ∷ ds) (length (45 ∷ ds) - 1) 0) ≡ false = ap (λ j. is_space (get_or (45 ∷ ds) j 0)) at ∙ last ds h in
    read (45 ∷ ds) _ (stripped_same (45 ∷ ds) (omega arith) refl end) (minus_numeral ds h) (minus_number ds)

pub number-is-read : NumberIsRead
number-is-read (pos n) f =
    let small : n < 2 ^ 63 = ltb-true _ _ f in
    let d = decimal_is_IsNumeral n (omega arith) in
    read_digits (decimal n) d.0 ∙ ap (λ k. and_then (whole (pos k)) (λ z. Ok (Some z))) d.1 ∙ rw f refl
number-is-read (negsuc n) f =
    let small : n < 2 ^ 63 = ltb-true _ _ f in
    let d = decimal_is_IsNumeral (suc n) (omega arith) in
    read_minus (decimal (suc n)) d.0 ∙ ap (λ k. and_then (whole (neg_ℤ (pos k))) (λ z. Ok (Some z))) d.1 ∙ rw f refl
