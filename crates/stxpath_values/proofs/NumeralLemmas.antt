-- Lemmas on numerals.
use Rattle.std.proofs.Common.{◌≡◌, ℕ, zero, suc, ◌+◌, ◌-◌, ◌<◌, ◌≤◌, Bool, true, false, cond, ◌&&◌, ◌⊎◌, ⊎_elim, ℤ, pos, negsuc, List, [], ◌∷◌, length, get_or, drop, reverse, nat_lt, true≢false, refl, sym, ap, ◌∙◌, arith, None, Ok, Err, length-drop, length-take}
use Rattle.stxpath_values.specs.declared.fault.EvalFault.TheVariants.{Overflow}
use Rattle.std.proofs.Common.{inl, inr, lit<, subst, slice_index}
use borrow.Author.Tests.{ltb-true, lt-ltb}
use Rattle.std.specs.Int.{w64, IsInRange}
use Rattle.std.specs.Prelude.{FitsSigned}
use Rattle.std.specs.Str.{chars, IsAscii, IsNotAscii, IsUtf8}
use Rattle.std.specs.Str.Parse.{AllDigits, IsNumeral}
use Rattle.std.proofs.lemmas.Str.{encodes-IsAscii, encodes-chars, IsAscii-take, IsAscii-drop}
use Rattle.std.proofs.lemmas.Str.Parse.{tells_digits}
use Rattle.std.proofs.lemmas.Bool.{and_parts}
use Rattle.std.specs.List.{list_all, prefix_len, suffix_len}
use Rattle.std.specs.Char.{is_ascii_digit}
use Rattle.std.specs.Str.Parse.{without_leading_sign, signed_digits_value}
use Rattle.stx_base.specs.Character.{is_space}
use Rattle.stxpath_values.specs.Numeral.{fits, whole, without_space_before, without_space_behind, stripped, number, is_numeral, is_fraction, stripped_number, text_number, is_digit_or_dot}
use Rattle.std.proofs.lemmas.Bool.{cases_lt, cases_eq}
use Rattle.std.proofs.lemmas.Bool.Decides.{nat_tests}
use Rattle.std.proofs.lemmas.Grind.{get_or_after_one}
use Rattle.std.proofs.lemmas.List.{get_or-take, get_or-drop, get_or-reverse}
use Rattle.std.proofs.lemmas.List.Folds.{list_all_at}
use Rattle.std.proofs.lemmas.List.Sums.{prefix_len_passes, suffix_len-le-length}

-- a character beyond ASCII
pub record HasHigh (cs : List ℕ) : Type 0 where
  pub at : ℕ
  pub within : at < length cs
  pub high : 128 ≤ get_or cs at 0

high-not-space : (c : ℕ) → 128 ≤ c → is_space c ≡ false
high-not-space c h = grind (arith, nat_tests)

high-not-digit : (c : ℕ) → 128 ≤ c → is_ascii_digit c ≡ false
high-not-digit c h = grind (arith, nat_tests)

high-not-dot : (c : ℕ) → 128 ≤ c → is_digit_or_dot c ≡ false
high-not-dot c h = grind (arith, nat_tests)

shorter : (cs : List ℕ) (h : HasHigh cs) → 0 < h.at → HasHigh (drop 1 cs)
shorter cs h some =
    let back : 1 + (h.at - 1) ≡ h.at = omega arith in
    let same = get_or_after_one cs (h.at - 1) 0 ∙ ap (λ j. get_or cs j 0) back in
    record { at = h.at - 1; within = omega (arith, length-drop 1 cs, h.within); high = omega (arith, same, h.high) }

-- it stays where white space goes
before : (cs : List ℕ) → HasHigh cs → HasHigh (without_space_before cs)
unfolding without_space_before
before cs h = ⊎_elim
    (λ (lt : h.at < prefix_len is_space cs). absurd (true≢false (sym (prefix_len_passes is_space cs h.at 0 lt) ∙ high-not-space _ h.high)))
    (λ (le : prefix_len is_space cs ≤ h.at).
    let back : prefix_len is_space cs + (h.at - prefix_len is_space cs) ≡ h.at = omega arith in
    let same = get_or-drop (prefix_len is_space cs) cs (h.at - prefix_len is_space cs) 0 ∙ ap (λ j. get_or cs j 0) back in
    record { at = h.at - prefix_len is_space cs; within = omega (arith, length-drop (prefix_len is_space cs) cs, h.within); high = omega (arith, same, h.high) })
    (cases_lt h.at (prefix_len is_space cs))

behind : (cs : List ℕ) → HasHigh cs → HasHigh (without_space_behind cs)
unfolding without_space_behind
behind cs h = ⊎_elim
    (λ (lt : h.at < length cs - suffix_len is_space cs).
    record { at = h.at; within = omega (arith, length-take (length cs - suffix_len is_space cs) cs, h.within); high = omega (arith, get_or-take (length cs - suffix_len is_space cs) cs h.at 0 lt, h.high) })
    (λ (le : length cs - suffix_len is_space cs ≤ h.at).
    let k : length cs - 1 - h.at < suffix_len is_space cs = omega (arith, h.within, suffix_len-le-length is_space cs) in
    let back : length cs - 1 - (length cs - 1 - h.at) ≡ h.at = omega (arith, h.within) in
    let same = get_or-reverse cs (length cs - 1 - h.at) 0 (omega (arith, h.within)) ∙ ap (λ j. get_or cs j 0) back in
    absurd (true≢false (sym (prefix_len_passes is_space (reverse cs) (length cs - 1 - h.at) 0 k) ∙ ap is_space same ∙ high-not-space _ h.high)))
    (cases_lt h.at (length cs - suffix_len is_space cs))

-- and where a sign goes
after_sign : (b c : Bool) (cs : List ℕ) (h : HasHigh cs) → (h.at ≡ 0 → b ≡ false) → (h.at ≡ 0 → c ≡ false) → HasHigh (cond b (drop 1 cs) (drop (cond c 1 0) cs))
after_sign true c cs h f g = ⊎_elim (λ e. absurd (true≢false (f e))) (λ apart. shorter cs h (omega arith)) (cases_eq h.at 0)
after_sign false true cs h f g = ⊎_elim (λ e. absurd (true≢false (g e))) (λ apart. shorter cs h (omega arith)) (cases_eq h.at 0)
after_sign false false cs h f g = h

digits : (cs : List ℕ) → HasHigh cs → HasHigh (without_leading_sign cs)
digits cs h =
    let first : h.at ≡ 0 → 128 ≤ get_or cs 0 0 = λ e. omega (arith, ap (λ j. get_or cs j 0) e, h.high) in
    after_sign _ _ cs h (λ e. let l : 128 ≤ get_or cs 0 0 = first e in grind (arith, nat_tests)) (λ e. let l : 128 ≤ get_or cs 0 0 = first e in grind (arith, nat_tests))

and_false : (a b : Bool) → b ≡ false → (a && b) ≡ false
and_false true b e = e
and_false false b e = refl

-- such a text is no number
HasHigh-none : (cs : List ℕ) → HasHigh cs → stripped_number cs ≡ Ok None
unfolding stripped_number is_numeral is_fraction
HasHigh-none cs h =
    let d = digits cs h in
    let numeral = and_false (nat_lt 0 (length (without_leading_sign cs))) _ (list_all_at is_ascii_digit (without_leading_sign cs) d.at 0 d.within (high-not-digit _ d.high)) in
    let dotted = and_false (nat_lt 1 (length (without_leading_sign cs))) _ (list_all_at is_digit_or_dot (without_leading_sign cs) d.at 0 d.within (high-not-dot _ d.high)) in
    rw numeral (rw dotted refl)

pub text_number-high : (cs : List ℕ) → HasHigh cs → text_number cs ≡ Ok None
unfolding text_number
text_number-high cs h = HasHigh-none (stripped cs) (behind _ (before cs h))

-- a list of characters is ASCII or not
ascii_or_high : (cs : List ℕ) → IsAscii cs ⊎ HasHigh cs
ascii_or_high [] = inl (λ i. lit< tt)
ascii_or_high (c ∷ cs) = ⊎_elim
    (λ (low : c < 128). ⊎_elim (λ rest. inl (both c cs low rest)) (λ h. inr (record { at = suc h.at; within = omega (arith, h.within); high = h.high })) (ascii_or_high cs))
    (λ (high : 128 ≤ c). inr (record { at = 0; within = omega arith; high = high }))
    (cases_lt c 128)
  where
    both : (c : ℕ) (cs : List ℕ) → c < 128 → IsAscii cs → IsAscii (c ∷ cs)
    both c cs low rest zero = low
    both c cs low rest (suc i) = rest i

-- a text with bytes beyond ASCII has characters beyond ASCII
pub high_chars : (bs : List ℕ) → IsUtf8 bs → IsNotAscii bs → HasHigh (chars bs)
high_chars bs u n = ⊎_elim
    (λ low.
    let e : chars bs ≡ bs = sym (encodes-IsAscii (chars bs) low) ∙ encodes-chars bs u in
    let b : slice_index bs n.0 < 128 = subst (λ (l : List ℕ). slice_index l n.0 < 128) e (low n.0) in
    absurd (omega (arith, n.1)))
    (λ h. h)
    (ascii_or_high (chars bs))

digit : (d : ℕ) → is_ascii_digit d ≡ true → IsInRange 48 57 d
digit d e = grind (arith, nat_tests)

digits_all : (ds : List ℕ) → list_all is_ascii_digit ds ≡ true → AllDigits 10 ds
digits_all [] e = tells_digits.empty
digits_all (d ∷ ds) e =
    let p = and_parts (is_ascii_digit d) (list_all is_ascii_digit ds) e in
    tells_digits.more d ds (digit d p.0) (digits_all ds p.1)

pub numeral-IsNumeral : (bs : List ℕ) → is_numeral bs ≡ true → IsNumeral 10 (without_leading_sign bs)
unfolding is_numeral
numeral-IsNumeral bs e =
    let p = and_parts (nat_lt 0 (length (without_leading_sign bs))) (list_all is_ascii_digit (without_leading_sign bs)) e in
    (ltb-true _ _ p.0, digits_all _ p.1)

not_true : (b : Bool) → (b ≡ true → ⊥) → b ≡ false
not_true true f = absurd (f refl)
not_true false f = refl

fits_yes : (z : ℤ) → FitsSigned w64 z → fits z ≡ true
fits_yes (pos n) f = lt-ltb _ _ f.sfits
fits_yes (negsuc n) f = lt-ltb _ _ f.sfits

fits_no : (z : ℤ) → (FitsSigned w64 z → ⊥) → fits z ≡ false
fits_no (pos n) f = not_true _ (λ t. f (record { sfits = ltb-true _ _ t }))
fits_no (negsuc n) f = not_true _ (λ t. f (record { sfits = ltb-true _ _ t }))

-- a number that fits is one within 64 bits, and another is an overflow
pub whole_yes : (z : ℤ) → FitsSigned w64 z → whole z ≡ Ok z
whole_yes z f = rw (fits_yes z f) refl

pub whole_no : (z : ℤ) → (FitsSigned w64 z → ⊥) → whole z ≡ Err Overflow
whole_no z f = rw (fits_no z f) refl

-- what a numeral is read as
pub number_read : (bs : List ℕ) (n : ℤ) → (IsNumeral 10 (without_leading_sign bs) × FitsSigned w64 (signed_digits_value 10 bs)) × (n ≡ signed_digits_value 10 bs) → whole (number bs) ≡ Ok n
unfolding number
number_read bs n p = whole_yes _ p.0.1 ∙ ap Ok (sym p.1)

pub number_refused : (bs : List ℕ) → is_numeral bs ≡ true → (IsNumeral 10 (without_leading_sign bs) × FitsSigned w64 (signed_digits_value 10 bs) → ⊥) → whole (number bs) ≡ Err Overflow
unfolding number
number_refused bs e no_read = whole_no _ (λ f. no_read (numeral-IsNumeral bs e, f))

-- what is left of ASCII is ASCII
pub stripped-IsAscii : (bs : List ℕ) → IsAscii bs → IsAscii (stripped bs)
unfolding without_space_before without_space_behind
stripped-IsAscii bs a = IsAscii-take _ _ (IsAscii-drop _ _ a)
