-- Numbers that digits write.
use Rattle.std.proofs.Common.{◌≡◌, ℕ, zero, suc, ◌+◌, ◌-◌, ◌*◌, ◌^◌, ◌<◌, ◌≤◌, true, ◌&&◌, List, [], ◌∷◌, length, drop, get_or, refl, sym, ap, ◌∙◌, arith, lit<, subst}
use Rattle.std.specs.Prelude.{nat_le}
use Rattle.std.specs.List.{list_all}
use Rattle.std.proofs.Math.Nat.{mul-le-mul_left, mul-le-mul_right, mul_assoc, one-le-pow, pow-le-pow_right, pow-succ'}
use Rattle.std.proofs.Math.Seq.{drop-cons}
use Rattle.std.proofs.lemmas.Bool.{and_parts, leb-true}
use Rattle.sheet_loader.specs.Values.{is_digit, number, are_digits}

-- What the first so many digits write. The bound holds of any bytes, and is such that a number of 32 bits is wide enough.
pub record Counts (digits : List ℕ) (i n : ℕ) : Type 0 where
  pub counted : number n (drop i digits) ≡ number 0 digits
  pub bound : (n + 29) * 10 ^ (length digits - i) ≤ 29000000

tenfold : (m k : ℕ) → m * 10 ^ suc k ≡ m * 10 * 10 ^ k
tenfold m k = ap (λ p. m * p) (pow-succ' 10 k) ∙ sym (mul_assoc m 10 (10 ^ k))

step-bound : (n b k : ℕ) → b ≤ 255 → (n + 29) * 10 ^ suc k ≤ 29000000 → (n * 10 + (b - 48) + 29) * 10 ^ k ≤ 29000000
step-bound n b k small h =
    let wide : n * 10 + (b - 48) + 29 ≤ (n + 29) * 10 = omega arith in
    let e = tenfold (n + 29) k in
    let more = mul-le-mul_right (10 ^ k) wide in
    omega (arith, h, e, more)

step-fits : (n b k : ℕ) → b ≤ 255 → (n + 29) * 10 ^ suc k ≤ 29000000 → n * 10 + (b - 48) < 4294967296
step-fits n b k small h =
    let e = tenfold (n + 29) k in
    let more = mul-le-mul_left ((n + 29) * 10) (one-le-pow k 10 (lit< tt)) in
    omega (arith, h, e, more)

pub counts-init : (digits : List ℕ) → length digits ≤ 6 → Counts digits 0 0
counts-init digits few = record {
  counted = refl;
  bound = let most = mul-le-mul_left 29 (pow-le-pow_right {n = 10} (lit< tt) few) in let e : length digits - 0 ≡ length digits = omega arith in
      subst (λ k. (0 + 29) * 10 ^ k ≤ 29000000) (sym e) (omega (arith, most));
}

module _ (digits : List ℕ) (i n : ℕ) (within : i < length digits) (small : get_or digits i 0 ≤ 255) (c : Counts digits i n) where
  rest : ℕ
  rest = length digits - (i + 1)

  one-more : length digits - i ≡ suc (length digits - (i + 1))
  one-more = omega arith

  before : (n + 29) * 10 ^ suc (length digits - (i + 1)) ≤ 29000000
  before = subst (λ k. (n + 29) * 10 ^ k ≤ 29000000) one-more c.bound

  pub counts-fits : n * 10 + (get_or digits i 0 - 48) < 4294967296
  counts-fits = step-fits n (get_or digits i 0) (length digits - (i + 1)) small before

  pub counts-step : Counts digits (i + 1) (n * 10 + (get_or digits i 0 - 48))
  counts-step = record {
    counted = let e : i + 1 ≡ suc i = omega arith in
        ap (λ k. number (n * 10 + (get_or digits i 0 - 48)) (drop k digits)) e ∙ sym (ap (number n) (drop-cons digits i 0 within)) ∙ c.counted;
    bound = step-bound n (get_or digits i 0) (length digits - (i + 1)) small before;
  }

none-left : (digits : List ℕ) (i : ℕ) → length digits ≤ i → drop i digits ≡ []
none-left [] zero h = refl
none-left [] (suc i) h = refl
none-left (d ∷ ds) zero h = absurd (omega arith)
none-left (d ∷ ds) (suc i) h = none-left ds i (omega arith)

-- so many digits write less than the next power of ten
number-below : (ds : List ℕ) (n : ℕ) → list_all is_digit ds ≡ true → number n ds + 1 ≤ (n + 1) * 10 ^ length ds
number-below [] n h = omega arith
number-below (d ∷ ds) n h =
    let parts = and_parts (is_digit d) (list_all is_digit ds) h in
    let low = and_parts (nat_le 48 d) (nat_le d 57) parts.0 in
    let digit : d ≤ 57 = leb-true d 57 low.1 in
    let again = number-below ds (n * 10 + (d - 48)) parts.1 in
    let wide : n * 10 + (d - 48) + 1 ≤ (n + 1) * 10 = omega arith in
    let more = mul-le-mul_right (10 ^ length ds) wide in
    let e = tenfold (n + 1) (length ds) in
    omega (arith, again, more, e)

module _ (most : ℕ) (ds : List ℕ) (h : are_digits 1 most ds ≡ true) where
  size-and-digits : ((nat_le 1 (length ds) && nat_le (length ds) most) ≡ true) × (list_all is_digit ds ≡ true)
  size-and-digits = and_parts (nat_le 1 (length ds) && nat_le (length ds) most) (list_all is_digit ds) h

  pub at-most : length ds ≤ most
  at-most = leb-true (length ds) most (and_parts (nat_le 1 (length ds)) (nat_le (length ds) most) size-and-digits.0).1

  pub written-below : number 0 ds < 10 ^ most
  written-below =
      let low = number-below ds 0 size-and-digits.1 in
      let power = pow-le-pow_right {n = 10} (lit< tt) at-most in
      omega (arith, low, power)
