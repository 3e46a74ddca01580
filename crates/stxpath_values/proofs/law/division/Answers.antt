use Rattle.std.proofs.Common.{◌≡◌, ◌≢◌, ◌<◌, ◌≤ℤ◌, neg_ℤ, ◌%◌, ℕ, zero, suc, ℤ, pos, negsuc, refl, arith}
use Rattle.std.specs.Prelude.{unsigned_abs}
use Rattle.std.proofs.Math.Nat.{mod-le}
use Rattle.std.proofs.lemmas.Int.{quot-rem, rem_below, ints}
use Rattle.stxpath_values.specs.Laws.{RemainderOfPositive, RemainderOfNegative}
use Rattle.stxpath_values.proofs.law.division.Goals as goal

apart : (y : ℤ) → y ≢ pos 0 → 0 < unsigned_abs y
apart (pos zero) ne = absurd (ne refl)
apart (pos (suc n)) ne = omega arith
apart (negsuc n) ne = omega arith

positive : RemainderOfPositive
positive (pos a) y h = omega (arith, ints)
positive (negsuc a) y h = absurd (omega (arith, ints, h))

negative : RemainderOfNegative
negative (pos a) y h = let none : a ≡ 0 = omega (arith, ints, h) in omega (arith, ints, mod-le a (unsigned_abs y), none)
negative (negsuc a) y h = below (suc a % unsigned_abs y)
  where
    below : (n : ℕ) → neg_ℤ (pos n) ≤ℤ pos 0
    below zero = omega (arith, ints)
    below (suc n) = omega (arith, ints)

pub returns : goal.returns
returns c = record { whole = λ x y. quot-rem x y; smaller = λ x y ne. rem_below x y (apart y ne); positive = positive; negative = negative }
