-- When each call within a call weighs less than it.
use Rattle.std.specs.Prelude.{ℕ, ◌<◌}
use Rattle.stx_base.specs.Course.{Course, Ret, Halt, Say, Ask}

-- Calls have a weight, are made where Pre holds of them, and have results of which Post holds.
module _ {Q R O E : Type 0} (weight : Q → ℕ) (Pre : Q → Type 0) (Post : Q → R → Type 0) where
  -- each call within x weighs less than w and is made where it may be, and P holds of each result of x
  abbrev pub Safe : ℕ → (R → Type 0) → Course Q R O E → Type 0
  Safe w P (Ret r) = P r
  Safe w P (Halt e) = Unit {0}
  Safe w P (Say o x) = Safe w P x
  Safe w P (Ask q k) = Pre q × (weight q < w) × ((r : R) → Post q r → Safe w P (k r))
