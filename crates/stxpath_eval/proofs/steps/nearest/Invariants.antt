use Rattle.std.proofs.Common.{◌≡◌, ℕ, ◌≤◌, true, nat_le, drop}
use Rattle.std.specs.List.{list_all}
use Rattle.stxpath_eval.proofs.steps.nearest.Given as goal

-- what is no more than the least so far, and than what is left, is no more than any
abbrev pub invariant-loop-place : goal.invariant-loop-place
invariant-loop-place l = (b : ℕ) → b ≤ l.nearest → list_all (nat_le b) (drop l.place-index l.places) ≡ true → list_all (nat_le b) l.places ≡ true
