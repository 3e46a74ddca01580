use Rattle.std.proofs.Common.{◌≡◌, ℕ, ◌==◌, take, position}
use Rattle.std.specs.BTreeMap as tree
use Rattle.std.specs.Ordering.{nat_cmp}
use Rattle.stxpath_values.proofs.texts.first_places.Given as goal

-- the map has just the first places of the characters so far
abbrev pub invariant-loop-i : goal.invariant-loop-i
invariant-loop-i l = (c : ℕ) → tree.get nat_cmp l.places c ≡ position (λ d. d == c) (take l.i l.chars)
