use Rattle.std.proofs.Common.{◌≡◌, drop}
use Rattle.stxpath_values.specs.Outcome.{some_holds}
use Rattle.stxpath_values.specs.Comparison.{pair_holds}
use Rattle.stxpath_values.specs.Lent.{atom_of}
use Rattle.stxpath_values.proofs.comparison.compare_to.Given as goal

abbrev pub invariant-loop-x : goal.invariant-loop-x
invariant-loop-x l =
    some_holds (λ x. pair_holds l.cmp x (atom_of l.y)) (drop l.x-index l.left) ≡ some_holds (λ x. pair_holds l.cmp x (atom_of l.y)) l.left
