use Rattle.std.proofs.Common.{◌≡◌, drop}
use Rattle.stxpath_values.specs.Outcome.{some_holds}
use Rattle.stxpath_values.specs.Comparison.{pair_holds}
use Rattle.stxpath_values.proofs.comparison.compare_all.Given as goal

abbrev pub invariant-loop-x : goal.invariant-loop-x
invariant-loop-x l =
    some_holds (λ x. some_holds (pair_holds l.cmp x) l.right) (drop l.x-index l.left) ≡ some_holds (λ x. some_holds (pair_holds l.cmp x) l.right) l.left
