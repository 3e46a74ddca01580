use Rattle.std.proofs.Common.{◌≡◌, drop}
use Rattle.stxpath_values.specs.Outcome.{some_holds}
use Rattle.stxpath_values.specs.Comparison.{pair_holds}
use Rattle.stxpath_values.specs.Lent.{atom_of}
use Rattle.stxpath_values.proofs.comparison.compare_one.Given as goal

abbrev pub invariant-loop-y : goal.invariant-loop-y
invariant-loop-y l = some_holds (pair_holds l.cmp (atom_of l.x)) (drop l.y-index l.right) ≡ some_holds (pair_holds l.cmp (atom_of l.x)) l.right
