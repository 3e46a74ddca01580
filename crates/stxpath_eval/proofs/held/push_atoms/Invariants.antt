use Rattle.std.proofs.Common.{◌≡◌, ◌++◌}
use Rattle.stxpath_eval.specs.Value.{atom_items}
use Rattle.stxpath_eval.proofs.held.push_atoms.Given as goal

abbrev pub invariant-loop-atom : goal.invariant-loop-atom
invariant-loop-atom l = l.all ≡ l.initial.all ++ atom_items l.yielded
