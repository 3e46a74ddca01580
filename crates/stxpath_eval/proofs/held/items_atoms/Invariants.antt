use Rattle.std.proofs.Common.{◌≡◌}
use Rattle.node_stack.specs.Stack.{path}
use Rattle.stxpath_eval.specs.Nodes.{atoms}
use Rattle.stxpath_eval.proofs.held.items_atoms.Given as goal

abbrev pub invariant-loop-item : goal.invariant-loop-item
invariant-loop-item l = l.made ≡ atoms (path l.stack) l.yielded
