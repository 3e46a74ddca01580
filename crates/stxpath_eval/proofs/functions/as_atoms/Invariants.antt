use Rattle.std.proofs.Common.{◌≡◌, map}
use Rattle.node_stack.specs.Stack.{path}
use Rattle.stxpath_eval.specs.Held.{held_items}
use Rattle.stxpath_eval.specs.Nodes.{atoms}
use Rattle.stxpath_values.specs.Lent.{sequence_of}
use Rattle.stxpath_eval.proofs.functions.as_atoms.Given as goal

abbrev pub invariant-loop-arg : goal.invariant-loop-arg
invariant-loop-arg l = map sequence_of l.made.items ≡ map (atoms (path l.stack)) (map held_items l.yielded)
