use Rattle.std.proofs.Common.{◌≡◌, take}
use Rattle.node_stack.specs.Stack.{path}
use Rattle.stxpath_eval.specs.Value.{nodes_at}
use Rattle.stxpath_eval.proofs.evaluation.nodes_at.Given as goal

abbrev pub invariant-loop-place : goal.invariant-loop-place
invariant-loop-place l = l.items ≡ nodes_at (path l.stack) l.attrs (take l.place-index l.places)
