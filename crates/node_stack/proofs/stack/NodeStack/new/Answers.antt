use Rattle.std.proofs.Common.{false, [], ◌∷◌}
use Rattle.node_stack.specs.Path.{Document}
use Rattle.node_stack.specs.Stack.{path}
use Rattle.node_stack.proofs.stack.NodeStack.new.Goals as goal

pub returns : goal.returns
unfolding path
returns c = rw c.new-2.ensures.items (λ i. record { limit = c.args.limit; nodes = record { node = Document; earlier = λ t. 0; children = c.new.ensures i; waited = false } ∷ [] })
