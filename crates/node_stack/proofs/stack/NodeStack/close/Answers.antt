use Rattle.node_stack.specs.Stack.{path}
use Rattle.node_stack.proofs.stack.NodeStack.close.Goals as goal

pub returns-in-Element-clause-path : goal.returns-in-Element-clause-path
unfolding path
returns-in-Element-clause-path c = c.end.ensures.path
