use Rattle.std.proofs.Common.{ap}
use Rattle.node_stack.specs.Stack.{path}
use Rattle.node_stack.proofs.Stacking.{attribute_left}
use Rattle.node_stack.proofs.stack.NodeStack.leave_attribute.Goals as goal

pub returns : goal.returns
unfolding path
returns c = ap (λ ps. record { limit = c.args.self.now.limit; nodes = ps }) (attribute_left c.args.self.now.document c.args.self.now.elements.items c.args.self.now.tip c.requires)
