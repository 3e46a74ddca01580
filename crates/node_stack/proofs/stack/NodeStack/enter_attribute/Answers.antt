use Rattle.std.proofs.Common.{ap}
use Rattle.node_stack.specs.Stack.{path}
use Rattle.node_stack.proofs.Stacking.{attribute_entered}
use Rattle.node_stack.proofs.stack.NodeStack.enter_attribute.Goals as goal

pub returns-clause-ok : goal.returns-clause-ok
unfolding path
returns-clause-ok c = ap (λ ps. record { limit = c.args.self.now.limit; nodes = ps }) (attribute_entered c.args.self.now.document c.args.self.now.elements.items c.args.self.now.tip c.args.index c.requires)
