use Rattle.std.proofs.Common.{◌<◌, IsTrue, nat_lt, rules, sym, subst, ◌∙◌}
use Rattle.std.specs.Prelude.{◌↔◌}
use Rattle.node_stack.specs.Stack.{path}
use Rattle.node_stack.proofs.Stacking.{depth_of}
use Rattle.node_stack.proofs.stack.NodeStack.has_room.Goals as goal

pub returns : goal.returns
unfolding path
returns c =
    let d = depth_of c.args.self.now.document c.args.self.now.elements.items c.args.self.now.tip in
    let same = c.len.ensures ∙ c.args.self.now.elements.ok.0 ∙ sym d in
    subst (λ n. IsTrue (nat_lt c.len.result c.args.self.now.limit) ↔ (n < c.args.self.now.limit)) same (search rules)
