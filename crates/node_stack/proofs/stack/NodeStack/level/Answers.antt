use Rattle.std.proofs.Common.{◌≡◌, ◌+◌, ap, sym, ◌∙◌, length, if◌then◌else◌}
use Rattle.node_stack.specs.Stack.{path}
use Rattle.node_stack.proofs.Stacking.{level_is}
use Rattle.std.proofs.Common.{add-zero}
use Rattle.node_stack.proofs.stack.NodeStack.level.Goals as goal

pub returns-then-is_leaf : goal.returns-then-is_leaf
unfolding path
returns-then-is_leaf c =
    let len : c.len-elements.result ≡ length c.args.self.now.elements.items = c.len-elements.ensures ∙ c.args.self.now.elements.ok.0 in
    ap (λ n. n + 1) len ∙ ap (λ b. length c.args.self.now.elements.items + (if b then 1 else 0)) (sym (sym c.is_leaf.ensures ∙ c.if-is_leaf.true)) ∙ level_is c.args.self.now.document c.args.self.now.elements.items c.args.self.now.tip

pub returns-else-is_leaf : goal.returns-else-is_leaf
unfolding path
returns-else-is_leaf c =
    let len : c.len-elements.result ≡ length c.args.self.now.elements.items = c.len-elements.ensures ∙ c.args.self.now.elements.ok.0 in
    len ∙ sym (add-zero _) ∙ ap (λ b. length c.args.self.now.elements.items + (if b then 1 else 0)) (sym (sym c.is_leaf.ensures ∙ c.if-is_leaf.false)) ∙ level_is c.args.self.now.document c.args.self.now.elements.items c.args.self.now.tip
