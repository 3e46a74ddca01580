use Rattle.std.proofs.Common.{◌≡◌, suc, ◌-◌, [], ap, sym, ◌∙◌, length, option_map, arith}
use Rattle.node_stack.specs.Open.{inside}
use Rattle.node_stack.specs.Path.{PathNode, node_at}
use Rattle.node_stack.specs.Stack.{path}
use Rattle.node_stack.proofs.Stacking.{last_at}
use Rattle.node_stack.proofs.stack.NodeStack.current.Goals as goal

pub overflow_sub-len : goal.overflow_sub-len
unfolding path
overflow_sub-len c = let n : c.len.result ≡ suc (length (inside c.args.self.now.document [] c.args.self.now.elements.items c.args.self.now.tip)) = c.len.ensures.value in omega arith

pub view-requires : goal.view-requires
unfolding path
view-requires c = let n : c.len.result ≡ suc (length (inside c.args.self.now.document [] c.args.self.now.elements.items c.args.self.now.tip)) = c.len.ensures.value in omega arith

pub returns : goal.returns
unfolding path
returns c =
    let n : c.len.result ≡ suc (length (inside c.args.self.now.document [] c.args.self.now.elements.items c.args.self.now.tip)) = c.len.ensures.value in
    let last : c.len.result - 1 ≡ length (inside c.args.self.now.document [] c.args.self.now.elements.items c.args.self.now.tip) = omega arith in
    ap (option_map (λ (x : PathNode). x.node)) (last_at _ (inside c.args.self.now.document [] c.args.self.now.elements.items c.args.self.now.tip)) ∙ ap (node_at (path c.args.self.now)) (sym last) ∙ c.view.ensures
