use Rattle.std.proofs.Common.{◌≡◌, ◌++◌, ◌∷◌, [], Some, OnOk, ap, subst, sym, ◌∙◌}
use Rattle.node_stack.specs.Path.{is_element, resumed}
use Rattle.node_stack.specs.Stack.{path, path_node, waiting}
use Rattle.node_stack.specs.declared.open.Tip.TheVariants as tip
use Rattle.node_stack.specs.declared.parked.Waiting.TheVariants as wait
use Rattle.node_stack.proofs.Stacking.{nodes_tip, open_of_children}
use Rattle.node_stack.proofs.stack.NodeStack.resume.Goals as goal

pub returns-in-Leaf-clause-ok : goal.returns-in-Leaf-clause-ok
unfolding path path_node
returns-in-Leaf-clause-ok c =
    let d = c.args.self.now.document in
    let es = c.args.self.now.elements.items in
    let node = waiting (wait.Leaf c.in-Leaf.leaf c.in-Leaf.own) in
    ap (λ ps. record { limit = c.args.self.now.limit; nodes = ps })
    (nodes_tip d es (Some (tip.Leaf c.in-Leaf.leaf (Some c.in-Leaf.own)))
    ∙ ap (λ ps. ps ++ node ∷ []) (sym (open_of_children d es c.args.self.now.tip c.requires.children)))
    ∙ ap (λ w. resumed (waiting w) (path c.args.self.now)) (sym c.in-Leaf.is)

pub push-requires-clause-room : goal.push-requires-clause-room
unfolding path_node
push-requires-clause-room c = c.requires.room (ap (λ w. is_element (waiting w).node) c.in-Element.is)

pub returns-in-Element-clause-ok : goal.returns-in-Element-clause-ok
unfolding path_node
returns-in-Element-clause-ok c =
    subst (λ w. OnOk c.push.result (path c.push.new.self ≡ resumed (waiting w) (path c.args.self.now))) (sym c.in-Element.is) c.push.ensures.ok
