use Rattle.std.proofs.Common.{◌≡◌, ◌+◌, if◌then◌else◌, option_map, [], Some, None, ap, sym, ◌∙◌, length, arith, is_some}
use Rattle.node_stack.specs.Open.{attributes_in, node_of, nodes_of, tip_node}
use Rattle.node_stack.specs.Stack.{path}
use Rattle.node_stack.proofs.Stacking.{count_nodes}
use Rattle.node_stack.proofs.stack.NodeStack.len.Goals as goal

pub returns-in-Some-clause-value : goal.returns-in-Some-clause-value
unfolding path
returns-in-Some-clause-value c =
    let attrs : c.attributes.result.now ≡ attributes_in [] c.args.self.now.elements.items = c.attributes.ensures ∙ ap (attributes_in []) c.deref.ensures.value in
    let tip : tip_node (attributes_in [] c.args.self.now.elements.items) c.args.self.now.tip ≡ option_map node_of (Some c.in-Some.field-0) = ap (λ attrs. tip_node attrs c.args.self.now.tip) (sym attrs) ∙ sym c.in-Some.ensures in
    let len : c.len-open.result ≡ length c.args.self.now.elements.items = c.len-open.ensures ∙ c.args.self.now.elements.ok.0 in
    let n : length (nodes_of c.args.self.now.document c.args.self.now.elements.items c.args.self.now.tip) ≡ length c.args.self.now.elements.items + 1 + 1 = count_nodes c.args.self.now.document c.args.self.now.elements.items c.args.self.now.tip ∙ ap (λ o. length c.args.self.now.elements.items + 1 + (if is_some o then 1 else 0)) tip in
    omega arith

pub returns-in-None-clause-value : goal.returns-in-None-clause-value
unfolding path
returns-in-None-clause-value c =
    let attrs : c.attributes.result.now ≡ attributes_in [] c.args.self.now.elements.items = c.attributes.ensures ∙ ap (attributes_in []) c.deref.ensures.value in
    let tip : tip_node (attributes_in [] c.args.self.now.elements.items) c.args.self.now.tip ≡ None = ap (λ attrs. tip_node attrs c.args.self.now.tip) (sym attrs) ∙ sym c.in-None.ensures in
    let len : c.len-open.result ≡ length c.args.self.now.elements.items = c.len-open.ensures ∙ c.args.self.now.elements.ok.0 in
    let n : length (nodes_of c.args.self.now.document c.args.self.now.elements.items c.args.self.now.tip) ≡ length c.args.self.now.elements.items + 1 + 0 = count_nodes c.args.self.now.document c.args.self.now.elements.items c.args.self.now.tip ∙ ap (λ o. length c.args.self.now.elements.items + 1 + (if is_some o then 1 else 0)) tip in
    omega arith
