use Rattle.std.proofs.Common.{◌≡◌, suc, ◌<◌, ◌≤◌, [], Some, ap, refl, subst, sym, ◌∙◌, length, slice_get, option_map, arith}
use Rattle.std.proofs.lemmas.Option.{slice_get_read}
use Rattle.node_stack.specs.Open.{attributes_in, tip_node, nodes_of}
use Rattle.node_stack.specs.Path.{PathNode, node_at}
use Rattle.node_stack.specs.Stack.{path}
use Rattle.node_stack.proofs.Stacking.{get_element, view_behind, some_node, zero_of}
use Rattle.node_stack.proofs.stack.NodeStack.view.Goals as goal

pub returns-in_default : goal.returns-in_default
unfolding path
returns-in_default c = ap (node_at (path c.args.self.now)) (zero_of _ c.in_default.ensures)

pub returns-in-Some-get : goal.returns-in-Some-get
unfolding path
returns-in-Some-get c =
    let n = c.in-Some.ensures in
    let next : c.args.place ≡ suc c.in-Some.inner = omega arith in
    let l = c.in-Some-get.ensures.lookup in
    let at = slice_get_read c.deref.result.now _ c.in-Some.inner c.in-Some-get.element.now refl l.3.0 l.1 in
    ap (node_at (path c.args.self.now)) next ∙ ap (option_map (λ (x : PathNode). x.node)) (get_element c.args.self.now.document c.args.self.now.elements.items c.args.self.now.tip c.in-Some.inner c.in-Some-get.element.now (ap (λ es. slice_get es c.in-Some.inner) (sym c.deref.ensures.value) ∙ at))
    ∙ ap Some (sym c.view.ensures)

pub returns-in-Some-view_tip : goal.returns-in-Some-view_tip
unfolding path
returns-in-Some-view_tip c =
    let n = c.in-Some.ensures in
    let next : c.args.place ≡ suc c.in-Some.inner = omega arith in
    let out : length c.args.self.now.elements.items ≤ c.in-Some.inner = subst (λ es. length es ≤ c.in-Some.inner) c.deref.ensures.value c.in-None.ensures.lookup.3 in
    let within : suc c.in-Some.inner < length (nodes_of c.args.self.now.document c.args.self.now.elements.items c.args.self.now.tip) = subst (λ n. n < length (nodes_of c.args.self.now.document c.args.self.now.elements.items c.args.self.now.tip)) next c.requires in
    ap (node_at (path c.args.self.now)) next ∙ view_behind c.args.self.now.document c.args.self.now.elements.items c.args.self.now.tip c.in-Some.inner within out
    ∙ ap (λ attrs. tip_node attrs c.args.self.now.tip) (sym (c.attributes.ensures ∙ ap (attributes_in []) c.deref-in-None.ensures.value)) ∙ sym c.in-Some-view_tip.ensures

pub returns-in-None-view_tip : goal.returns-in-None-view_tip
unfolding path
returns-in-None-view_tip c =
    let n = c.in-Some.ensures in
    let next : c.args.place ≡ suc c.in-Some.inner = omega arith in
    let out : length c.args.self.now.elements.items ≤ c.in-Some.inner = subst (λ es. length es ≤ c.in-Some.inner) c.deref.ensures.value c.in-None.ensures.lookup.3 in
    let within : suc c.in-Some.inner < length (nodes_of c.args.self.now.document c.args.self.now.elements.items c.args.self.now.tip) = subst (λ n. n < length (nodes_of c.args.self.now.document c.args.self.now.elements.items c.args.self.now.tip)) next c.requires in
    absurd (some_node (nodes_of c.args.self.now.document c.args.self.now.elements.items c.args.self.now.tip) (suc c.in-Some.inner) within (view_behind c.args.self.now.document c.args.self.now.elements.items c.args.self.now.tip c.in-Some.inner within out
    ∙ ap (λ attrs. tip_node attrs c.args.self.now.tip) (sym (c.attributes.ensures ∙ ap (attributes_in []) c.deref-in-None.ensures.value)) ∙ sym c.in-None-view_tip.ensures))
