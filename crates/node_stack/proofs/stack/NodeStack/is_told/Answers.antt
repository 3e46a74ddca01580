use Rattle.std.proofs.Common.{◌≡◌, suc, ◌<◌, ◌≤◌, ap, refl, subst, sym, ◌∙◌, length, slice_get, take, [], arith}
use Rattle.std.proofs.lemmas.Option.{slice_get_read}
use Rattle.node_stack.specs.Open.{attributes_in, has_told, nodes_of, tally_in}
use Rattle.node_stack.specs.Path.{is_told, told_at}
use Rattle.node_stack.specs.Stack.{path}
use Rattle.node_stack.proofs.Stacking.{get_element, get_tip, tip_told_is, zero_of}
use Rattle.node_stack.proofs.stack.NodeStack.is_told.Goals as goal

pub returns-in_default : goal.returns-in_default
unfolding path
returns-in_default c = ap (λ n. is_told (path c.args.self.now) n c.args.test.now) (sym (zero_of _ c.in_default.ensures))

pub returns-in-Some-get : goal.returns-in-Some-get
unfolding path
returns-in-Some-get c =
    let n = c.in-Some.ensures in
    let next : c.args.place ≡ suc c.in-Some.outer = omega arith in
    let l = c.in-Some-get.ensures.lookup in
    let at = ap (λ es. slice_get es c.in-Some.outer) (sym c.deref.ensures.value) ∙ slice_get_read c.deref.result.now _ c.in-Some.outer c.in-Some-get.element.now refl l.3.0 l.1 in
    let t = c.args.test.now in
    c.has_told.ensures ∙ ap (λ x. has_told c.in-Some-get.element.now.own x t) c.view.ensures
    ∙ sym (ap (λ n. is_told (path c.args.self.now) n t) next ∙ ap (told_at t) (get_element c.args.self.now.document c.args.self.now.elements.items c.args.self.now.tip c.in-Some.outer c.in-Some-get.element.now at))

pub returns-in-None : goal.returns-in-None
unfolding path
returns-in-None c =
    let n = c.in-Some.ensures in
    let next : c.args.place ≡ suc c.in-Some.outer = omega arith in
    let out : length c.args.self.now.elements.items ≤ c.in-Some.outer = subst (λ es. length es ≤ c.in-Some.outer) c.deref.ensures.value c.in-None.ensures.lookup.3 in
    let within : suc c.in-Some.outer < length (nodes_of c.args.self.now.document c.args.self.now.elements.items c.args.self.now.tip) = subst (λ n. n < length (nodes_of c.args.self.now.document c.args.self.now.elements.items c.args.self.now.tip)) next c.requires in
    let t = c.args.test.now in
    c.tip_is_told.ensures ∙ sym (tip_told_is (tally_in c.args.self.now.document (take c.in-Some.outer c.args.self.now.elements.items)) (attributes_in [] c.args.self.now.elements.items) c.args.self.now.tip t)
    ∙ sym (ap (λ n. is_told (path c.args.self.now) n t) next ∙ ap (told_at t) (get_tip c.args.self.now.document c.args.self.now.elements.items c.args.self.now.tip c.in-Some.outer within out))
