use Rattle.std.proofs.Common.{◌≡◌, suc, ◌+◌, ◌<◌, ◌≤◌, [], ap, refl, subst, sym, ◌∙◌, length, slice_get, take, arith}
use Rattle.std.proofs.lemmas.Option.{slice_get_read}
use Rattle.node_stack.specs.Open.{attributes_in, earlier_of, element_of, has_told, nodes_of, tally_in, at_tip}
use Rattle.node_stack.specs.Path.{is_told, position, position_at, told_at}
use Rattle.node_stack.specs.Stack.{path}
use Rattle.node_stack.proofs.Stacking.{get_element, get_tip, outer_within, tip_there, tip_told_is, zero_of}
use Rattle.node_stack.proofs.stack.NodeStack.position.Goals as goal

pub returns-in_default-clause-value : goal.returns-in_default-clause-value
unfolding path
returns-in_default-clause-value c = ap (λ n. position (path c.args.self.now) n c.args.test.now) (sym (zero_of _ c.in_default.ensures))

pub siblings-siblings-requires : goal.siblings-siblings-requires
unfolding path
siblings-siblings-requires c =
    let n = c.in-Some.ensures in
    let next : c.args.place ≡ suc c.in-Some.outer = omega arith in
    let within : suc c.in-Some.outer < length (nodes_of c.args.self.now.document c.args.self.now.elements.items c.args.self.now.tip) = subst (λ n. n < length (nodes_of c.args.self.now.document c.args.self.now.elements.items c.args.self.now.tip)) next c.requires.place in
    subst (λ es. c.in-Some.outer ≤ length es) (sym c.deref.ensures.value) (outer_within c.args.self.now.document c.args.self.now.elements.items c.args.self.now.tip c.in-Some.outer within)

pub tip_position-requires-clause-there : goal.tip_position-requires-clause-there
unfolding path
tip_position-requires-clause-there c =
    let n = c.in-Some.ensures in
    let next : c.args.place ≡ suc c.in-Some.outer = omega arith in
    let list : c.siblings-siblings.result.now ≡ tally_in c.args.self.now.document (take c.in-Some.outer c.args.self.now.elements.items) =
    c.siblings-siblings.ensures ∙ ap (λ es. tally_in c.args.self.now.document (take c.in-Some.outer es)) c.deref.ensures.value in
    let within : suc c.in-Some.outer < length (nodes_of c.args.self.now.document c.args.self.now.elements.items c.args.self.now.tip) = subst (λ n. n < length (nodes_of c.args.self.now.document c.args.self.now.elements.items c.args.self.now.tip)) next c.requires.place in
    let out : length c.args.self.now.elements.items ≤ c.in-Some.outer = subst (λ es. length es ≤ c.in-Some.outer) c.deref-2.ensures.value c.in-None.ensures.lookup.3 in
    let attrs : c.attributes.result.now ≡ attributes_in [] c.args.self.now.elements.items = c.attributes.ensures ∙ ap (attributes_in []) c.deref-in-None.ensures.value in
    subst (λ t. 0 < length (at_tip t c.attributes.result.now c.args.self.now.tip)) (sym list)
    (subst (λ a. 0 < length (at_tip (tally_in c.args.self.now.document (take c.in-Some.outer c.args.self.now.elements.items)) a c.args.self.now.tip)) (sym attrs) (tip_there c.args.self.now.document c.args.self.now.elements.items c.args.self.now.tip c.in-Some.outer within out))

pub tip_position-requires-clause-told : goal.tip_position-requires-clause-told
unfolding path
tip_position-requires-clause-told c =
    let n = c.in-Some.ensures in
    let next : c.args.place ≡ suc c.in-Some.outer = omega arith in
    let within : suc c.in-Some.outer < length (nodes_of c.args.self.now.document c.args.self.now.elements.items c.args.self.now.tip) = subst (λ n. n < length (nodes_of c.args.self.now.document c.args.self.now.elements.items c.args.self.now.tip)) next c.requires.place in
    let out : length c.args.self.now.elements.items ≤ c.in-Some.outer = subst (λ es. length es ≤ c.in-Some.outer) c.deref-2.ensures.value c.in-None.ensures.lookup.3 in
    let t = c.args.test.now in
    sym (tip_told_is (tally_in c.args.self.now.document (take c.in-Some.outer c.args.self.now.elements.items)) (attributes_in [] c.args.self.now.elements.items) c.args.self.now.tip t)
    ∙ ap (told_at t) (sym (get_tip c.args.self.now.document c.args.self.now.elements.items c.args.self.now.tip c.in-Some.outer within out))
    ∙ ap (λ n. is_told (path c.args.self.now) n t) (sym next) ∙ c.requires.told

pub earlier-requires : goal.earlier-requires
unfolding path
earlier-requires c =
    let n = c.in-Some.ensures in
    let next : c.args.place ≡ suc c.in-Some.outer = omega arith in
    let l = c.in-Some-get.ensures.lookup in
    let at = ap (λ es. slice_get es c.in-Some.outer) (sym c.deref-2.ensures.value) ∙ slice_get_read c.deref-2.result.now _ c.in-Some.outer c.in-Some-get.element.now refl l.3.0 l.1 in
    let t = c.args.test.now in
    ap (λ x. has_told c.in-Some-get.element.now.own x t) c.view.ensures
    ∙ ap (told_at t) (sym (get_element c.args.self.now.document c.args.self.now.elements.items c.args.self.now.tip c.in-Some.outer c.in-Some-get.element.now at))
    ∙ ap (λ n. is_told (path c.args.self.now) n t) (sym next) ∙ c.requires.told

pub returns-in-Some-get-clause-value : goal.returns-in-Some-get-clause-value
unfolding path
returns-in-Some-get-clause-value c =
    let n = c.in-Some.ensures in
    let next : c.args.place ≡ suc c.in-Some.outer = omega arith in
    let list : c.siblings-siblings.result.now ≡ tally_in c.args.self.now.document (take c.in-Some.outer c.args.self.now.elements.items) =
    c.siblings-siblings.ensures ∙ ap (λ es. tally_in c.args.self.now.document (take c.in-Some.outer es)) c.deref.ensures.value in
    let l = c.in-Some-get.ensures.lookup in
    let at = ap (λ es. slice_get es c.in-Some.outer) (sym c.deref-2.ensures.value) ∙ slice_get_read c.deref-2.result.now _ c.in-Some.outer c.in-Some-get.element.now refl l.3.0 l.1 in
    let t = c.args.test.now in
    let own = c.in-Some-get.element.now.own in
    ap (λ n. n + 1) (c.earlier.ensures.value
    ∙ ap (λ x. earlier_of c.siblings-siblings.result.now own x t) c.view.ensures
    ∙ ap (λ list. earlier_of list own (element_of c.in-Some-get.element.now) t) list)
    ∙ sym (ap (λ n. position (path c.args.self.now) n t) next ∙ ap (position_at t) (get_element c.args.self.now.document c.args.self.now.elements.items c.args.self.now.tip c.in-Some.outer c.in-Some-get.element.now at))

pub returns-in-None-clause-value : goal.returns-in-None-clause-value
unfolding path
returns-in-None-clause-value c =
    let n = c.in-Some.ensures in
    let next : c.args.place ≡ suc c.in-Some.outer = omega arith in
    let list : c.siblings-siblings.result.now ≡ tally_in c.args.self.now.document (take c.in-Some.outer c.args.self.now.elements.items) =
    c.siblings-siblings.ensures ∙ ap (λ es. tally_in c.args.self.now.document (take c.in-Some.outer es)) c.deref.ensures.value in
    let within : suc c.in-Some.outer < length (nodes_of c.args.self.now.document c.args.self.now.elements.items c.args.self.now.tip) = subst (λ n. n < length (nodes_of c.args.self.now.document c.args.self.now.elements.items c.args.self.now.tip)) next c.requires.place in
    let out : length c.args.self.now.elements.items ≤ c.in-Some.outer = subst (λ es. length es ≤ c.in-Some.outer) c.deref-2.ensures.value c.in-None.ensures.lookup.3 in
    let attrs : c.attributes.result.now ≡ attributes_in [] c.args.self.now.elements.items = c.attributes.ensures ∙ ap (attributes_in []) c.deref-in-None.ensures.value in
    let t = c.args.test.now in
    c.tip_position.ensures.value
    ∙ ap (λ list. position_at t (slice_get (at_tip list c.attributes.result.now c.args.self.now.tip) 0)) list
    ∙ ap (λ a. position_at t (slice_get (at_tip (tally_in c.args.self.now.document (take c.in-Some.outer c.args.self.now.elements.items)) a c.args.self.now.tip) 0)) attrs
    ∙ sym (ap (λ n. position (path c.args.self.now) n t) next ∙ ap (position_at t) (get_tip c.args.self.now.document c.args.self.now.elements.items c.args.self.now.tip c.in-Some.outer within out))
