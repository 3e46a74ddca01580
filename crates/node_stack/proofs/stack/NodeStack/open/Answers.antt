use Rattle.std.proofs.Common.{◌≡◌, ◌<◌, [], ◌∷◌, ◌++◌, None, ap, refl, subst, sym, ◌∙◌, length, arith}
use Rattle.std.proofs.lemmas.List.{with_items_is}
use Rattle.node_stack.specs.Open.{nodes_of, HasChild}
use Rattle.node_stack.specs.Stack.{path}
use Rattle.node_stack.specs.Test as kind
use Rattle.node_stack.specs.declared.open.OpenElement.{OpenElement}
use Rattle.node_stack.proofs.Counting.{any_err}
use Rattle.node_stack.proofs.Stacking.{open_of_children, element_entered, depth_is}
use Rattle.node_stack.proofs.stack.NodeStack.open.Goals as goal

pub returns-then-len-self-clause-full : goal.returns-then-len-self-clause-full
unfolding path
returns-then-len-self-clause-full c =
    let d = depth_is c.args.self.now.document c.args.self.now.elements.items c.args.self.now.tip c.requires in let k = c.args.self.now.elements.ok in let b = c.args.self.now.bounded in let l = c.len.ensures in let f = c.if-len-self.true in λ _. d ∙ (let m : length c.args.self.now.elements.items ≡ c.args.self.now.limit = omega arith in m)

pub returns-in_err-reserve-clause-err : goal.returns-in_err-reserve-clause-err
unfolding path
returns-in_err-reserve-clause-err c = any_err _ (ap (λ es. record { limit = c.args.self.now.limit; nodes = nodes_of c.args.self.now.document es c.args.self.now.tip }) c.in_err-reserve.ensures.items)

pub returns-in_err-count_child-clause-err : goal.returns-in_err-count_child-clause-err
unfolding path
returns-in_err-count_child-clause-err c =
    let v = c.deref_mut.ensures.value in
    let items = with_items_is c.reserve.new.self c.count_child.new.elements (c.count_child.auto.elements ∙ ap length v ∙ sym c.reserve.new.self.ok.0) in
    any_err _ (ap (λ ps. record { limit = c.args.self.now.limit; nodes = ps })
    (ap (λ es. nodes_of c.count_child.new.document es None) items ∙ c.in_err-count_child.ensures.err ∙ ap (λ es. nodes_of c.args.self.now.document es None) (v ∙ c.in_ok-reserve.ensures.items) ∙ sym (open_of_children c.args.self.now.document c.args.self.now.elements.items c.args.self.now.tip c.requires)))

pub returns-clause-ok : goal.returns-clause-ok
unfolding path
returns-clause-ok c =
    let v = c.deref_mut.ensures.value in
    let k = kind.Element c.args.name in
    let e : OpenElement = record { name = c.args.name; attrs = c.args.attrs; decls = c.args.decls; first = c.args.first; children = c.new-children.result; own = None } in
    let items = with_items_is c.reserve.new.self c.count_child.new.elements (c.count_child.auto.elements ∙ ap length v ∙ sym c.reserve.new.self.ok.0) in
    let has = subst (λ es. HasChild c.args.self.now.document es c.count_child.new.document c.count_child.new.elements k) (v ∙ c.in_ok-reserve.ensures.items) c.in_ok-count_child.ensures.ok in
    ap (λ ps. record { limit = c.args.self.now.limit; nodes = ps })
    (ap (λ es. nodes_of c.count_child.new.document es None) (c.push_reserved.ensures.items ∙ ap (λ es. es ++ e ∷ []) items)
    ∙ element_entered c.args.self.now.document c.args.self.now.elements.items c.args.self.now.tip c.count_child.new.document c.count_child.new.elements e k c.requires has refl c.new-children.ensures refl)

pub returns-clause-room : goal.returns-clause-room
unfolding path
returns-clause-room c = let d = depth_is c.args.self.now.document c.args.self.now.elements.items c.args.self.now.tip c.requires in let k = c.args.self.now.elements.ok in let l = c.len.ensures in let f = c.if-len-self.false in subst (λ n. n < c.args.self.now.limit) (sym d) (omega arith)
