use Rattle.std.proofs.Common.{Some, None, ap, subst, sym, ◌∙◌, length}
use Rattle.std.proofs.lemmas.List.{with_items_is}
use Rattle.node_stack.specs.Open.{nodes_of, HasChild}
use Rattle.node_stack.specs.Stack.{path}
use Rattle.node_stack.specs.Tally as tally
use Rattle.node_stack.specs.Tally.{before, count_of, without}
use Rattle.node_stack.specs.declared.open.Tip.TheVariants as tip
use Rattle.node_stack.proofs.Counting.{any_err}
use Rattle.node_stack.proofs.Stacking.{open_of_children, leaf_entered}
use Rattle.node_stack.proofs.stack.NodeStack.leaf.Goals as goal

pub returns-in_err-count_child-clause-err : goal.returns-in_err-count_child-clause-err
unfolding path
returns-in_err-count_child-clause-err c =
    let v = c.deref_mut.ensures.value in
    let items = with_items_is c.args.self.now.elements c.count_child.new.elements (c.count_child.auto.elements ∙ ap length v ∙ sym c.args.self.now.elements.ok.0) in
    any_err _ (ap (λ ps. record { limit = c.args.self.now.limit; nodes = ps })
    (ap (λ es. nodes_of c.count_child.new.document es None) items ∙ c.in_err-count_child.ensures.err ∙ ap (λ es. nodes_of c.args.self.now.document es None) v ∙ sym (open_of_children c.args.self.now.document c.args.self.now.elements.items c.args.self.now.tip c.requires)))

pub returns-clause-ok : goal.returns-clause-ok
unfolding path
returns-clause-ok c =
    let v = c.deref_mut.ensures.value in
    let k = tally.kind_of c.child_of.result in
    let items = with_items_is c.args.self.now.elements c.count_child.new.elements (c.count_child.auto.elements ∙ ap length v ∙ sym c.args.self.now.elements.ok.0) in
    let has = subst (λ es. HasChild c.args.self.now.document es c.count_child.new.document c.count_child.new.elements k) v c.in_ok-count_child.ensures.ok in
    ap (λ ps. record { limit = c.args.self.now.limit; nodes = ps })
    (ap (λ es. nodes_of c.count_child.new.document es (Some (tip.Leaf c.args.leaf None))) items ∙ leaf_entered c.args.self.now.document c.args.self.now.elements.items c.args.self.now.tip c.count_child.new.document c.count_child.new.elements c.args.leaf k c.requires has (sym c.child_of.ensures))
