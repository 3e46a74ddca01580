use Rattle.std.proofs.Common.{ap, subst, ◌∙◌}
use Rattle.node_stack.specs.Open.{ended_in, KeepsOwn}
use Rattle.node_stack.specs.Path.{parked}
use Rattle.node_stack.proofs.Keeping.{element_parked, leaf_parked}
use Rattle.node_stack.proofs.parked.put_aside.Goals as goal

pub returns-in-Element : goal.returns-in-Element
returns-in-Element c =
    ap (λ e. parked (ended_in c.args.siblings.now e)) c.in-Element.is
    ∙ element_parked c.args.siblings.now c.in-Element.element c.kept-own.result (subst (λ x. KeepsOwn c.args.siblings.now c.in-Element.element.own x c.kept-own.result) c.view.ensures c.kept-own.ensures)

pub returns-in-Leaf : goal.returns-in-Leaf
returns-in-Leaf c =
    ap (λ e. parked (ended_in c.args.siblings.now e)) c.in-Leaf.is
    ∙ leaf_parked c.args.siblings.now c.in-Leaf.leaf c.in-Leaf.own c.kept-own-in-Leaf.result (subst (λ x. KeepsOwn c.args.siblings.now c.in-Leaf.own x c.kept-own-in-Leaf.result) c.view_leaf.ensures c.kept-own-in-Leaf.ensures)
