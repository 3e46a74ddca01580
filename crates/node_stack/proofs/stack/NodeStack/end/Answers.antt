use Rattle.std.proofs.Common.{◌<◌, ◌≡◌, false, ◌++◌, ap, sym, ◌∙◌, arith, option_to_list}
use Rattle.node_stack.specs.Open.{has_leaf, nodes_of}
use Rattle.node_stack.specs.Path.{last_of}
use Rattle.node_stack.specs.Stack.{path}
use Rattle.node_stack.proofs.Stacking.{element_last, element_left, leaf_last, leaf_left, open_there}
use Rattle.node_stack.proofs.stack.NodeStack.end.Goals as goal

pub unwrap-requires : goal.unwrap-requires
unfolding path
unwrap-requires c =
    let no : has_leaf c.args.self.now.tip ≡ false = ap has_leaf (sym c.take.ensures.value) ∙ c.in-None.ensures in
    let there = open_there c.args.self.now.document c.args.self.now.elements.items c.args.self.now.tip no c.requires in
    let k = c.args.self.now.elements.ok in
    c.pop.ensures.variant.1 (let l : 0 < c.args.self.now.elements.len = omega arith in l)

pub returns-in-Some-clause-node : goal.returns-in-Some-clause-node
unfolding path
returns-in-Some-clause-node c =
    ap (λ top. last_of (nodes_of c.args.self.now.document c.args.self.now.elements.items top)) (sym c.take.ensures.value ∙ c.in-Some.ensures)
    ∙ leaf_last c.args.self.now.document c.args.self.now.elements.items _ _

pub returns-in-Some-clause-path : goal.returns-in-Some-clause-path
unfolding path
returns-in-Some-clause-path c =
    ap (λ ps. record { limit = c.args.self.now.limit; nodes = ps })
    (ap (λ o. nodes_of c.args.self.now.document c.args.self.now.elements.items o) c.take.ensures.after
    ∙ leaf_left c.args.self.now.document c.args.self.now.elements.items c.args.self.now.tip (ap has_leaf (sym c.take.ensures.value ∙ c.in-Some.ensures)))

pub returns-in-None-clause-node : goal.returns-in-None-clause-node
unfolding path
returns-in-None-clause-node c =
    element_last c.args.self.now.document c.args.self.now.elements.items c.args.self.now.tip c.pop.new.self.items c.unwrap.result
    (ap has_leaf (sym c.take.ensures.value) ∙ c.in-None.ensures) c.requires (c.pop.ensures.items ∙ ap (λ o. c.pop.new.self.items ++ option_to_list o) c.unwrap.ensures)

pub returns-in-None-clause-path : goal.returns-in-None-clause-path
unfolding path
returns-in-None-clause-path c =
    let p = c.pop.ensures in
    let k = c.args.self.now.elements.ok in
    ap (λ ps. record { limit = c.args.self.now.limit; nodes = ps })
    (ap (λ o. nodes_of c.args.self.now.document c.pop.new.self.items o) c.take.ensures.after
    ∙ element_left c.args.self.now.document c.args.self.now.elements.items c.args.self.now.tip c.pop.new.self.items c.pop.result (ap has_leaf (sym c.take.ensures.value) ∙ c.in-None.ensures) c.requires p.items
    (λ h. p.variant.1 (let l : 0 < c.args.self.now.elements.len = omega arith in l)))
