use Rattle.node_stack.proofs.Counting.{on_ok, on_err}
use Rattle.node_stack.proofs.Opening.{has_child, same_nodes}
use Rattle.node_stack.proofs.open.count_child.Goals as goal

pub returns-in-Some-clause-ok : goal.returns-in-Some-clause-ok
returns-in-Some-clause-ok c = on_ok c.add.result c.add.ensures.counts c.add.ensures.before
    (λ counts before. has_child c.args.document.now c.args.elements.now c.in-Some.element.now c.add.new.self _ c.in-Some.ensures.item.3.0 c.in-Some.ensures.item.1 counts before)

pub returns-in-Some-clause-err : goal.returns-in-Some-clause-err
returns-in-Some-clause-err c = on_err c.add.result c.add.ensures.err c.add.ensures.err
    (λ counts _. same_nodes c.args.document.now c.args.elements.now c.in-Some.element.now c.add.new.self c.in-Some.ensures.item.3.0 c.in-Some.ensures.item.1 counts)
