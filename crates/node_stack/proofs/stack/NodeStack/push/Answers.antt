use Rattle.std.proofs.Common.{◌++◌, ◌∷◌, ◌<◌, [], None, ap, subst, sym, ◌∙◌, length, arith}
use Rattle.node_stack.specs.Open.{nodes_of, open_in, tally_in}
use Rattle.node_stack.specs.Stack.{path}
use Rattle.node_stack.proofs.Counting.{any_err}
use Rattle.node_stack.proofs.Stacking.{depth_is, nodes_push, open_of_children}
use Rattle.node_stack.proofs.stack.NodeStack.push.Goals as goal

pub returns-in_err-reserve-clause-err : goal.returns-in_err-reserve-clause-err
unfolding path
returns-in_err-reserve-clause-err c = any_err _ (ap (λ es. record { limit = c.args.self.now.limit; nodes = nodes_of c.args.self.now.document es c.args.self.now.tip }) c.in_err-reserve.ensures.items)

pub returns-clause-ok : goal.returns-clause-ok
unfolding path
returns-clause-ok c =
    let d = c.args.self.now.document in
    let es = c.args.self.now.elements.items in
    ap (λ ps. record { limit = c.args.self.now.limit; nodes = ps })
    (ap (λ es. nodes_of d es None) (c.in_ok-push.ensures.items ∙ ap (λ es. es ++ c.args.element ∷ []) c.in_ok-reserve.ensures.items)
    ∙ nodes_push d es c.args.element
    ∙ ap (λ ps. ps ++ open_in (tally_in d es) c.args.element ∷ []) (sym (open_of_children d es c.args.self.now.tip c.requires.children)))

pub invariant_of-self-2-clause-bounded : goal.invariant_of-self-2-clause-bounded
unfolding path
invariant_of-self-2-clause-bounded c =
    let es = c.args.self.now.elements.items in
    let d = depth_is c.args.self.now.document es c.args.self.now.tip c.requires.children in
    let room : length es < c.args.self.now.limit = subst (λ n. n < c.args.self.now.limit) d c.requires.room in
    let up = c.push.ensures.upper_bound in
    let low = c.push.ensures.lower_bound in
    let len = c.push.ensures.len in
    let items = c.push.ensures.items in
    let k = c.push.new.self.ok in
    let j = c.reserve.new.self.ok in
    let same = ap length c.in_ok-reserve.ensures.items in
    omega arith
