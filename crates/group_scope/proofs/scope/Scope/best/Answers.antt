use Rattle.std.proofs.Common.{◌≡◌, ◌-◌, Some, subst, arith}
use Rattle.node_stack.specs.Open.{node_of}
use Rattle.node_stack.specs.Path.{node_at}
use Rattle.node_stack.specs.Stack.{path}
use Rattle.group_scope.specs.Asking.{question, ranks_of_home}
use Rattle.group_scope.specs.Choice.{chosen, settings}
use Rattle.group_scope.specs.Rank.{improved}
use Rattle.group_scope.specs.declared.key.Home.TheVariants as home
use Rattle.group_scope.specs.declared.rank.Category.TheVariants.{Everywhere}
use Rattle.group_scope.proofs.Exact.{chosen_in_turn}
use Rattle.group_scope.proofs.Last.{some_node}
use Rattle.group_scope.proofs.Outward.{if_ok}
use Rattle.group_scope.proofs.Sure.{sure}
use Rattle.group_scope.proofs.scope.Scope.best.Goals as goal

pub overflow_sub-last : goal.overflow_sub-last
overflow_sub-last g c = omega (arith, some_node c.args.asking.now.stack.now, c.len-last.ensures.value)

pub view-node-requires : goal.view-node-requires
view-node-requires g c = omega (arith, some_node c.args.asking.now.stack.now, c.len-last.ensures.value)

pub best_of_home-requires-clause-ordered : goal.best_of_home-requires-clause-ordered
best_of_home-requires-clause-ordered g c = λ key. (c.requires.built.rows key).best_first

pub best_around-requires-clause-ordered : goal.best_around-requires-clause-ordered
best_around-requires-clause-ordered g c = λ key. (c.requires.built.rows key).best_first

pub best_of_home-requires-2-clause-ordered : goal.best_of_home-requires-2-clause-ordered
best_of_home-requires-2-clause-ordered g c = λ key. (c.requires.built.rows key).best_first

pub best_of_home-requires-clause-sure : goal.best_of_home-requires-clause-sure
best_of_home-requires-clause-sure g c =
    let a = c.args.asking.now in
    let p = path a.stack.now in
    let is_node = subst (λ n. node_at p (n - 1) ≡ Some (node_of c.view-node.result)) c.len-last.ensures.value c.view-node.ensures in
    sure a.sheet.now a.active.now (g.G.GroupVars.seen a.vars.now) a.limits.now p c.args.self.now (node_of c.view-node.result) c.asked-tests.result is_node c.requires.built c.asked-tests.ensures

pub best_around-requires-clause-sure : goal.best_around-requires-clause-sure
best_around-requires-clause-sure g c =
    let a = c.args.asking.now in
    let p = path a.stack.now in
    let is_node = subst (λ n. node_at p (n - 1) ≡ Some (node_of c.view-node.result)) c.len-last.ensures.value c.view-node.ensures in
    sure a.sheet.now a.active.now (g.G.GroupVars.seen a.vars.now) a.limits.now p c.args.self.now (node_of c.view-node.result) c.asked-tests.result is_node c.requires.built c.asked-tests.ensures

pub best_of_home-requires-2-clause-sure : goal.best_of_home-requires-2-clause-sure
best_of_home-requires-2-clause-sure g c =
    let a = c.args.asking.now in
    let p = path a.stack.now in
    let is_node = subst (λ n. node_at p (n - 1) ≡ Some (node_of c.view-node.result)) c.len-last.ensures.value c.view-node.ensures in
    sure a.sheet.now a.active.now (g.G.GroupVars.seen a.vars.now) a.limits.now p c.args.self.now (node_of c.view-node.result) c.asked-tests.result is_node c.requires.built c.asked-tests.ensures

pub returns : goal.returns
returns g c =
    let a = c.args.asking.now in
    let s = a.sheet.now in
    let p = path a.stack.now in
    let seen = g.G.GroupVars.seen a.vars.now in
    let scope = c.args.self.now in
    let tests = c.asked-tests.result in
    let is_node = subst (λ n. node_at p (n - 1) ≡ Some (node_of c.view-node.result)) c.len-last.ensures.value c.view-node.ensures in
    if_ok c.best_of_home-2.result
    (λ r. r ≡ improved c.in_ok-inner.inner (ranks_of_home (question s a.active.now seen a.limits.now p) scope.rows tests Everywhere home.Everywhere))
    (λ r. r ≡ chosen s c.args.base a.active.now (settings seen a.limits.now p))
    (λ r is. chosen_in_turn s c.args.base a.active.now seen a.limits.now p scope (node_of c.view-node.result) tests c.len-levels.result c.in_ok-own.own c.in_ok-inner.inner r
    is_node c.requires.built c.asked-tests.ensures c.len-levels.ensures.value c.in_ok-own.ensures c.in_ok-inner.ensures is)
    c.best_of_home-2.ensures
