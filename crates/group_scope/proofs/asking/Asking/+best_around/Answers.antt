use Rattle.std.proofs.Common.{◌≡◌, sym, ◌∙◌}
use Rattle.node_stack.specs.Stack.{path}
use Rattle.group_scope.specs.Asking.{question, ranks_around}
use Rattle.group_scope.specs.Rank.{improved}
use Rattle.group_scope.proofs.Outward.{around_more, if_ok}
use Rattle.group_scope.proofs.asking.Asking.+best_around.Goals as goal

pub returns : goal.returns
returns g t c =
    let a = c.args.self.now in
    let q = question a.sheet.now a.active.now (g.G.GroupVars.seen a.vars.now) a.limits.now (path a.stack.now) in
    let rows = c.args.rows.now in
    let tests = c.args.tests.now in
    if_ok c.best_around.result
    (λ r. r ≡ improved c.in_ok-best.best (ranks_around q rows tests c.in-Some.fewer c.in-Some-parent_of.outer))
    (λ r. r ≡ improved c.args.best (ranks_around q rows tests c.args.levels c.args.group))
    (λ r is. is ∙ around_more q rows tests c.args.levels c.in-Some.fewer c.args.group c.in-Some-parent_of.outer c.args.best c.in_ok-best.best c.in-Some.ensures.0 c.in-Some.ensures.1 (sym c.in-Some-parent_of.ensures) c.in_ok-best.ensures)
    c.best_around.ensures
