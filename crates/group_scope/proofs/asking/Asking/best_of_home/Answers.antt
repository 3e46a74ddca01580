use Rattle.std.proofs.Common.{◌≡◌, [], All, None, get_or, ap, sym, subst, ◌∙◌}
use Rattle.std.specs.Bool.{OnFalse}
use Rattle.node_stack.specs.Stack.{path}
use Rattle.group_scope.specs.Asking.{IsSure, question, ranks, ranks_of_test}
use Rattle.group_scope.specs.Rank.{improved}
use Rattle.group_scope.proofs.Among.{item_again}
use Rattle.group_scope.specs.Rows.{row}
use Rattle.group_scope.specs.declared.key.Test.{Test}
use Rattle.group_scope.proofs.Scanning.{no_rows, test_more, too_late}
use Rattle.group_scope.proofs.asking.Asking.best_of_home.Goals as goal
use Rattle.group_scope.proofs.asking.Asking.best_of_home.Goals.{in-Some+in_ok-best, in_default}

pub returns-then-not-may_be_better : goal.returns-then-not-may_be_better
returns-then-not-may_be_better g c =
    let a = c.args.self.now in
    let q = question a.sheet.now a.active.now (g.G.GroupVars.seen a.vars.now) a.limits.now (path a.stack.now) in
    too_late q c.args.rows.now c.args.tests.now c.args.category c.args.home c.args.best (sym c.may_be_better.ensures ∙ c.if-not-may_be_better.true)

pub returns-then-not-may_have : goal.returns-then-not-may_have
returns-then-not-may_have g c =
    let a = c.args.self.now in
    let q = question a.sheet.now a.active.now (g.G.GroupVars.seen a.vars.now) a.limits.now (path a.stack.now) in
    no_rows q c.args.rows.now c.args.tests.now c.args.category c.args.home c.args.best
    (subst (λ b. OnFalse b ((test : Test) → row c.args.rows.now (record { home = c.args.home; test = test }) ≡ [])) c.if-not-may_have.true c.may_have.ensures)

pub best_in_row-requires-clause-sure : goal.best_in_row-requires-clause-sure
best_in_row-requires-clause-sure g c =
    let a = c.args.self.now in
    let q = question a.sheet.now a.active.now (g.G.GroupVars.seen a.vars.now) a.limits.now (path a.stack.now) in
    let tests = c.args.tests.now in
    let i = c.loop-test.test-index in
    let h = c.loop-test-test.true in
    let at = ap (get_or tests i) (sym c.in-Some.is) ∙ sym (item_again tests i None h) ∙ c.in-Some.is in
    subst (All (IsSure q)) (sym c.get-row.ensures) (c.requires.sure c.args.home c.in-Some.test (i, h, at))

pub loop-test-preserved : goal.loop-test-preserved
loop-test-preserved g c =
    let a = c.args.self.now in
    let q = question a.sheet.now a.active.now (g.G.GroupVars.seen a.vars.now) a.limits.now (path a.stack.now) in
    let rows = c.args.rows.now in
    let tests = c.args.tests.now in
    let i = c.loop-test.test-index in
    let h = c.loop-test-test.true in
    let test = get_or tests i None in
    let more = test_more q rows c.args.category c.args.home c.args.best tests i test h (item_again tests i None h) in
    let so_far = ap (λ b. improved b (ranks_of_test q rows c.args.category c.args.home test)) c.loop-test.invariant in
    elim c.match-test.branch [
      | in-Some+in_ok-best w ↦
          w.best-is ∙ w.in_ok-best.ensures ∙ ap (λ l. improved c.loop-test.best (ranks q c.args.category l)) w.get-row.ensures
          ∙ ap (λ o. improved c.loop-test.best (ranks_of_test q rows c.args.category c.args.home o)) (sym w.in-Some.is)
          ∙ so_far ∙ sym more
      | in_default w ↦
          w.best-is
          ∙ ap (λ o. improved c.loop-test.best (ranks_of_test q rows c.args.category c.args.home o)) (sym w.in_default.is)
          ∙ so_far ∙ sym more
    ]
