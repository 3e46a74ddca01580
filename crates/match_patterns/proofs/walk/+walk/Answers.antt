use Rattle.std.proofs.Common.{rules, ◌≡◌, ◌+◌, true, false, [], ◌∷◌, ◌++◌, All, sym, subst, ◌∙◌, arith, IfOk}
use Rattle.node_stack.specs.Stack.{path}
use Rattle.stxpath_syntax.specs.Shape.{CanBeEvaluated}
use Rattle.stxpath_syntax.specs.declared.expr.PathStep.{PathStep}
use Rattle.match_patterns.specs.Fits.{at_current}
use Rattle.match_patterns.specs.Walk.{EndBefore, EndsAt, IsEnding}
use Rattle.match_patterns.proofs.Bools.{All_front}
use Rattle.match_patterns.proofs.Endings.{by_slash, nonempty, of_ok}
use Rattle.match_patterns.proofs.Walks.{deep_here, deep_not_before, misfit, slash_not_first, unlinked}
use Rattle.match_patterns.proofs.walk.+walk.Goals as goal

pub ends_at-returns-then-not-branch : goal.ends_at-returns-then-not-branch
ends_at-returns-then-not-branch g t c =
    let parts = c.in-Some.ensures.cases in
    let not : c.in_ok-step_fits.field-0 ≡ false = (let f = c.if-not-branch.true in search rules) in
    subst (λ l. ¬ EndsAt (at_current (g.V.Vars.value_of c.args.vars.now) c.args.limits.now (path c.args.stack.now)) l c.args.place) (sym parts.0)
    (misfit (at_current (g.V.Vars.value_of c.args.vars.now) c.args.limits.now (path c.args.stack.now)) c.in-Some.front.now c.in-Some.step.now c.args.place (sym c.in_ok-step_fits.ensures ∙ not))

pub ends_at-returns-in-Start : goal.ends_at-returns-in-Start
ends_at-returns-in-Start g t c =
    let parts = c.in-Some.ensures.cases in
    let some = nonempty c.in-Some.front.now c.is_empty.result c.is_empty.ensures c.if-is_empty.false in
    λ q within. subst (λ l. ¬ EndsAt (at_current (g.V.Vars.value_of c.args.vars.now) c.args.limits.now (path c.args.stack.now)) l q) (sym parts.0) (unlinked (at_current (g.V.Vars.value_of c.args.vars.now) c.args.limits.now (path c.args.stack.now)) c.in-Some.front.now c.in-Some.step.now q c.in-Start.is some)

pub ends_at-returns-in-Some-checked_sub : goal.ends_at-returns-in-Some-checked_sub
ends_at-returns-in-Some-checked_sub g t c =
    let parts = c.in-Some.ensures.cases in
    let passed : c.in_ok-step_fits.field-0 ≡ true = (let f = c.if-not-branch.false in search rules) in
    let some = nonempty c.in-Some.front.now c.is_empty.result c.is_empty.ensures c.if-is_empty.false in
    let next : c.args.place ≡ c.in-Some-checked_sub.before + 1 = omega (arith, c.in-Some-checked_sub.ensures) in
    subst (λ l. IfOk c.ends_at.result (IsEnding (at_current (g.V.Vars.value_of c.args.vars.now) c.args.limits.now (path c.args.stack.now)) l c.args.place)) (sym parts.0)
    (of_ok c.ends_at.result (IsEnding (at_current (g.V.Vars.value_of c.args.vars.now) c.args.limits.now (path c.args.stack.now)) c.in-Some.front.now c.in-Some-checked_sub.before) (IsEnding (at_current (g.V.Vars.value_of c.args.vars.now) c.args.limits.now (path c.args.stack.now)) (c.in-Some.front.now ++ c.in-Some.step.now ∷ []) c.args.place)
    (λ e. by_slash (at_current (g.V.Vars.value_of c.args.vars.now) c.args.limits.now (path c.args.stack.now)) c.in-Some.front.now c.in-Some.step.now c.in-Some-checked_sub.before c.args.place e c.in-Slash.is some next (sym c.in_ok-step_fits.ensures ∙ passed)) c.ends_at.ensures)

pub ends_at-returns-in-None : goal.ends_at-returns-in-None
ends_at-returns-in-None g t c =
    let parts = c.in-Some.ensures.cases in
    let some = nonempty c.in-Some.front.now c.is_empty.result c.is_empty.ensures c.if-is_empty.false in
    let first : c.args.place ≡ 0 = omega (arith, c.in-None.ensures) in
    λ q within. subst (λ l. ¬ EndsAt (at_current (g.V.Vars.value_of c.args.vars.now) c.args.limits.now (path c.args.stack.now)) l q) (sym parts.0) (slash_not_first (at_current (g.V.Vars.value_of c.args.vars.now) c.args.limits.now (path c.args.stack.now)) c.in-Some.front.now c.in-Some.step.now c.in-Slash.is some q (omega arith))

pub ends_at-returns-then-branch : goal.ends_at-returns-then-branch
ends_at-returns-then-branch g t c =
    let parts = c.in-Some.ensures.cases in
    let passed : c.in_ok-step_fits.field-0 ≡ true = (let f = c.if-not-branch.false in search rules) in
    let found = (c.in_ok-end_before-in-Deep.ensures).0 (c.if-branch.true) in
    subst (λ l. EndsAt (at_current (g.V.Vars.value_of c.args.vars.now) c.args.limits.now (path c.args.stack.now)) l c.args.place) (sym parts.0)
    (deep_here (at_current (g.V.Vars.value_of c.args.vars.now) c.args.limits.now (path c.args.stack.now)) c.in-Some.front.now c.in-Some.step.now found.0 c.args.place c.in-Deep.is (sym c.in_ok-step_fits.ensures ∙ passed) found.1.0 found.1.1)

pub ends_at-returns-else-branch : goal.ends_at-returns-else-branch
ends_at-returns-else-branch g t c =
    let parts = c.in-Some.ensures.cases in
    let some = nonempty c.in-Some.front.now c.is_empty.result c.is_empty.ensures c.if-is_empty.false in
    let none : ¬ EndBefore (at_current (g.V.Vars.value_of c.args.vars.now) c.args.limits.now (path c.args.stack.now)) c.in-Some.front.now c.args.place = λ found. (let is = (c.in_ok-end_before-in-Deep.ensures).1 found in cc) in
    λ q within. subst (λ l. ¬ EndsAt (at_current (g.V.Vars.value_of c.args.vars.now) c.args.limits.now (path c.args.stack.now)) l q) (sym parts.0) (deep_not_before (at_current (g.V.Vars.value_of c.args.vars.now) c.args.limits.now (path c.args.stack.now)) c.in-Some.front.now c.in-Some.step.now c.args.place c.in-Deep.is some none q within)

pub ends_at-ends_at-requires : goal.ends_at-ends_at-requires
ends_at-ends_at-requires g t c ks within =
    let parts = c.in-Some.ensures.cases in
    (omega (arith, parts.1), (within, (omega (arith, c.in-Some-checked_sub.ensures, c.requires.place), All_front (λ (step : PathStep). All CanBeEvaluated step.predicates) c.in-Some.front.now c.in-Some.step.now (subst (λ l. All (λ (step : PathStep). All CanBeEvaluated step.predicates) l) parts.0 c.requires.predicates))))

pub ends_at-end_before-requires : goal.ends_at-end_before-requires
ends_at-end_before-requires g t c ks within =
    let parts = c.in-Some.ensures.cases in
    (omega (arith, parts.1), (within, (c.requires.place, All_front (λ (step : PathStep). All CanBeEvaluated step.predicates) c.in-Some.front.now c.in-Some.step.now (subst (λ l. All (λ (step : PathStep). All CanBeEvaluated step.predicates) l) parts.0 c.requires.predicates))))
