use Rattle.std.proofs.Common.{rules, ◌≡◌, ◌+◌, true, false, sym, subst, ◌∙◌, arith}
use Rattle.std.specs.List.{list_all}
use Rattle.node_stack.specs.Stack.{path}
use Rattle.match_patterns.specs.Fits.{at_current, is_bare}
use Rattle.match_patterns.specs.Walk.{EndBefore, EndsAt, IsEnding}
use Rattle.match_patterns.proofs.Endings.{bare_front, bare_last, by_slash, nonempty, plainly_fits, plainly_not}
use Rattle.match_patterns.proofs.Walks.{deep_here, deep_not_before, misfit, slash_not_first, unlinked}
use Rattle.match_patterns.proofs.plain.+plain.Goals as goal

pub ends_at-returns-then-not-passes : goal.ends_at-returns-then-not-passes
ends_at-returns-then-not-passes t c = λ vars limits.
    let parts = c.in-Some.ensures.cases in
    let not : c.passes.result ≡ false = (let f = c.if-not-passes.true in search rules) in
    subst (λ l. ¬ EndsAt (at_current vars limits (path c.args.stack.now)) l c.args.place) (sym parts.0)
    (misfit (at_current vars limits (path c.args.stack.now)) c.in-Some.front.now c.in-Some.step.now c.args.place (plainly_not vars limits (path c.args.stack.now) c.args.place c.in-Some.step.now c.view.result c.view.ensures (sym c.passes.ensures ∙ not)))

pub ends_at-returns-in-Start : goal.ends_at-returns-in-Start
ends_at-returns-in-Start t c = λ vars limits.
    let parts = c.in-Some.ensures.cases in
    let some = nonempty c.in-Some.front.now c.is_empty.result c.is_empty.ensures c.if-is_empty.false in
    λ q within. subst (λ l. ¬ EndsAt (at_current vars limits (path c.args.stack.now)) l q) (sym parts.0) (unlinked (at_current vars limits (path c.args.stack.now)) c.in-Some.front.now c.in-Some.step.now q c.in-Start.is some)

pub ends_at-returns-in-Some-checked_sub : goal.ends_at-returns-in-Some-checked_sub
ends_at-returns-in-Some-checked_sub t c = λ vars limits.
    let parts = c.in-Some.ensures.cases in
    let passed : c.passes.result ≡ true = (let f = c.if-not-passes.false in search rules) in
    let some = nonempty c.in-Some.front.now c.is_empty.result c.is_empty.ensures c.if-is_empty.false in
    let next : c.args.place ≡ c.in-Some-checked_sub.before + 1 = omega (arith, c.in-Some-checked_sub.ensures) in
    subst (λ l. IsEnding (at_current vars limits (path c.args.stack.now)) l c.args.place c.ends_at.result) (sym parts.0)
    (by_slash (at_current vars limits (path c.args.stack.now)) c.in-Some.front.now c.in-Some.step.now c.in-Some-checked_sub.before c.args.place c.ends_at.result c.in-Slash.is some next (plainly_fits vars limits (path c.args.stack.now) c.args.place c.in-Some.step.now c.view.result c.view.ensures (sym c.passes.ensures ∙ passed) (bare_last c.in-Some.front.now c.in-Some.step.now (subst (λ l. list_all is_bare l ≡ true) parts.0 c.requires.bare))) (c.ends_at.ensures vars limits))

pub ends_at-returns-in-None : goal.ends_at-returns-in-None
ends_at-returns-in-None t c = λ vars limits.
    let parts = c.in-Some.ensures.cases in
    let some = nonempty c.in-Some.front.now c.is_empty.result c.is_empty.ensures c.if-is_empty.false in
    let first : c.args.place ≡ 0 = omega (arith, c.in-None.ensures) in
    λ q within. subst (λ l. ¬ EndsAt (at_current vars limits (path c.args.stack.now)) l q) (sym parts.0) (slash_not_first (at_current vars limits (path c.args.stack.now)) c.in-Some.front.now c.in-Some.step.now c.in-Slash.is some q (omega arith))

pub ends_at-returns-then-end_before : goal.ends_at-returns-then-end_before
ends_at-returns-then-end_before t c = λ vars limits.
    let parts = c.in-Some.ensures.cases in
    let passed : c.passes.result ≡ true = (let f = c.if-not-passes.false in search rules) in
    let found = (c.end_before.ensures vars limits).0 (c.if-end_before.true) in
    subst (λ l. EndsAt (at_current vars limits (path c.args.stack.now)) l c.args.place) (sym parts.0)
    (deep_here (at_current vars limits (path c.args.stack.now)) c.in-Some.front.now c.in-Some.step.now found.0 c.args.place c.in-Deep.is (plainly_fits vars limits (path c.args.stack.now) c.args.place c.in-Some.step.now c.view.result c.view.ensures (sym c.passes.ensures ∙ passed) (bare_last c.in-Some.front.now c.in-Some.step.now (subst (λ l. list_all is_bare l ≡ true) parts.0 c.requires.bare))) found.1.0 found.1.1)

pub ends_at-returns-else-end_before : goal.ends_at-returns-else-end_before
ends_at-returns-else-end_before t c = λ vars limits.
    let parts = c.in-Some.ensures.cases in
    let some = nonempty c.in-Some.front.now c.is_empty.result c.is_empty.ensures c.if-is_empty.false in
    let none : ¬ EndBefore (at_current vars limits (path c.args.stack.now)) c.in-Some.front.now c.args.place = λ found. (let is = (c.end_before.ensures vars limits).1 found in cc) in
    λ q within. subst (λ l. ¬ EndsAt (at_current vars limits (path c.args.stack.now)) l q) (sym parts.0) (deep_not_before (at_current vars limits (path c.args.stack.now)) c.in-Some.front.now c.in-Some.step.now c.args.place c.in-Deep.is some none q within)

pub ends_at-ends_at-requires : goal.ends_at-ends_at-requires
ends_at-ends_at-requires t c =
    let parts = c.in-Some.ensures.cases in
    (omega (arith, parts.1), (omega (arith, c.in-Some-checked_sub.ensures, c.requires.place), bare_front c.in-Some.front.now c.in-Some.step.now (subst (λ l. list_all is_bare l ≡ true) parts.0 c.requires.bare)))

pub ends_at-end_before-requires : goal.ends_at-end_before-requires
ends_at-end_before-requires t c =
    let parts = c.in-Some.ensures.cases in
    (omega (arith, parts.1), (c.requires.place, bare_front c.in-Some.front.now c.in-Some.step.now (subst (λ l. list_all is_bare l ≡ true) parts.0 c.requires.bare)))
