use Rattle.std.proofs.Common.{◌<◌, ◌≤◌, ◌+◌, ◌*◌, ℕ, length}
use Rattle.node_stack.specs.Stack.{path}
use Rattle.match_patterns.specs.Fits.{at_current}
use Rattle.match_patterns.specs.Walk.{EndsAt}
use Rattle.match_patterns.proofs.walk.+walk.Given as goal

-- Each call goes on with fewer steps, or with the same at some place.

abbrev pub decreases-ends_at : goal.decreases-ends_at
decreases-ends_at g l = 2 * length l.steps.now

abbrev pub decreases-end_before : goal.decreases-end_before
decreases-end_before g l = 2 * length l.steps.now + 1

-- The steps end at none of the places that were tried.
abbrev pub invariant-end_before-loop-before : goal.invariant-end_before-loop-before
invariant-end_before-loop-before g l =
    (q : ℕ) → l.before ≤ q → q < l.place → ¬ EndsAt (at_current (g.V.Vars.value_of l.vars) l.limits (path l.stack)) l.steps q
