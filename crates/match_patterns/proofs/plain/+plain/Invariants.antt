use Rattle.std.proofs.Common.{◌<◌, ◌≤◌, ◌+◌, ◌*◌, ℕ, List, Option, length}
use Rattle.stx_base.specs.declared.limits.Limits.{Limits}
use Rattle.stx_base.specs.declared.name.Name.{Name}
use Rattle.stxpath_values.specs.declared.value.Atom.{Atom}
use Rattle.node_stack.specs.Stack.{path}
use Rattle.match_patterns.specs.Fits.{at_current}
use Rattle.match_patterns.specs.Walk.{EndsAt}
use Rattle.match_patterns.proofs.plain.+plain.Given as goal

-- Each call goes on with fewer steps, or with the same at some place.

abbrev pub decreases-ends_at : goal.decreases-ends_at
decreases-ends_at l = 2 * length l.steps.now

abbrev pub decreases-end_before : goal.decreases-end_before
decreases-end_before l = 2 * length l.steps.now + 1

-- The steps end at none of the places that were tried.
abbrev pub invariant-end_before-loop-before : goal.invariant-end_before-loop-before
invariant-end_before-loop-before l =
    (vars : Name → Option (List Atom)) (limits : Limits) (q : ℕ) → l.before ≤ q → q < l.place → ¬ EndsAt (at_current vars limits (path l.stack)) l.steps q
