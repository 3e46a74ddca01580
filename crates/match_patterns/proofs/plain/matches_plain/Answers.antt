use Rattle.std.proofs.Common.{◌-◌, ap, sym, subst, ◌∙◌, arith}
use Rattle.node_stack.specs.Stack.{path}
use Rattle.match_patterns.specs.Fits.{at_current, fits}
use Rattle.match_patterns.specs.Walk.{IsEnding}
use Rattle.match_patterns.proofs.Endings.{some_node, told_by}
use Rattle.match_patterns.proofs.Fitting.{fits_where}
use Rattle.match_patterns.proofs.plain.matches_plain.Goals as goal

pub overflow_sub-last : goal.overflow_sub-last
overflow_sub-last c = omega (arith, some_node c.args.stack.now, c.len-last.ensures.value)

pub view-requires : goal.view-requires
view-requires c = omega (arith, some_node c.args.stack.now, c.len-last.ensures.value)

pub ends_at-requires-clause-place : goal.ends_at-requires-clause-place
ends_at-requires-clause-place c = omega (arith, some_node c.args.stack.now, c.len-last.ensures.value)

pub returns-in-Steps : goal.returns-in-Steps
returns-in-Steps c = λ vars limits.
    let g = at_current vars limits (path c.args.stack.now) in
    let ending = subst (λ n. IsEnding g c.in-Steps.steps (n - 1) c.ends_at.result) c.len-last.ensures.value
    (subst (λ l. IsEnding g l (c.len-last.result - 1) c.ends_at.result) c.as_slice.ensures (c.ends_at.ensures vars limits)) in
    let told = told_by g c.in-Steps.steps g.place c.ends_at.result c.is_here.result c.is_here.ensures ending in
    fits_where g c.in-Steps.steps c.is_here.result told.0 told.1 ∙ sym (ap (λ a. fits a g) c.in-Steps.is)
