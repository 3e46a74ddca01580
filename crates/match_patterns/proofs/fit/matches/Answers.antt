use Rattle.std.proofs.Common.{◌-◌, ap, sym, subst, ◌∙◌, arith}
use Rattle.node_stack.specs.Stack.{path}
use Rattle.match_patterns.specs.Fits.{at_current, fits}
use Rattle.match_patterns.specs.Walk.{IsEnding}
use Rattle.match_patterns.proofs.Endings.{some_node, told_by}
use Rattle.match_patterns.proofs.Fitting.{fits_where}
use Rattle.match_patterns.proofs.fit.matches.Goals as goal

pub overflow_sub-last : goal.overflow_sub-last
overflow_sub-last g c = omega (arith, some_node c.args.stack.now, c.len-last.ensures.value)

pub view-requires : goal.view-requires
view-requires g c = omega (arith, some_node c.args.stack.now, c.len-last.ensures.value)

pub ends_at-requires-clause-place : goal.ends_at-requires-clause-place
ends_at-requires-clause-place g c = omega (arith, some_node c.args.stack.now, c.len-last.ensures.value)

pub returns-in_ok-ending-in-Steps : goal.returns-in_ok-ending-in-Steps
returns-in_ok-ending-in-Steps g c =
    let s = at_current (g.V.Vars.value_of c.args.vars.now) c.args.limits.now (path c.args.stack.now) in
    let e = c.in_ok-ending-in-Steps.ending in
    let ending = subst (λ n. IsEnding s c.in-Steps.steps (n - 1) e) c.len-last.ensures.value
    (subst (λ l. IsEnding s l (c.len-last.result - 1) e) c.as_slice.ensures c.in_ok-ending-in-Steps.ensures) in
    let told = told_by s c.in-Steps.steps s.place e c.is_here.result c.is_here.ensures ending in
    fits_where s c.in-Steps.steps c.is_here.result told.0 told.1 ∙ sym (ap (λ a. fits a s) c.in-Steps.is)
