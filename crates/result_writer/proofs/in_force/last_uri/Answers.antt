use Rattle.std.proofs.Common.{sym, ◌∙◌}
use Rattle.result_writer.proofs.Places.{bound-here, bound-before}
use Rattle.result_writer.proofs.in_force.last_uri.Goals as goal

pub returns-then-same : goal.returns-then-same
returns-then-same c = λ u.
    let is_it = sym c.same.ensures ∙ c.if-same.true in
    sym (bound-here u c.loop-last.rest.now c.in-Some.others.now c.in-Some.last.now c.args.prefix.now c.in-Some.ensures.cases.0 is_it) ∙ c.loop-last.invariant u

pub loop-last-preserved : goal.loop-last-preserved
loop-last-preserved c = λ u.
    let is_other = sym c.same.ensures ∙ c.if-same.false in
    sym (bound-before u c.loop-last.rest.now c.in-Some.others.now c.in-Some.last.now c.args.prefix.now c.in-Some.ensures.cases.0 is_other) ∙ c.loop-last.invariant u
