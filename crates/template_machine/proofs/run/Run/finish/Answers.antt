use Rattle.template_machine.specs.Stops.{turn_of}
use Rattle.std.proofs.Common.{subst, refl, ap}
use Rattle.template_machine.specs.Onward.{EndsWith}
use Rattle.template_machine.proofs.Onward.{ends_closed, ends_unclosed}
use Rattle.std.proofs.Common.{sym, ◌∙◌}
use Rattle.template_machine.proofs.Turning.{ended_more, ended_wants, stop_more, stop_wants}
use Rattle.template_machine.proofs.run.Run.finish.Goals as goal

pub returns-in-Ok-clause-more : goal.returns-in-Ok-clause-more
returns-in-Ok-clause-more g c = ended_more

pub returns-in-Ok-clause-want : goal.returns-in-Ok-clause-want
returns-in-Ok-clause-want g c = ended_wants

pub returns-in-Err-clause-more : goal.returns-in-Err-clause-more
returns-in-Err-clause-more g c = λ e. stop_more c.in-Err.stop (sym c.turn.ensures ∙ e)

pub returns-in-Err-clause-want : goal.returns-in-Err-clause-want
returns-in-Err-clause-want g c = λ name e. stop_wants c.in-Err.stop name (sym c.turn.ensures ∙ e)

pub returns-in-Ok-clause-unsaid : goal.returns-in-Ok-clause-unsaid
returns-in-Ok-clause-unsaid g c = c.finish.ensures.unsaid

pub returns-in-Ok-clause-ends : goal.returns-in-Ok-clause-ends
returns-in-Ok-clause-ends g c = ends_closed c.args.program.now (g.S.Sink.output c.args.out.now).left c.in-Ok.ensures.closed

pub returns-in-Err-clause-unsaid : goal.returns-in-Err-clause-unsaid
returns-in-Err-clause-unsaid g c = c.finish.ensures.unsaid

pub returns-in-Err-clause-ends : goal.returns-in-Err-clause-ends
returns-in-Err-clause-ends g c =
    let p = c.args.program.now in
    let left = (g.S.Sink.output c.args.out.now).left in
    subst (λ t. EndsWith p left t) (sym (c.turn.ensures ∙ ap turn_of c.in-Err.ensures.unclosed.0))
    (ends_unclosed p left c.group.result.now.at c.group.result.now c.in-Err.ensures.unclosed.1 c.group.ensures refl)
