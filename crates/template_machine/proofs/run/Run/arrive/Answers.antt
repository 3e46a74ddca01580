use Rattle.std.proofs.Common.{sym, ◌∙◌}
use Rattle.template_machine.proofs.InOrder.{listens_told}
use Rattle.template_machine.proofs.run.Run.arrive.Goals as goal

pub returns-in-Some-clause-hears : goal.returns-in-Some-clause-hears
returns-in-Some-clause-hears c = λ alone. c.skip.ensures.hears alone

pub returns-in-None-clause-hears : goal.returns-in-None-clause-hears
returns-in-None-clause-hears c = λ alone.
    c.take_event.ensures.hears (listens_told c.args.program.now c.args.event c.args.self.now c.requires alone (sym c.skipped.ensures ∙ c.in-None.is))
