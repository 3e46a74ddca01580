use Rattle.std.proofs.Common.{◌∙◌, ap, sym}
use Rattle.std.specs.Prelude.{is_none}
use Rattle.template_machine.proofs.run.Run.look.Goals as goal

pub look_ahead-requires-clause-events : goal.look_ahead-requires-clause-events
look_ahead-requires-clause-events g c = ap is_none (sym c.next_attribute_of.ensures ∙ c.in-None.is)

pub returns-in-Some-clause-steps : goal.returns-in-Some-clause-steps
returns-in-Some-clause-steps g c = c.next_attribute.ensures.steps

pub returns-in-None-clause-steps : goal.returns-in-None-clause-steps
returns-in-None-clause-steps g c = c.look_ahead.ensures.steps
