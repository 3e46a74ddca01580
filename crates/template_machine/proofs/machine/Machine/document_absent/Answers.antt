use Rattle.std.proofs.Common.{◌∙◌, ap}
use Rattle.template_machine.specs.Stops.{turn_of}
use Rattle.template_machine.proofs.machine.Machine.document_absent.Goals as goal

pub returns-clause-stopped : goal.returns-clause-stopped
returns-clause-stopped c = (_, c.turn.ensures ∙ ap turn_of c.fault.ensures)
