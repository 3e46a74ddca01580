use Rattle.template_machine.proofs.Kept.{keeps_locals}
use Rattle.template_machine.proofs.law.locals_last.Goals as goal

pub returns : goal.returns
returns c = keeps_locals
