use Rattle.template_machine.proofs.Resuming.{resumes}
use Rattle.template_machine.proofs.law.resuming.Goals as goal

pub returns : goal.returns
returns c = resumes
