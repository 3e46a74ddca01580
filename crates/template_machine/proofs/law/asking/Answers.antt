use Rattle.template_machine.proofs.Machines.{asking_is_open}
use Rattle.template_machine.proofs.law.asking.Goals as goal

pub returns : goal.returns
returns c = asking_is_open
