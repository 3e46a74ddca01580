use Rattle.template_machine.proofs.RunByCode.{bodies_run, goes_on}
use Rattle.template_machine.proofs.law.by_code.Goals as goal

pub returns : goal.returns
returns c = record { runs = goes_on; bodies = bodies_run }
