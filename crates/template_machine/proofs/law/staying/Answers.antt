use Rattle.template_machine.proofs.Inside.{bodies_stay_within}
use Rattle.template_machine.proofs.law.staying.Goals as goal

pub returns : goal.returns
returns c = bodies_stay_within
