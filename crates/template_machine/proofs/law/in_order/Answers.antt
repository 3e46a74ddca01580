use Rattle.template_machine.proofs.Answered.{opens_one}
use Rattle.template_machine.proofs.law.in_order.Goals as goal

pub returns : goal.returns
returns c = opens_one
