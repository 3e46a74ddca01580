use Rattle.template_machine.proofs.Stilled.{jumps_go_on, operations_go_on}
use Rattle.template_machine.proofs.law.operating.Goals as goal

pub returns : goal.returns
returns c = record { operations = operations_go_on; jumps = jumps_go_on }
