use Rattle.template_machine.proofs.Positions.{positions_count}
use Rattle.template_machine.proofs.law.positions.Goals as goal

pub returns : goal.returns
returns c = positions_count
