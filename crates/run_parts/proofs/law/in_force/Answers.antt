use Rattle.run_parts.proofs.Kept.{puts_good}
use Rattle.run_parts.proofs.law.in_force.Goals as goal

pub returns : goal.returns
returns c = puts_good c.order.ensures
