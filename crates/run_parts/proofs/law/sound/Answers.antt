use Rattle.run_parts.proofs.Kept.{puts_sound}
use Rattle.run_parts.proofs.law.sound.Goals as goal

pub returns : goal.returns
returns c = puts_sound c.order.ensures
