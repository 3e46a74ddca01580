use Rattle.run_engine.proofs.Fewer.{asks-stay, pieces-fall, pieces-open, pieces-stay, waits-fall}
use Rattle.run_engine.proofs.law.pieces.Goals as goal

pub returns : goal.returns
returns c = record { fall = pieces-fall; stay = pieces-stay; opened = pieces-open; asks = asks-stay; waits = waits-fall }
