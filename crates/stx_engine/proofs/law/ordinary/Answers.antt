use Rattle.stx_engine.proofs.Ordered.{tells-ordinary}
use Rattle.stx_engine.proofs.law.ordinary.Goals as goal

pub returns : goal.returns
returns c = tells-ordinary
