use Rattle.event_buffers.proofs.Laying.{texts_join}
use Rattle.event_buffers.proofs.law.texts_join.Goals as goal

pub returns : goal.returns
returns c = texts_join
