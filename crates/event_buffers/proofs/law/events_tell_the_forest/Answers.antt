use Rattle.event_buffers.proofs.Forests.{events_tell_the_forest}
use Rattle.event_buffers.proofs.law.events_tell_the_forest.Goals as goal

pub returns : goal.returns
returns c = events_tell_the_forest
