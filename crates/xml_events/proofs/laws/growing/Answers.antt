use Rattle.xml_events.proofs.Growing.{documents-grow}
use Rattle.xml_events.proofs.laws.growing.Goals as goal

pub returns : goal.returns
returns c = documents-grow
