use Rattle.xml_events.proofs.Pieces.{in-pieces}
use Rattle.xml_events.proofs.laws.documents.Goals as goal

pub returns : goal.returns
returns c = in-pieces
