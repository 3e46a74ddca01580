use Rattle.xml_events.proofs.Shaping.{lexemes-are-shapes}
use Rattle.xml_events.proofs.laws.shapes.Goals as goal

pub returns : goal.returns
returns c = lexemes-are-shapes
