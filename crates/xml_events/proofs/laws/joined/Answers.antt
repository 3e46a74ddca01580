use Rattle.xml_events.proofs.Joining.{cdata-is-text}
use Rattle.xml_events.proofs.laws.joined.Goals as goal

pub returns : goal.returns
returns c = cdata-is-text
