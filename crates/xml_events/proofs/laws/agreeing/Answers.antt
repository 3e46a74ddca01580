use Rattle.xml_events.proofs.Agreeing.{told-agrees}
use Rattle.xml_events.proofs.laws.agreeing.Goals as goal

pub returns : goal.returns
returns c = told-agrees
