use Rattle.xml_events.proofs.Stopping.{beginning-goes-on, whole-needs-no-more}
use Rattle.xml_events.proofs.laws.ending.Goals as goal

pub returns-clause-whole : goal.returns-clause-whole
returns-clause-whole c = whole-needs-no-more

pub returns-clause-beginning : goal.returns-clause-beginning
returns-clause-beginning c = beginning-goes-on
