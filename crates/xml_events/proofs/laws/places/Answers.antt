use Rattle.xml_events.proofs.Places.{open-are-unended, texts-are-counted}
use Rattle.xml_events.proofs.laws.places.Goals as goal

pub returns-clause-open : goal.returns-clause-open
returns-clause-open c = open-are-unended

pub returns-clause-texts : goal.returns-clause-texts
returns-clause-texts c = texts-are-counted
