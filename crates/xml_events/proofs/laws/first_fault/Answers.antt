use Rattle.xml_events.specs.Before.{starting}
use Rattle.xml_events.proofs.Faults.{first-fault, no-fault}
use Rattle.xml_events.proofs.laws.first_fault.Goals as goal

pub returns-clause-fault : goal.returns-clause-fault
returns-clause-fault c = λ limits cdata length last ls ms l kind sound is. first-fault limits length last (starting cdata) ls ms l kind sound is

pub returns-clause-none : goal.returns-clause-none
returns-clause-none c = λ limits cdata length last ls sound. no-fault limits length last (starting cdata) ls sound
