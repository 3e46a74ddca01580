use Rattle.std.proofs.Common.{◌≡◌, ◌++◌, List}
use Rattle.xml_events.specs.declared.event.Event.{Event}
use Rattle.xml_events.specs.Run.{IsGiven}
use Rattle.xml_events.specs.Source.{events_left}
use Rattle.xml_events.proofs.run.drain.Given as goal

abbrev pub invariant-giving : goal.invariant-giving
invariant-giving l = (given : List Event) × (l.events ≡ l.initial.events ++ given) × IsGiven l.initial.reader given l.reader

abbrev pub decreases-giving : goal.decreases-giving
decreases-giving l = events_left l.reader
