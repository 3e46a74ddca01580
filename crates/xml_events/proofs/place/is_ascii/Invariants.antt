use Rattle.std.proofs.Common.{◌≡◌, take, true, IsAscii}
use Rattle.xml_events.proofs.place.is_ascii.Given as goal

abbrev pub invariant-loop-b : goal.invariant-loop-b
invariant-loop-b l = l.ascii ≡ true → IsAscii (take l.b-index l.bytes)
