use Rattle.std.proofs.Common.{◌≡◌, ◌+◌, ◌-◌, ◌++◌, drop, length}
use Rattle.event_buffers.specs.Told.{text_before, told}
use Rattle.event_buffers.proofs.told.joined_text.Given as goal

abbrev pub invariant-loop-more : goal.invariant-loop-more
invariant-loop-more l = told (drop l.place (l.declared ++ l.own)) ≡ text_before l.joined (told (drop l.next (l.declared ++ l.own)))

abbrev pub decreases-loop-more : goal.decreases-loop-more
decreases-loop-more l = length l.declared + length l.own - l.next
