use Rattle.std.proofs.Common.{◌≡◌, ◌^◌, take}
use Rattle.std.specs.Prelude.{min}
use Rattle.event_buffers.specs.Weight.{kept_weight}
use Rattle.event_buffers.proofs.weight.kept_weight.Given as goal

abbrev pub invariant-loop-item : goal.invariant-loop-item
invariant-loop-item l = l.weight ≡ min (kept_weight (take l.item-index l.items)) (2 ^ 64)
