use Rattle.std.proofs.Common.{◌≡◌, ◌^◌, take}
use Rattle.std.specs.Prelude.{min}
use Rattle.event_buffers.specs.Weight.{attributes_weight}
use Rattle.event_buffers.proofs.weight.attributes_weight.Given as goal

abbrev pub invariant-loop-attr : goal.invariant-loop-attr
invariant-loop-attr l = l.weight ≡ min (attributes_weight (take l.attr-index l.attrs)) (2 ^ 64)
