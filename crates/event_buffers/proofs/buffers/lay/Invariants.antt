use Rattle.std.proofs.Common.{◌≡◌, ◌∷◌, ◌++◌, drop, map, take}
use Rattle.event_buffers.specs.Buffers.{in_group}
use Rattle.event_buffers.specs.Layer.{laid}
use Rattle.event_buffers.proofs.buffers.lay.Given as goal

abbrev pub invariant-loop-place : goal.invariant-loop-place
invariant-loop-place l = l.buffers ≡ map (in_group (λ copies. laid ∷ copies) l.group) (take l.place l.initial.buffers) ++ drop l.place l.initial.buffers
