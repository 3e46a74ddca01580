use Rattle.std.proofs.Common.{◌≡◌, ◌++◌, drop, map, take}
use Rattle.event_buffers.specs.Buffers.{in_group, taken_off}
use Rattle.event_buffers.proofs.buffers.take_off.Given as goal

abbrev pub invariant-loop-buffer : goal.invariant-loop-buffer
invariant-loop-buffer l = l.buffers ≡ map (in_group taken_off l.group) (take l.buffer-index l.initial.buffers) ++ drop l.buffer-index l.initial.buffers
