use Rattle.std.proofs.Common.{◌≡◌, map, take}
use Rattle.event_buffers.specs.Declaring.{declared_by}
use Rattle.event_buffers.proofs.buffers.Buffers.new.Given as goal

abbrev pub invariant-loop-buffer : goal.invariant-loop-buffer
invariant-loop-buffer l = l.buffers.items ≡ map declared_by (take l.buffer-index l.sheet.buffers)
