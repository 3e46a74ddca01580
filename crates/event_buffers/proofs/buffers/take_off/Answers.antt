use Rattle.std.proofs.Common.{sym, ap, ◌∙◌}
use Rattle.event_buffers.specs.Buffers.{in_group, taken_off}
use Rattle.event_buffers.proofs.Copies.{step}
use Rattle.event_buffers.proofs.buffers.take_off.Goals as goal

pub loop-buffer-preserved : goal.loop-buffer-preserved
loop-buffer-preserved c =
    step (in_group taken_off c.args.group) c.args.buffers.now c.loop-buffer.buffers c.loop-buffer.buffer-index c.buffer-item.result c.take_off.new.self
    c.loop-buffer-test.true c.loop-buffer.invariant c.buffer-item.is (c.take_off.ensures ∙ ap (in_group taken_off c.args.group) (sym c.buffer-item.is))
