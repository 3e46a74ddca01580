use Rattle.std.proofs.Common.{ap, ◌∙◌}
use Rattle.std.specs.Prelude.{is_some}
use Rattle.event_buffers.specs.Buffers.{is_written}
use Rattle.event_buffers.specs.Layer.{laid}
use Rattle.event_buffers.proofs.Copies.{some_passes}
use Rattle.event_buffers.proofs.buffer.Buffer.is_written.Goals as goal

pub returns : goal.returns
returns c = c.is_some.ensures ∙ ap is_some c.written.ensures ∙ some_passes is_written c.args.self.now.copies laid
