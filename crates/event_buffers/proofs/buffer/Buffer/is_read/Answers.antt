use Rattle.std.proofs.Common.{ap, ◌∙◌}
use Rattle.std.specs.Prelude.{is_some}
use Rattle.event_buffers.specs.Buffers.{is_read}
use Rattle.event_buffers.specs.Layer.{laid}
use Rattle.event_buffers.proofs.Copies.{some_passes}
use Rattle.event_buffers.proofs.buffer.Buffer.is_read.Goals as goal

pub returns : goal.returns
returns c = c.is_some.ensures ∙ ap is_some c.read.ensures ∙ some_passes is_read c.args.self.now.copies laid
