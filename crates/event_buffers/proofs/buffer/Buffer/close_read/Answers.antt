use Rattle.std.proofs.Common.{sym, ap, ◌∙◌}
use Rattle.std.specs.Prelude.{position}
use Rattle.event_buffers.specs.Buffers.{Buffer, is_read, on_first, with_copies}
use Rattle.event_buffers.specs.Layer.{closed}
use Rattle.event_buffers.proofs.Copies.{changed_at, nowhere, passes}
use Rattle.event_buffers.proofs.buffer.Buffer.close_read.Goals as goal

pub close_read-requires : goal.close_read-requires
close_read-requires c =
    passes is_read c.self.inside.copies.items c.in-Some.place c.index_mut.result.now
    (ap (λ (b : Buffer). position is_read b.copies) c.self.view_is ∙ sym c.in-Some.ensures) c.index_mut.ensures.value

pub returns-in-Some : goal.returns-in-Some
returns-in-Some c =
    changed_at (record { group = c.self.inside.group; declared = c.self.inside.declared; copies = c.self.inside.copies.items })
    is_read closed c.in-Some.place c.index_mut.result.now c.close_read.new.self
    (ap (λ (b : Buffer). position is_read b.copies) c.self.view_is ∙ sym c.in-Some.ensures) c.index_mut.ensures.value c.close_read.ensures
    ∙ ap (with_copies (on_first is_read closed)) c.self.view_is

pub returns-in_default : goal.returns-in_default
returns-in_default c = nowhere c.args.self.now is_read closed (sym c.in_default.ensures)
