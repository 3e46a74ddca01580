use Rattle.std.proofs.Common.{ap, map, ◌∙◌}
use Rattle.event_buffers.specs.Buffers.{Buffers, is_read, on_buffer, on_first}
use Rattle.event_buffers.specs.Layer.{closed, opened_read}
use Rattle.xml_rows.specs.Laid.{pile}
use Rattle.xml_rows.proofs.Laid.{first_changed, newest_changed, tried}
use Rattle.xml_rows.proofs.buffers.held.is_free.Goals as goal

pub returns-then-not-is_read-clause-piles : goal.returns-then-not-is_read-clause-piles
returns-then-not-is_read-clause-piles c =
    ap (λ (b : Buffers). map pile b.buffers) c.in-Ok.ensures.ok ∙ newest_changed opened_read c.args.id c.args.buffers.now

pub returns-clause-same : goal.returns-clause-same
returns-clause-same c = λ e.
    c.close_read.ensures ∙ ap (on_buffer (on_first is_read closed) c.args.id) c.in-Ok.ensures.ok ∙ tried c.args.buffers.now c.args.id c.in-Ok.ensures.opened

pub returns-clause-piles : goal.returns-clause-piles
returns-clause-piles c =
    ap (λ (b : Buffers). map pile b.buffers) c.close_read.ensures
    ∙ first_changed is_read closed c.args.id c.open_read.new.self
    ∙ ap (λ (b : Buffers). map pile b.buffers) c.in-Ok.ensures.ok
    ∙ newest_changed opened_read c.args.id c.args.buffers.now
