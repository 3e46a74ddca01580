use Rattle.std.proofs.Common.{◌∙◌}
use Rattle.event_buffers.specs.Layer.{opened_read}
use Rattle.xml_rows.proofs.Laid.{newest_changed, same_piles}
use Rattle.xml_rows.proofs.buffers.held.Held.open_read.Goals as goal

pub invariant_of-self : goal.invariant_of-self
invariant_of-self c =
    let old = c.self.inside.buffers in
    same_piles c.open_read.result old c.open_read.new.self _ c.open_read.ensures.ok c.open_read.ensures.err (newest_changed opened_read c.args.id old)
    ∙ c.self.invariant
