use Rattle.std.proofs.Common.{◌∙◌}
use Rattle.event_buffers.specs.Buffers.{is_written}
use Rattle.event_buffers.specs.Layer.{closed}
use Rattle.xml_rows.proofs.Laid.{first_changed, same_piles}
use Rattle.xml_rows.proofs.buffers.held.Held.close_write.Goals as goal

pub invariant_of-self : goal.invariant_of-self
invariant_of-self c =
    let old = c.self.inside.buffers in
    same_piles c.close_write.result old c.close_write.new.self _ c.close_write.ensures.ok c.close_write.ensures.err (first_changed is_written closed c.args.id old)
    ∙ c.self.invariant
