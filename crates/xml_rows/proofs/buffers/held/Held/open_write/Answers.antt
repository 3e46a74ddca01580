use Rattle.std.proofs.Common.{◌∙◌}
use Rattle.event_buffers.specs.Layer.{opened_write}
use Rattle.xml_rows.proofs.Laid.{newest_changed, same_piles}
use Rattle.xml_rows.proofs.buffers.held.Held.open_write.Goals as goal

pub invariant_of-self : goal.invariant_of-self
invariant_of-self c =
    let old = c.self.inside.buffers in
    same_piles c.open_write.result old c.open_write.new.self _ c.open_write.ensures.ok c.open_write.ensures.err
    (newest_changed (opened_write old.elements c.args.clear) c.args.id old)
    ∙ c.self.invariant
