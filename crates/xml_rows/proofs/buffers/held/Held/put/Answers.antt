use Rattle.std.proofs.Common.{◌∙◌}
use Rattle.event_buffers.specs.Buffers.{is_written}
use Rattle.event_buffers.specs.Layer.{with_part}
use Rattle.xml_rows.proofs.Laid.{first_changed, same_piles}
use Rattle.xml_rows.proofs.buffers.held.Held.put.Goals as goal

pub invariant_of-self : goal.invariant_of-self
invariant_of-self c =
    let old = c.self.inside.buffers in
    same_piles c.put.result old c.put.new.self _ c.put.ensures.ok c.put.ensures.err (first_changed is_written (with_part c.args.part) c.args.id old)
    ∙ c.self.invariant
