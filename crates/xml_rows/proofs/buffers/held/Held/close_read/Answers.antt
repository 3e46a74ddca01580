use Rattle.std.proofs.Common.{ap, map, ◌∙◌}
use Rattle.event_buffers.specs.Buffers.{Buffers, is_read}
use Rattle.event_buffers.specs.Layer.{closed}
use Rattle.xml_rows.specs.Laid.{pile}
use Rattle.xml_rows.proofs.Laid.{first_changed}
use Rattle.xml_rows.proofs.buffers.held.Held.close_read.Goals as goal

pub invariant_of-self : goal.invariant_of-self
invariant_of-self c =
    ap (λ (b : Buffers). map pile b.buffers) c.close_read.ensures ∙ first_changed is_read closed c.args.id c.self.inside.buffers ∙ c.self.invariant
