use Rattle.std.proofs.Common.{ap, ◌∙◌, map}
use Rattle.event_buffers.specs.Buffers.{Buffers}
use Rattle.xml_rows.specs.Laid.{pile}
use Rattle.xml_rows.proofs.Laid.{begun}
use Rattle.xml_rows.proofs.buffers.held.Held.new.Goals as goal

pub invariant_of-result : goal.invariant_of-result
invariant_of-result c = ap (λ (b : Buffers). map pile b.buffers) c.in_ok-buffers.ensures ∙ begun c.args.sheet.now.buffers c.requires.groups
