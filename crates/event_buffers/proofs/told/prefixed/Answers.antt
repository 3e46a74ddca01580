use Rattle.std.proofs.Common.{◌++◌, sym, ap, ◌∙◌, append-nil}
use Rattle.std.specs.Vec.Iter.{into_iter_items}
use Rattle.event_buffers.proofs.Joining.{all_prefixed}
use Rattle.event_buffers.proofs.told.prefixed.Goals as goal

pub returns : goal.returns
returns c =
    sym (c.loop-attr.invariant
    ∙ ap (λ l. c.loop-attr.made ++ l) (all_prefixed (into_iter_items c.loop-attr.prefixes) c.args.attrs.now c.loop-attr.attr-index c.loop-attr-test.false)
    ∙ append-nil c.loop-attr.made)
