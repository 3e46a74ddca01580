use Rattle.std.proofs.Common.{◌≡◌, ◌++◌, drop}
use Rattle.std.specs.Vec.Iter.{into_iter_items}
use Rattle.event_buffers.specs.Told.{prefixed}
use Rattle.event_buffers.proofs.told.prefixed.Given as goal

abbrev pub invariant-loop-attr : goal.invariant-loop-attr
invariant-loop-attr l = prefixed l.fn.prefixes l.attrs ≡ l.made ++ prefixed (into_iter_items l.prefixes) (drop l.attr-index l.attrs)
