use Rattle.std.proofs.Common.{◌≡◌, ◌++◌, length, map}
use Rattle.std.specs.Vec.Iter.{into_iter_items, into_iter_len}
use Rattle.template_machine.specs.Moments.{StandsAsBefore}
use Rattle.template_machine.specs.Putting.{attribute_part}
use Rattle.template_machine.proofs.InTurn.{KeepsAll}
use Rattle.template_machine.proofs.putting.Putting.keep_attributes.Given as goal

-- the attributes so far are kept
abbrev pub invariant-loop-attr : goal.invariant-loop-attr
invariant-loop-attr l =
    StandsAsBefore l.initial.self l.self
    × KeepsAll l.at (map attribute_part l.yielded) l.initial.self l.self
    × (l.yielded ++ into_iter_items l.attr-iterator ≡ l.fn.attrs)
    × (into_iter_len l.attr-iterator ≡ length (into_iter_items l.attr-iterator))
