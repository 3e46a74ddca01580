use Rattle.std.proofs.Common.{◌≡◌, ◌++◌, drop}
use Rattle.template_machine.specs.Moments.{StandsAsBefore}
use Rattle.template_machine.proofs.putting.Putting.copied_attrs.Given as goal

-- the attributes so far are copied
abbrev pub invariant-loop-attr : goal.invariant-loop-attr
invariant-loop-attr l =
    StandsAsBefore l.initial.self l.self
    × (l.self ≡ record l.initial.self { spare = l.self.spare })
    × (l.copies ++ drop l.attr-index l.attrs ≡ l.attrs)
