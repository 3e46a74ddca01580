use Rattle.std.proofs.Common.{◌≡◌, ◌++◌, drop, Some}
use Rattle.template_machine.specs.Finding.{passing}
use Rattle.template_machine.specs.Moments.{StandsAsBefore}
use Rattle.template_machine.proofs.putting.Putting.copied_passing.Given as goal

-- those of the attributes so far that pass are copied
abbrev pub invariant-loop-attr : goal.invariant-loop-attr
invariant-loop-attr l =
    StandsAsBefore l.initial.self l.self
    × (l.self ≡ record l.initial.self { spare = l.self.spare })
    × (l.copies ++ passing (Some l.pattern) (drop l.attr-index l.attrs) ≡ passing (Some l.pattern) l.attrs)
