use Rattle.std.proofs.Common.{◌≡◌, Some, drop, reverse}
use Rattle.stxpath_values.specs.Outcome.{each}
use Rattle.template_machine.specs.Acting.{attribute_of}
use Rattle.template_machine.specs.Bodies.{body_in}
use Rattle.template_machine.specs.Puts.{OnlyPuts}
use Rattle.template_machine.specs.Saying.{sight}
use Rattle.template_machine.proofs.Handed.{with_rest}
use Rattle.template_machine.proofs.run.Run.literal_attrs.Given as goal

-- the attributes so far are those of the first ones
abbrev pub invariant-loop-attr : goal.invariant-loop-attr
invariant-loop-attr l =
    OnlyPuts l.initial.self l.self
    × (l.self ≡ record l.initial.self { putting = record l.initial.self.putting { spare = l.self.putting.spare } })
    × (body_in (reverse l.initial.self.frames.frames) ≡ Some l.spot.body
    → each (attribute_of (sight l.program l.initial.self)) l.attrs ≡ with_rest (attribute_of (sight l.program l.initial.self)) (drop l.attr-index l.attrs) l.made)
