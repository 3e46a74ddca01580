use Rattle.std.proofs.Common.{◌≡◌, ◌≤◌, Some, drop, length, reverse}
use Rattle.stxpath_values.specs.Outcome.{each}
use Rattle.template_machine.specs.Bodies.{body_in}
use Rattle.template_machine.specs.Saying.{sight}
use Rattle.template_machine.specs.Shifting.{handed_value}
use Rattle.template_machine.proofs.Handed.{with_rest}
use Rattle.template_machine.proofs.run.Run.values.Given as goal

-- the values so far are those of the first parameters
abbrev pub invariant-loop-param : goal.invariant-loop-param
invariant-loop-param l =
    (length l.values ≡ l.param-index) × (l.param-index ≤ length l.params)
    × (body_in (reverse l.self.frames.frames) ≡ Some l.spot.body
    → each (handed_value (sight l.program l.self)) l.params ≡ with_rest (handed_value (sight l.program l.self)) (drop l.param-index l.params) l.values)
