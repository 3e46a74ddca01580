use Rattle.std.proofs.Common.{◌≡◌, ℕ, ◌+◌}
use Rattle.std.specs.Prelude.{slice_get, unwrap_or}
use Rattle.std.specs.Option.{option_and_then, option_map_or}
use Rattle.sheet_model.specs.Groups.{around, around_parent}
use Rattle.template_machine.specs.Steps.{group_of}
use Rattle.template_machine.specs.Variables.{holder_in}
use Rattle.template_machine.proofs.run.Run.holder.Given as goal

-- it is what is found from here outwards
abbrev pub invariant-loop-group : goal.invariant-loop-group
invariant-loop-group l =
    holder_in (around l.program.sheet.groups (unwrap_or (option_and_then (group_of l.program.sheet) (slice_get l.self.frames.frames l.body)) 0)) l.self.store l.name
    ≡ holder_in (around_parent (around l.program.sheet.groups) l.group) l.self.store l.name

-- a group stands behind its parent
abbrev pub decreases-loop-group : goal.decreases-loop-group
decreases-loop-group l = option_map_or (λ n. n + 1) l.group 0
