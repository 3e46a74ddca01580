use Rattle.std.proofs.Common.{◌≡◌, ◌+◌}
use Rattle.std.specs.Option.{option_map_or}
use Rattle.sheet_model.specs.Groups.{around, around_parent}
use Rattle.template_machine.specs.Finding.{procedure_in}
use Rattle.template_machine.specs.Variables.{first_some}
use Rattle.template_machine.proofs.finding.procedure_seen.Given as goal

-- it is what is found from here outwards
abbrev pub invariant-loop-outwards : goal.invariant-loop-outwards
invariant-loop-outwards l =
    first_some (procedure_in l.sheet.procedures l.name) (around l.sheet.groups l.fn.group)
    ≡ first_some (procedure_in l.sheet.procedures l.name) (around_parent (around l.sheet.groups) l.outwards)

-- a group stands behind its parent
abbrev pub decreases-loop-outwards : goal.decreases-loop-outwards
decreases-loop-outwards l = option_map_or (λ n. n + 1) l.outwards 0
