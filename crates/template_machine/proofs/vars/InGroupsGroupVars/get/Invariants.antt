use Rattle.std.proofs.Common.{◌≡◌, ◌+◌}
use Rattle.std.specs.Option.{option_map_or}
use Rattle.sheet_model.specs.Groups.{around, around_parent}
use Rattle.template_machine.specs.Variables.{seen_in}
use Rattle.template_machine.proofs.vars.InGroupsGroupVars.get.Given as goal

-- it is what is found from here outwards
abbrev pub invariant-loop-outwards : goal.invariant-loop-outwards
invariant-loop-outwards l =
    seen_in (around l.self.groups.now l.group) l.self.store.now l.name
    ≡ seen_in (around_parent (around l.self.groups.now) l.outwards) l.self.store.now l.name

-- a group stands behind its parent
abbrev pub decreases-loop-outwards : goal.decreases-loop-outwards
decreases-loop-outwards l = option_map_or (λ n. n + 1) l.outwards 0
