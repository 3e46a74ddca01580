use Rattle.std.proofs.Common.{◌≡◌, ◌+◌}
use Rattle.std.specs.Prelude.{if◌then◌else◌, None}
use Rattle.std.specs.Option.{option_map_or}
use Rattle.sheet_model.specs.Groups.{around, around_parent}
use Rattle.template_machine.specs.Declaring.{is_declared_in}
use Rattle.template_machine.specs.Variables.{first_some, newest}
use Rattle.var_store.specs.Variables.{value_of}
use Rattle.template_machine.proofs.vars.EarlierVars.get.Given as goal

-- it is what is found from here outwards
abbrev pub invariant-loop-outwards : goal.invariant-loop-outwards
invariant-loop-outwards l =
    first_some (λ g. if is_declared_in l.earlier g l.name then value_of l.name (newest l.self.store.now g) else None) (around l.self.sheet.now.groups l.self.group)
    ≡ first_some (λ g. if is_declared_in l.earlier g l.name then value_of l.name (newest l.self.store.now g) else None) (around_parent (around l.self.sheet.now.groups) l.outwards)

-- a group stands behind its parent
abbrev pub decreases-loop-outwards : goal.decreases-loop-outwards
decreases-loop-outwards l = option_map_or (λ n. n + 1) l.outwards 0
