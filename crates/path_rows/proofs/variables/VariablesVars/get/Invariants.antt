use Rattle.std.proofs.Common.{◌≡◌, drop}
use Rattle.path_rows.specs.Variables.{value_in}
use Rattle.path_rows.proofs.variables.VariablesVars.get.Given as goal

abbrev pub invariant-loop-variable : goal.invariant-loop-variable
invariant-loop-variable l = value_in l.variable-items l.name ≡ value_in (drop l.variable-index l.variable-items) l.name
