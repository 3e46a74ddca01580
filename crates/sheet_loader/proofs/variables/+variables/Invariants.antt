use Rattle.std.proofs.Common.{◌≡◌, ◌++◌, drop, map}
use Rattle.std.specs.List.{flat_map}
use Rattle.sheet_model.specs.Names.{variables}
use Rattle.sheet_loader.specs.Keys.{name_of}
use Rattle.sheet_loader.specs.Making.{bare}
use Rattle.sheet_loader.proofs.VariableLemmas.{of_steps}
use Rattle.sheet_loader.proofs.variables.+variables.Given as goal

abbrev pub invariant-add_of_all-loop-expr : goal.invariant-add_of_all-loop-expr
invariant-add_of_all-loop-expr l =
    map name_of l.found ++ map bare (flat_map variables (drop l.expr-index l.exprs)) ≡ map name_of l.fn.found ++ map bare (flat_map variables l.exprs)

abbrev pub invariant-add_of_steps-loop-step : goal.invariant-add_of_steps-loop-step
invariant-add_of_steps-loop-step l =
    map name_of l.found ++ map bare (of_steps (drop l.step-index l.steps)) ≡ map name_of l.fn.found ++ map bare (of_steps l.steps)
