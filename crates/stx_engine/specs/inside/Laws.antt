-- What passing a document through gives is what the sheet means.
use Rattle.std.specs.Prelude.{◌≡◌, ℕ, Bool, List, map, Some}
use Rattle.sheet_model.specs.declared.pass.Kinds.{Kinds}
use Rattle.template_machine.specs.Ending as meant
use Rattle.template_machine.specs.Ending.{Done, Put, fault_at, result_code}
use Rattle.template_machine.specs.Fuel.{unready}
use Rattle.template_machine.specs.Job.{Given, Main}
use Rattle.template_machine.specs.Passing.{group_at}
use Rattle.stx_engine.specs.Laws.{Means}
use Rattle.stx_engine.specs.Plain.{pass_of}
use Rattle.stx_engine.specs.inside.Passed.{Ending, Complete, Unready, Refused}
use Rattle.stx_engine.specs.inside.Run.{run_on}

-- how a run ends, as the meaning of its sheet does: a part that the result refuses is told at the root group
abbrev pub meant_ending : Given → Ending → meant.Ending
meant_ending given Complete = Done
meant_ending given (Unready why) = unready Main why
meant_ending given (Refused fault) = fault_at (result_code fault) (group_at given 0)

-- A sheet that only passes documents through means on a document's bytes what passing them through gives.
abbrev pub PassesAsMeant : Type 0
PassesAsMeant =
    (given : Given) (pass : Kinds) (bytes : List ℕ) (ended : Bool)
    → pass_of given.sheet ≡ Some pass
    → let run = run_on given.limits pass bytes ended in
    Means given bytes ended (map Put run.parts) (meant_ending given run.ending)
