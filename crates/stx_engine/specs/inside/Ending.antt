-- Where a document has ended, and where it hasn't.
use Rattle.std.specs.Prelude.{◌≢◌, ℕ, true, false, List}
use Rattle.stx_base.specs.declared.limits.Limits.{Limits}
use Rattle.xml_events.specs.Tree.{Need}
use Rattle.stx_engine.specs.inside.Run.{run_on}
use Rattle.stx_engine.specs.inside.Passed.{Complete, Unready}
use Rattle.sheet_model.specs.declared.pass.Kinds.{Kinds}

-- A run on a whole document needs no more of it.
abbrev pub RunIsOver : Type 0
RunIsOver = (limits : Limits) (pass : Kinds) (bytes : List ℕ) → (run_on limits pass bytes true).ending ≢ Unready Need

-- A run on a document's first bytes is not done.
abbrev pub RunIsOpen : Type 0
RunIsOpen = (limits : Limits) (pass : Kinds) (bytes : List ℕ) → (run_on limits pass bytes false).ending ≢ Complete
