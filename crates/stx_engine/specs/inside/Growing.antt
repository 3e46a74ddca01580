-- What a run gives of a document's first bytes stays so.
use Rattle.std.specs.Prelude.{◌≡◌, ◌≢◌, ℕ, Bool, false, List, ◌++◌}
use Rattle.stx_base.specs.Course.{Begins}
use Rattle.stx_base.specs.declared.limits.Limits.{Limits}
use Rattle.xml_events.specs.Growing.{Grows}
use Rattle.xml_events.specs.Tree.{Forest, Need}
use Rattle.stx_engine.specs.inside.Run.{output, result_of, run_by, run_on, settled}
use Rattle.stx_engine.specs.inside.Passed.{Unready}
use Rattle.sheet_model.specs.declared.pass.Kinds.{Kinds}

-- What is settled stays so.
abbrev pub TreeStays : Type 0
TreeStays =
    (limit : ℕ) (pass : Kinds) (old new : Forest)
    → Grows old new
    → Begins (output (run_by limit pass old).parts) (output (run_by limit pass new).parts)

-- A run that needs no more of the document is over.
abbrev pub TreeIsOver : Type 0
TreeIsOver =
    (limit : ℕ) (pass : Kinds) (old new : Forest)
    → Grows old new
    → (run_by limit pass old).ending ≢ Unready Need
    → run_by limit pass new ≡ run_by limit pass old

-- What a document's first bytes settle stays so, whatever bytes follow.
abbrev pub BytesStay : Type 0
BytesStay =
    (limits : Limits) (pass : Kinds) (bytes more : List ℕ) (ended : Bool)
    → Begins (settled limits pass bytes) (result_of (run_on limits pass (bytes ++ more) ended))

-- A run that needs no more of the document is over.
abbrev pub RunStays : Type 0
RunStays =
    (limits : Limits) (pass : Kinds) (bytes more : List ℕ) (ended : Bool)
    → (run_on limits pass bytes false).ending ≢ Unready Need
    → run_on limits pass (bytes ++ more) ended ≡ run_on limits pass bytes false
