-- The tree of a document's first bytes, of more of it, and of a whole document.
use Rattle.std.specs.Prelude.{◌≡◌, ◌≢◌, ℕ, Bool, true, false, List, ◌++◌, Some, None}
use Rattle.stx_base.specs.declared.limits.Limits.{Limits}
use Rattle.xml_events.specs.Document.{doc_for, stage_by}
use Rattle.xml_events.specs.Telling.{stop_in}
use Rattle.xml_events.specs.Tree.{Need, Bad, Forest, End, Cut, Single, Nested}

-- what was known stays; where more was wanted anything may come
abbrev pub Grows : (old new : Forest) → Type 0
Grows (End m offset) new = new ≡ End m offset
Grows (Cut Need) new = Unit {0}
Grows (Cut (Bad fault)) new = new ≡ Cut (Bad fault)
Grows (Single m leaf next) new = (after : Forest) × (new ≡ Single m leaf after) × Grows next after
Grows (Nested m e kids next) new =
    (list : Forest) × (after : Forest) × (m ≡ stage_by kids) × (new ≡ Nested (stage_by list) e list after) × Grows kids list × Grows next after

-- The tree of a document's first bytes grows with them.
abbrev pub DocumentsGrow : Type 0
DocumentsGrow = (limits : Limits) (strip cdata : Bool) (bytes more : List ℕ) (ended : Bool) → Grows (doc_for limits strip cdata bytes false) (doc_for limits strip cdata (bytes ++ more) ended)

-- No list of a whole document's tree waits for more of it.
abbrev pub WholeNeedsNoMore : Type 0
WholeNeedsNoMore = (limits : Limits) (strip cdata : Bool) (bytes : List ℕ) → stop_in (doc_for limits strip cdata bytes true) ≢ Some Need

-- Some list of the tree of a document's first bytes goes no further.
abbrev pub BeginningGoesOn : Type 0
BeginningGoesOn = (limits : Limits) (strip cdata : Bool) (bytes : List ℕ) → stop_in (doc_for limits strip cdata bytes false) ≢ None
