-- What a run of an engine still gives in every state, by the bytes that are still to come of its documents.
use Rattle.std.specs.Prelude.{◌≡◌, ◌⊎◌, ℕ, true, List, [], ◌∷◌, ◌++◌, Option, Some, None, reverse}
use Rattle.std.specs.Option.{option_map_or}
use Rattle.stx_base.specs.Course.{Halt, Same}
use Rattle.stx_base.specs.declared.fault.RunCode.TheVariants.{NoDocument}
use Rattle.fault_report.specs.declared.outcome.Outcome.{Outcome}
use Rattle.fault_report.specs.declared.outcome.Outcome.TheVariants as ended
use Rattle.frame_stack.specs.declared.frame.Frame.TheVariants.{Source}
use Rattle.result_writer.specs.Target.{Left}
use Rattle.xml_events.specs.Document.{doc_for, inner}
use Rattle.xml_events.specs.Source.{future}
use Rattle.xml_events.specs.Tree.{Begun, End, Forest, Future}
use Rattle.template_machine.specs.Between.{IsAsking}
use Rattle.template_machine.specs.Ending.{Done, Ending, Needs, fault_at}
use Rattle.template_machine.specs.Giving.{RunsInOrder, whole}
use Rattle.template_machine.specs.Job.{Given}
use Rattle.template_machine.specs.Still.{state_of}
use Rattle.template_machine.specs.Stepwise.{Flat_does, flat_code}
use Rattle.template_machine.specs.Ways.{first_in}
use Rattle.template_machine.specs.declared.machine.Machine.{Machine}
use Rattle.template_machine.specs.declared.source.Origin.TheVariants as origin
use Rattle.run_engine.specs.More as alone
use Rattle.run_engine.specs.More.{AreBytes, Coming, WasTold, joined, nothing_yet, with_piece}
use Rattle.run_engine.specs.Run.{Document, Main, MayCome, New, Open, Over, Run, Stage, Stands, Wants}
use Rattle.run_engine.specs.Taking.{AreEnded, handed}
use Rattle.run_engine.specs.declared.piece.Piece.{Piece}
use Rattle.run_engine.specs.declared.piece.Piece.TheVariants as piece
use Rattle.run_future.specs.Laws.{Enters, Waits, WaitsForDocument}
use Rattle.run_future.specs.Remaining.{ToCome, asked_at, asked_in, ground_of, remaining, wanting}

-- behind the main document stands the list of its document node
abbrev pub behind_document : (name : Option (List ℕ)) → Future
behind_document None = End Begun 0 ∷ []
behind_document (Some name) = []

-- what is still to come of an open document, by its bytes, and whether it ends behind them
abbrev pub document_to_come : Open → Coming → ToCome
document_to_come d x = record { name = d.name; lists = future d.source x.bytes x.ended ++ behind_document d.name }

-- and of all of them, the newest first: where nothing is said of a document, nothing comes yet
abbrev pub to_come : List Open → List Coming → List ToCome
to_come [] xs = []
to_come (d ∷ ds) [] = document_to_come d nothing_yet ∷ to_come ds []
to_come (d ∷ ds) (x ∷ xs) = document_to_come d x ∷ to_come ds xs

-- the tree of the document with which a run begins
abbrev pub tree_of : List ToCome → Forest
tree_of ds = inner (option_map_or (λ (d : ToCome). d.lists) (first_in ds) [])

-- A run that is over gives nothing more. How it stopped its outcome tells.
abbrev pub over : Outcome → Ending
over ended.Done = Done
over other = Needs

-- What a run still gives, by its machine, by what the parts that were put leave of its output, and by what is to come of each open document,
-- the newest first: before it begins what its sheet means, where it waits for a document what follows by what documents there are, and
-- else what its machine still does.
abbrev pub more_at : Stage → Given → List Open → Machine → Left → List Coming → Flat_does
more_at New given ds m left xs = whole given (tree_of (to_come ds xs))
more_at (Wants name) given ds m left xs = wanting given m left (to_come ds xs)
more_at (Over outcome) given ds m left xs = Halt (over outcome)
more_at stage given ds m left xs = remaining given m left (to_come ds xs)

abbrev pub more_of : Given → Run → Machine → Left → List Coming → Flat_does
more_of given r = more_at r.stage given r.documents

-- Laws.

-- the main document is open, and no other
abbrev pub IsMainAlone : List Open → Type 0
IsMainAlone [] = ⊥
IsMainAlone (d ∷ []) = d.name ≡ None
IsMainAlone ds = ⊥

-- a run that hasn't begun, or that asks for more of the main document, and has taken no other nodes
abbrev pub ReadsMain : Run → Machine → Type 0
ReadsMain r m = (r.stage ≡ New) ⊎ ((r.stage ≡ Main) × IsAsking m × RunsInOrder m)

-- Where the main document alone is read, that is what is said of it.
abbrev pub GivesAsAlone : Type 0
GivesAsAlone =
    (given : Given) (r : Run) (m : Machine) (left : Left) (x : Coming) → IsMainAlone r.documents → ReadsMain r m
    → more_of given r m left (x ∷ []) ≡ alone.more_at r.stage given r.documents m left x

-- what was to come before a piece of the newest document came
abbrev pub with_newest : Piece → List Coming → List Coming
with_newest p [] = with_piece p nothing_yet ∷ []
with_newest p (x ∷ xs) = with_piece p x ∷ xs

-- a run that asks for more of a document
abbrev pub IsReading : Stage → Type 0
IsReading Main = Unit {0}
IsReading Document = Unit {0}
IsReading stage = ⊥

-- A piece that is handed to it is the first of what is to come of the newest document.
abbrev pub NewestComesFirst : Type 0
NewestComesFirst =
    (given : Given) (r : Run) (m : Machine) (left : Left) (p : Piece) (xs : List Coming) → IsReading r.stage → Stands r → MayCome r.stage p
    → more_of given (record r { documents = handed r p }) m left xs ≡ more_of given r m left (with_newest p xs)

-- pieces that come one after another
abbrev pub with_all : List Piece → List Coming → List Coming
with_all [] xs = xs
with_all (p ∷ ps) xs = with_newest p (with_all ps xs)

-- However its bytes are cut into pieces, the same is to come, and behind its end nothing of it.
abbrev pub CutsDoNotMatter : Type 0
CutsDoNotMatter =
    (ps others : List Piece) (x : Coming) (xs : List Coming) → AreBytes ps
    → (with_all ps (x ∷ xs) ≡ record { bytes = joined ps ++ x.bytes; ended = x.ended } ∷ xs)
    × (with_all (ps ++ piece.End ∷ others) (x ∷ xs) ≡ record { bytes = joined ps; ended = true } ∷ xs)

-- Where all documents have ended nothing comes.
abbrev pub TakesNothing : Type 0
TakesNothing =
    (given : Given) (r : Run) (m : Machine) (left : Left) (xs ys : List Coming) → AreEnded r.documents → more_of given r m left xs ≡ more_of given r m left ys

-- A run to which all was told of the newest document says nothing until more comes: it needs more.
abbrev pub WaitsForNewest : Type 0
WaitsForNewest =
    (given : Given) (r : Run) (m : Machine) (left : Left) → IsReading r.stage → IsAsking m → WasTold r.documents
    → Same (flat_code given) (more_of given r m left []) (Halt Needs)

-- A document that is opened has all its nodes to come, of the bytes that are to come.
abbrev pub OpensWhole : Type 0
OpensWhole =
    (r : Run) (name : List ℕ) (x : Coming) (xs : List Coming) → r.stage ≡ Wants name
    → to_come (handed r piece.Opened) (x ∷ xs)
    ≡ record { name = Some name; lists = doc_for r.limits r.strip r.cdata x.bytes x.ended ∷ [] } ∷ to_come r.documents xs

-- A run that waits for a document which is there goes on with its nodes once it was opened, of the bytes that are to come; and one for
-- which there is none stops where its instruction stands.
abbrev pub OpenedGoesOn : Type 0
OpenedGoesOn =
    (given : Given) (r : Run) (m n : Machine) (left : Left) (name : List ℕ) (x : Coming) (xs : List Coming) → r.stage ≡ Wants name
    → let fs = reverse m.run.frames.frames in
    WaitsForDocument given m.program fs (ground_of given m.program m.run (to_come r.documents xs)) (state_of given m.program m.run left) name
    → n.program ≡ m.program → Waits (Source None 0 (asked_in given m.program fs)) m.run n.run → Enters (origin.Document (asked_at given m.program fs)) m.run n.run
    → given.documents name ≡ Some (doc_for r.limits r.strip r.cdata x.bytes x.ended)
    → more_of given r m left xs ≡ more_of given (record r { stage = Document; documents = handed r piece.Opened }) n left (x ∷ xs)

abbrev pub AbsentStops : Type 0
AbsentStops =
    (given : Given) (r : Run) (m : Machine) (left : Left) (name : List ℕ) (xs : List Coming) → r.stage ≡ Wants name
    → let fs = reverse m.run.frames.frames in
    WaitsForDocument given m.program fs (ground_of given m.program m.run (to_come r.documents xs)) (state_of given m.program m.run left) name
    → given.documents name ≡ None
    → more_of given r m left xs ≡ Halt (fault_at NoDocument (asked_at given m.program fs))
