-- What a run still gives, whatever is still to come of the main document.
use Rattle.std.specs.Prelude.{◌≡◌, ◌↔◌, ℕ, Bool, true, false, List, [], ◌∷◌, ◌++◌, map}
use Rattle.std.specs.List.{concat}
use Rattle.stx_base.specs.Course.{Ends, Halt, Same}
use Rattle.result_writer.specs.Target.{Left}
use Rattle.template_machine.specs.Between.{IsAsking}
use Rattle.template_machine.specs.Ending.{Ending, Needs, Said}
use Rattle.template_machine.specs.Giving.{rest, whole}
use Rattle.template_machine.specs.Job.{Given}
use Rattle.template_machine.specs.Meaning.{code, meaning}
use Rattle.template_machine.specs.Stepwise.{Flat_does, flat_code}
use Rattle.template_machine.specs.declared.machine.Machine.{Machine}
use Rattle.xml_events.specs.Document.{doc_for, inner}
use Rattle.xml_events.specs.Source.{future}
use Rattle.xml_events.specs.Telling.{pulled}
use Rattle.xml_events.specs.Tree.{Begun, End, Future}
use Rattle.xml_events.specs.declared.event.Pull.TheVariants as pull
use Rattle.run_engine.specs.Run.{Main, MayCome, New, Open, Run, Stage, Stands, at_start}
use Rattle.run_engine.specs.Taking.{AreEnded, handed}
use Rattle.run_engine.specs.declared.piece.Piece.{Piece}
use Rattle.run_engine.specs.declared.piece.Piece.TheVariants as piece

-- what is still to come of the main document: bytes, and whether it ends behind them
pub record Coming : Type 0 where
  pub bytes : List ℕ
  pub ended : Bool

abbrev pub nothing_yet : Coming
nothing_yet = record { bytes = []; ended = false }

-- what was to come before a piece came: bytes come first, and with its end the document has no more
abbrev pub with_piece : Piece → Coming → Coming
with_piece (piece.Bytes bytes) x = record x { bytes = bytes.now ++ x.bytes }
with_piece piece.End x = record { bytes = []; ended = true }
with_piece other x = x

-- The nodes that are still to come of the main document's open lists, and behind them the list in which the document node stands. Once
-- it was read to its end that is all.
abbrev pub to_come : List Open → Coming → Future
to_come [] x = End Begun 0 ∷ []
to_come (d ∷ ds) x = future d.source x.bytes x.ended ++ End Begun 0 ∷ []

-- What a run still gives while no other document is open, by its machine and by what the parts that were put leave of its output:
-- before it begins that is what its sheet means, and then what the machine still does.
abbrev pub more_at : Stage → Given → List Open → Machine → Left → Coming → Flat_does
more_at New given ds m left x = whole given (inner (to_come ds x))
more_at stage given ds m left x = rest given m left (to_come ds x)

abbrev pub more : Given → Run → Coming → Flat_does
more given r = more_at r.stage given r.documents r.machine r.output.left

-- Laws.

-- Before it begins it ends as its sheet does, and says the same, on the document that comes.
abbrev pub BeginsWithMeaning : Type 0
BeginsWithMeaning =
    (given : Given) (m : Machine) (x : Coming) (said : List Said) (e : Ending)
    → Ends (code given) (meaning given (doc_for given.limits given.sheet.strip given.sheet.cdata x.bytes x.ended)) said e
    ↔ Ends (flat_code given) (more given (at_start given.sheet given.limits m) x) said e

-- A piece that is handed to a run that asks for it is the first of what is to come.
abbrev pub PiecesComeFirst : Type 0
PiecesComeFirst =
    (given : Given) (r : Run) (p : Piece) (x : Coming) → r.stage ≡ Main → Stands r → MayCome r.stage p
    → more given (record r { documents = handed r p }) x ≡ more given r (with_piece p x)

abbrev pub bytes_in : Piece → List ℕ
bytes_in (piece.Bytes bytes) = bytes.now
bytes_in other = []

abbrev pub IsBytes : Piece → Type 0
IsBytes (piece.Bytes bytes) = Unit {0}
IsBytes other = ⊥

abbrev pub AreBytes : List Piece → Type 0
AreBytes [] = Unit {0}
AreBytes (p ∷ ps) = IsBytes p × AreBytes ps

-- what pieces are that come one after another
abbrev pub coming : List Piece → Coming
coming [] = nothing_yet
coming (p ∷ ps) = with_piece p (coming ps)

abbrev pub joined : List Piece → List ℕ
joined ps = concat (map bytes_in ps)

-- However bytes are cut into pieces, the same is to come.
abbrev pub CutsMakeNoDifference : Type 0
CutsMakeNoDifference = (ps : List Piece) → AreBytes ps → coming ps ≡ record { bytes = joined ps; ended = false }

-- Behind the end of a document nothing comes: not of pieces, and not to a run.
abbrev pub EndsThere : Type 0
EndsThere = (ps others : List Piece) → AreBytes ps → coming (ps ++ piece.End ∷ others) ≡ record { bytes = joined ps; ended = true }

abbrev pub TakesNoMore : Type 0
TakesNoMore =
    (given : Given) (r : Run) (x y : Coming) → AreEnded r.documents → more given r x ≡ more given r y

-- all nodes that the bytes of the document settle so far were told
abbrev pub WasTold : List Open → Type 0
WasTold [] = ⊥
WasTold (d ∷ ds) = (d.source.known ≡ []) × (pulled (future d.source [] false) ≡ pull.Need)

-- A run to which they were says nothing until more comes: it needs more.
abbrev pub WaitsForMore : Type 0
WaitsForMore =
    (given : Given) (r : Run) → r.stage ≡ Main → IsAsking r.machine → WasTold r.documents
    → Same (flat_code given) (more given r nothing_yet) (Halt Needs)
