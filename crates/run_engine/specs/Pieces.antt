-- How many pieces may still come to the documents that are open.
use Rattle.std.specs.Prelude.{◌≡◌, ◌≢◌, ◌≤◌, ◌<◌, ℕ, suc, ◌+◌, ◌-◌, ◌*◌, if◌then◌else◌, List, [], ◌∷◌, Option, Some, None}
use Rattle.xml_tokens.specs.Reader.{fed}
use Rattle.xml_events.specs.Source.{Source}
use Rattle.run_engine.specs.declared.piece.Piece.{Piece}
use Rattle.run_engine.specs.declared.piece.Piece.TheVariants as piece
use Rattle.run_engine.specs.Asks.{AsksFewer, asks_handed, asks_left, of_main}
use Rattle.run_engine.specs.Run.{Document, IsSameRun, Main, MayCome, Open, Run, Stage, Stands, Wants}
use Rattle.run_engine.specs.Taking.{Takes, Took, handed}

-- what is another document's than the main one
abbrev pub of_other : (name : Option (List ℕ)) → ℕ → ℕ
of_other None n = 0
of_other (Some name) n = n

-- at most so many pieces come to a document: a byte each, no more than it may have but for one, and its end
abbrev pub pieces_of : Source → ℕ
pieces_of s = if s.lexer.ended then 0 else suc (suc s.lexer.limits.input - fed s.lexer)

abbrev pub main_pieces : List Open → ℕ
main_pieces [] = 0
main_pieces (d ∷ ds) = of_main d.name (pieces_of d.source) + main_pieces ds

abbrev pub other_pieces : List Open → ℕ
other_pieces [] = 0
other_pieces (d ∷ ds) = of_other d.name (pieces_of d.source) + other_pieces ds

-- bytes, or the end of a document
abbrev pub IsRead : Piece → Type 0
IsRead (piece.Bytes bytes) = bytes.now ≢ []
IsRead piece.End = Unit {0}
IsRead other = ⊥

-- the document that is asked for has one piece fewer to come
abbrev pub Falls : Stage → (main main' other other' : ℕ) → Type 0
Falls Main m m' o o' = (m' < m) × (o' ≡ o)
Falls Document m m' o o' = (m' ≡ m) × (o' < o)
Falls stage m m' o o' = Unit {0}

abbrev pub PiecesFall : Type 0
PiecesFall =
    (r : Run) (p : Piece) → Stands r → IsRead p → MayCome r.stage p
    → Falls r.stage (main_pieces r.documents) (main_pieces (handed r p)) (other_pieces r.documents) (other_pieces (handed r p))

-- documents that were read on wait for no more pieces
abbrev pub PiecesStay : Type 0
PiecesStay = (before after : List Open) → Took before after → (main_pieces after ≤ main_pieces before) × (other_pieces after ≤ other_pieces before)

-- a document that is opened waits for as many as its limit says, its end, and one
abbrev pub PiecesOpen : Type 0
PiecesOpen =
    (r : Run) (name : List ℕ) → r.stage ≡ Wants name
    → (main_pieces (handed r piece.Opened) ≡ main_pieces r.documents) × (other_pieces (handed r piece.Opened) ≡ r.limits.input + 2 + other_pieces r.documents)

-- what doesn't come to the main document changes nothing of the documents that may be asked for
abbrev pub AreOthers : Stage → Type 0
AreOthers Main = ⊥
AreOthers stage = Unit {0}

abbrev pub AsksStay : Type 0
AsksStay = (r : Run) (p : Piece) → Stands r → AreOthers r.stage → MayCome r.stage p → asks_handed r p ≡ asks_left r

-- a run waits for another document, or for its pieces
abbrev pub IsGoing : Stage → Type 0
IsGoing Document = Unit {0}
IsGoing (Wants name) = Unit {0}
IsGoing stage = ⊥

-- bytes that come are some
abbrev pub HasBytes : Piece → Type 0
HasBytes (piece.Bytes bytes) = bytes.now ≢ []
HasBytes other = Unit {0}

abbrev pub opening : Stage → (limit : ℕ) → ℕ
opening (Wants name) limit = limit + 3
opening stage limit = 0

-- so many answers come at most before the main document goes on, or the run is over
abbrev pub waits_left : Run → ℕ
waits_left r = asks_left r * (r.limits.input + 4) + other_pieces r.documents + opening r.stage r.limits.input

-- each answer to a piece that doesn't come to the main document is one of these
abbrev pub WaitsFall : Type 0
WaitsFall =
    (old new : Run) (p : Piece) → Stands old → IsGoing old.stage → MayCome old.stage p → HasBytes p → IsSameRun old new
    → Takes new.stage (handed old p) new.documents → AsksFewer new.stage (asks_handed old p) (asks_left new) → IsGoing new.stage
    → waits_left new < waits_left old
