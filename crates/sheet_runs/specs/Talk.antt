-- What an engine was handed and what it gave, one piece after another.
use Rattle.std.specs.Prelude.{◌≡◌, ℕ, Bool, true, false, ◌||◌, List, [], ◌∷◌, ◌++◌}
use Rattle.run_engine.specs.Does.{Does, InOrder}
use Rattle.run_engine.specs.Run.{Absents, Document, HasHead, IsSameRun, Main, MayCome, Run, Says, Stage, Stands, Wants}
use Rattle.run_engine.specs.Taking as taking
use Rattle.run_engine.specs.Taking.{handed}
use Rattle.run_engine.specs.declared.piece.Piece.{Piece}
use Rattle.run_engine.specs.declared.piece.Piece.TheVariants.{Absent, Bytes, End, Opened}
use Rattle.run_engine.specs.declared.piece.Pumped.{Pumped}

-- a piece, the bytes and the messages that were settled by it, what was asked for next, and how the run stood then
pub record Exchange : Type 0 where
  pub piece : Piece
  pub bytes : List ℕ
  pub notes : List ℕ
  pub asked : Pumped
  pub run : Run

-- an engine that stood so may give this
pub record Gives (r : Run) (x : Exchange) : Type 0 where
  pub may : MayCome r.stage x.piece
  pub says : Says x.asked x.run.stage
  pub stands : Stands x.run
  pub same : IsSameRun r x.run
  pub took : taking.Takes x.run.stage (handed r x.piece) x.run.documents
  pub absent : Absents x.piece x.run.stage
  pub head : HasHead x.piece [] x.run.stage x.bytes
  pub does : InOrder r → Does x.piece r x.run [] x.bytes [] x.notes

-- so an engine comes from one run to another
abbrev pub Leads : (start : Run) → List Exchange → (run : Run) → Type 0
Leads start [] run = run ≡ start
Leads start (x ∷ talk) run = Gives start x × Leads x.run talk run

-- all bytes that were settled, and all messages
abbrev pub bytes_in : List Exchange → List ℕ
bytes_in [] = []
bytes_in (x ∷ talk) = x.bytes ++ bytes_in talk

abbrev pub notes_in : List Exchange → List ℕ
notes_in [] = []
notes_in (x ∷ talk) = x.notes ++ notes_in talk

-- a piece's bytes of the main document
abbrev pub main_bytes : Stage → Piece → List ℕ
main_bytes Main (Bytes bytes) = bytes.now
main_bytes stage piece = []

-- all bytes of the main document that were handed in
abbrev pub main_in : (start : Run) → List Exchange → List ℕ
main_in start [] = []
main_in start (x ∷ talk) = main_bytes start.stage x.piece ++ main_in x.run talk

-- the piece is the main document's end
abbrev pub is_main_end : Stage → Piece → Bool
is_main_end Main End = true
is_main_end stage piece = false

-- the main document's end was handed in
abbrev pub main_ends : (start : Run) → List Exchange → Bool
main_ends start [] = false
main_ends start (x ∷ talk) = is_main_end start.stage x.piece || main_ends x.run talk

-- the name of the document of which a piece says whether it is there
abbrev pub name_asked : Stage → List (List ℕ)
name_asked (Wants name) = name ∷ []
name_asked stage = []

-- the names of the documents that were opened, or are absent, in order
abbrev pub names_in : (start : Run) → List Exchange → List (List ℕ)
names_in start [] = []
names_in start (x ∷ talk) = name_asked start.stage ++ names_in x.run talk

-- a document as far as it was handed in
pub record Part : Type 0 where
  pub name : List ℕ
  pub bytes : List ℕ

-- The documents beside the main one: those that go on, the newest first; those that were handed in to their end; and the names of which
-- it was said that there is none.
pub record Besides : Type 0 where
  pub going : List Part
  pub whole : List Part
  pub absent : List (List ℕ)

abbrev pub none_beside : Besides
none_beside = record { going = []; whole = []; absent = [] }

-- the newest goes on with bytes
abbrev pub more_in_first : (bytes : List ℕ) → List Part → List Part
more_in_first bytes [] = []
more_in_first bytes (p ∷ ps) = record p { bytes = p.bytes ++ bytes } ∷ ps

-- it ends
abbrev pub end_in_first : Besides → List Part → Besides
end_in_first b [] = b
end_in_first b (p ∷ ps) = record b { going = ps; whole = p ∷ b.whole }

-- what a piece says of them
abbrev pub beside_with : Stage → Piece → Besides → Besides
beside_with Document (Bytes bytes) b = record b { going = more_in_first bytes.now b.going }
beside_with Document End b = end_in_first b b.going
beside_with (Wants name) Opened b = record b { going = record { name = name; bytes = [] } ∷ b.going }
beside_with (Wants name) Absent b = record b { absent = name ∷ b.absent }
beside_with stage piece b = b

-- all that was said of them, behind what was said before
abbrev pub beside_in : (before : Besides) → (start : Run) → List Exchange → Besides
beside_in before start [] = before
beside_in before start (x ∷ talk) = beside_in (beside_with start.stage x.piece before) x.run talk
