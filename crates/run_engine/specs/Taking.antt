-- What becomes of the documents that are open.
use Rattle.std.specs.Prelude.{◌≡◌, ℕ, true, List, [], ◌∷◌, ◌++◌, Some}
use Rattle.xml_tokens.specs.Reader.{fed}
use Rattle.xml_events.specs.Source.{ended_there, fed_with, source_for}
use Rattle.fault_report.specs.declared.outcome.Outcome.TheVariants as outcome
use Rattle.run_engine.specs.Run.{Open, Over, Run, Stage, Wants}
use Rattle.run_engine.specs.declared.piece.Piece.{Piece}
use Rattle.run_engine.specs.declared.piece.Piece.TheVariants as piece

-- the newest document is handed bytes
abbrev pub fed_first : (bytes : List ℕ) → List Open → List Open
fed_first bytes [] = []
fed_first bytes (d ∷ ds) = record d { source = fed_with d.source bytes } ∷ ds

-- it ends
abbrev pub ended_first : List Open → List Open
ended_first [] = []
ended_first (d ∷ ds) = record d { source = ended_there d.source } ∷ ds

-- the wanted document is the newest
abbrev pub opened_first : Run → Stage → List Open
opened_first r (Wants name) = record { name = Some name; source = source_for r.limits r.strip r.cdata } ∷ r.documents
opened_first r other = r.documents

-- the open documents, once a piece was handed in
abbrev pub handed : Run → Piece → List Open
handed r piece.Start = r.documents
handed r (piece.Bytes bytes) = fed_first bytes.now r.documents
handed r piece.End = ended_first r.documents
handed r piece.Opened = opened_first r r.stage
handed r piece.Absent = r.documents

-- a document was read on: no byte was handed to it, and it has ended or not as before
pub record IsReadOn (before after : Open) : Type 0 where
  pub name : after.name ≡ before.name
  pub fed_is : fed after.source.lexer ≡ fed before.source.lexer
  pub ended : after.source.lexer.ended ≡ before.source.lexer.ended
  pub limits : after.source.lexer.limits ≡ before.source.lexer.limits

abbrev pub AreReadOn : (before after : List Open) → Type 0
AreReadOn [] [] = Unit {0}
AreReadOn (b ∷ bs) (a ∷ xs) = IsReadOn b a × AreReadOn bs xs
AreReadOn bs xs = ⊥

-- documents that have ended
abbrev pub AreEnded : List Open → Type 0
AreEnded [] = Unit {0}
AreEnded (d ∷ ds) = (d.source.lexer.ended ≡ true) × AreEnded ds

-- documents were read on, and the newest ones are gone, if they have ended
pub record Took (before after : List Open) : Type 0 where
  pub gone : List Open
  pub kept : List Open
  pub parts : before ≡ gone ++ kept
  pub ended : AreEnded gone
  pub on : AreReadOn kept after

-- so it is behind a piece, unless memory was wanting
abbrev pub Takes : Stage → (before after : List Open) → Type 0
Takes (Over outcome.Memory) before after = Unit {0}
Takes s before after = Took before after
