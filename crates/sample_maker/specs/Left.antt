-- What a sample still gives, by its next piece.
use Rattle.std.specs.Prelude.{ℕ, suc, ◌+◌, ◌^◌, ◌<◌, List, [], ◌∷◌, ◌++◌, Option, Some, None}
use Rattle.sample_maker.specs.Document.{head, foot, record_text, records_from, pieces}
use Rattle.sample_maker.specs.declared.piece.Piece.{Piece}
use Rattle.sample_maker.specs.declared.piece.Piece.TheVariants.{Head, Record, Foot}

-- the text of a piece
abbrev pub text_of : Piece → List ℕ
text_of (Head records) = head
text_of (Record number others) = record_text number
text_of Foot = foot

-- the piece and those behind it
abbrev pub left : Option Piece → List (List ℕ)
left None = []
left (Some (Head records)) = pieces records
left (Some (Record number others)) = records_from number (suc others) ++ foot ∷ []
left (Some Foot) = foot ∷ []

-- each number that is still to come fits 64 bits
abbrev pub IsNumbered : Option Piece → Type 0
IsNumbered None = Unit {0}
IsNumbered (Some (Head records)) = records < 2 ^ 64
IsNumbered (Some (Record number others)) = number + others < 2 ^ 64
IsNumbered (Some Foot) = Unit {0}
