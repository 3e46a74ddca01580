-- How a template is read, piece by piece.
use Rattle.std.specs.Prelude.{◌≡◌, ℕ, ◌+◌, ◌<◌, ◌≤◌, List, [], ◌∷◌, ◌++◌, Result, Ok, Err, length, drop, ⊤}
use Rattle.stx_base.specs.declared.name.Binding.{Binding}
use Rattle.stxpath_syntax.specs.declared.avt.Cut.{Cut}
use Rattle.stxpath_syntax.specs.declared.avt.Piece.{Piece}
use Rattle.stxpath_syntax.specs.declared.avt.Piece.TheVariants as piece
use Rattle.stxpath_syntax.specs.declared.dialect.Dialect.{Dialect}
use Rattle.stxpath_syntax.specs.declared.expr.AvtPart.{AvtPart}
use Rattle.stxpath_syntax.specs.declared.expr.AvtPart.TheVariants.{Chars, Value}
use Rattle.stxpath_syntax.specs.declared.fault.ParseFault.{ParseFault}
use Rattle.stxpath_syntax.specs.declared.fault.ParseFault.TheVariants as fault
use Rattle.stxpath_syntax.specs.Template.{Read, Template, with_char, with_value}

-- a piece before parts
abbrev pub with_piece : Piece → Read (List AvtPart) → Read (List AvtPart)
with_piece (piece.Plain c) = with_char c
with_piece (piece.Value value) = with_value value

-- the piece at the front, whatever follows it, or the fault there
abbrev pub Cuts : Dialect → List Binding → ℕ → List ℕ → Result Cut ParseFault → Type 0
Cuts dialect scope at text (Ok cut) =
    (0 < cut.len) × (cut.len ≤ length text)
    × ((parts : Read (List AvtPart)) → Template dialect scope (at + cut.len) (drop cut.len text) parts → Template dialect scope at text (with_piece cut.piece parts))
Cuts dialect scope at text (Err (fault.Path f)) = Template dialect scope at text (Err f)
Cuts dialect scope at text (Err fault.Memory) = ⊤

-- plain characters as a part, if there are some
abbrev pub flushed : List ℕ → List AvtPart
flushed [] = []
flushed (c ∷ cs) = Chars (c ∷ cs) ∷ []

-- plain characters before parts
abbrev pub with_chars : List ℕ → Read (List AvtPart) → Read (List AvtPart)
with_chars [] parts = parts
with_chars (c ∷ cs) parts = with_char c (with_chars cs parts)

-- parts before others
abbrev pub with_parts : List AvtPart → Read (List AvtPart) → Read (List AvtPart)
with_parts before (Ok parts) = Ok (before ++ parts)
with_parts before (Err why) = Err why

-- parts and plain characters behind them, with one piece more
abbrev pub Appended : List AvtPart → List ℕ → Piece → List AvtPart → List ℕ → Type 0
Appended before plain (piece.Plain c) after chars = (after ≡ before) × (chars ≡ plain ++ c ∷ [])
Appended before plain (piece.Value value) after chars = (after ≡ before ++ flushed plain ++ Value value ∷ []) × (chars ≡ [])
