-- The code of a sheet.
use Rattle.std.specs.Prelude.{ℕ, ◌+◌, List, [], ◌∷◌, ◌++◌, map}
use Rattle.instr_code.specs.Bare.{bare_instructions, without_bodies}
use Rattle.instr_code.specs.Layout.{body_piece}
use Rattle.instr_code.specs.Piece.{Piece, in_order}
use Rattle.instr_code.specs.declared.code.Code.{Code}
use Rattle.instr_code.specs.declared.code.Compiled.{Compiled}
use Rattle.sheet_model.specs.declared.instr.Instr.{Instr}
use Rattle.sheet_model.specs.declared.sheet.Procedure.{Procedure}
use Rattle.sheet_model.specs.declared.sheet.Sheet.{Sheet}
use Rattle.sheet_model.specs.declared.sheet.Template.{Template}

-- the bodies, the templates' first
abbrev pub sheet_bodies : Sheet → List (List Instr)
sheet_bodies sheet = map (λ (t : Template). t.body) sheet.templates ++ map (λ (p : Procedure). p.body) sheet.procedures

-- where pieces begin that stand one behind another from a place on
abbrev pub starts : (place : ℕ) → List Piece → List ℕ
starts place [] = []
starts place (b ∷ bs) = place ∷ starts (place + b.size) bs

abbrev pub code_of : Sheet → Code
code_of sheet =
    let pieces = map body_piece (sheet_bodies sheet) in
    record { ops = (in_order pieces).ops 0 0; starts = starts 0 pieces; instrs = bare_instructions sheet }

abbrev pub compiled_of : Sheet → Compiled
compiled_of sheet = record { sheet = without_bodies sheet; code = code_of sheet }
