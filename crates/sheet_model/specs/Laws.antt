-- What laws of the definitions say.
use Rattle.std.specs.Prelude.{◌≡◌, List, [], ◌∷◌, ◌++◌}
use Rattle.sheet_model.specs.Body.{all_of, children}
use Rattle.sheet_model.specs.declared.instr.Instr.{Instr}

-- One after another, instructions keep their order, and each is followed by those within it.
abbrev pub KeepsOrder : Type 0
KeepsOrder =
    ((a b : List Instr) → all_of (a ++ b) ≡ all_of a ++ all_of b)
    × ((i : Instr) → all_of (i ∷ []) ≡ i ∷ all_of (children i))
