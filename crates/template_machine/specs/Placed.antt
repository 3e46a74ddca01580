-- That each operation of a body leads on within its own code.
use Rattle.std.specs.Prelude.{ℕ, ◌-◌, ◌<◌, ◌≤◌}
use Rattle.instr_code.specs.Code.{code_of}
use Rattle.instr_code.specs.declared.code.Op.{Op}
use Rattle.instr_code.specs.declared.code.Op.TheVariants as op
use Rattle.sheet_model.specs.declared.sheet.Sheet.{Sheet}
use Rattle.template_machine.specs.Programs.{IsIn, end_of}

-- an operation leads on within these places, from the first to the last
abbrev pub LeadsWithin : (first last place : ℕ) → Op → Type 0
LeadsWithin first last place (op.Open n to) = (place < last) × (first ≤ to) × (to ≤ last)
LeadsWithin first last place (op.Test n arm to) = (place < last) × (first ≤ to) × (to ≤ last)
LeadsWithin first last place (op.Turn n to) = (place < last) × (first ≤ to) × (to ≤ last)
LeadsWithin first last place (op.Jump to) = (first ≤ to) × (to ≤ last)
LeadsWithin first last place op.Return = Unit {0}
LeadsWithin first last place o = place < last

-- Each operation of a body's code leads on within it.
abbrev pub BodiesStayWithin : Type 0
BodiesStayWithin =
    (sheet : Sheet) (body place : ℕ) (o : Op) → (i : IsIn (code_of sheet) body place o) → LeadsWithin i.start (end_of (code_of sheet) body - 1) place o
