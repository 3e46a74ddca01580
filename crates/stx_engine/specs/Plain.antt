-- Sheets by what their runs take.
use Rattle.std.specs.Prelude.{Bool, true, false, ◌||◌, not, ◌==◌, if◌then◌else◌, List, [], ◌∷◌, length, Option, Some, None, is_some}
use Rattle.std.specs.List.{list_all}
use Rattle.instr_code.specs.Code.{code_of}
use Rattle.instr_code.specs.declared.code.Code.{Code}
use Rattle.sheet_model.specs.Passing.{kinds}
use Rattle.sheet_model.specs.declared.instr.Instr.{Instr}
use Rattle.sheet_model.specs.declared.instr.Instr.TheOpen.{Instr-F}
use Rattle.sheet_model.specs.declared.instr.Instr.TheViews.{out-Instr}
use Rattle.sheet_model.specs.declared.instr.When.{When}
use Rattle.sheet_model.specs.declared.pass.Kinds.{Kinds}
use Rattle.sheet_model.specs.declared.sheet.Group.{Group}
use Rattle.sheet_model.specs.declared.sheet.Sheet.{Sheet}

-- the kinds that the root passes through
abbrev pub root_pass : List Group → Option Kinds
root_pass [] = None
root_pass (root ∷ groups) = Some (kinds root.pass)

abbrev pub has_some : {A : Type 0} → List A → Bool
has_some items = not (length items == 0)

-- The pass-through of a sheet without templates and variables, by which documents are taken as they are.
abbrev pub pass_of : Sheet → Option Kinds
pass_of sheet =
    if sheet.strip || (sheet.cdata || (has_some sheet.templates || has_some sheet.variables)) then None else root_pass sheet.groups

-- What can be run of a sheet: all of it, but where it only passes documents through its procedures, which nothing calls.
abbrev pub runnable : Sheet → Sheet
runnable sheet = if is_some (pass_of sheet) then record sheet { procedures = [] } else sheet

-- an instruction that asks for no other nodes, and puts no parts elsewhere
abbrev pub stays_in_order : Instr-F Instr When → Bool
stays_in_order (Instr-F.ProcessSiblings going until group params at) = false
stays_in_order (Instr-F.ProcessBuffer name group params at) = false
stays_in_order (Instr-F.ProcessDocument href group params at) = false
stays_in_order (Instr-F.ResultBuffer name clear body at) = false
stays_in_order x = true

-- all instructions are such ones
abbrev pub is_ordinary : Code → Bool
is_ordinary code = list_all (λ i. stays_in_order (out-Instr i)) code.instrs

-- A sheet takes the nodes of the main document alone, each list in order, where it is an ordinary one, or has nothing that runs instructions.
abbrev pub takes_in_order : Sheet → Bool
takes_in_order sheet = is_some (pass_of sheet) || is_ordinary (code_of sheet)
