-- Instructions and sheets without what stands inside them.
use Rattle.std.specs.Prelude.{List, [], map}
use Rattle.sheet_model.specs.Body.{instructions}
use Rattle.sheet_model.specs.declared.instr.Instr.{Instr}
use Rattle.sheet_model.specs.declared.instr.Instr.TheOpen.{Instr-F}
use Rattle.sheet_model.specs.declared.instr.Instr.TheViews.{out-Instr, roll-Instr}
use Rattle.sheet_model.specs.declared.instr.When.{When}
use Rattle.sheet_model.specs.declared.sheet.Procedure.{Procedure}
use Rattle.sheet_model.specs.declared.sheet.Sheet.{Sheet}
use Rattle.sheet_model.specs.declared.sheet.Template.{Template}

-- a branch keeps its test
abbrev pub bare_when : When → When
bare_when w = record w { body = [] }

abbrev pub bare_layer : Instr-F Instr When → Instr-F Instr When
bare_layer (Instr-F.Copy attributes body at) = Instr-F.Copy attributes [] at
bare_layer (Instr-F.Element name namespace scope body at) = Instr-F.Element name namespace scope [] at
bare_layer (Instr-F.If test body other at) = Instr-F.If test [] [] at
bare_layer (Instr-F.Choose whens other at) = Instr-F.Choose (map bare_when whens) [] at
bare_layer (Instr-F.ForEachItem name select body at) = Instr-F.ForEachItem name select [] at
bare_layer (Instr-F.While test body at) = Instr-F.While test [] at
bare_layer (Instr-F.ResultBuffer name clear body at) = Instr-F.ResultBuffer name clear [] at
bare_layer (Instr-F.Literal name attrs body at) = Instr-F.Literal name attrs [] at
bare_layer x = x

-- an instruction with empty lists in place of those inside
abbrev pub bare : Instr → Instr
bare i = roll-Instr (bare_layer (out-Instr i))

-- all instructions of a sheet, each by its number
abbrev pub bare_instructions : Sheet → List Instr
bare_instructions sheet = map bare (instructions sheet)

abbrev pub template_without_body : Template → Template
template_without_body t = record t { body = [] }

abbrev pub procedure_without_body : Procedure → Procedure
procedure_without_body p = record p { body = [] }

-- a sheet with empty bodies
abbrev pub without_bodies : Sheet → Sheet
without_bodies sheet =
    record sheet { templates = map template_without_body sheet.templates; procedures = map procedure_without_body sheet.procedures }
