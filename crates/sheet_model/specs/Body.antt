-- Bodies as trees: what stands within an instruction, how deep instructions nest, and their order in the text.
use Rattle.std.specs.Prelude.{ℕ, zero, suc, ◌+◌, List, [], ◌∷◌, ◌++◌, map}
use Rattle.std.specs.List.{flat_map}
use Rattle.stxpath_syntax.specs.Shape.{greatest}
use Rattle.sheet_model.specs.declared.instr.Instr.{Instr}
use Rattle.sheet_model.specs.declared.instr.Instr.TheFolds.{fold-Instr}
use Rattle.sheet_model.specs.declared.instr.Instr.TheOpen.{Instr-F, When-F}
use Rattle.sheet_model.specs.declared.instr.Instr.TheViews.{out-Instr}
use Rattle.sheet_model.specs.declared.sheet.Procedure.{Procedure}
use Rattle.sheet_model.specs.declared.sheet.Sheet.{Sheet}
use Rattle.sheet_model.specs.declared.sheet.Template.{Template}

-- what stands directly within an instruction, in the order of the text, where a branch gives the list of its body
abbrev pub inner : {A B : Type 0} → (B → List A) → Instr-F A B → List A
inner branch (Instr-F.Copy attributes body at) = body
inner branch (Instr-F.Element name namespace scope body at) = body
inner branch (Instr-F.If test body other at) = body ++ other
inner branch (Instr-F.Choose whens other at) = flat_map branch whens ++ other
inner branch (Instr-F.ForEachItem name select body at) = body
inner branch (Instr-F.While test body at) = body
inner branch (Instr-F.ResultBuffer name clear body at) = body
inner branch (Instr-F.Literal name attrs body at) = body
inner branch x = []

abbrev pub children : Instr → List Instr
children i = inner (λ w. w.body) (out-Instr i)

abbrev pub layer_nesting : Instr-F ℕ (List ℕ) → ℕ
layer_nesting x = greatest (inner (λ branch. branch) x) + 1

abbrev pub branch_nesting : When-F ℕ (List ℕ) → List ℕ
branch_nesting w = w.body

-- how deep instructions nest in an instruction, itself counted
unfoldable pub nesting : Instr → ℕ
nesting = fold-Instr ℕ (List ℕ) layer_nesting branch_nesting

-- how deep they nest in a body, which is 0 where it is empty
abbrev pub body_nesting : List Instr → ℕ
body_nesting body = greatest (map nesting body)

-- the instructions of a body in the order of the text, so many levels deep: each one before those within it
abbrev pub in_order : (levels : ℕ) → List Instr → List Instr
in_order zero body = []
in_order (suc n) body = flat_map (λ i. i ∷ in_order n (children i)) body

-- the bodies of a sheet, the templates' first
abbrev pub bodies : Sheet → List Instr
bodies sheet = flat_map (λ (t : Template). t.body) sheet.templates ++ flat_map (λ (p : Procedure). p.body) sheet.procedures

-- the deepest nesting of instructions in a body of a sheet
abbrev pub sheet_nesting : Sheet → ℕ
sheet_nesting sheet = body_nesting (bodies sheet)

-- all instructions of a body
abbrev pub all_of : List Instr → List Instr
all_of body = in_order (body_nesting body) body

-- all instructions of a sheet: each has its place here as its number
abbrev pub instructions : Sheet → List Instr
instructions sheet = all_of (bodies sheet)
