-- What a program holds of its sheet.
use Rattle.std.specs.Prelude.{◌≡◌, ℕ, zero, suc, ◌+◌, ◌-◌, ◌<◌, ◌≤◌, Bool, true, false, max, List, [], ◌∷◌, ◌++◌, Option, Some, None, length, map, slice_get, unwrap_or}
use Rattle.std.specs.Option.{option_and_then, option_map_or, option_or}
use Rattle.stx_base.specs.declared.limits.Limits.{Limits}
use Rattle.stx_base.specs.declared.node.NodeTest.TheVariants as test
use Rattle.stx_base.specs.declared.part.Part.{Part}
use Rattle.stx_base.specs.declared.part.Part.TheVariants as part
use Rattle.group_scope.specs.Scopes.{IsScopeOf}
use Rattle.instr_code.specs.Bare.{without_bodies}
use Rattle.instr_code.specs.Code.{code_of}
use Rattle.instr_code.specs.declared.code.Code.{Code}
use Rattle.instr_code.specs.declared.code.Op.{Op}
use Rattle.instr_code.specs.declared.code.Op.TheVariants as op
use Rattle.sheet_model.specs.Parts.{base_named, buffer_named, procedure_named}
use Rattle.sheet_model.specs.declared.instr.Instr.{Instr}
use Rattle.sheet_model.specs.declared.instr.Instr.TheOpen.{Instr-F}
use Rattle.sheet_model.specs.declared.instr.Instr.TheViews.{out-Instr}
use Rattle.sheet_model.specs.declared.instr.When.{When}
use Rattle.sheet_model.specs.declared.sheet.Buffer.{Buffer}
use Rattle.sheet_model.specs.declared.sheet.Procedure.{Procedure}
use Rattle.sheet_model.specs.declared.sheet.Sheet.{Sheet}
use Rattle.sheet_model.specs.declared.sheet.Template.{Template}
use Rattle.stxpath_syntax.specs.declared.expr.Alternative.{Alternative}
use Rattle.template_machine.specs.Finding.{base_of, buffer_seen, procedure_seen}
use Rattle.template_machine.specs.declared.program.Link.{Link}
use Rattle.template_machine.specs.declared.program.Program.{Program}

-- Links.

-- the procedure or the buffer that an instruction names which stands in a group
abbrev pub named_in : Sheet → (group : ℕ) → Instr-F Instr When → Option ℕ
named_in s g x =
    option_or (option_and_then (procedure_seen s g) (procedure_named x)) (option_and_then (buffer_seen s g) (buffer_named x))

-- what it leads to: the base group for the nodes that it processes, and what it names; 0 where it names none
abbrev pub layer_link : Sheet → (group : ℕ) → Instr-F Instr When → Link
layer_link s g x = record { base = base_of s (base_named x) g; named = unwrap_or (named_in s g x) 0 }

abbrev pub link_of : Sheet → (group : ℕ) → Instr → Link
link_of s g i = layer_link s g (out-Instr i)

-- the number of an operation's instruction
abbrev pub instr_of : Op → Option ℕ
instr_of (op.Do n) = Some n
instr_of (op.Begin n) = Some n
instr_of (op.Open n to) = Some n
instr_of (op.Close n) = Some n
instr_of (op.Test n arm to) = Some n
instr_of (op.Turn n to) = Some n
instr_of (op.Jump to) = None
instr_of (op.Drop count) = None
instr_of op.Return = None

-- the group of each body, in the order of their code
abbrev pub groups_of : Sheet → List ℕ
groups_of s = map (λ (t : Template). t.group) s.templates ++ map (λ (p : Procedure). p.group) s.procedures

-- where the code of a body ends: where that of the next one begins
abbrev pub end_of : Code → (body : ℕ) → ℕ
end_of code body = unwrap_or (slice_get code.starts (suc body)) (length code.ops)

-- a place is of a body's code
pub record IsWithin (code : Code) (body place : ℕ) : Type 0 where
  pub start : ℕ
  pub starts : slice_get code.starts body ≡ Some start
  pub behind : start ≤ place
  pub before : place < end_of code body

-- an operation at a place of a body's code
pub record IsIn (code : Code) (body place : ℕ) (o : Op) : Type 0 where
  pub start : ℕ
  pub starts : slice_get code.starts body ≡ Some start
  pub behind : start ≤ place
  pub before : place < end_of code body
  pub stands : slice_get code.ops place ≡ Some o

-- an instruction of a body: some operation there is for it
abbrev pub IsOf : Code → (body number : ℕ) → Type 0
IsOf code body number = (place : ℕ) × (o : Op) × IsIn code body place o × (instr_of o ≡ Some number)

-- the instruction of a number is linked from a group
abbrev pub IsLinked : Sheet → Code → List Link → (group number : ℕ) → Type 0
IsLinked s code links group number = (i : Instr) → slice_get code.instrs number ≡ Some i → slice_get links number ≡ Some (link_of s group i)

-- each instruction of a body is linked from the body's group
abbrev pub AreLinked : Sheet → Code → List Link → Type 0
AreLinked s code links =
    (body group number : ℕ) → slice_get (groups_of s) body ≡ Some group → IsOf code body number → IsLinked s code links group number

-- Each body has its code, and no instruction is of two of them.
pub record IsLaidOut (s : Sheet) (code : Code) : Type 0 where
  pub bodies : length code.starts ≡ length (groups_of s)
  pub rising : (body start : ℕ) → slice_get code.starts body ≡ Some start → start ≤ end_of code body
  pub within : (body : ℕ) → end_of code body ≤ length code.ops
  pub numbered : (place number : ℕ) (o : Op) → slice_get code.ops place ≡ Some o → instr_of o ≡ Some number → number < length code.instrs
  pub apart : (body other number : ℕ) → IsOf code body number → IsOf code other number → body ≡ other

-- How many elements may be open in a buffer.

-- how many are open behind a part, where so many were
abbrev pub open_behind : ℕ → Part → ℕ
open_behind n (part.Start name scope) = n + 1
open_behind n (part.End name) = n - 1
open_behind n p = n

-- how many of them are open at once, where so many were at first
abbrev pub deepest_from : ℕ → List Part → ℕ
deepest_from n [] = n
deepest_from n (p ∷ ps) = max n (deepest_from (open_behind n p) ps)

abbrev pub deepest : List Part → ℕ
deepest = deepest_from 0

-- as many as parts that are put may leave open, or as declared content has
abbrev pub deepest_of : ℕ → List Buffer → ℕ
deepest_of n [] = n
deepest_of n (b ∷ bs) = max (deepest b.content) (deepest_of n bs)

abbrev pub buffer_depth : Sheet → Limits → ℕ
buffer_depth s limits = deepest_of limits.elements s.buffers

-- The program of a sheet: the sheet without its bodies, and their code.
pub record IsProgramOf (s : Sheet) (limits : Limits) (p : Program) : Type 0 where
  pub sheet_is : p.sheet ≡ without_bodies s
  pub code_is : p.code ≡ code_of s
  pub scope_is : IsScopeOf p.sheet p.scope
  pub all_linked : length p.links ≡ length p.code.instrs
  pub links_are : AreLinked p.sheet p.code p.links
  pub limits_are : p.limits ≡ limits
  pub depth_is : p.buffer_depth ≡ buffer_depth s limits
  pub root_is : p.test_of_root ≡ test.Document

-- What the operation at a place is for.

abbrev pub done_by : Op → Option ℕ
done_by (op.Do n) = Some n
done_by o = None

-- the number of the instruction that it runs, and that itself, and its link
abbrev pub number_at : Code → (place : ℕ) → Option ℕ
number_at code place = option_and_then done_by (slice_get code.ops place)

abbrev pub instr_at : Code → (place : ℕ) → Option Instr
instr_at code place = option_and_then (λ n. slice_get code.instrs n) (number_at code place)

abbrev pub link_at : Program → (place : ℕ) → Option Link
link_at p place = option_and_then (λ n. slice_get p.links n) (number_at p.code place)

abbrev pub asks_for_children : Instr-F Instr When → Bool
asks_for_children (Instr-F.ProcessChildren group params at) = true
asks_for_children x = false

-- the operation before a place asks for the children of a node
abbrev pub is_behind_children : Code → (place : ℕ) → Bool
is_behind_children code zero = false
is_behind_children code (suc place) = option_map_or (λ i. asks_for_children (out-Instr i)) (instr_at code place) false

-- the alternatives of a template
abbrev pub alternatives_of : Sheet → (template : ℕ) → List Alternative
alternatives_of s template = option_map_or (λ (t : Template). t.pattern.alternatives) (slice_get s.templates template) []
