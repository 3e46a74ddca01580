-- A run at work.
use Rattle.std.specs.Prelude.{◌≡◌, ℕ, suc, ◌<◌, Bool, true, false, List, [], ◌∷◌, ◌++◌, ◌⊎◌, Option, Some, None, All, length, map, reverse, slice_get}
use Rattle.frame_stack.specs.Change.{changed, with_locals}
use Rattle.frame_stack.specs.Stack.{with_frames}
use Rattle.frame_stack.specs.declared.frame.Frame.{Frame}
use Rattle.frame_stack.specs.declared.frame.Frame.TheVariants.{Body}
use Rattle.frame_stack.specs.declared.locals.Local.{Local}
use Rattle.instr_code.specs.declared.code.Code.{Code}
use Rattle.sheet_model.specs.Parts.{expressions, templates}
use Rattle.sheet_model.specs.declared.instr.Instr.{Instr}
use Rattle.sheet_model.specs.declared.instr.Instr.TheOpen.{Instr-F}
use Rattle.sheet_model.specs.declared.instr.Instr.TheViews.{out-Instr}
use Rattle.sheet_model.specs.declared.instr.When.{When}
use Rattle.sheet_model.specs.declared.sheet.Template.{Template}
use Rattle.stx_base.specs.declared.name.Name.{Name}
use Rattle.stxpath_syntax.specs.Shape.{CanBeEvaluated}
use Rattle.stxpath_values.specs.declared.value.Atom.{Atom}
use Rattle.node_stack.specs.Path.{can_end, can_have_children, document_alone}
use Rattle.node_stack.specs.Stack.{path}
use Rattle.template_machine.specs.Bodies.{body_in, pc_in, spent_in}
use Rattle.template_machine.specs.Contexts.{Choices, HasForm, Walks}
use Rattle.template_machine.specs.Evaluating.{TemplateCanBeEvaluated}
use Rattle.template_machine.specs.Sources.{Stands}
use Rattle.template_machine.specs.Ways.{here, way_of}
use Rattle.template_machine.specs.Moments.{HasHead, StandsAsBefore}
use Rattle.template_machine.specs.Well.{IsWaiting, IsWell, PassesBy}
use Rattle.template_machine.specs.declared.program.Link.{Link}
use Rattle.template_machine.specs.declared.program.Program.{Program}
use Rattle.template_machine.specs.declared.run.Doing.TheVariants as doing
use Rattle.template_machine.specs.declared.run.Run.{Run}
use Rattle.template_machine.specs.declared.source.Ahead.TheVariants as ahead
use Rattle.template_machine.specs.declared.source.Origin.{Origin}

-- The body at a place goes on.
pub record Runs (p : Program) (r : Run) (body : ℕ) : Type 0 where
  pub well : IsWell p r
  pub doing : r.doing ≡ doing.Body
  pub place : body_in (reverse r.frames.frames) ≡ Some body

-- The body at a place waits for the instruction of an operation.
pub record Awaits (p : Program) (r : Run) (asked body : ℕ) : Type 0 where
  pub waits : IsWaiting p r
  pub pc : pc_in (reverse r.frames.frames) ≡ Some (suc asked)
  pub place : body_in (reverse r.frames.frames) ≡ Some body

-- a template's body of a level, whose node's children are gone or not
abbrev pub IsTemplateBody : (template level : ℕ) → (spent : Bool) → Option Frame → Type 0
IsTemplateBody template level spent x =
    (alternative : ℕ) × ((pc : ℕ) × ((locals : List Local) × (x ≡ Some (Body template alternative pc locals level spent))))

-- Instructions.

-- each expression and each template of an instruction can be evaluated
pub record CanBeRun (i : Instr) : Type 0 where
  pub expressions : All CanBeEvaluated (expressions (λ (w : When). w.test) (out-Instr i))
  pub templates : All TemplateCanBeEvaluated (templates (out-Instr i))

-- it puts parts, or says a message, in one step
abbrev pub puts : {A B : Type 0} → Instr-F A B → Bool
puts (Instr-F.ValueOf select separator at) = true
puts (Instr-F.Chars text at) = true
puts (Instr-F.StartElement name namespace scope at) = true
puts (Instr-F.EndElement name namespace scope at) = true
puts (Instr-F.Attribute name namespace scope content at) = true
puts (Instr-F.Comment content at) = true
puts (Instr-F.Pi name scope content at) = true
puts (Instr-F.Message content at) = true
puts (Instr-F.LiteralChars text at) = true
puts x = false

-- it stays at the current node and in its body
abbrev pub StaysHere : {A B : Type 0} → Instr-F A B → Type 0
StaysHere (Instr-F.CallProcedure name params at) = ⊥
StaysHere (Instr-F.ProcessChildren group params at) = ⊥
StaysHere (Instr-F.ProcessAttributes group params at) = ⊥
StaysHere (Instr-F.ProcessSelf group params at) = ⊥
StaysHere (Instr-F.ProcessSiblings going until group params at) = ⊥
StaysHere (Instr-F.ProcessBuffer name group params at) = ⊥
StaysHere (Instr-F.ProcessDocument href group params at) = ⊥
StaysHere x = Unit {0}

-- the instruction of a number chooses one of several branches, or is a loop over items
abbrev pub IsChoice : Code → (number : ℕ) → Type 0
IsChoice code n = (branches : ℕ) × HasForm code n (Choices branches)

abbrev pub IsWalk : Code → (number : ℕ) → Type 0
IsWalk code n = (name : Name) × HasForm code n (Walks name)

-- Procedures.

-- an instruction names a procedure that there is
abbrev pub HasProcedure : Program → (number : ℕ) → Type 0
HasProcedure p n = (l : Link) × ((slice_get p.links n ≡ Some l) × (l.named < length p.sheet.procedures))

-- Instructions that process nodes.

-- an instruction names a buffer that there is
abbrev pub HasBuffer : Program → (number : ℕ) → Type 0
HasBuffer p n = (l : Link) × ((slice_get p.links n ≡ Some l) × (l.named < length p.sheet.buffers))

-- the base group for the nodes that an instruction asks for is there
abbrev pub HasBase : Program → (number : ℕ) → Type 0
HasBase p n = (l : Link) × ((slice_get p.links n ≡ Some l) × (l.base < length p.sheet.groups))

-- locals without a name, with these values
pub record WaitAs (values : List (List Atom)) (waiting : List Local) : Type 0 where
  pub values_are : map (λ (x : Local). x.value) waiting ≡ values
  pub nameless : All (λ (x : Local). x.name.local ≡ []) waiting

-- these values wait as the last locals of a body
abbrev pub PushesWaiting : (values : List (List Atom)) → (body : ℕ) → (old new : Run) → Type 0
PushesWaiting values body old new =
    (waiting : List Local) × (WaitAs values waiting
    × (new ≡ record old { frames = with_frames (changed (with_locals (λ ls. ls ++ waiting)) body old.frames.frames) old.frames }))

-- the current node, which can wait for its siblings, has children, and they aren't gone
pub record CanBeSkipped (r : Run) : Type 0 where
  pub end : can_end (here (way_of (path r.source.stack))) ≡ true
  pub list : can_have_children (here (way_of (path r.source.stack))) ≡ true
  pub unspent : spent_in (reverse r.frames.frames) ≡ Some false

-- Templates.

-- An alternative of a template was chosen whose test the current node passes.
pub record IsChosen (p : Program) (r : Run) (template alternative : ℕ) : Type 0 where
  pub declared : Template
  pub is : slice_get p.sheet.templates template ≡ Some declared
  pub passes_by : PassesBy p declared alternative (here (way_of (path r.source.stack)))

-- the current node is a head that is taken, or that of a body which asked for it again
abbrev pub CanEnter : Program → (spent : Bool) → Run → Type 0
CanEnter p spent r = (HasHead p r × (spent ≡ false)) ⊎ (IsWaiting p r × (spent_in (reverse r.frames.frames) ≡ Some spent))

-- Sources.

-- A source begins within the one that was the innermost, at its document node.
pub record EntersSource (depth : ℕ) (origin : Origin) (old new : Run) : Type 0 where
  pub source : Stands new.source (document_alone depth) ([] ∷ []) ahead.Nothing None origin
  pub begun : new.source.begun ≡ 1
  pub next : new.source.next ≡ 0
  pub outer : new.outer.items ≡ old.outer.items ++ old.source ∷ []
  pub putting : StandsAsBefore old.putting new.putting
  pub rest : new ≡ record old { source = new.source; outer = new.outer; putting = new.putting }
