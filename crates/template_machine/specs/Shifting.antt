-- What operations and instructions leave of the locals of a body.
use Rattle.std.specs.Prelude.{◌≡◌, ℕ, ◌+◌, ◌-◌, List, [], ◌∷◌, ◌++◌, All, OnOk, Option, Result, Some, Ok, Err, length, map, reverse, take}
use Rattle.std.specs.Option.{option_map}
use Rattle.stx_base.specs.Course.{Ret}
use Rattle.stx_base.specs.declared.fault.Place.{Place}
use Rattle.stx_base.specs.declared.name.Name.{Name}
use Rattle.frame_stack.specs.Change.{locals_of, with_locals, with_pc}
use Rattle.frame_stack.specs.declared.frame.Frame.{Frame}
use Rattle.frame_stack.specs.declared.frame.Frame.TheVariants.{Loop}
use Rattle.frame_stack.specs.declared.locals.Local.{Local}
use Rattle.result_writer.specs.Target.{Left}
use Rattle.sheet_model.specs.Parts.{handed}
use Rattle.sheet_model.specs.declared.instr.Instr.{Instr}
use Rattle.sheet_model.specs.declared.instr.Instr.TheOpen.{Instr-F}
use Rattle.sheet_model.specs.declared.instr.Instr.TheViews.{out-Instr}
use Rattle.sheet_model.specs.declared.instr.When.{When}
use Rattle.sheet_model.specs.declared.instr.WithParam.{WithParam}
use Rattle.stxpath_eval.specs.Setting.{Setting}
use Rattle.stxpath_syntax.specs.declared.expr.Expr.{Expr}
use Rattle.stxpath_values.specs.Outcome.{each}
use Rattle.stxpath_values.specs.declared.fault.EvalFault.{EvalFault}
use Rattle.stxpath_values.specs.declared.value.Atom.{Atom}
use Rattle.template_machine.specs.Acting.{acts}
use Rattle.template_machine.specs.Bodies.{frame_in, on_body, pc_in, pc_of}
use Rattle.template_machine.specs.Job.{Given, Here}
use Rattle.template_machine.specs.Programs.{IsProgramOf, instr_at}
use Rattle.template_machine.specs.Saying.{Gave, GoesAs, SeesAs, sight}
use Rattle.template_machine.specs.Seen.{named_of}
use Rattle.template_machine.specs.Still.{aside_of, below_loops, scene_by, state_of, working_in}
use Rattle.template_machine.specs.Stepwise.{Working}
use Rattle.template_machine.specs.Values.{atoms_of}
use Rattle.template_machine.specs.declared.program.Program.{Program}
use Rattle.template_machine.specs.declared.run.Doing.TheVariants as doing
use Rattle.template_machine.specs.declared.run.Run.{Run}
use Rattle.template_machine.specs.declared.stop.Stop.{Stop}

-- a body with one more local, at another place
abbrev pub with_more : Local → (to : ℕ) → Frame → Frame
with_more x to f = with_locals (λ ls. ls ++ x ∷ []) (with_pc to f)

-- Loops over items.

-- One is open from here on, and its items wait as a local without a name.
pub record OpensWalk (items : List Atom) (to : ℕ) (old new : Run) : Type 0 where
  pub waiting : Local
  pub nameless : waiting.name.local ≡ []
  pub value : waiting.value ≡ items
  pub behind : reverse new.frames.frames ≡ Loop 0 ∷ on_body (with_more waiting to) (reverse old.frames.frames)

-- The innermost one has bound one more item, under a name.
pub record BindsItem (turn : ℕ) (name : Name) (value : List Atom) (to : ℕ) (old new : Run) : Type 0 where
  pub before : ℕ
  pub others : List Frame
  pub top : reverse old.frames.frames ≡ Loop before ∷ others
  pub behind : reverse new.frames.frames ≡ Loop turn ∷ on_body (with_more (record { name = name; value = value }) to) others

-- The innermost one is over, and its items are the local that is taken off.
pub record LosesWalk (to : ℕ) (old new : Run) : Type 0 where
  pub turn : ℕ
  pub others : List Frame
  pub top : reverse old.frames.frames ≡ Loop turn ∷ others
  pub left : ℕ
  pub long : (x : Frame) → frame_in (reverse old.frames.frames) ≡ Some x → length (locals_of x) ≡ left + 1
  pub behind : reverse new.frames.frames ≡ on_body (λ f. with_pc to (with_locals (take left) f)) others

-- It has bound so many, of these items.
pub record HasItems (r : Run) (turn : ℕ) (items : List Atom) : Type 0 where
  pub others : List Frame
  pub top : reverse r.frames.frames ≡ Loop turn ∷ others
  pub body : Frame
  pub there : frame_in (reverse r.frames.frames) ≡ Some body
  pub before : List Local
  pub waiting : Local
  pub locals : locals_of body ≡ before ++ waiting ∷ []
  pub value : waiting.value ≡ items

-- Variables.

-- the locals of the innermost body
abbrev pub HasLocals : Run → List Local → Type 0
HasLocals r own = option_map locals_of (frame_in (reverse r.frames.frames)) ≡ Some own

-- Where the innermost body of a run stands, and where its code runs.
pub record StandsAt (given : Given) (p : Program) (r : Run) (w : Working) : Type 0 where
  pub body : Frame
  pub turns : List ℕ
  pub below : List Frame
  pub frames : reverse r.frames.frames ≡ below_loops turns (body ∷ below)
  pub pc : ℕ
  pub at : pc_of body ≡ Some pc
  pub here : Here
  pub is : w ≡ working_in given p turns body below (scene_by given p r.source.ahead r) here

-- An instruction gives a variable a value, without the unit of fuel that it costs. It says nothing, and leaves the node of its body, and
-- what waits among its locals, as they were.
pub record Sets {A : Type 0} (p : Program) (instr : Instr-F Instr When) (move : Frame → Frame) (result : Result A Stop) (old new : Run) : Type 0 where
  pub locals : List Local → List Local
  pub behind : OnOk result (reverse new.frames.frames ≡ on_body (λ f. with_locals locals (move f)) (reverse old.frames.frames))
  pub rest : new ≡ record old { frames = new.frames; store = new.store; putting = new.putting; fuel = new.fuel }
  pub waits : (own : List Local) → HasLocals old own → OnOk result (aside_of (locals own) ≡ aside_of own)
  pub does :
      (given : Given) → IsProgramOf given.sheet given.limits p → (left : Left) (w : Working) (st : StandsAt given p old w)
      → SeesAs given p old w.self w.here → w.here.state ≡ state_of given p old left
      → GoesAs result (acts given instr w.self w.here) [] (Ret (record w.here { locals = named_of (locals (locals_of st.body)); state = state_of given p new left }))

abbrev pub local_at : Name → (select : Option Expr) → Place → Instr-F Instr When
local_at name select at = Instr-F.Local name select at

abbrev pub assign_at : Name → (select : Expr) → Place → Instr-F Instr When
assign_at name select at = Instr-F.Assign name select at

-- Values that are handed to parameters.

abbrev pub handed_value : Setting → WithParam → Result (List Atom) EvalFault
handed_value g w = atoms_of w.select g

-- what they were, or why there are none
abbrev pub HandsOver : {A : Type 0} → Place → Result A Stop → Result (List (List Atom)) EvalFault → List (List Atom) → Type 0
HandsOver at (Ok done) given values = given ≡ Ok values
HandsOver at (Err e) given values = Gave {A = List (List Atom)} at (Err e) given

-- Those of an instruction wait as the last locals of its body, which stands behind it.
pub record Hands {A : Type 0} (p : Program) (instr : Instr) (at : Place) (pc : ℕ) (result : Result A Stop) (old new : Run) : Type 0 where
  pub waiting : List Local
  pub nameless : All (λ (x : Local). x.name.local ≡ []) waiting
  pub rest : new ≡ record old { frames = new.frames }
  pub behind : OnOk result (reverse new.frames.frames ≡ on_body (λ f. with_locals (λ ls. ls ++ waiting) (with_pc (pc + 1) f)) (reverse old.frames.frames))
  pub gave : HandsOver at result (each (handed_value (sight p old)) (handed (out-Instr instr))) (map (λ (x : Local). x.value) waiting)

-- a run before a unit was spent
abbrev pub unspent : Run → Run
unspent r = record r { fuel = r.fuel + 1 }

-- The values that were handed are taken back, and the body goes on.
pub record TakesBack (p : Program) (old new : Run) : Type 0 where
  pub pc : ℕ
  pub instr : Instr
  pub body : Frame
  pub at : pc_in (reverse old.frames.frames) ≡ Some pc
  pub is : instr_at p.code (pc - 1) ≡ Some instr
  pub there : frame_in (reverse old.frames.frames) ≡ Some body
  pub left : ℕ
  pub long : left + length (handed (out-Instr instr)) ≡ length (locals_of body)
  pub behind : reverse new.frames.frames ≡ on_body (with_locals (take left)) (reverse old.frames.frames)
  pub rest : new ≡ record old { frames = new.frames; doing = doing.Body }
