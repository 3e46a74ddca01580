-- What an instruction of one variant asks of the run.
use Rattle.std.proofs.Common.{◌≡◌, ℕ, ◌<◌, Bool, List, [], ◌∷◌, length, reverse, Option, Some, IsSome, refl, ap, sym, subst, ◌∙◌}
use Rattle.std.specs.List.{slice_get}
use Rattle.std.specs.Option.{ForSome, option_and_then}
use Rattle.std.proofs.lemmas.Bool.{false≢true}
use Rattle.frame_stack.specs.Stack.{FrameStack}
use Rattle.frame_stack.specs.declared.frame.Frame.{Frame}
use Rattle.frame_stack.specs.declared.frame.Frame.TheVariants.{Body, Call}
use Rattle.frame_stack.specs.declared.locals.Local.{Local}
use Rattle.instr_code.specs.declared.code.Code.{Code}
use Rattle.instr_code.specs.declared.code.Op.{Op}
use Rattle.instr_code.specs.declared.code.Op.TheVariants as op
use Rattle.sheet_model.specs.declared.instr.Instr.{Instr}
use Rattle.sheet_model.specs.declared.instr.Instr.TheOpen.{Instr-F}
use Rattle.sheet_model.specs.declared.instr.Instr.TheVariants as instr
use Rattle.sheet_model.specs.declared.instr.Instr.TheViews.{out-Instr, out-roll-Instr, rolls-Assign}
use Rattle.sheet_model.specs.declared.instr.When.{When}
use Rattle.stx_base.specs.declared.fault.Place.{Place}
use Rattle.stx_base.specs.declared.name.Name.{Name}
use Rattle.stxpath_syntax.specs.Shape.{CanBeEvaluated}
use Rattle.stxpath_syntax.specs.declared.expr.Expr.{Expr}
use Rattle.template_machine.specs.Bodies.{level_of}
use Rattle.template_machine.specs.Contexts.{Choice, Choices, Declares, HasForm, Repeats, Walks}
use Rattle.template_machine.specs.Steps.{Sees}
use Rattle.template_machine.specs.Moments.{IsAtOp, IsBranch}
use Rattle.template_machine.specs.Well.{IsWell}
use Rattle.template_machine.specs.Working.{IsChoice, IsWalk}
use Rattle.template_machine.specs.declared.program.Program.{Program}
use Rattle.template_machine.specs.declared.run.Run.{Run}
use Rattle.template_machine.specs.declared.run.Running.{Running}
use Rattle.template_machine.proofs.Evaluable.{can_run}
use Rattle.template_machine.proofs.Formed.{arm_there, branch_runs, first_runs, form_at, local_runs, out_choose, out_if, out_local, out_walk, out_while}
use Rattle.template_machine.proofs.Fueled.{at_spent, runs_at}
use Rattle.template_machine.proofs.Operating.{at_body, at_place, body_on_top, procedure_ends}
use Rattle.template_machine.proofs.Seeing.{sees}

-- what the expressions of its body see
pub seen_at : (p : Program) (r : Run) (running : Running) (o : Op) → IsAtOp p r running o → Sees p r running.body
seen_at p r running o at = sees p r running.body (runs_at p r running o at)

pub seen_spent : (p : Program) (r t : Run) (running : Running) (o : Op) → t ≡ record r { fuel = t.fuel } → IsAtOp p r running o → Sees p t running.body
seen_spent p r t running o is at = seen_at p t running o (at_spent p r t running o is at)

-- its form

pub if_is : (code : Code) (n : ℕ) (i : Instr) (test : Expr) (body other : List Instr) (at : Place) → slice_get code.instrs n ≡ Some i → i ≡ instr.If test body other at
    → IsBranch code n
if_is code n i test body other at is e = (Choice, (form_at code n i (Instr-F.If test body other at) is (ap out-Instr e ∙ out_if test body other at), (search)))

pub choice_is : (code : Code) (n : ℕ) (i : Instr) (whens : List When) (other : List Instr) (at : Place) → slice_get code.instrs n ≡ Some i
    → i ≡ instr.Choose whens other at → HasForm code n (Choices (length whens))
choice_is code n i whens other at is e = form_at code n i (Instr-F.Choose whens other at) is (ap out-Instr e ∙ out_choose whens other at)

pub chooses : (code : Code) (n : ℕ) (i : Instr) (whens : List When) (other : List Instr) (at : Place) → slice_get code.instrs n ≡ Some i
    → i ≡ instr.Choose whens other at → IsChoice code n
chooses code n i whens other at is e = (length whens, choice_is code n i whens other at is e)

pub branches : (code : Code) (n : ℕ) (i : Instr) (whens : List When) (other : List Instr) (at : Place) → slice_get code.instrs n ≡ Some i
    → i ≡ instr.Choose whens other at → IsBranch code n
branches code n i whens other at is e = (Choices (length whens), (choice_is code n i whens other at is e, (search)))

pub while_is : (code : Code) (n : ℕ) (i : Instr) (test : Expr) (body : List Instr) (at : Place) → slice_get code.instrs n ≡ Some i → i ≡ instr.While test body at
    → HasForm code n Repeats
while_is code n i test body at is e = form_at code n i (Instr-F.While test body at) is (ap out-Instr e ∙ out_while test body at)

pub walk_is : (code : Code) (n : ℕ) (i : Instr) (name : Name) (select : Expr) (body : List Instr) (at : Place) → slice_get code.instrs n ≡ Some i
    → i ≡ instr.ForEachItem name select body at → HasForm code n (Walks name)
walk_is code n i name select body at is e = form_at code n i (Instr-F.ForEachItem name select body at) is (ap out-Instr e ∙ out_walk name select body at)

pub walks : (code : Code) (n : ℕ) (i : Instr) (name : Name) (select : Expr) (body : List Instr) (at : Place) → slice_get code.instrs n ≡ Some i
    → i ≡ instr.ForEachItem name select body at → IsWalk code n
walks code n i name select body at is e = (name, walk_is code n i name select body at is e)

-- its expressions

module _ (p : Program) (r : Run) (running : Running) (o : Op) (here : IsAtOp p r running o) (n : ℕ) (i : Instr) (is : slice_get p.code.instrs n ≡ Some i) where
  pub if_runs : (test : Expr) (body other : List Instr) (at : Place) → i ≡ instr.If test body other at → CanBeEvaluated test
  if_runs test body other at e =
      first_runs i (Instr-F.If test body other at) test [] (can_run p r here.well.steady n i is) (ap out-Instr e ∙ out_if test body other at) refl

  pub arm_runs : (whens : List When) (other : List Instr) (at : Place) (k : ℕ) (w : When) → i ≡ instr.Choose whens other at → slice_get whens k ≡ Some w
      → CanBeEvaluated w.test
  arm_runs whens other at k w e there =
      branch_runs i whens other at k w (can_run p r here.well.steady n i is) (ap out-Instr e ∙ out_choose whens other at) there

  pub while_runs : (test : Expr) (body : List Instr) (at : Place) → i ≡ instr.While test body at → CanBeEvaluated test
  while_runs test body at e =
      first_runs i (Instr-F.While test body at) test [] (can_run p r here.well.steady n i is) (ap out-Instr e ∙ out_while test body at) refl

  pub walk_runs : (name : Name) (select : Expr) (body : List Instr) (at : Place) → i ≡ instr.ForEachItem name select body at → CanBeEvaluated select
  walk_runs name select body at e =
      first_runs i (Instr-F.ForEachItem name select body at) select [] (can_run p r here.well.steady n i is) (ap out-Instr e ∙ out_walk name select body at) refl

-- as many branches as its arm asks for
pub arm_within : (p : Program) (r : Run) (running : Running) (n arm to : ℕ) (i : Instr) (whens : List When) (other : List Instr) (at : Place)
    → IsAtOp p r running (op.Test n arm to) → slice_get p.code.instrs n ≡ Some i → i ≡ instr.Choose whens other at → arm < length whens
arm_within p r running n arm to i whens other at here is e = arm_there p r running n arm to (length whens) here (choice_is p.code n i whens other at is e)

-- a body's frame is that of a template or of a procedure

body_or_call : (x : Frame) → IsSome (level_of x)
    → ((template alternative pc : ℕ) (locals : List Local) (level : ℕ) (spent : Bool) → x ≡ Body template alternative pc locals level spent → ⊥)
    → ((procedure pc : ℕ) (locals : List Local) (level : ℕ) → x ≡ Call procedure pc locals level → ⊥) → ⊥
body_or_call (Body template alternative pc locals level spent) some body call = body template alternative pc locals level spent refl
body_or_call (Call procedure pc locals level) some body call = call procedure pc locals level refl
body_or_call x some body call = absurd (false≢true some)

one_frame : {a b : Frame} → Some a ≡ Some b → a ≡ b
one_frame e = cc

pub no_other_body : (p : Program) (r : Run) (running : Running) (o : Op) (x : Frame) → IsAtOp p r running o → slice_get r.frames.frames running.body ≡ Some x
    → ((template alternative pc : ℕ) (locals : List Local) (level : ℕ) (spent : Bool) → x ≡ Body template alternative pc locals level spent → ⊥)
    → ((procedure pc : ℕ) (locals : List Local) (level : ℕ) → x ≡ Call procedure pc locals level → ⊥) → ⊥
no_other_body p r running o x at is body call =
    let a = at_place p r running o at in
    let same : a.0 ≡ x = one_frame (sym a.1.1 ∙ is) in
    let some : IsSome (level_of a.0) = subst (λ y. IsSome (option_and_then level_of y)) a.1.0 (at_body p r running o at).body in
    body_or_call x (subst (λ (y : Frame). IsSome (level_of y)) same some) body call

-- the body of a procedure is over
pub call_over : (p : Program) (r : Run) (running : Running) (number pc : ℕ) (locals : List Local) (level : ℕ) (frames : FrameStack) → IsAtOp p r running op.Return
    → slice_get r.frames.frames running.body ≡ Some (Call number pc locals level)
    → ((top : Frame) (others : List Frame) → reverse r.frames.frames ≡ top ∷ others → reverse frames.frames ≡ others) → IsWell p (record r { frames = frames })
call_over p r running number pc locals level frames at is off =
    let x = Call number pc locals level in
    let t = body_on_top p r running x at is in
    procedure_ends p r running frames number pc level locals t.0 at t.1 (off x t.0 t.1)

-- a variable of a body, and a value that is assigned

pub declares_is : (code : Code) (n : ℕ) (i : Instr) (name : Name) (select : Option Expr) (at : Place) → slice_get code.instrs n ≡ Some i
    → i ≡ instr.Local name select at → HasForm code n (Declares name)
declares_is code n i name select at is e = form_at code n i (Instr-F.Local name select at) is (ap out-Instr e ∙ out_local name select at)

pub local_evaluable : (p : Program) (r : Run) (running : Running) (o : Op) (n : ℕ) (i : Instr) (name : Name) (select : Option Expr) (at : Place)
    → IsAtOp p r running o → slice_get p.code.instrs n ≡ Some i → i ≡ instr.Local name select at → ForSome select CanBeEvaluated
local_evaluable p r running o n i name select at here is e =
    local_runs i name select at (can_run p r here.well.steady n i is) (ap out-Instr e ∙ out_local name select at)

pub assigned_runs : (p : Program) (r : Run) (running : Running) (o : Op) (n : ℕ) (i : Instr) (name : Name) (select : Expr) (at : Place)
    → IsAtOp p r running o → slice_get p.code.instrs n ≡ Some i → i ≡ instr.Assign name select at → CanBeEvaluated select
assigned_runs p r running o n i name select at here is e =
    first_runs i (Instr-F.Assign name select at) select [] (can_run p r here.well.steady n i is)
    (ap out-Instr (e ∙ sym (rolls-Assign name select at)) ∙ out-roll-Instr (Instr-F.Assign name select at)) refl
