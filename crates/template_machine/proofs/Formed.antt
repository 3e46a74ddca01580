-- Instructions by their variants.
use Rattle.std.proofs.Common.{◌≡◌, ℕ, zero, suc, ◌<◌, false, List, [], ◌∷◌, ◌++◌, length, map, reverse, Option, Some, None, All, refl, ap, sym, subst, ◌∙◌}
use Rattle.std.specs.List.{slice_get}
use Rattle.std.specs.Option.{ForSome, option_map, option_to_list}
use Rattle.std.proofs.lemmas.List.Elements.{All-cons, All-head, All-nil, All-tail}
use Rattle.std.proofs.lemmas.Option.{slice_get_within}
use Rattle.instr_code.specs.declared.code.Code.{Code}
use Rattle.instr_code.specs.declared.code.Op.TheVariants as op
use Rattle.sheet_model.specs.Parts.{expressions, handed, own_expressions}
use Rattle.sheet_model.specs.declared.instr.Instr.{Instr}
use Rattle.sheet_model.specs.declared.instr.Instr.TheOpen.{Instr-F}
use Rattle.sheet_model.specs.declared.instr.Instr.TheVariants as instr
use Rattle.sheet_model.specs.declared.instr.Instr.TheViews.{out-Instr, out-roll-Instr, roll-Instr, roll-out-Instr, rolls-CallProcedure, rolls-Choose, rolls-ForEachItem, rolls-If, rolls-Local, rolls-While}
use Rattle.sheet_model.specs.declared.instr.When.{When}
use Rattle.sheet_model.specs.declared.instr.WithParam.{WithParam}
use Rattle.stx_base.specs.declared.fault.Place.{Place}
use Rattle.stx_base.specs.declared.name.Name.{Name}
use Rattle.stxpath_syntax.specs.Shape.{CanBeEvaluated}
use Rattle.stxpath_syntax.specs.declared.expr.Expr.{Expr}
use Rattle.template_machine.specs.Contexts.{Asks, Begins, Choices, Context, Declares, Form, HasForm, IsSingle, Single, Station, Turns, form, form_of}
use Rattle.template_machine.specs.Standing.{standing_of}
use Rattle.template_machine.specs.Moments.{IsAtOp}
use Rattle.template_machine.specs.Working.{CanBeRun}
use Rattle.template_machine.specs.declared.program.Program.{Program}
use Rattle.template_machine.specs.declared.run.Run.{Run}
use Rattle.template_machine.specs.declared.run.Running.{Running}
use Rattle.template_machine.proofs.Branching.{one_form}
use Rattle.template_machine.proofs.Moving.{goes_at}
use Rattle.template_machine.proofs.Operating.{some_context}

-- What each variant is.

pub out_if : (test : Expr) (body other : List Instr) (at : Place) → out-Instr (instr.If test body other at) ≡ Instr-F.If test body other at
out_if test body other at = ap out-Instr (sym (rolls-If test body other at)) ∙ out-roll-Instr (Instr-F.If test body other at)

pub out_choose : (whens : List When) (other : List Instr) (at : Place) → out-Instr (instr.Choose whens other at) ≡ Instr-F.Choose whens other at
out_choose whens other at = ap out-Instr (sym (rolls-Choose whens other at)) ∙ out-roll-Instr (Instr-F.Choose whens other at)

pub out_while : (test : Expr) (body : List Instr) (at : Place) → out-Instr (instr.While test body at) ≡ Instr-F.While test body at
out_while test body at = ap out-Instr (sym (rolls-While test body at)) ∙ out-roll-Instr (Instr-F.While test body at)

pub out_walk : (name : Name) (select : Expr) (body : List Instr) (at : Place) → out-Instr (instr.ForEachItem name select body at) ≡ Instr-F.ForEachItem name select body at
out_walk name select body at = ap out-Instr (sym (rolls-ForEachItem name select body at)) ∙ out-roll-Instr (Instr-F.ForEachItem name select body at)

pub out_local : (name : Name) (select : Option Expr) (at : Place) → out-Instr (instr.Local name select at) ≡ Instr-F.Local name select at
out_local name select at = ap out-Instr (sym (rolls-Local name select at)) ∙ out-roll-Instr (Instr-F.Local name select at)

pub out_call : (name : Name) (params : List WithParam) (at : Place) → out-Instr (instr.CallProcedure name params at) ≡ Instr-F.CallProcedure name params at
out_call name params at = ap out-Instr (sym (rolls-CallProcedure name params at)) ∙ out-roll-Instr (Instr-F.CallProcedure name params at)

-- the form of an instruction that is there
pub form_at : (code : Code) (n : ℕ) (i : Instr) (x : Instr-F Instr When) → slice_get code.instrs n ≡ Some i → out-Instr i ≡ x → HasForm code n (form x)
form_at code n i x is out = ap (option_map form_of) is ∙ ap (λ y. Some (form y)) out

-- an instruction that has a form is there
form_there : (o : Option Instr) (f : Form) → option_map form_of o ≡ Some f → (i : Instr) × ((o ≡ Some i) × (form_of i ≡ f))
form_there None f h = absurd (cc)
form_there (Some i) f h = (i, (refl, cc))

pub has_instr : (code : Code) (n : ℕ) (f : Form) → HasForm code n f → (i : Instr) × ((slice_get code.instrs n ≡ Some i) × (form_of i ≡ f))
has_instr code n f h = form_there (slice_get code.instrs n) f h

pub has_number : (code : Code) (n : ℕ) (f : Form) → HasForm code n f → n < length code.instrs
has_number code n f h = let i = has_instr code n f h in slice_get_within code.instrs n i.0 i.1.0

-- What it evaluates.

-- the first expression, and each of the values that it hands

pub first_runs : (i : Instr) (x : Instr-F Instr When) (e : Expr) (es : List Expr) → CanBeRun i → out-Instr i ≡ x → expressions (λ (w : When). w.test) x ≡ e ∷ es
    → CanBeEvaluated e
first_runs i x e es h out is =
    All-head CanBeEvaluated e es (subst (All CanBeEvaluated) (ap (expressions (λ (w : When). w.test)) out ∙ is) h.expressions)

tests_at : (ws : List When) (n : ℕ) (w : When) (es : List Expr) → slice_get ws n ≡ Some w → All CanBeEvaluated (map (λ (w : When). w.test) ws ++ es)
    → CanBeEvaluated w.test
tests_at [] n w es is all = absurd (cc)
tests_at (v ∷ ws) zero w es is all =
    let same : v ≡ w = cc in
    subst (λ (u : When). CanBeEvaluated u.test) same (All-head CanBeEvaluated v.test (map (λ (w : When). w.test) ws ++ es) all)
tests_at (v ∷ ws) (suc n) w es is all = tests_at ws n w es is (All-tail CanBeEvaluated v.test (map (λ (w : When). w.test) ws ++ es) all)

pub branch_runs : (i : Instr) (whens : List When) (other : List Instr) (at : Place) (n : ℕ) (w : When) → CanBeRun i → out-Instr i ≡ Instr-F.Choose whens other at
    → slice_get whens n ≡ Some w → CanBeEvaluated w.test
branch_runs i whens other at n w h out is =
    tests_at whens n w [] is (subst (All CanBeEvaluated) (ap (expressions (λ (w : When). w.test)) out) h.expressions)

all_second : (xs ys : List Expr) → All CanBeEvaluated (xs ++ ys) → All CanBeEvaluated ys
all_second [] ys all = all
all_second (x ∷ xs) ys all = all_second xs ys (All-tail CanBeEvaluated x (xs ++ ys) all)

each_runs : (ps : List WithParam) → All CanBeEvaluated (map (λ (p : WithParam). p.select) ps) → All (λ (p : WithParam). CanBeEvaluated p.select) ps
each_runs [] all = All-nil (λ (p : WithParam). CanBeEvaluated p.select)
each_runs (p ∷ ps) all =
    All-cons (λ (p : WithParam). CanBeEvaluated p.select) p ps (All-head CanBeEvaluated p.select (map (λ (p : WithParam). p.select) ps) all)
    (each_runs ps (All-tail CanBeEvaluated p.select (map (λ (p : WithParam). p.select) ps) all))

pub handed_runs : (i : Instr) → CanBeRun i → All (λ (p : WithParam). CanBeEvaluated p.select) (handed (out-Instr i))
handed_runs i h =
    each_runs (handed (out-Instr i))
    (all_second (own_expressions (λ (w : When). w.test) (out-Instr i)) (map (λ (p : WithParam). p.select) (handed (out-Instr i))) h.expressions)

option_runs : (o : Option Expr) → All CanBeEvaluated (option_to_list o ++ []) → ForSome o CanBeEvaluated
option_runs None all = λ x e. absurd (cc)
option_runs (Some y) all = λ x e. let same : y ≡ x = cc in subst CanBeEvaluated same (All-head CanBeEvaluated y [] all)

pub local_runs : (i : Instr) (name : Name) (select : Option Expr) (at : Place) → CanBeRun i → out-Instr i ≡ Instr-F.Local name select at → ForSome select CanBeEvaluated
local_runs i name select at h out = option_runs select (subst (All CanBeEvaluated) (ap (expressions (λ (w : When). w.test)) out) h.expressions)

-- An instruction of which a place asks is one of few.

module _ (code : Code) (stations : List Station) (A : Type 0) where
  layer_tested : (x : Instr-F Instr When) (arm to place : ℕ) (c : Context) (r : ℕ) → Asks code stations (form x) arm to place c r
      → ((test : Expr) (body other : List Instr) (at : Place) → x ≡ Instr-F.If test body other at → A)
      → ((whens : List When) (other : List Instr) (at : Place) → x ≡ Instr-F.Choose whens other at → A)
      → ((test : Expr) (body : List Instr) (at : Place) → x ≡ Instr-F.While test body at → A) → A
  layer_tested (Instr-F.If test body other at) arm to place c r h f g k = f test body other at refl
  layer_tested (Instr-F.Choose whens other at) arm to place c r h f g k = g whens other at refl
  layer_tested (Instr-F.While test body at) arm to place c r h f g k = k test body at refl
  layer_tested x arm to place c r h f g k = absurd h

  layer_begun : (x : Instr-F Instr When) (place : ℕ) (c : Context) → Begins code stations (form x) place c
      → ((whens : List When) (other : List Instr) (at : Place) → x ≡ Instr-F.Choose whens other at → A)
      → ((test : Expr) (body : List Instr) (at : Place) → x ≡ Instr-F.While test body at → A)
      → ((name : Name) (select : Expr) (body : List Instr) (at : Place) → x ≡ Instr-F.ForEachItem name select body at → A) → A
  layer_begun (Instr-F.Choose whens other at) place c h f g k = f whens other at refl
  layer_begun (Instr-F.While test body at) place c h f g k = g test body at refl
  layer_begun (Instr-F.ForEachItem name select body at) place c h f g k = k name select body at refl
  layer_begun x place c h f g k = absurd h

  layer_turned : (x : Instr-F Instr When) (to place : ℕ) (c : Context) (r : ℕ) → Turns code stations (form x) to place c r
      → ((name : Name) (select : Expr) (body : List Instr) (at : Place) → x ≡ Instr-F.ForEachItem name select body at → A) → A
  layer_turned (Instr-F.ForEachItem name select body at) to place c r h k = k name select body at refl
  layer_turned x to place c r h k = absurd h

-- an instruction as a variant
pub rolled : (i : Instr) (x : Instr-F Instr When) (j : Instr) → roll-Instr x ≡ j → out-Instr i ≡ x → i ≡ j
rolled i x j is out = sym (roll-out-Instr i) ∙ ap roll-Instr out ∙ is

-- What is known of a run at an operation.

pub tested : (p : Program) (r : Run) (running : Running) (n arm to : ℕ) (at : IsAtOp p r running (op.Test n arm to))
    → (f : Form) × (HasForm p.code n f × ((c : Context) × ((k : ℕ) × Asks p.code at.well.stations f arm to running.pc c k)))
tested p r running n arm to at =
    let x = some_context p r running (op.Test n arm to) at in
    let g = goes_at p at.well.stations 0 false (reverse r.frames.frames) x.0 (standing_of r) running.pc at.pc x.1 in
    let l = at.well.stand.leads running.pc (op.Test n arm to) x.0 g.0 at.is g.1 in
    (l.0, (l.1.0, (x.0, (g.0, l.1.1))))

pub begins : (p : Program) (r : Run) (running : Running) (n : ℕ) (at : IsAtOp p r running (op.Begin n))
    → (f : Form) × (HasForm p.code n f × ((c : Context) × Begins p.code at.well.stations f running.pc c))
begins p r running n at =
    let x = some_context p r running (op.Begin n) at in
    let g = goes_at p at.well.stations 0 false (reverse r.frames.frames) x.0 (standing_of r) running.pc at.pc x.1 in
    let l = at.well.stand.leads running.pc (op.Begin n) x.0 g.0 at.is g.1 in
    (l.0, (l.1.0, (x.0, l.1.1)))

pub turned : (p : Program) (r : Run) (running : Running) (n to : ℕ) (at : IsAtOp p r running (op.Turn n to))
    → (f : Form) × (HasForm p.code n f × ((c : Context) × ((k : ℕ) × Turns p.code at.well.stations f to running.pc c k)))
turned p r running n to at =
    let x = some_context p r running (op.Turn n to) at in
    let g = goes_at p at.well.stations 0 false (reverse r.frames.frames) x.0 (standing_of r) running.pc at.pc x.1 in
    let l = at.well.stand.leads running.pc (op.Turn n to) x.0 g.0 at.is g.1 in
    (l.0, (l.1.0, (x.0, (g.0, l.1.1))))

pub done : (p : Program) (r : Run) (running : Running) (n : ℕ) (at : IsAtOp p r running (op.Do n)) → (f : Form) × (HasForm p.code n f × IsSingle f)
done p r running n at =
    let x = some_context p r running (op.Do n) at in
    let g = goes_at p at.well.stations 0 false (reverse r.frames.frames) x.0 (standing_of r) running.pc at.pc x.1 in
    let l = at.well.stand.leads running.pc (op.Do n) x.0 g.0 at.is g.1 in
    (l.0, (l.1.0, l.1.1))

-- the instruction of a test is an if, a choice or a while
pub test_is : (p : Program) (r : Run) (running : Running) (n arm to : ℕ) (i : Instr) (A : Type 0) → IsAtOp p r running (op.Test n arm to) → slice_get p.code.instrs n ≡ Some i
    → ((test : Expr) (body other : List Instr) (at : Place) → i ≡ instr.If test body other at → A)
    → ((whens : List When) (other : List Instr) (at : Place) → i ≡ instr.Choose whens other at → A)
    → ((test : Expr) (body : List Instr) (at : Place) → i ≡ instr.While test body at → A) → A
test_is p r running n arm to i A at is f g k =
    let t = tested p r running n arm to at in
    let same : t.0 ≡ form (out-Instr i) = one_form _ _ _ t.1.0 (form_at p.code n i (out-Instr i) is refl) in
    layer_tested p.code at.well.stations A (out-Instr i) arm to running.pc t.1.1.0 t.1.1.1.0
    (subst (λ y. Asks p.code at.well.stations y arm to running.pc t.1.1.0 t.1.1.1.0) same t.1.1.1.1)
    (λ test body other place e. f test body other place (rolled i _ _ (rolls-If test body other place) e))
    (λ whens other place e. g whens other place (rolled i _ _ (rolls-Choose whens other place) e))
    (λ test body place e. k test body place (rolled i _ _ (rolls-While test body place) e))

pub begin_is : (p : Program) (r : Run) (running : Running) (n : ℕ) (i : Instr) (A : Type 0) → IsAtOp p r running (op.Begin n) → slice_get p.code.instrs n ≡ Some i
    → ((whens : List When) (other : List Instr) (at : Place) → i ≡ instr.Choose whens other at → A)
    → ((test : Expr) (body : List Instr) (at : Place) → i ≡ instr.While test body at → A)
    → ((name : Name) (select : Expr) (body : List Instr) (at : Place) → i ≡ instr.ForEachItem name select body at → A) → A
begin_is p r running n i A at is f g k =
    let t = begins p r running n at in
    let same : t.0 ≡ form (out-Instr i) = one_form _ _ _ t.1.0 (form_at p.code n i (out-Instr i) is refl) in
    layer_begun p.code at.well.stations A (out-Instr i) running.pc t.1.1.0 (subst (λ y. Begins p.code at.well.stations y running.pc t.1.1.0) same t.1.1.1)
    (λ whens other place e. f whens other place (rolled i _ _ (rolls-Choose whens other place) e))
    (λ test body place e. g test body place (rolled i _ _ (rolls-While test body place) e))
    (λ name select body place e. k name select body place (rolled i _ _ (rolls-ForEachItem name select body place) e))

pub turn_is : (p : Program) (r : Run) (running : Running) (n to : ℕ) (i : Instr) (A : Type 0) → IsAtOp p r running (op.Turn n to) → slice_get p.code.instrs n ≡ Some i
    → ((name : Name) (select : Expr) (body : List Instr) (at : Place) → i ≡ instr.ForEachItem name select body at → A) → A
turn_is p r running n to i A at is k =
    let t = turned p r running n to at in
    let same : t.0 ≡ form (out-Instr i) = one_form _ _ _ t.1.0 (form_at p.code n i (out-Instr i) is refl) in
    layer_turned p.code at.well.stations A (out-Instr i) to running.pc t.1.1.0 t.1.1.1.0
    (subst (λ y. Turns p.code at.well.stations y to running.pc t.1.1.0 t.1.1.1.0) same t.1.1.1.1)
    (λ name select body place e. k name select body place (rolled i _ _ (rolls-ForEachItem name select body place) e))

-- as many branches as the test's arm asks for
pub arm_there : (p : Program) (r : Run) (running : Running) (n arm to many : ℕ) → IsAtOp p r running (op.Test n arm to) → HasForm p.code n (Choices many) → arm < many
arm_there p r running n arm to many at has =
    let t = tested p r running n arm to at in
    let same : t.0 ≡ Choices many = one_form _ _ _ t.1.0 has in
    (subst (λ y. Asks p.code at.well.stations y arm to running.pc t.1.1.0 t.1.1.1.0) same t.1.1.1.1).0

pub single_or : (f : Form) → IsSingle f → ((name : Name) → f ≡ Declares name → ⊥) → f ≡ Single
single_or Single h never = refl
single_or (Declares name) h never = absurd (never name refl)
single_or f h never = absurd h
