-- Operations of a body's code that say nothing.
use Rattle.std.proofs.Common.{◌≡◌, ℕ, zero, suc, ◌+◌, Bool, true, false, if◌then◌else◌, List, [], Some, Result, Ok, Err, reverse, refl, ap, sym, subst, ◌∙◌}
use Rattle.std.specs.Prelude.{slice_get}
use Rattle.std.specs.Option.{option_map_or}
use Rattle.stx_base.specs.Course.{Halt}
use Rattle.stx_base.specs.declared.fault.Place.{Place}
use Rattle.frame_stack.specs.Change.{with_pc}
use Rattle.instr_code.specs.Code.{code_of}
use Rattle.instr_code.specs.Running.{go_on}
use Rattle.instr_code.specs.Steps.{Stops, decided}
use Rattle.instr_code.specs.declared.code.Code.{Code}
use Rattle.instr_code.specs.declared.code.Op.TheVariants as op
use Rattle.result_writer.specs.Target.{Left, Target}
use Rattle.sheet_model.specs.declared.instr.Instr.{Instr}
use Rattle.sheet_model.specs.declared.instr.Instr.TheOpen.{Instr-F}
use Rattle.sheet_model.specs.declared.instr.Instr.TheViews.{out-Instr}
use Rattle.sheet_model.specs.declared.instr.When.{When}
use Rattle.stxpath_syntax.specs.declared.expr.Expr.{Expr}
use Rattle.template_machine.specs.Bodies.{on_body}
use Rattle.template_machine.specs.Ending.{Faulted, Said, Spent}
use Rattle.template_machine.specs.Job.{Given, Here, Self, State, with_state}
use Rattle.template_machine.specs.Moments.{IsAtOp}
use Rattle.template_machine.specs.Saying.{Carries, CarriesOn, Gave, GoesAs, Proceeds, SeesAs, Steps, sight}
use Rattle.template_machine.specs.Steps.{one_less}
use Rattle.template_machine.specs.Still as still
use Rattle.template_machine.specs.Stepwise.{Flat_does, Outcome, Working, asks, arm_asks, decides, spent, stands_at, steps_of, test_by, valued}
use Rattle.template_machine.specs.Values.{setting, truth_of}
use Rattle.template_machine.specs.declared.program.Program.{Program}
use Rattle.template_machine.specs.declared.run.Run.{Run}
use Rattle.template_machine.specs.declared.run.Running.{Running}
use Rattle.template_machine.specs.declared.stop.Stop.{Stop}
use Rattle.template_machine.specs.declared.stop.Stop.TheVariants as stop
use Rattle.template_machine.proofs.Proceeding.{moves_on}
use Rattle.template_machine.proofs.Saying.{answered}
use Rattle.template_machine.proofs.Sighted.{texts_see_nodes}

-- only frames and fuel are others
pub all_rest : (old new : Run) (units : ℕ) → new ≡ record old { frames = new.frames; fuel = units }
    → new ≡ record old { frames = new.frames; store = new.store; putting = new.putting; fuel = new.fuel }
all_rest old new units e = e ∙ sym (ap (λ (n : Run). record old { frames = new.frames; store = n.store; putting = n.putting; fuel = n.fuel }) e)

pub state_behind : (given : Given) (p : Program) (old new : Run) (units : ℕ) (left : Left) (st : State) → new ≡ record old { frames = new.frames; fuel = units }
    → st ≡ still.state_of given p old left → record st { fuel = units } ≡ still.state_of given p new left
state_behind given p old new units left st rest is = ap (λ (s : State). record s { fuel = units }) is ∙ sym (ap (λ n. still.state_of given p n left) rest)

-- a jump
pub jump_carries : {A : Type 0} (p : Program) (r new : Run) (running : Running) (to : ℕ) (done : A) → IsAtOp p r running (op.Jump to)
    → reverse new.frames.frames ≡ on_body (with_pc to) (reverse r.frames.frames) → new ≡ record r { frames = new.frames } → Carries p (Ok done) r new
jump_carries p r new running to done at behind rest = record {
  does = λ given of_sheet left f.
      moves_on given p (Ok done) r new running (op.Jump to) to left left [] at of_sheet behind (all_rest r new r.fuel rest)
      (λ w sees q. ap (λ s. go_on (steps_of given) to (stands_at w (with_state w.here s))) (q ∙ sym (ap (λ n. still.state_of given p n left) rest))) f;
}

-- Tests.

pub truth_seen : (given : Given) (p : Program) (r : Run) (self : Self) (a : Here) (test : Expr) → SeesAs given p r self a
    → truth_of test (setting given self a) ≡ truth_of test (sight p r)
truth_seen given p r self a test sees = ap (truth_of test) sees.is ∙ sym (texts_see_nodes.tests test (sight p r) sees.way sees.alike)

pub unit_spent : (at : Place) (a : Here) (units : ℕ) (go : Here → Outcome) → one_less a.state.fuel ≡ Some units
    → spent at a go ≡ go (with_state a (record a.state { fuel = units }))
unit_spent at a units go less = by a.state.fuel less
  where
    by : (n : ℕ) → one_less n ≡ Some units
        → elim n [ zero ↦ Stops [] (Spent at) | suc m ↦ go (with_state a (record a.state { fuel = m })) ] ≡ go (with_state a (record a.state { fuel = units }))
    by zero less = absurd (cc)
    by (suc m) less = let same : m ≡ units = cc in ap (λ k. go (with_state a (record a.state { fuel = k }))) same

pub none_left : (at : Place) (a : Here) (go : Here → Outcome) → a.state.fuel ≡ 0 → spent at a go ≡ Stops [] (Spent at)
none_left at a go none = ap (λ (n : ℕ). elim n [ zero ↦ Stops [] (Spent at) | suc m ↦ go (with_state a (record a.state { fuel = m })) ]) none

module _ (given : Given) (p : Program) where
  -- a test leads to one of two places
  chosen : (w v : Working) (pc to : ℕ) (holds : Bool)
      → decided (decides holds v) (go_on (steps_of given) (pc + 1)) (go_on (steps_of given) to) ≡ go_on (steps_of given) (if holds then pc + 1 else to) v
  chosen w v pc to true = refl
  chosen w v pc to false = refl

  pub test_is : (n arm to pc : ℕ) (i : Instr) (w : Working) → slice_get (code_of given.sheet).instrs n ≡ Some i
      → still.operates given p (op.Test n arm to) pc w ≡ decided (test_by given (out-Instr i) arm w) (go_on (steps_of given) (pc + 1)) (go_on (steps_of given) to)
  test_is n arm to pc i w is =
      ap (λ o. option_map_or (λ x. decided (test_by given (out-Instr x) arm w) (go_on (steps_of given) (pc + 1)) (go_on (steps_of given) to)) o (go_on (steps_of given) (pc + 1) w)) is

  -- what an evaluated test leads to
  asked : (at : Place) (test : Expr) (w : Working) (r : Run) (holds : Bool) (pc to : ℕ) → SeesAs given p r w.self w.here → truth_of test (sight p r) ≡ Ok holds
      → decided (asks given at test w) (go_on (steps_of given) (pc + 1)) (go_on (steps_of given) to) ≡ go_on (steps_of given) (if holds then pc + 1 else to) w
  asked at test w r holds pc to sees truth =
      ap (λ v. decided (valued at v (λ holds. decides holds w)) (go_on (steps_of given) (pc + 1)) (go_on (steps_of given) to)) (truth_seen given p r w.self w.here test sees ∙ truth)
      ∙ chosen w w pc to holds

  -- and one that can't be
  unasked : (A : Type 0) (e : Stop) (at : Place) (test : Expr) (w : Working) (r : Run) (pc to : ℕ) (y : Flat_does) → SeesAs given p r w.self w.here
      → Gave {A = Bool} at (Err e) (truth_of test (sight p r))
      → GoesAs {A = A} (Err e) (decided (asks given at test w) (go_on (steps_of given) (pc + 1)) (go_on (steps_of given) to)) [] y
  unasked A (stop.Fault fault) at test w r pc to y sees gave =
      ap (λ v. decided (valued at v (λ holds. decides holds w)) (go_on (steps_of given) (pc + 1)) (go_on (steps_of given) to)) (truth_seen given p r w.self w.here test sees ∙ gave.1.0)
      ∙ ap (λ x. Halt (Faulted x)) (sym gave.1.1)
  unasked A (stop.Spent where_now) at test w r pc to y sees gave = absurd gave
  unasked A stop.Memory at test w r pc to y sees gave = (decided (asks given at test w) (go_on (steps_of given) (pc + 1)) (go_on (steps_of given) to), refl)

-- an if, behind its unit
pub if_carries : {A : Type 0} (p : Program) (r new : Run) (running : Running) (n arm to units : ℕ) (i : Instr) (test : Expr) (body other : List Instr) (at_place : Place) (holds : Bool) (done : A)
    → IsAtOp p r running (op.Test n arm to) → slice_get p.code.instrs n ≡ Some i → out-Instr i ≡ Instr-F.If test body other at_place → one_less r.fuel ≡ Some units
    → truth_of test (sight p r) ≡ Ok holds → reverse new.frames.frames ≡ on_body (with_pc (if holds then running.pc + 1 else to)) (reverse r.frames.frames)
    → new ≡ record r { frames = new.frames; fuel = units } → Carries p (Ok done) r new
if_carries p r new running n arm to units i test body other at_place holds done at is out less truth behind rest = record {
  does = λ given of_sheet left f.
      moves_on given p (Ok done) r new running (op.Test n arm to) (if holds then running.pc + 1 else to) left left [] at of_sheet behind (all_rest r new units rest)
      (λ w sees q.
      let now : Here = with_state w.here (record w.here.state { fuel = units }) in
      test_is given p n arm to running.pc i w (ap (λ (code : Code). slice_get code.instrs n) (sym of_sheet.code_is) ∙ is)
      ∙ ap (λ x. decided (test_by given x arm w) (go_on (steps_of given) (running.pc + 1)) (go_on (steps_of given) to)) out
      ∙ ap (λ x. decided x (go_on (steps_of given) (running.pc + 1)) (go_on (steps_of given) to))
      (unit_spent at_place w.here units (λ a. asks given at_place test (stands_at w a)) (ap (λ (s : State). one_less s.fuel) q ∙ less))
      ∙ asked given p at_place test (stands_at w now) r holds running.pc to (record { way = sees.way; alike = sees.alike; is = sees.is }) truth
      ∙ ap (λ s. go_on (steps_of given) (if holds then running.pc + 1 else to) (stands_at w (with_state w.here s))) (state_behind given p r new units left w.here.state rest q))
      f;
}

-- a branch
pub branch_carries : {A : Type 0} (p : Program) (r new : Run) (running : Running) (n arm to : ℕ) (i : Instr) (whens : List When) (other : List Instr) (at_place : Place) (x : When) (holds : Bool) (done : A)
    → IsAtOp p r running (op.Test n arm to) → slice_get p.code.instrs n ≡ Some i → out-Instr i ≡ Instr-F.Choose whens other at_place → slice_get whens arm ≡ Some x
    → truth_of x.test (sight p r) ≡ Ok holds → reverse new.frames.frames ≡ on_body (with_pc (if holds then running.pc + 1 else to)) (reverse r.frames.frames)
    → new ≡ record r { frames = new.frames } → Carries p (Ok done) r new
branch_carries p r new running n arm to i whens other at_place x holds done at is out there truth behind rest = record {
  does = λ given of_sheet left f.
      moves_on given p (Ok done) r new running (op.Test n arm to) (if holds then running.pc + 1 else to) left left [] at of_sheet behind (all_rest r new r.fuel rest)
      (λ w sees q.
      test_is given p n arm to running.pc i w (ap (λ (code : Code). slice_get code.instrs n) (sym of_sheet.code_is) ∙ is)
      ∙ ap (λ y. decided (test_by given y arm w) (go_on (steps_of given) (running.pc + 1)) (go_on (steps_of given) to)) out
      ∙ ap (λ y. decided (arm_asks given at_place y w) (go_on (steps_of given) (running.pc + 1)) (go_on (steps_of given) to)) there
      ∙ asked given p at_place x.test w r holds running.pc to sees truth
      ∙ ap (λ s. go_on (steps_of given) (if holds then running.pc + 1 else to) (stands_at w (with_state w.here s))) (q ∙ sym (ap (λ m. still.state_of given p m left) rest)))
      f;
}

-- the same with an answer
pub carries_so : {A : Type 0} {p : Program} {r new : Run} → CarriesOn p r new → (done : A) → Carries p (Ok done) r new
carries_so c done = record { does = λ given of_sheet left f. c.does given of_sheet left f }

-- An operation that says nothing tells a sink nothing.
pub carried : {S A : Type 0} (output : S → Target) (told : S → S → List Said → Type 0) → ((s : S) → told s s []) → (p : Program) (result : Result A Stop) (r new : Run) (out : S)
    → Carries p result r new → Steps output told p result r new out out
carried output told nothing p result r new out c = record { said = []; tells = nothing out; does = λ given of_sheet limit f. c.does given of_sheet (output out).left f }

-- A step with another answer.

proceeds_answered : {A B : Type 0} (given : Given) (p : Program) (r : Result A Stop) (b : B) (x : Flat_does) (said : List Said) (y : Flat_does) → Proceeds given p r x said y
    → Proceeds given p (answered r b) x said y
proceeds_answered given p (Ok done) b x said y h = h
proceeds_answered given p (Err (stop.Fault fault)) b x said y h = h
proceeds_answered given p (Err (stop.Spent at)) b x said y h = h
proceeds_answered given p (Err stop.Memory) b x said y h = h

pub steps_answered : {S A B : Type 0} (output : S → Target) (told : S → S → List Said → Type 0) (p : Program) (result : Result A Stop) (b : B) (r new : Run) (out out_now : S)
    → Steps output told p result r new out out_now → Steps output told p (answered result b) r new out out_now
steps_answered output told p result b r new out out_now q = record {
  said = q.said;
  tells = q.tells;
  does = λ given of_sheet limit f.
      proceeds_answered given p result b (still.still given p r (output out).left f) q.said (still.still given p new (output out_now).left f) (q.does given of_sheet limit f);
}

-- Where they stop.

abbrev pub stopped : (A : Type 0) → Stop → Result A Stop
stopped A e = Err e

pub if_stops : {A : Type 0} (p : Program) (r new : Run) (running : Running) (n arm to units : ℕ) (i : Instr) (test : Expr) (body other : List Instr) (at_place : Place) (e : Stop)
    → IsAtOp p r running (op.Test n arm to) → slice_get p.code.instrs n ≡ Some i → out-Instr i ≡ Instr-F.If test body other at_place → one_less r.fuel ≡ Some units
    → Gave {A = Bool} at_place (Err e) (truth_of test (sight p r)) → new ≡ record r { frames = new.frames; fuel = units } → Carries {A = A} p (Err e) r new
if_stops {A} p r new running n arm to units i test body other at_place e at is out less gave rest = record {
  does = λ given of_sheet left f.
      moves_on given p (stopped A e) r new running (op.Test n arm to) to left left [] at of_sheet tt (all_rest r new units rest)
      (λ w sees q.
      let now : Here = with_state w.here (record w.here.state { fuel = units }) in
      let is_so =
      test_is given p n arm to running.pc i w (ap (λ (code : Code). slice_get code.instrs n) (sym of_sheet.code_is) ∙ is)
      ∙ ap (λ x. decided (test_by given x arm w) (go_on (steps_of given) (running.pc + 1)) (go_on (steps_of given) to)) out
      ∙ ap (λ x. decided x (go_on (steps_of given) (running.pc + 1)) (go_on (steps_of given) to))
      (unit_spent at_place w.here units (λ a. asks given at_place test (stands_at w a)) (ap (λ (s : State). one_less s.fuel) q ∙ less)) in
      subst (λ y. GoesAs {A = A} (Err e) y [] (go_on (steps_of given) to (stands_at w (with_state w.here (still.state_of given p new left))))) (sym is_so)
      (unasked given p A e at_place test (stands_at w now) r running.pc to _ (record { way = sees.way; alike = sees.alike; is = sees.is }) gave))
      f;
}

pub if_spent : {A : Type 0} (p : Program) (r new : Run) (running : Running) (n arm to : ℕ) (i : Instr) (test : Expr) (body other : List Instr) (at_place : Place)
    → IsAtOp p r running (op.Test n arm to) → slice_get p.code.instrs n ≡ Some i → out-Instr i ≡ Instr-F.If test body other at_place → r.fuel ≡ 0
    → new ≡ record r { fuel = new.fuel } → Carries {A = A} p (Err (stop.Spent at_place)) r new
if_spent {A} p r new running n arm to i test body other at_place at is out none rest = record {
  does = λ given of_sheet left f.
      moves_on given p (stopped A (stop.Spent at_place)) r new running (op.Test n arm to) to left left [] at of_sheet tt
      (rest ∙ sym (ap (λ (m : Run). record r { frames = m.frames; store = m.store; putting = m.putting; fuel = new.fuel }) rest))
      (λ w sees q.
      test_is given p n arm to running.pc i w (ap (λ (code : Code). slice_get code.instrs n) (sym of_sheet.code_is) ∙ is)
      ∙ ap (λ x. decided (test_by given x arm w) (go_on (steps_of given) (running.pc + 1)) (go_on (steps_of given) to)) out
      ∙ ap (λ x. decided x (go_on (steps_of given) (running.pc + 1)) (go_on (steps_of given) to))
      (none_left at_place w.here (λ a. asks given at_place test (stands_at w a)) (ap (λ (s : State). s.fuel) q ∙ none)))
      f;
}

pub branch_stops : {A : Type 0} (p : Program) (r : Run) (running : Running) (n arm to : ℕ) (i : Instr) (whens : List When) (other : List Instr) (at_place : Place) (x : When) (e : Stop)
    → IsAtOp p r running (op.Test n arm to) → slice_get p.code.instrs n ≡ Some i → out-Instr i ≡ Instr-F.Choose whens other at_place → slice_get whens arm ≡ Some x
    → Gave {A = Bool} at_place (Err e) (truth_of x.test (sight p r)) → Carries {A = A} p (Err e) r r
branch_stops {A} p r running n arm to i whens other at_place x e at is out there gave = record {
  does = λ given of_sheet left f.
      moves_on given p (stopped A e) r r running (op.Test n arm to) to left left [] at of_sheet tt refl
      (λ w sees q.
      let is_so =
      test_is given p n arm to running.pc i w (ap (λ (code : Code). slice_get code.instrs n) (sym of_sheet.code_is) ∙ is)
      ∙ ap (λ y. decided (test_by given y arm w) (go_on (steps_of given) (running.pc + 1)) (go_on (steps_of given) to)) out
      ∙ ap (λ y. decided (arm_asks given at_place y w) (go_on (steps_of given) (running.pc + 1)) (go_on (steps_of given) to)) there in
      subst (λ y. GoesAs {A = A} (Err e) y [] (go_on (steps_of given) to (stands_at w (with_state w.here (still.state_of given p r left))))) (sym is_so)
      (unasked given p A e at_place x.test w r running.pc to _ sees gave))
      f;
}

-- only the fuel is another
pub fuel_alone : (r s : Run) → s ≡ record r { fuel = s.fuel } → s ≡ record r { frames = s.frames; fuel = s.fuel }
fuel_alone r s e = e ∙ sym (ap (λ (m : Run). record r { frames = m.frames; fuel = s.fuel }) e)
