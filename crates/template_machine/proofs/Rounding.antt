-- Choices and loops by a test begin and go round.
use Rattle.std.proofs.Common.{Bool, Result, Err, refl, subst, ◌≡◌, ℕ, ◌+◌, true, false, List, [], ◌∷◌, Some, Ok, reverse, ap, sym, ◌∙◌}
use Rattle.std.specs.Prelude.{IfErr, slice_get}
use Rattle.std.specs.Option.{option_map_or}
use Rattle.std.specs.Result.{result_map_both}
use Rattle.stx_base.specs.Course.{Halt, Ret, and_then}
use Rattle.stx_base.proofs.Course.{same_equal}
use Rattle.stx_base.specs.declared.fault.Place.{Place}
use Rattle.frame_stack.specs.Change.{with_pc}
use Rattle.frame_stack.specs.declared.fault.FrameFault.{FrameFault}
use Rattle.frame_stack.specs.declared.fault.FrameFault.TheVariants as frame_fault
use Rattle.frame_stack.specs.Stack.{IsFull}
use Rattle.frame_stack.specs.declared.frame.Frame.{Frame}
use Rattle.frame_stack.specs.declared.frame.Frame.TheVariants.{Body, Call, Loop}
use Rattle.instr_code.specs.Code.{code_of}
use Rattle.instr_code.specs.Running.{as_flat, go_on, start_of}
use Rattle.instr_code.specs.Steps.{Holds, decided, renamed}
use Rattle.instr_code.specs.declared.code.Code.{Code}
use Rattle.instr_code.specs.declared.code.Op.TheVariants as op
use Rattle.sheet_model.specs.Parts.{place}
use Rattle.sheet_model.specs.declared.instr.Instr.{Instr}
use Rattle.sheet_model.specs.declared.instr.Instr.TheOpen.{Instr-F}
use Rattle.sheet_model.specs.declared.instr.Instr.TheViews.{out-Instr}
use Rattle.sheet_model.specs.declared.instr.When.{When}
use Rattle.stxpath_syntax.specs.declared.expr.Expr.{Expr}
use Rattle.template_machine.specs.Bodies.{on_body, pc_of}
use Rattle.template_machine.specs.Ending.{Faulted, Spent}
use Rattle.template_machine.specs.Job.{Given, State, with_state}
use Rattle.template_machine.specs.Lists.{rest_of}
use Rattle.template_machine.specs.Moments.{IsAtOp}
use Rattle.template_machine.specs.Saying.{Carries, Gave, GoesAs, SeesAs, sight}
use Rattle.template_machine.specs.Steps.{one_less}
use Rattle.template_machine.specs.Still as still
use Rattle.template_machine.specs.Still.{below_loops}
use Rattle.template_machine.specs.Stops.{by_frame}
use Rattle.template_machine.specs.Stepwise.{Flat_does, Working, begins_by, by_given, flat_code, goes_round, in_loop, out_of_loop, spends, stands_at, steps_of, test_by, valued}
use Rattle.template_machine.specs.Values.{setting, truth_of}
use Rattle.template_machine.specs.declared.program.Program.{Program}
use Rattle.template_machine.specs.declared.run.Run.{Run}
use Rattle.template_machine.specs.declared.run.Running.{Running}
use Rattle.template_machine.specs.declared.stop.Stop.{Stop}
use Rattle.template_machine.specs.declared.stop.Stop.TheVariants as stop
use Rattle.template_machine.proofs.Deciding.{all_rest, fuel_alone, none_left, state_behind, stopped, test_is, truth_seen, unit_spent}
use Rattle.template_machine.proofs.Proceeding.{below, moves_on, moves_with}
use Rattle.template_machine.proofs.Proceeding as proceeding

-- the loops of a body that has one more, and of one that has lost one

one_under : (r : Run) (n to pc : ℕ) (fs_now : List Frame) → fs_now ≡ Loop n ∷ on_body (with_pc to) (reverse r.frames.frames)
    → (turns : List ℕ) (b : Frame) (fs : List Frame) → reverse r.frames.frames ≡ below_loops turns (b ∷ fs) → pc_of b ≡ Some pc → fs_now ≡ below_loops (n ∷ turns) (with_pc to b ∷ fs)
one_under r n to pc fs_now is turns b fs before at = is ∙ ap (λ l. Loop n ∷ on_body (with_pc to) l) before ∙ ap (λ l. Loop n ∷ l) (below (with_pc to) turns b fs pc at)

one_off : (n to pc : ℕ) (gs : List Frame) (turns : List ℕ) (b : Frame) (fs : List Frame) → Loop n ∷ gs ≡ below_loops turns (b ∷ fs) → pc_of b ≡ Some pc
    → on_body (with_pc to) gs ≡ below_loops (rest_of turns) (with_pc to b ∷ fs)
one_off n to pc gs [] (Body template alternative q locals level spent) fs is at = absurd (cc)
one_off n to pc gs [] (Call procedure q locals level) fs is at = absurd (cc)
one_off n to pc gs [] b fs is at = absurd (cc)
one_off n to pc gs (t ∷ turns) b fs is at =
    let same : gs ≡ below_loops turns (b ∷ fs) = cc in ap (on_body (with_pc to)) same ∙ below (with_pc to) turns b fs pc at

module _ (given : Given) (p : Program) where
  -- what begins, behind its unit
  pub begun_so : (n pc units : ℕ) (i : Instr) (w : Working) → slice_get (code_of given.sheet).instrs n ≡ Some i → one_less w.here.state.fuel ≡ Some units
      → still.operates given p (op.Begin n) pc w
      ≡ and_then (renamed (as_flat (steps_of given) (start_of (steps_of given) given.sheet)) (begins_by given (out-Instr i) (stands_at w (with_state w.here (record w.here.state { fuel = units }))))) (go_on (steps_of given) (pc + 1))
  begun_so n pc units i w is less =
      let k : Working → Flat_does = go_on (steps_of given) (pc + 1) in
      ap (λ o. option_map_or (λ x. and_then (renamed (as_flat (steps_of given) (start_of (steps_of given) given.sheet)) (and_then (spends (place (out-Instr x)) w) (begins_by given (out-Instr x)))) k) o (k w)) is
      ∙ ap (λ y. and_then (renamed (as_flat (steps_of given) (start_of (steps_of given) given.sheet)) (and_then (by_given w y) (begins_by given (out-Instr i)))) k)
      (proceeding.unit_spent given p (place (out-Instr i)) w.here.state units (λ st. Ret (with_state w.here st)) less)

-- a choice begins
pub choice_begins : {A : Type 0} (p : Program) (r new : Run) (running : Running) (n units : ℕ) (i : Instr) (whens : List When) (other : List Instr) (at_place : Place) (done : A) → IsAtOp p r running (op.Begin n)
    → slice_get p.code.instrs n ≡ Some i → out-Instr i ≡ Instr-F.Choose whens other at_place → one_less r.fuel ≡ Some units
    → reverse new.frames.frames ≡ on_body (with_pc (running.pc + 1)) (reverse r.frames.frames) → new ≡ record r { frames = new.frames; fuel = units } → Carries p (Ok done) r new
choice_begins p r new running n units i whens other at_place done at is out less behind rest = record {
  does = λ given of_sheet left f.
      moves_on given p (Ok done) r new running (op.Begin n) (running.pc + 1) left left [] at of_sheet behind (all_rest r new units rest)
      (λ w sees q.
      let v : Working = stands_at w (with_state w.here (record w.here.state { fuel = units })) in
      begun_so given p n running.pc units i w (ap (λ (code : Code). slice_get code.instrs n) (sym of_sheet.code_is) ∙ is) (ap (λ (s : State). one_less s.fuel) q ∙ less)
      ∙ ap (λ x. and_then (renamed (as_flat (steps_of given) (start_of (steps_of given) given.sheet)) (begins_by given x v)) (go_on (steps_of given) (running.pc + 1))) out
      ∙ ap (λ s. go_on (steps_of given) (running.pc + 1) (stands_at w (with_state w.here s))) (state_behind given p r new units left w.here.state rest q))
      f;
}

-- a loop by a test begins
pub loop_begins : {A : Type 0} (p : Program) (r new : Run) (running : Running) (n units : ℕ) (i : Instr) (test : Expr) (body : List Instr) (at_place : Place) (done : A) → IsAtOp p r running (op.Begin n)
    → slice_get p.code.instrs n ≡ Some i → out-Instr i ≡ Instr-F.While test body at_place → one_less r.fuel ≡ Some units
    → reverse new.frames.frames ≡ Loop 0 ∷ on_body (with_pc (running.pc + 1)) (reverse r.frames.frames) → new ≡ record r { frames = new.frames; fuel = units } → Carries p (Ok done) r new
loop_begins p r new running n units i test body at_place done at is out less behind rest = record {
  does = λ given of_sheet left f.
      moves_with given p (λ l. 0 ∷ l) (Ok done) r new running (op.Begin n) (running.pc + 1) left left [] at of_sheet
      (one_under r 0 (running.pc + 1) running.pc (reverse new.frames.frames) behind) (all_rest r new units rest)
      (λ w sees q.
      let v : Working = stands_at w (with_state w.here (record w.here.state { fuel = units })) in
      begun_so given p n running.pc units i w (ap (λ (code : Code). slice_get code.instrs n) (sym of_sheet.code_is) ∙ is) (ap (λ (s : State). one_less s.fuel) q ∙ less)
      ∙ ap (λ x. and_then (renamed (as_flat (steps_of given) (start_of (steps_of given) given.sheet)) (begins_by given x v)) (go_on (steps_of given) (running.pc + 1))) out
      ∙ ap (λ s. go_on (steps_of given) (running.pc + 1) (in_loop (stands_at w (with_state w.here s)))) (state_behind given p r new units left w.here.state rest q))
      f;
}

-- it goes round once more
pub loop_goes : {A : Type 0} (p : Program) (r new : Run) (running : Running) (n arm to units : ℕ) (i : Instr) (test : Expr) (body : List Instr) (at_place : Place) (done : A) → IsAtOp p r running (op.Test n arm to)
    → slice_get p.code.instrs n ≡ Some i → out-Instr i ≡ Instr-F.While test body at_place → truth_of test (sight p r) ≡ Ok true → one_less r.fuel ≡ Some units
    → reverse new.frames.frames ≡ on_body (with_pc (running.pc + 1)) (reverse r.frames.frames) → new ≡ record r { frames = new.frames; fuel = units } → Carries p (Ok done) r new
loop_goes p r new running n arm to units i test body at_place done at is out truth less behind rest = record {
  does = λ given of_sheet left f.
      moves_on given p (Ok done) r new running (op.Test n arm to) (running.pc + 1) left left [] at of_sheet behind (all_rest r new units rest)
      (λ w sees q.
      test_is given p n arm to running.pc i w (ap (λ (code : Code). slice_get code.instrs n) (sym of_sheet.code_is) ∙ is)
      ∙ ap (λ x. decided (test_by given x arm w) (go_on (steps_of given) (running.pc + 1)) (go_on (steps_of given) to)) out
      ∙ ap (λ v. decided (valued at_place v (λ holds. goes_round at_place holds w)) (go_on (steps_of given) (running.pc + 1)) (go_on (steps_of given) to)) (truth_seen given p r w.self w.here test sees ∙ truth)
      ∙ ap (λ x. decided x (go_on (steps_of given) (running.pc + 1)) (go_on (steps_of given) to))
      (unit_spent at_place w.here units (λ a. Holds [] (stands_at w a)) (ap (λ (s : State). one_less s.fuel) q ∙ less))
      ∙ ap (λ s. go_on (steps_of given) (running.pc + 1) (stands_at w (with_state w.here s))) (state_behind given p r new units left w.here.state rest q))
      f;
}

-- it is over
pub loop_ends : {A : Type 0} (p : Program) (r new : Run) (running : Running) (n arm to turn : ℕ) (gs : List Frame) (i : Instr) (test : Expr) (body : List Instr) (at_place : Place) (done : A) → IsAtOp p r running (op.Test n arm to)
    → slice_get p.code.instrs n ≡ Some i → out-Instr i ≡ Instr-F.While test body at_place → truth_of test (sight p r) ≡ Ok false
    → reverse r.frames.frames ≡ Loop turn ∷ gs → reverse new.frames.frames ≡ on_body (with_pc to) gs → new ≡ record r { frames = new.frames } → Carries p (Ok done) r new
loop_ends p r new running n arm to turn gs i test body at_place done at is out truth top behind rest = record {
  does = λ given of_sheet left f.
      moves_with given p rest_of (Ok done) r new running (op.Test n arm to) to left left [] at of_sheet
      (λ turns b fs before at_pc. behind ∙ one_off turn to running.pc gs turns b fs (sym top ∙ before) at_pc) (all_rest r new r.fuel rest)
      (λ w sees q.
      test_is given p n arm to running.pc i w (ap (λ (code : Code). slice_get code.instrs n) (sym of_sheet.code_is) ∙ is)
      ∙ ap (λ x. decided (test_by given x arm w) (go_on (steps_of given) (running.pc + 1)) (go_on (steps_of given) to)) out
      ∙ ap (λ v. decided (valued at_place v (λ holds. goes_round at_place holds w)) (go_on (steps_of given) (running.pc + 1)) (go_on (steps_of given) to)) (truth_seen given p r w.self w.here test sees ∙ truth)
      ∙ ap (λ s. go_on (steps_of given) to (out_of_loop (stands_at w (with_state w.here s)))) (q ∙ sym (ap (λ m. still.state_of given p m left) rest)))
      f;
}

-- Where they stop.

-- a loop is no instance
pub loop_refused : {A : Type 0} (r : Result A FrameFault) (limit : ℕ) (fs : List Frame) → IfErr r (λ f. f ≡ frame_fault.Instances → IsFull limit (Loop 0) fs) → IfErr r (λ f. f ≡ frame_fault.Memory)
loop_refused (Ok done) limit fs h = tt
loop_refused (Err frame_fault.Memory) limit fs h = refl
loop_refused (Err frame_fault.Instances) limit fs h = let full = h refl in absurd (cc full.1)

begin_spent : (given : Given) (p : Program) (n pc : ℕ) (i : Instr) (w : Working) → slice_get (code_of given.sheet).instrs n ≡ Some i → w.here.state.fuel ≡ 0
    → still.operates given p (op.Begin n) pc w ≡ Halt (Spent (place (out-Instr i)))
begin_spent given p n pc i w is none =
    let k : Working → Flat_does = go_on (steps_of given) (pc + 1) in
    ap (λ o. option_map_or (λ x. and_then (renamed (as_flat (steps_of given) (start_of (steps_of given) given.sheet)) (and_then (spends (place (out-Instr x)) w) (begins_by given (out-Instr x)))) k) o (k w)) is
    ∙ ap (λ y. and_then (renamed (as_flat (steps_of given) (start_of (steps_of given) given.sheet)) (and_then (by_given w y) (begins_by given (out-Instr i)))) k)
    (proceeding.none_left given p (place (out-Instr i)) w.here.state (λ st. Ret (with_state w.here st)) none)

pub begin_stops : {A : Type 0} (p : Program) (r new : Run) (running : Running) (n : ℕ) (i : Instr) → IsAtOp p r running (op.Begin n) → slice_get p.code.instrs n ≡ Some i → r.fuel ≡ 0
    → new ≡ record r { fuel = new.fuel } → Carries {A = A} p (Err (stop.Spent (place (out-Instr i)))) r new
begin_stops {A} p r new running n i at is none rest = record {
  does = λ given of_sheet left f.
      moves_on given p (stopped A (stop.Spent (place (out-Instr i)))) r new running (op.Begin n) 0 left left [] at of_sheet tt (all_rest r new new.fuel (fuel_alone r new rest))
      (λ w sees q. begin_spent given p n running.pc i w (ap (λ (code : Code). slice_get code.instrs n) (sym of_sheet.code_is) ∙ is) (ap (λ (s : State). s.fuel) q ∙ none)) f;
}

-- want of memory
pub memory_stops : {A : Type 0} (p : Program) (r new : Run) → Carries {A = A} p (Err stop.Memory) r new
memory_stops p r new = record { does = λ given of_sheet left f. (still.still given p r left f, same_equal (flat_code given) refl) }

pub loop_spent : {A : Type 0} (p : Program) (r new : Run) (running : Running) (n arm to : ℕ) (i : Instr) (test : Expr) (body : List Instr) (at_place : Place) → IsAtOp p r running (op.Test n arm to)
    → slice_get p.code.instrs n ≡ Some i → out-Instr i ≡ Instr-F.While test body at_place → truth_of test (sight p r) ≡ Ok true → r.fuel ≡ 0
    → new ≡ record r { fuel = new.fuel } → Carries {A = A} p (Err (stop.Spent at_place)) r new
loop_spent {A} p r new running n arm to i test body at_place at is out truth none rest = record {
  does = λ given of_sheet left f.
      moves_on given p (stopped A (stop.Spent at_place)) r new running (op.Test n arm to) to left left [] at of_sheet tt (all_rest r new new.fuel (fuel_alone r new rest))
      (λ w sees q.
      test_is given p n arm to running.pc i w (ap (λ (code : Code). slice_get code.instrs n) (sym of_sheet.code_is) ∙ is)
      ∙ ap (λ x. decided (test_by given x arm w) (go_on (steps_of given) (running.pc + 1)) (go_on (steps_of given) to)) out
      ∙ ap (λ v. decided (valued at_place v (λ holds. goes_round at_place holds w)) (go_on (steps_of given) (running.pc + 1)) (go_on (steps_of given) to)) (truth_seen given p r w.self w.here test sees ∙ truth)
      ∙ ap (λ x. decided x (go_on (steps_of given) (running.pc + 1)) (go_on (steps_of given) to))
      (none_left at_place w.here (λ a. Holds [] (stands_at w a)) (ap (λ (s : State). s.fuel) q ∙ none)))
      f;
}

round_unasked : (A : Type 0) (given : Given) (p : Program) (e : Stop) (at : Place) (test : Expr) (w : Working) (r : Run) (pc to : ℕ) (y : Flat_does) → SeesAs given p r w.self w.here
    → Gave {A = Bool} at (Err e) (truth_of test (sight p r))
    → GoesAs {A = A} (Err e) (decided (valued at (truth_of test (setting given w.self w.here)) (λ holds. goes_round at holds w)) (go_on (steps_of given) (pc + 1)) (go_on (steps_of given) to)) [] y
round_unasked A given p (stop.Fault fault) at test w r pc to y sees gave =
    ap (λ v. decided (valued at v (λ holds. goes_round at holds w)) (go_on (steps_of given) (pc + 1)) (go_on (steps_of given) to)) (truth_seen given p r w.self w.here test sees ∙ gave.1.0)
    ∙ ap (λ x. Halt (Faulted x)) (sym gave.1.1)
round_unasked A given p (stop.Spent where_now) at test w r pc to y sees gave = absurd gave
round_unasked A given p stop.Memory at test w r pc to y sees gave =
    (decided (valued at (truth_of test (setting given w.self w.here)) (λ holds. goes_round at holds w)) (go_on (steps_of given) (pc + 1)) (go_on (steps_of given) to), refl)

pub loop_stops : {A : Type 0} (p : Program) (r : Run) (running : Running) (n arm to : ℕ) (i : Instr) (test : Expr) (body : List Instr) (at_place : Place) (e : Stop) → IsAtOp p r running (op.Test n arm to)
    → slice_get p.code.instrs n ≡ Some i → out-Instr i ≡ Instr-F.While test body at_place → Gave {A = Bool} at_place (Err e) (truth_of test (sight p r)) → Carries {A = A} p (Err e) r r
loop_stops {A} p r running n arm to i test body at_place e at is out gave = record {
  does = λ given of_sheet left f.
      moves_on given p (stopped A e) r r running (op.Test n arm to) to left left [] at of_sheet tt refl
      (λ w sees q.
      let is_so =
      test_is given p n arm to running.pc i w (ap (λ (code : Code). slice_get code.instrs n) (sym of_sheet.code_is) ∙ is)
      ∙ ap (λ x. decided (test_by given x arm w) (go_on (steps_of given) (running.pc + 1)) (go_on (steps_of given) to)) out in
      subst (λ y. GoesAs {A = A} (Err e) y [] (go_on (steps_of given) to (stands_at w (with_state w.here (still.state_of given p r left))))) (sym is_so)
      (round_unasked A given p e at_place test w r running.pc to _ sees gave))
      f;
}

-- a loop that isn't pushed wants memory
pub loop_memory : {A : Type 0} (at : Place) (r : Result A FrameFault) (e : Stop) → Err e ≡ result_map_both (λ done. done) (by_frame at) r → IfErr r (λ f. f ≡ frame_fault.Memory) → e ≡ stop.Memory
loop_memory at (Ok done) e is h = absurd (cc)
loop_memory at (Err f) e is h = let same : e ≡ by_frame at f = cc in same ∙ ap (by_frame at) h
