-- A body waits for an instruction, and the values that it hands wait with it.
use Rattle.std.proofs.Common.{◌≡◌, ◌≢◌, ℕ, suc, ◌+◌, Bool, true, false, List, [], ◌∷◌, ◌++◌, length, reverse, Some, IsSome, refl, ap, sym, subst, ◌∙◌, add-one}
use Rattle.std.specs.Prelude.{◌==◌, if◌then◌else◌}
use Rattle.std.specs.List.{slice_get}
use Rattle.std.specs.Option.{option_and_then, option_map_or}
use Rattle.std.proofs.lemmas.Bool.{false≢true}
use Rattle.frame_stack.specs.Change.{changed, with_locals, with_pc, with_spent}
use Rattle.frame_stack.specs.Stack.{FrameStack, with_frames}
use Rattle.frame_stack.specs.declared.frame.Frame.{Frame}
use Rattle.frame_stack.specs.declared.frame.Frame.TheVariants.{Body, Call, Loop}
use Rattle.frame_stack.specs.declared.locals.Local.{Local}
use Rattle.instr_code.specs.declared.code.Op.TheVariants as op
use Rattle.sheet_model.specs.Parts.{handed}
use Rattle.sheet_model.specs.declared.instr.Instr.{Instr}
use Rattle.sheet_model.specs.declared.instr.Instr.TheViews.{out-Instr}
use Rattle.stxpath_values.specs.declared.value.Atom.{Atom}
use Rattle.template_machine.specs.Bodies.{all_spent, body_in, level_in, on_body, pc_in, spent_by, spent_in}
use Rattle.template_machine.specs.Contexts.{Goes, HasForm, HasStations, Single, Station, behind}
use Rattle.template_machine.specs.Programs.{done_by, instr_at, number_at}
use Rattle.template_machine.specs.Standing.{Known, Room, Shelf, Standing, known_now, rooms_of, standing_of, writing_over}
use Rattle.template_machine.specs.Moments.{IsAtOp}
use Rattle.template_machine.specs.Well.{AreWell, BodyWaits, GoesOn, IsWaiting, IsWell, ListGoesOn, TellWithin, buffers_of, instr_before, waiting_at}
use Rattle.template_machine.specs.Working.{Awaits, PushesWaiting}
use Rattle.template_machine.specs.declared.bodies.Seen.TheVariants.{Outside, Template, Within}
use Rattle.template_machine.specs.declared.program.Program.{Program}
use Rattle.template_machine.specs.declared.run.Doing.TheVariants as doing
use Rattle.template_machine.specs.declared.run.Run.{Run}
use Rattle.template_machine.specs.declared.run.Running.{Running}
use Rattle.template_machine.specs.declared.source.Ahead.{Ahead}
use Rattle.template_machine.specs.declared.source.Ahead.TheVariants as ahead
use Rattle.template_machine.proofs.Branching.{one_form}
use Rattle.template_machine.proofs.Moving.{alone, moves_locals, place_moves, steps}
use Rattle.template_machine.proofs.Pushing.{as_many}
use Rattle.template_machine.proofs.Operating.{at_body, behind_locals, does_otherwise, fits_moves, level_moves, tell_moves, with_other_frames}

-- the instruction before the next operation
before_next : (p : Program) (pc n : ℕ) (i : Instr) → slice_get p.code.ops pc ≡ Some (op.Do n) → slice_get p.code.instrs n ≡ Some i → instr_before p (pc + 1) ≡ Some i
before_next p pc n i is there =
    let number : number_at p.code pc ≡ Some n = ap (option_and_then done_by) is in
    let asked : instr_at p.code pc ≡ Some i = ap (option_and_then (λ k. slice_get p.code.instrs k)) number ∙ there in
    ap (instr_before p) (add-one pc) ∙ asked

pub pc_moved : (fs : List Frame) (pc next : ℕ) (h : List Local → List Local) → pc_in fs ≡ Some pc → pc_in (on_body (λ f. with_locals h (with_pc next f)) fs) ≡ Some next
pc_moved [] pc next h at = absurd (cc)
pc_moved (Loop turn ∷ fs) pc next h at = pc_moved fs pc next h at
pc_moved (Body template alternative old locals level spent ∷ fs) pc next h at = refl
pc_moved (Call procedure old locals level ∷ fs) pc next h at = refl
pc_moved (f ∷ fs) pc next h at = absurd (cc)

module _ (p : Program) (stations : List Station) where
  hands : (fs : List Frame) (s : Standing) (pc n : ℕ) (waiting : List Local) → HasStations p.code stations p.sheet → pc_in fs ≡ Some pc
      → slice_get p.code.ops pc ≡ Some (op.Do n) → HasForm p.code n Single → waiting_at p true (pc + 1) ≡ length waiting → IsSome (instr_before p (pc + 1))
      → AreWell p stations 0 false fs s → AreWell p stations 0 true (on_body (λ f. with_locals (λ ls. ls ++ waiting) (with_pc (pc + 1) f)) fs) s
  hands fs s pc n waiting stand at is has many some w =
      steps p stations (λ f. with_locals (λ ls. ls ++ waiting) (with_pc (pc + 1) f)) (λ o. pc + 1) (λ ls. ls ++ waiting) (moves_locals (pc + 1) (λ ls. ls ++ waiting))
      (λ n m. n ≡ m) (λ n m e. ap suc e) 0 0 false true fs s pc refl at w
      (λ c g.
      let l = stand.leads pc (op.Do n) c g.0 is g.1 in
      let same : l.0 ≡ Single = one_form _ _ _ l.1.0 has in (
        c,
        (
          refl,
          λ whose n m locals level e body. record {
            there = subst (λ f. Goes stations (pc + 1) (behind f c)) same l.1.2;
            own = body.own;
            in_loops = body.in_loops ∙ e;
            locals_fit = (locals, (waiting, (refl, sym many, alone p stations locals c.locals body.locals_fit)));
            asked = λ e. some;
            level_is = body.level_is;
            writes = body.writes;
          },
        ),
      ))

  -- a body's node has children that are gone, or aren't
  pub spent_there : (loops : ℕ) (waits : Bool) (fs : List Frame) (s : Standing) → IsSome (level_in fs) → AreWell p stations loops waits fs s → IsSome (spent_in fs)
  spent_there loops waits [] s some w = absurd (false≢true some)
  spent_there loops waits (Loop turn ∷ fs) s some w = spent_there (suc loops) waits fs s some w
  spent_there loops waits (Body template alternative pc locals level spent ∷ fs) s some w = refl
  spent_there loops waits (Call procedure pc locals level ∷ fs) s some w =
      spent_there 0 false fs (writing_over (buffers_of p w.0.writing) s) (subst (λ o. IsSome o) (sym w.1.1.2) refl) w.1.1.3
  spent_there loops waits (f ∷ fs) s some w = absurd (false≢true some)

-- A run whose innermost body waits.

-- the values of an instruction wait behind the body's locals
pub hands_on : (p : Program) (r : Run) (running : Running) (n : ℕ) (i : Instr) (waiting : List Local) (frames : FrameStack) → IsAtOp p r running (op.Do n)
    → HasForm p.code n Single → slice_get p.code.instrs n ≡ Some i → length waiting ≡ length (handed (out-Instr i))
    → reverse frames.frames ≡ on_body (λ f. with_locals (λ ls. ls ++ waiting) (with_pc (running.pc + 1) f)) (reverse r.frames.frames)
    → Awaits p (record r { frames = frames }) running.pc running.body
hands_on p r running n i waiting frames at has is long same =
    let w = at.well in
    let s = standing_of r in
    let fs = reverse r.frames.frames in
    let b = at_body p r running (op.Do n) at in
    let next = running.pc + 1 in
    let h : List Local → List Local = λ ls. ls ++ waiting in
    let g : Frame → Frame = λ f. with_locals h (with_pc next f) in
    let m = moves_locals next h in
    let before = before_next p running.pc n i at.is is in
    let many : waiting_at p true next ≡ length waiting = ap (λ o. option_map_or (λ j. length (handed (out-Instr j))) o 0) before ∙ sym long in
    record {
      waits = record {
        steady =
            with_other_frames p r frames w.steady
            (subst (λ l. TellWithin l (rooms_of r) s.shelves) (sym same) (tell_moves g (λ o. next) h m fs (rooms_of r) s.shelves b.body w.steady.within));
        stations = w.stations;
        stand = w.stand;
        apart = w.apart at.doing;
        waits =
            subst (λ l. BodyWaits p w.stations l s (known_now r)) (sym same)
            (record {
              body = level_moves g (λ o. next) h m fs b.body;
              well = hands p w.stations fs s running.pc n waiting w.stand at.pc at.is has many (subst (λ o. IsSome o) (sym before) refl) b.well;
              fits = fits_moves g (λ o. next) h m fs s.source.way (known_now r).begun (known_now r).front b.body b.fits;
            });
      };
      pc = ap pc_in same ∙ pc_moved fs running.pc next h at.pc ∙ ap (λ k. Some k) (add-one running.pc);
      place = ap body_in same ∙ place_moves g (λ o. next) h m fs b.body ∙ at.body;
    }

-- so behind a call that lets them wait
pub handed_on : (p : Program) (r : Run) (running : Running) (n : ℕ) (i : Instr) (values : List (List Atom)) (frames : FrameStack) (t : Run) → (at : IsAtOp p r running (op.Do n))
    → HasForm p.code n Single → slice_get p.code.instrs n ≡ Some i → length values ≡ length (handed (out-Instr i))
    → frames ≡ with_frames (changed (with_pc (running.pc + 1)) running.body r.frames.frames) r.frames
    → PushesWaiting values running.body (record r { frames = frames }) t → Awaits p t running.pc running.body
handed_on p r running n i values frames t at has is many set pushed =
    let waiting = pushed.0 in
    let h : List Local → List Local = λ ls. ls ++ waiting in
    let more = with_frames (changed (with_locals h) running.body frames.frames) frames in
    subst (λ (x : Run). Awaits p x running.pc running.body) (sym pushed.1.1)
    (hands_on p r running n i waiting more at has is (as_many values waiting pushed.1.0 ∙ many)
    (behind_locals p r running (op.Do n) at (running.pc + 1) h frames more set refl))

-- A list goes on.

list_goes : (p : Program) (stations : List Station) (a : Ahead) (fs : List Frame) (s : Standing) (known : Known) → a ≢ ahead.Here → ListGoesOn p stations fs s known
    → GoesOn p stations doing.List a fs s known
list_goes p stations ahead.Nothing fs s known apart l = l
list_goes p stations ahead.Here fs s known apart l = absurd (apart refl)
list_goes p stations ahead.Held fs s known apart l = l
list_goes p stations ahead.Ended fs s known apart l = l

pub lists_on : (p : Program) (r : Run) (w : IsWaiting p r) (frames : FrameStack) (gs : List Frame) → reverse frames.frames ≡ gs
    → ListGoesOn p w.stations gs (standing_of r) (known_now r) → TellWithin gs (rooms_of r) (standing_of r).shelves
    → IsWell p (record r { frames = frames; doing = doing.List })
lists_on p r w frames gs same l t =
    let s = standing_of r in
    let steady = with_other_frames p r frames w.steady (subst (λ l. TellWithin l (rooms_of r) s.shelves) (sym same) t) in
    record {
      steady = does_otherwise p (record r { frames = frames }) doing.List steady;
      stations = w.stations;
      stand = w.stand;
      apart = λ e. absurd (cc);
      goes_on =
          list_goes p w.stations r.source.ahead (reverse frames.frames) s (known_now r) w.apart
          (subst (λ l. ListGoesOn p w.stations l s (known_now r)) (sym same) l);
    }

-- what buffers tell doesn't change where children are gone

tell_by : (b : Bool) (t : ℕ) (x : Frame) (fs gs : List Frame) (rooms : List Room) (shelves : List Shelf) → TellWithin (x ∷ fs) rooms shelves
    → TellWithin (with_spent true x ∷ gs) rooms shelves → TellWithin (spent_by (if b then Template t else Outside) x fs gs) rooms shelves
tell_by true t x fs gs rooms shelves old new = new
tell_by false t x fs gs rooms shelves old new = old

tell_call : (b : Bool) (x : Frame) (fs gs : List Frame) (rooms : List Room) (shelves : List Shelf) → TellWithin (x ∷ fs) rooms shelves
    → TellWithin (x ∷ gs) rooms shelves → TellWithin (spent_by (if b then Within else Outside) x fs gs) rooms shelves
tell_call true x fs gs rooms shelves old new = new
tell_call false x fs gs rooms shelves old new = old

pub tell_spent : (level : ℕ) (fs : List Frame) (rooms : List Room) (shelves : List Shelf) → TellWithin fs rooms shelves → TellWithin (all_spent level fs) rooms shelves
tell_spent level [] rooms shelves t = t
tell_spent level (Loop turn ∷ fs) rooms shelves t = tell_spent level fs rooms shelves t
tell_spent level (Body template alternative pc locals own spent ∷ fs) rooms shelves t =
    tell_by (own == level) template (Body template alternative pc locals own spent) fs (all_spent level fs) rooms shelves t (tell_spent level fs rooms shelves t)
tell_spent level (Call procedure pc locals own ∷ fs) rooms shelves t =
    tell_call (own == level) (Call procedure pc locals own) fs (all_spent level fs) rooms shelves t (tell_spent level fs rooms shelves t)
tell_spent level (f ∷ fs) rooms shelves t = t
