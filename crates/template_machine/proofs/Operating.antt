-- What holds of a run whose innermost body goes on.
use Rattle.std.proofs.Common.{◌≡◌, ℕ, zero, suc, ◌+◌, ◌<◌, ◌≤◌, Bool, true, false, List, [], ◌∷◌, length, reverse, take, ◌-◌, Some, IsSome, ◌^◌, refl, ap, sym, subst, ◌∙◌, arith, length-append}
use Rattle.std.proofs.lemmas.Bool.{false≢true}
use Rattle.std.specs.Prelude.{Result, Ok, Err, OnOk}
use Rattle.std.specs.List.{slice_get}
use Rattle.std.proofs.lemmas.Option.{slice_get_within}
use Rattle.frame_stack.specs.Change.{changed, locals_of, with_locals, with_pc}
use Rattle.frame_stack.specs.Stack.{FrameStack, with_frames}
use Rattle.frame_stack.specs.declared.frame.Frame.{Frame}
use Rattle.frame_stack.specs.declared.frame.Frame.TheVariants.{Body, Call, Loop}
use Rattle.frame_stack.specs.declared.locals.Local.{Local}
use Rattle.template_machine.specs.Bodies.{body_in, frame_in, level_in, level_of, on_body, pc_in}
use Rattle.template_machine.specs.Contexts.{Asks, Context, HasForm, Repeats, Station}
use Rattle.template_machine.specs.Standing.{Front, Room, Shelf, Standing, known_now, rooms_of, standing_of}
use Rattle.template_machine.specs.Ways.{Way}
use Rattle.template_machine.specs.Moments.{IsAtOp}
use Rattle.template_machine.specs.Well.{AreWell, BodyGoesOn, GoesOn, IsSettled, IsSteady, IsWaiting, IsWell, TellWithin, instr_before, waiting_at}
use Rattle.template_machine.specs.declared.program.Program.{Program}
use Rattle.template_machine.specs.Programs.{instr_at}
use Rattle.template_machine.specs.declared.run.Doing.{Doing}
use Rattle.template_machine.specs.declared.run.Doing.TheVariants as doing
use Rattle.template_machine.specs.declared.run.Run.{Run}
use Rattle.template_machine.specs.declared.run.Running.{Running}
use Rattle.std.specs.Option.{option_and_then, option_map_or}
use Rattle.sheet_model.specs.Parts.{handed}
use Rattle.sheet_model.specs.declared.instr.Instr.{Instr}
use Rattle.sheet_model.specs.declared.instr.Instr.TheViews.{out-Instr}
use Rattle.instr_code.specs.declared.code.Op.{Op}
use Rattle.instr_code.specs.declared.code.Op.TheVariants as op
use Rattle.template_machine.proofs.Moving.{BodyIs, Moves, asked_there, body_is, frame_moves, goes_at, locals_long, moves_only, moves_pc, on_twice, place_moves, resumes, waiting_long}
use Rattle.template_machine.proofs.Branching.{one_form, top_loop}
use Rattle.template_machine.proofs.Entering.{procedure_over}
use Rattle.template_machine.proofs.Placing.{changed_reversed, placed_in}

-- A body that goes on elsewhere is the same to what is known of its list, and to what buffers tell.

pub fits_moves : (g : Frame → Frame) (pc : ℕ → ℕ) (h : List Local → List Local) → Moves g pc h → (fs : List Frame) (w : Way) (n : ℕ) (front : Front)
    → IsSome (level_in fs) → IsSettled fs w n front → IsSettled (on_body g fs) w n front
fits_moves g pc h m [] w n front some s = absurd (false≢true some)
fits_moves g pc h m (Loop turn ∷ fs) w n front some s = fits_moves g pc h m fs w n front some s
fits_moves g pc h m (Body template alternative old locals level spent ∷ fs) w n front some s =
    subst (λ (x : Frame). IsSettled (x ∷ fs) w n front) (sym (m.template template alternative old locals level spent)) s
fits_moves g pc h m (Call procedure old locals level ∷ fs) w n front some s =
    subst (λ (x : Frame). IsSettled (x ∷ fs) w n front) (sym (m.procedure procedure old locals level)) s
fits_moves g pc h m (f ∷ fs) w n front some s = absurd (false≢true some)

pub tell_moves : (g : Frame → Frame) (pc : ℕ → ℕ) (h : List Local → List Local) → Moves g pc h → (fs : List Frame) (rooms : List Room) (shelves : List Shelf)
    → IsSome (level_in fs) → TellWithin fs rooms shelves → TellWithin (on_body g fs) rooms shelves
tell_moves g pc h m [] rooms shelves some t = absurd (false≢true some)
tell_moves g pc h m (Loop turn ∷ fs) rooms shelves some t = tell_moves g pc h m fs rooms shelves some t
tell_moves g pc h m (Body template alternative old locals level spent ∷ fs) rooms shelves some t =
    subst (λ (x : Frame). TellWithin (x ∷ fs) rooms shelves) (sym (m.template template alternative old locals level spent)) t
tell_moves g pc h m (Call procedure old locals level ∷ fs) rooms shelves some t =
    subst (λ (x : Frame). TellWithin (x ∷ fs) rooms shelves) (sym (m.procedure procedure old locals level)) t
tell_moves g pc h m (f ∷ fs) rooms shelves some t = absurd (false≢true some)

pub level_moves : (g : Frame → Frame) (pc : ℕ → ℕ) (h : List Local → List Local) → Moves g pc h → (fs : List Frame) → IsSome (level_in fs) → IsSome (level_in (on_body g fs))
level_moves g pc h m [] some = absurd (false≢true some)
level_moves g pc h m (Loop turn ∷ fs) some = level_moves g pc h m fs some
level_moves g pc h m (Body template alternative old locals level spent ∷ fs) some =
    subst (λ (x : Frame). IsSome (level_in (x ∷ fs))) (sym (m.template template alternative old locals level spent)) refl
level_moves g pc h m (Call procedure old locals level ∷ fs) some =
    subst (λ (x : Frame). IsSome (level_in (x ∷ fs))) (sym (m.procedure procedure old locals level)) refl
level_moves g pc h m (f ∷ fs) some = absurd (false≢true some)

-- A run.

pub body_goes : (p : Program) (r : Run) → (w : IsWell p r) → r.doing ≡ doing.Body → BodyGoesOn p w.stations (reverse r.frames.frames) (standing_of r) (known_now r)
body_goes p r w is = subst (λ d. GoesOn p w.stations d r.source.ahead (reverse r.frames.frames) (standing_of r) (known_now r)) is w.goes_on

-- other frames
pub with_other_frames : (p : Program) (r : Run) (frames : FrameStack) → IsSteady p r
    → TellWithin (reverse frames.frames) (rooms_of r) (standing_of r).shelves → IsSteady p (record r { frames = frames })
with_other_frames p r frames s t = record {
  sheet = s.sheet;
  limits = s.limits;
  sound = s.sound;
  program = s.program;
  places = s.places;
  groups = s.groups;
  buffers = s.buffers;
  source = s.source;
  outer = s.outer;
  written = s.written;
  shallow = s.shallow;
  copied = s.copied;
  shelved = s.shelved;
  within = t;
  deep = s.deep;
  sections = s.sections;
  aside = s.aside;
}

-- something else goes on
pub does_otherwise : (p : Program) (r : Run) (d : Doing) → IsSteady p r → IsSteady p (record r { doing = d })
does_otherwise p r d s = record {
  sheet = s.sheet;
  limits = s.limits;
  sound = s.sound;
  program = s.program;
  places = s.places;
  groups = s.groups;
  buffers = s.buffers;
  source = s.source;
  outer = s.outer;
  written = s.written;
  shallow = s.shallow;
  copied = s.copied;
  shelved = s.shelved;
  within = s.within;
  deep = s.deep;
  sections = s.sections;
  aside = s.aside;
}

-- a body that goes on elsewhere
pub goes_elsewhere : (p : Program) (r : Run) (w : IsWell p r) (frames : FrameStack) (g : Frame → Frame) (pc : ℕ → ℕ) (h : List Local → List Local) → Moves g pc h
    → r.doing ≡ doing.Body → reverse frames.frames ≡ on_body g (reverse r.frames.frames)
    → AreWell p w.stations 0 false (on_body g (reverse r.frames.frames)) (standing_of r) → IsWell p (record r { frames = frames })
goes_elsewhere p r w frames g pc h m is same well =
    let b = body_goes p r w is in
    let fs = reverse r.frames.frames in
    let s = standing_of r in
    record {
      steady =
          with_other_frames p r frames w.steady
          (subst (λ l. TellWithin l (rooms_of r) s.shelves) (sym same) (tell_moves g pc h m fs (rooms_of r) s.shelves b.body w.steady.within));
      stations = w.stations;
      stand = w.stand;
      apart = w.apart;
      goes_on =
          subst (λ d. GoesOn p w.stations d r.source.ahead (reverse frames.frames) s (known_now r)) (sym is)
          (subst (λ l. BodyGoesOn p w.stations l s (known_now r)) (sym same)
          (record {
            body = level_moves g pc h m fs b.body;
            well = well;
            fits = fits_moves g pc h m fs s.source.way (known_now r).begun (known_now r).front b.body b.fits;
          }));
    }

-- A run whose innermost body is at an operation.

pub at_place : (p : Program) (r : Run) (running : Running) (o : Op) → IsAtOp p r running o
    → (x : Frame) × ((frame_in (reverse r.frames.frames) ≡ Some x) × (slice_get r.frames.frames running.body ≡ Some x) × (running.body < length r.frames.frames))
at_place p r running o at = placed_in r.frames.frames running.body at.body

pub at_body : (p : Program) (r : Run) (running : Running) (o : Op) (at : IsAtOp p r running o)
    → BodyGoesOn p at.well.stations (reverse r.frames.frames) (standing_of r) (known_now r)
at_body p r running o at = body_goes p r at.well at.doing

-- its next operation is another
pub behind_pc : (p : Program) (r : Run) (running : Running) (o : Op) (at : IsAtOp p r running o) (next : ℕ) (frames : FrameStack)
    → frames ≡ with_frames (changed (with_pc next) running.body r.frames.frames) r.frames
    → (reverse frames.frames ≡ on_body (with_pc next) (reverse r.frames.frames)) × (body_in (reverse frames.frames) ≡ Some running.body)
behind_pc p r running o at next frames is =
    let same : reverse frames.frames ≡ on_body (with_pc next) (reverse r.frames.frames) =
    ap (λ (x : FrameStack). reverse x.frames) is ∙ changed_reversed (with_pc next) r.frames.frames running.body at.body in
    (same, ap body_in same ∙ place_moves (with_pc next) (λ o. next) (λ l. l) (moves_pc next) (reverse r.frames.frames) (at_body p r running o at).body ∙ at.body)

-- and its locals are others
pub behind_locals : (p : Program) (r : Run) (running : Running) (o : Op) (at : IsAtOp p r running o) (next : ℕ) (h : List Local → List Local) (frames more : FrameStack)
    → frames ≡ with_frames (changed (with_pc next) running.body r.frames.frames) r.frames
    → more ≡ with_frames (changed (with_locals h) running.body frames.frames) frames
    → reverse more.frames ≡ on_body (λ f. with_locals h (with_pc next f)) (reverse r.frames.frames)
behind_locals p r running o at next h frames more is then_is =
    let first = behind_pc p r running o at next frames is in
    ap (λ (x : FrameStack). reverse x.frames) then_is
    ∙ changed_reversed (with_locals h) frames.frames running.body first.1
    ∙ ap (on_body (with_locals h)) first.0
    ∙ on_twice (with_pc next) (with_locals h) (λ o. next) (λ l. l) (moves_pc next) (reverse r.frames.frames) (at_body p r running o at).body

locals_with_pc : (next : ℕ) (x : Frame) → locals_of (with_pc next x) ≡ locals_of x
locals_with_pc next (Body template alternative pc locals level spent) = refl
locals_with_pc next (Call procedure pc locals level) = refl
locals_with_pc next f = refl

-- the frame of the body, of which only the next operation is another
pub frame_behind : (p : Program) (r : Run) (running : Running) (o : Op) (at : IsAtOp p r running o) (next : ℕ) (frames : FrameStack)
    → frames ≡ with_frames (changed (with_pc next) running.body r.frames.frames) r.frames
    → (x : Frame) × ((slice_get frames.frames running.body ≡ Some x) × (running.body < length frames.frames) × IsSome (level_of x)
    × ((c : Context) → BodyIs p at.well.stations 0 false (reverse r.frames.frames) c (standing_of r) → length (locals_of x) ≡ length c.locals)
    × (length (locals_of x) ≡ length (locals_of (at_place p r running o at).0)))
frame_behind p r running o at next frames is =
    let a = at_place p r running o at in
    let b = at_body p r running o at in
    let first = behind_pc p r running o at next frames is in
    let there = placed_in frames.frames running.body first.1 in
    let same : there.0 ≡ with_pc next a.0 = some_same (sym there.1.0 ∙ ap frame_in first.0 ∙ frame_moves (with_pc next) (λ o. next) (λ l. l) (moves_pc next) (reverse r.frames.frames) a.0 b.body a.1.0) in
    let some : IsSome (level_of there.0) =
    subst (λ o. IsSome (option_and_then level_of o)) there.1.0
    (subst (λ l. IsSome (level_in l)) (sym first.0) (level_moves (with_pc next) (λ o. next) (λ l. l) (moves_pc next) (reverse r.frames.frames) b.body)) in (
      there.0,
      (
        there.1.1,
        there.1.2,
        some,
        λ c body. ap (λ y. length (locals_of y)) same ∙ ap length (locals_with_pc next a.0)
            ∙ locals_long p at.well.stations 0 (reverse r.frames.frames) c (standing_of r) a.0 a.1.0 body,
        ap (λ y. length (locals_of y)) same ∙ ap length (locals_with_pc next a.0),
      ),
    )
  where
    some_same : {x y : Frame} → Some x ≡ Some y → x ≡ y
    some_same e = cc

-- places fit 32 bits
pub next_fits : (p : Program) (r : Run) (running : Running) (o : Op) (at : IsAtOp p r running o) → running.pc + 1 < 2 ^ 32
next_fits p r running o at = omega (arith, slice_get_within p.code.ops running.pc o at.is, at.well.steady.places)

-- the locals that are taken off are there
pub enough : (p : Program) (r : Run) (running : Running) (count : ℕ) (at : IsAtOp p r running (op.Drop count)) (c : Context)
    → BodyIs p at.well.stations 0 false (reverse r.frames.frames) c (standing_of r) → count ≤ length c.locals
enough p r running count at c b =
    let g = goes_at p at.well.stations 0 false (reverse r.frames.frames) c (standing_of r) running.pc at.pc b in
    let o = at.well.stand.leads running.pc (op.Drop count) c g.0 at.is g.1 in
    omega (arith, ap (λ (x : Context). length x.locals) o.1.1.0, length-append o.0.locals o.1.0, o.1.1.1)

pub some_context : (p : Program) (r : Run) (running : Running) (o : Op) (at : IsAtOp p r running o)
    → (c : Context) × BodyIs p at.well.stations 0 false (reverse r.frames.frames) c (standing_of r)
some_context p r running o at =
    let b = at_body p r running o at in body_is p at.well.stations 0 false (reverse r.frames.frames) (standing_of r) b.body b.well

-- A body goes on under other frames.

pub goes_under : (p : Program) (r : Run) (w : IsWell p r) (frames : FrameStack) → r.doing ≡ doing.Body → (gs : List Frame) → reverse frames.frames ≡ gs
    → BodyGoesOn p w.stations gs (standing_of r) (known_now r)
    → TellWithin gs (rooms_of r) (standing_of r).shelves → IsWell p (record r { frames = frames })
goes_under p r w frames is gs same b t =
    let s = standing_of r in
    record {
      steady = with_other_frames p r frames w.steady (subst (λ l. TellWithin l (rooms_of r) s.shelves) (sym same) t);
      stations = w.stations;
      stand = w.stand;
      apart = w.apart;
      goes_on =
          subst (λ d. GoesOn p w.stations d r.source.ahead (reverse frames.frames) s (known_now r)) (sym is)
          (subst (λ l. BodyGoesOn p w.stations l s (known_now r)) (sym same) b);
    }

-- the loop on top is over, or one begins
pub below_loop : (p : Program) (r : Run) (w : IsWell p r) (frames : FrameStack) (turn : ℕ) (gs : List Frame) (g : Frame → Frame) (pc : ℕ → ℕ) (h : List Local → List Local)
    → Moves g pc h → r.doing ≡ doing.Body → reverse r.frames.frames ≡ Loop turn ∷ gs → reverse frames.frames ≡ on_body g gs
    → AreWell p w.stations 0 false (on_body g gs) (standing_of r) → IsWell p (record r { frames = frames })
below_loop p r w frames turn gs g pc h m is top same well =
    let s = standing_of r in
    let b : BodyGoesOn p w.stations (Loop turn ∷ gs) s (known_now r) = subst (λ l. BodyGoesOn p w.stations l s (known_now r)) top (body_goes p r w is) in
    let t : TellWithin gs (rooms_of r) s.shelves = subst (λ l. TellWithin l (rooms_of r) s.shelves) top w.steady.within in
    goes_under p r w frames is (on_body g gs) same
    (record {
      body = level_moves g pc h m gs b.body;
      well = well;
      fits = fits_moves g pc h m gs s.source.way (known_now r).begun (known_now r).front b.body b.fits;
    })
    (tell_moves g pc h m gs (rooms_of r) s.shelves b.body t)

pub under_loop : (p : Program) (r : Run) (w : IsWell p r) (frames : FrameStack) (turn : ℕ) (g : Frame → Frame) (pc : ℕ → ℕ) (h : List Local → List Local)
    → Moves g pc h → r.doing ≡ doing.Body → reverse frames.frames ≡ Loop turn ∷ on_body g (reverse r.frames.frames)
    → AreWell p w.stations 0 false (Loop turn ∷ on_body g (reverse r.frames.frames)) (standing_of r) → IsWell p (record r { frames = frames })
under_loop p r w frames turn g pc h m is same well =
    let s = standing_of r in
    let fs = reverse r.frames.frames in
    let b = body_goes p r w is in
    goes_under p r w frames is (Loop turn ∷ on_body g fs) same
    (record {
      body = level_moves g pc h m fs b.body;
      well = well;
      fits = fits_moves g pc h m fs s.source.way (known_now r).begun (known_now r).front b.body b.fits;
    })
    (tell_moves g pc h m fs (rooms_of r) s.shelves b.body w.steady.within)

-- the loop that is on top
pub open_loop : (p : Program) (r : Run) (running : Running) (n arm to : ℕ) (at : IsAtOp p r running (op.Test n arm to)) → HasForm p.code n Repeats
    → (turn : ℕ) × ((gs : List Frame) × (reverse r.frames.frames ≡ Loop turn ∷ gs))
open_loop p r running n arm to at has =
    let x = some_context p r running (op.Test n arm to) at in
    let fs = reverse r.frames.frames in
    let g = goes_at p at.well.stations 0 false fs x.0 (standing_of r) running.pc at.pc x.1 in
    let l = at.well.stand.leads running.pc (op.Test n arm to) x.0 g.0 at.is g.1 in
    let same : l.0 ≡ Repeats = one_form _ _ _ l.1.0 has in
    let a : Asks p.code at.well.stations Repeats arm to running.pc x.0 g.0 = subst (λ f. Asks p.code at.well.stations f arm to running.pc x.0 g.0) same l.1.1 in
    top_loop p at.well.stations fs x.0 (standing_of r) a.0 a.1.0 x.1

-- A run whose body waits.

-- it has an operation, behind an instruction
pub waits_at : (p : Program) (r : Run) (w : IsWaiting p r) → (c : Context) × BodyIs p w.stations 0 true (reverse r.frames.frames) c (standing_of r)
waits_at p r w = body_is p w.stations 0 true (reverse r.frames.frames) (standing_of r) w.waits.body w.waits.well

pub some_pc : (fs : List Frame) → IsSome (level_in fs) → IsSome (pc_in fs)
some_pc [] some = absurd (false≢true some)
some_pc (Loop turn ∷ fs) some = some_pc fs some
some_pc (Body template alternative pc locals level spent ∷ fs) some = refl
some_pc (Call procedure pc locals level ∷ fs) some = refl
some_pc (f ∷ fs) some = absurd (false≢true some)

pub waiting_pc : (p : Program) (r : Run) → IsWaiting p r → IsSome (pc_in (reverse r.frames.frames))
waiting_pc p r w = some_pc (reverse r.frames.frames) w.waits.body

-- the instruction that it waits for
pub waits_for : (p : Program) (r : Run) (pc : ℕ) → IsWaiting p r → pc_in (reverse r.frames.frames) ≡ Some pc → IsSome (instr_before p pc)
waits_for p r pc w at =
    let x = waits_at p r w in asked_there p w.stations 0 (reverse r.frames.frames) x.0 (standing_of r) pc at x.1

before_pc : (p : Program) (pc : ℕ) → IsSome (instr_before p pc) → (1 ≤ pc) × (instr_before p pc ≡ instr_at p.code (pc - 1))
before_pc p zero some = absurd (false≢true some)
before_pc p (suc place) some =
    let less : place ≡ suc place - 1 = omega arith in (omega arith, ap (instr_at p.code) less)

pub asked_at : (p : Program) (r : Run) (pc : ℕ) → IsWaiting p r → pc_in (reverse r.frames.frames) ≡ Some pc
    → (1 ≤ pc) × (instr_before p pc ≡ instr_at p.code (pc - 1)) × IsSome (instr_at p.code (pc - 1))
asked_at p r pc w at =
    let some = waits_for p r pc w at in
    let e = before_pc p pc some in
    (e.0, e.1, subst (λ o. IsSome o) e.1 some)

-- its body goes on
pub resumed_by : (p : Program) (r : Run) (w : IsWaiting p r) (pc len : ℕ) (frames : FrameStack) → pc_in (reverse r.frames.frames) ≡ Some pc
    → reverse frames.frames ≡ on_body (with_locals (take len)) (reverse r.frames.frames)
    → ((c : Context) → BodyIs p w.stations 0 true (reverse r.frames.frames) c (standing_of r) → len ≡ length c.locals)
    → IsWell p (record r { frames = frames; doing = doing.Body })
resumed_by p r w pc len frames at same long =
    let s = standing_of r in
    let fs = reverse r.frames.frames in
    let g = with_locals (take len) in
    record {
      steady =
          does_otherwise p (record r { frames = frames }) doing.Body
          (with_other_frames p r frames w.steady
          (subst (λ l. TellWithin l (rooms_of r) s.shelves) (sym same)
          (tell_moves g (λ o. o) (take len) (moves_only (take len)) fs (rooms_of r) s.shelves w.waits.body w.steady.within)));
      stations = w.stations;
      stand = w.stand;
      apart = λ e. w.apart;
      goes_on =
          subst (λ l. BodyGoesOn p w.stations l s (known_now r)) (sym same)
          (record {
            body = level_moves g (λ o. o) (take len) (moves_only (take len)) fs w.waits.body;
            well = resumes p w.stations fs s pc len at w.waits.well long;
            fits = fits_moves g (λ o. o) (take len) (moves_only (take len)) fs s.source.way (known_now r).begun (known_now r).front w.waits.body w.waits.fits;
          });
    }

-- the body stands where it stood below the loop on top
pub below_top : (p : Program) (r : Run) (running : Running) (o : Op) (turn : ℕ) (gs : List Frame) (new : FrameStack) → IsAtOp p r running o
    → reverse r.frames.frames ≡ Loop turn ∷ gs → reverse new.frames ≡ gs
    → (body_in (reverse new.frames) ≡ Some running.body) × (pc_in gs ≡ Some running.pc)
below_top p r running o turn gs new at top same =
    (ap body_in same ∙ sym (ap body_in top) ∙ at.body, sym (ap pc_in top) ∙ at.pc)

-- A body at its end stands on top.

loops_least : (p : Program) (stations : List Station) (loops : ℕ) (waits : Bool) (fs : List Frame) (c : Context) (s : Standing)
    → BodyIs p stations loops waits fs c s → loops ≤ c.loops
loops_least p stations loops waits [] c s b = absurd b
loops_least p stations loops waits (Loop turn ∷ fs) c s b = omega (arith, loops_least p stations (suc loops) waits fs c s b)
loops_least p stations loops waits (Body template alternative pc locals level spent ∷ fs) c s b = omega (arith, b.in_loops)
loops_least p stations loops waits (Call procedure pc locals level ∷ fs) c s b = omega (arith, b.in_loops)
loops_least p stations loops waits (f ∷ fs) c s b = absurd b

top_body : (p : Program) (stations : List Station) (waits : Bool) (fs : List Frame) (c : Context) (s : Standing) → BodyIs p stations 0 waits fs c s → c.loops ≡ 0
    → (x : Frame) × ((gs : List Frame) × ((fs ≡ x ∷ gs) × (frame_in fs ≡ Some x)))
top_body p stations waits [] c s b e = absurd b
top_body p stations waits (Loop turn ∷ fs) c s b e = absurd (omega (arith, loops_least p stations 1 waits fs c s b, e))
top_body p stations waits (Body template alternative pc locals level spent ∷ fs) c s b e = (Body template alternative pc locals level spent, (fs, (refl, refl)))
top_body p stations waits (Call procedure pc locals level ∷ fs) c s b e = (Call procedure pc locals level, (fs, (refl, refl)))
top_body p stations waits (f ∷ fs) c s b e = absurd b

pub body_on_top : (p : Program) (r : Run) (running : Running) (x : Frame) → (at : IsAtOp p r running op.Return) → slice_get r.frames.frames running.body ≡ Some x
    → (gs : List Frame) × (reverse r.frames.frames ≡ x ∷ gs)
body_on_top p r running x at is =
    let fs = reverse r.frames.frames in
    let c = some_context p r running op.Return at in
    let g = goes_at p at.well.stations 0 false fs c.0 (standing_of r) running.pc at.pc c.1 in
    let l = at.well.stand.leads running.pc op.Return c.0 g.0 at.is g.1 in
    let t = top_body p at.well.stations false fs c.0 (standing_of r) c.1 l.0 in
    let a = at_place p r running op.Return at in
    let one : a.0 ≡ x = same_some (sym a.1.1 ∙ is) in
    let two : t.0 ≡ a.0 = same_some (sym t.1.1.1 ∙ a.1.0) in
    (t.1.0, t.1.1.0 ∙ ap (λ y. y ∷ t.1.0) (two ∙ one))
  where
    same_some : {y z : Frame} → Some y ≡ Some z → y ≡ z
    same_some e = cc

-- a procedure's body is over
pub procedure_ends : (p : Program) (r : Run) (running : Running) (frames : FrameStack) (number pc level : ℕ) (locals : List Local) (gs : List Frame)
    → (at : IsAtOp p r running op.Return) → reverse r.frames.frames ≡ Call number pc locals level ∷ gs → reverse frames.frames ≡ gs
    → IsWell p (record r { frames = frames })
procedure_ends p r running frames number pc level locals gs at top same =
    let s = standing_of r in
    let w = at.well in
    let b : BodyGoesOn p w.stations (Call number pc locals level ∷ gs) s (known_now r) = subst (λ l. BodyGoesOn p w.stations l s (known_now r)) top (at_body p r running op.Return at) in
    let here : pc ≡ running.pc = same_number (sym (ap pc_in top) ∙ at.pc) in
    let is : slice_get p.code.ops pc ≡ Some op.Return = subst (λ n. slice_get p.code.ops n ≡ Some op.Return) (sym here) at.is in
    let o = procedure_over p w.stations gs s number pc level locals w.stand is b.well in
    goes_under p r w frames at.doing gs same
    (record { body = o.1; well = o.0; fits = b.fits })
    (subst (λ l. TellWithin l (rooms_of r) s.shelves) top w.steady.within)
  where
    same_number : {y z : ℕ} → Some y ≡ Some z → y ≡ z
    same_number e = cc

-- the values that wait for an instruction
pub waiting_count : (p : Program) (r : Run) (pc : ℕ) (i : Instr) (count : ℕ) → IsWaiting p r → pc_in (reverse r.frames.frames) ≡ Some pc
    → instr_at p.code (pc - 1) ≡ Some i → count ≡ length (handed (out-Instr i)) → waiting_at p true pc ≡ count
waiting_count p r pc i count w at is many =
    ap (λ o. option_map_or (λ j. length (handed (out-Instr j))) o 0) ((asked_at p r pc w at).1 ∙ is) ∙ sym many

-- the locals of a body that waits
pub waiting_locals : (p : Program) (r : Run) (pc : ℕ) (x : Frame) (locals : List Local) (count : ℕ) (w : IsWaiting p r) → pc_in (reverse r.frames.frames) ≡ Some pc
    → frame_in (reverse r.frames.frames) ≡ Some x → Some (locals_of x) ≡ Some locals → waiting_at p true pc ≡ count
    → (c : Context) → BodyIs p w.stations 0 true (reverse r.frames.frames) c (standing_of r) → length locals ≡ length c.locals + count
waiting_locals p r pc x locals count w at is are many c b =
    let same : locals_of x ≡ locals = cc in
    omega (arith, ap length same, waiting_long p w.stations 0 (reverse r.frames.frames) c (standing_of r) x pc is at b, many)

-- what follows from what a call does follows where it does it
pub on_ok : {A E : Type 0} (r : Result A E) (P Q : Type 0) → OnOk r P → (P → Q) → OnOk r Q
on_ok (Ok a) P Q h f = f h
on_ok (Err e) P Q h f = h
