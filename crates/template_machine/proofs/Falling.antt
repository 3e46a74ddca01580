-- What methods do to what falls with each step.
use Rattle.std.proofs.Common.{◌≡◌, ℕ, zero, suc, ◌+◌, ◌<◌, ◌≤◌, ◌^◌, false, List, [], ◌∷◌, ◌++◌, length, reverse, Some, refl, ap, sym, subst, ◌∙◌, arith}
use Rattle.std.specs.Prelude.{Result, Ok, Err, IfOk, OnOk}
use Rattle.frame_stack.specs.Change.{changed, with_locals, with_pc}
use Rattle.frame_stack.specs.Stack.{FrameStack, with_frames}
use Rattle.frame_stack.specs.declared.frame.Frame.{Frame}
use Rattle.frame_stack.specs.declared.frame.Frame.TheVariants.{Body, Call, Loop}
use Rattle.frame_stack.specs.declared.locals.Local.{Local}
use Rattle.instr_code.specs.declared.code.Op.{Op}
use Rattle.instr_code.specs.declared.code.Op.TheVariants as op
use Rattle.template_machine.specs.Bodies.{on_body, pc_in}
use Rattle.template_machine.specs.Contexts.{Choices, Context, Goes, HasForm}
use Rattle.template_machine.specs.Documents.{documents}
use Rattle.template_machine.specs.Puts.{OnlyPuts}
use Rattle.template_machine.specs.Standing.{standing_of}
use Rattle.template_machine.specs.Steps.{fuel_begun, one_less}
use Rattle.template_machine.specs.Moments.{IsAtOp, IsBuffer}
use Rattle.template_machine.specs.Work.{Begins, Falls, Lessens, Means, ahead_work, burden, frame_work, frames_work, free, load, means_of, outer_work, waits_work, work}
use Rattle.template_machine.specs.declared.program.Program.{Program}
use Rattle.template_machine.specs.declared.run.Doing.TheVariants as doing
use Rattle.template_machine.specs.declared.run.Run.{Run}
use Rattle.template_machine.specs.declared.run.Running.{Running}
use Rattle.template_machine.specs.declared.run.Step.{Step}
use Rattle.template_machine.specs.declared.run.Step.TheVariants as step
use Rattle.template_machine.specs.declared.source.Ahead.{Ahead}
use Rattle.template_machine.specs.declared.source.Ahead.TheVariants as ahead
use Rattle.template_machine.specs.declared.source.Origin.{Origin}
use Rattle.template_machine.specs.declared.source.Origin.TheVariants as origin
use Rattle.template_machine.proofs.Documents.{same_documents}
use Rattle.template_machine.proofs.Freely.{choice_falls, close_falls, drop_falls, jump_falls}
use Rattle.template_machine.proofs.Handing.{pc_moved}
use Rattle.template_machine.proofs.Moving.{goes_at}
use Rattle.template_machine.proofs.Operating.{behind_locals, behind_pc, some_context}
use Rattle.template_machine.proofs.Works.{goes_falls, less_falls, spends_falls, waits_few, work_changed, work_pushed}
use Rattle.var_store.specs.Copies.{Stored}
use Rattle.template_machine.proofs.Spared.{same_fuel}

-- One after another.

pub begins_on : (a b : ℕ) (old mid new : Run) → Begins a old mid → Begins b mid new → Begins (a + b) old new
begins_on a b old mid new x y = record { means = y.means ∙ x.means; load = by (load old) (load mid) (waits_work mid.doing mid.source.ahead) (burden new) x.load y.load }
  where
    by : (k m w n : ℕ) → m + w ≤ k + a → n ≤ m + b → n ≤ k + (a + b)
    by k m w n f g = omega (arith, f, g)

-- and no more than so much
pub begins_within : (a b : ℕ) (old new : Run) → a ≤ b → Begins a old new → Begins b old new
begins_within a b old new less x = record { means = x.means; load = by (load old) (burden new) x.load }
  where
    by : (k n : ℕ) → n ≤ k + a → n ≤ k + b
    by k n f = omega (arith, f, less)

-- so much is gone before
pub begins_behind : (a b : ℕ) (old mid new : Run) → means_of mid ≡ means_of old → load mid + a ≤ load old → Begins b mid new → (c : ℕ) → b ≤ a + c → Begins c old new
begins_behind a b old mid new means less x c few = record { means = x.means ∙ means; load = by (load old) (load mid) (burden new) less x.load }
  where
    by : (k m n : ℕ) → m + a ≤ k → n ≤ m + b → n ≤ k + c
    by k m n f g = omega (arith, f, g, few)

-- what waits is less
pub less_lessens : (p : Program) (old new : Run) → length p.code.ops < 2 ^ 32 → means_of new ≡ means_of old → burden new + 1 ≤ burden old → Lessens p old new
less_lessens p old new small means less = record {
  still = same_documents old new means;
  spared = same_fuel old new means;
  falls = less_falls p old new small (ap (λ (m : Means). m.fuel) means) less;
}

pub falls_behind : (p : Program) (a b : ℕ) (old mid new : Run) → length p.code.ops < 2 ^ 32 → means_of mid ≡ means_of old → load mid + a ≤ load old → Begins b mid new → b < a
    → Lessens p old new
falls_behind p a b old mid new small means less x few =
    less_lessens p old new small (x.means ∙ means) (by (load old) (waits_work old.doing old.source.ahead) (load mid) (burden new) less x.load)
  where
    by : (k w m n : ℕ) → m + a ≤ k → n ≤ m + b → n + 1 ≤ k + w
    by k w m n f g = omega (arith, f, g, few)

-- A body goes on, or a list does.

body_waits : (a : Ahead) → waits_work doing.Body a ≡ 0
body_waits ahead.Nothing = refl
body_waits ahead.Here = refl
body_waits ahead.Held = refl
body_waits ahead.Ended = refl

pub begins_body : (k : ℕ) (old new : Run) → new.doing ≡ doing.Body → means_of new ≡ means_of old → load new ≤ load old + k → Begins k old new
begins_body k old new is means less = record {
  means = means;
  load = by (load old) (load new) (waits_work new.doing new.source.ahead) less (ap (λ d. waits_work d new.source.ahead) is ∙ body_waits new.source.ahead);
}
  where
    by : (m n w : ℕ) → n ≤ m + k → w ≡ 0 → n + w ≤ m + k
    by m n w f g = omega (arith, f, g)

pub begins_list : (k : ℕ) (old new : Run) → means_of new ≡ means_of old → load new ≤ load old + k → Begins (k + 2) old new
begins_list k old new means less = record {
  means = means;
  load = by (load old) (load new) (waits_work new.doing new.source.ahead) less (waits_few new.doing new.source.ahead);
}
  where
    by : (m n w : ℕ) → n ≤ m + k → w ≤ 2 → n + w ≤ m + (k + 2)
    by m n w f g = omega (arith, f, g)

-- Fuel.

one_less_is : (n m : ℕ) → one_less n ≡ Some m → n ≡ suc m
one_less_is zero m e = absurd (cc)
one_less_is (suc n) m e = let same : n ≡ m = cc in ap suc same

-- a unit is spent
spent_less : (old mid new : Run) (most : ℕ) → mid ≡ record old { fuel = mid.fuel } → one_less old.fuel ≡ Some mid.fuel → Begins most mid new → new.fuel < old.fuel
spent_less old mid new most same spent b = by old.fuel mid.fuel new.fuel (one_less_is old.fuel mid.fuel spent) (ap (λ (m : Means). m.fuel) b.means)
  where
    by : (k m n : ℕ) → k ≡ suc m → n ≡ m → n < k
    by k m n f g = omega (arith, f, g)

no_more : (n m : ℕ) → n < m → n ≤ m
no_more n m less = omega (arith, less)

-- and what follows begins less than that pays for
pub spent_falls : (p : Program) (old mid new : Run) (most : ℕ) → length p.code.ops < 2 ^ 32 → mid ≡ record old { fuel = mid.fuel } → one_less old.fuel ≡ Some mid.fuel
    → most ≤ 2 ^ 68 → Begins most mid new → Lessens p old new
spent_falls p old mid new most small same spent few b =
    record {
      still = same_documents mid new b.means ∙ ap documents same;
      spared = no_more new.fuel old.fuel (spent_less old mid new most same spent b);
      falls =
          spends_falls p old new small
          (record {
            fuel = spent_less old mid new most same spent b;
            load = by (load old) (load mid) (load new) (waits_work new.doing new.source.ahead) b.load (ap load same) few;
          });
    }
  where
    by : (k m n w : ℕ) → n + w ≤ m + most → m ≡ k → most ≤ 2 ^ 68 → n ≤ k + 2 ^ 68
    by k m n w f g h = omega (arith, f, g, h)

pub spent_ok : (p : Program) (old mid new : Run) (most : ℕ) → length p.code.ops < 2 ^ 32 → mid ≡ record old { fuel = mid.fuel } → one_less old.fuel ≡ Some mid.fuel
    → most ≤ 2 ^ 68 → {E : Type 0} (result : Result Step E) → OnOk result (Begins most mid new) → IfOk result (λ s. Falls p old s new)
spent_ok p old mid new most small same spent few (Ok step.More) b = spent_falls p old mid new most small same spent few b
spent_ok p old mid new most small same spent few (Ok step.Wait) b =
    record { still = same_documents mid new b.means ∙ ap documents same; spared = no_more new.fuel old.fuel (spent_less old mid new most same spent b) }
spent_ok p old mid new most small same spent few (Ok step.Want) b =
    record { still = same_documents mid new b.means ∙ ap documents same; spent = spent_less old mid new most same spent b }
spent_ok p old mid new most small same spent few (Ok step.Over) b =
    record { still = same_documents mid new b.means ∙ ap documents same; spared = no_more new.fuel old.fuel (spent_less old mid new most same spent b) }
spent_ok p old mid new most small same spent few (Err e) b = tt

pub begun_buffer : (whole fuel left id : ℕ) (o : Origin) → IsBuffer id o → fuel_begun whole fuel o ≡ Some left → one_less fuel ≡ Some left
begun_buffer whole fuel left id (origin.Buffer own at) is e = e
begun_buffer whole fuel left id (origin.Document at) is e = absurd is
begun_buffer whole fuel left id origin.Main is e = absurd is

-- Frames.

pub pc_weighs : (next : ℕ) (f : Frame) → frame_work (with_pc next f) ≡ frame_work f
pc_weighs next (Body template alternative pc locals level spent) = refl
pc_weighs next (Call procedure pc locals level) = refl
pc_weighs next f = refl

pub locals_weigh : (h : List Local → List Local) (f : Frame) → frame_work (with_locals h f) ≡ frame_work f
locals_weigh h (Body template alternative pc locals level spent) = refl
locals_weigh h (Call procedure pc locals level) = refl
locals_weigh h f = refl

pub both_weigh : (h : List Local → List Local) (next : ℕ) (f : Frame) → frame_work (with_locals h (with_pc next f)) ≡ frame_work f
both_weigh h next f = locals_weigh h (with_pc next f) ∙ pc_weighs next f

pub body_weighs : (g : Frame → Frame) → ((f : Frame) → frame_work (g f) ≡ frame_work f) → (fs : List Frame) → frames_work (on_body g fs) ≡ frames_work fs
body_weighs g same [] = refl
body_weighs g same (Loop turn ∷ fs) = ap (λ n. 1 + n) (body_weighs g same fs)
body_weighs g same (f ∷ fs) = ap (λ n. n + frames_work fs) (same f)

pub pc_set : (next place : ℕ) (a b : FrameStack) → b ≡ with_frames (changed (with_pc next) place a.frames) a → frames_work (reverse b.frames) ≡ frames_work (reverse a.frames)
pc_set next place a b is = ap (λ (x : FrameStack). frames_work (reverse x.frames)) is ∙ work_changed (with_pc next) (pc_weighs next) place a.frames

pub locals_set : (h : List Local → List Local) (place : ℕ) (a b : FrameStack) → b ≡ with_frames (changed (with_locals h) place a.frames) a
    → frames_work (reverse b.frames) ≡ frames_work (reverse a.frames)
locals_set h place a b is = ap (λ (x : FrameStack). frames_work (reverse x.frames)) is ∙ work_changed (with_locals h) (locals_weigh h) place a.frames

pub frame_pushed : (f : Frame) (a b : FrameStack) → b ≡ with_frames (a.frames ++ f ∷ []) a → frames_work (reverse b.frames) ≡ frame_work f + frames_work (reverse a.frames)
frame_pushed f a b is = ap (λ (x : FrameStack). frames_work (reverse x.frames)) is ∙ work_pushed a.frames f

-- A body goes on under other frames, which weigh so much more at most.
pub begins_under : (k : ℕ) (r : Run) (frames : FrameStack) → r.doing ≡ doing.Body → frames_work (reverse frames.frames) ≤ frames_work (reverse r.frames.frames) + k
    → Begins k r (record r { frames = frames })
begins_under k r frames is less =
    begins_body k r (record r { frames = frames }) is refl
    (by (frames_work (reverse frames.frames)) (frames_work (reverse r.frames.frames)) (ahead_work r.source.ahead) (outer_work r.outer.items) less)
  where
    by : (x y a o : ℕ) → x ≤ y + k → x + a + o ≤ y + a + o + k
    by x y a o f = omega (arith, f)

pub same_under : (r : Run) (frames : FrameStack) → r.doing ≡ doing.Body → frames_work (reverse frames.frames) ≡ frames_work (reverse r.frames.frames)
    → Begins 0 r (record r { frames = frames })
same_under r frames is same = begins_under 0 r frames is (omega (arith, same))

-- at another operation
pub begins_pc : (r : Run) (next place : ℕ) (frames : FrameStack) → r.doing ≡ doing.Body → frames ≡ with_frames (changed (with_pc next) place r.frames.frames) r.frames
    → Begins 0 r (record r { frames = frames })
begins_pc r next place frames is same = same_under r frames is (pc_set next place r.frames frames same)

-- and with other locals
pub begins_locals : (r : Run) (next place also : ℕ) (h : List Local → List Local) (frames more : FrameStack) → r.doing ≡ doing.Body
    → frames ≡ with_frames (changed (with_pc next) place r.frames.frames) r.frames → more ≡ with_frames (changed (with_locals h) also frames.frames) frames
    → Begins 0 r (record r { frames = more })
begins_locals r next place also h frames more is first then_is =
    same_under r more is (locals_set h also frames more then_is ∙ pc_set next place r.frames frames first)

-- An operation that costs nothing leads on.
pub goes_work : (p : Program) (r : Run) (running : Running) (o : Op) (at : IsAtOp p r running o) (frames : FrameStack) (g : Frame → Frame) (to : ℕ)
    → ((f : Frame) → frame_work (g f) ≡ frame_work f) → reverse frames.frames ≡ on_body g (reverse r.frames.frames)
    → pc_in (on_body g (reverse r.frames.frames)) ≡ Some to → free p.code (length p.code.ops) to < free p.code (length p.code.ops) running.pc
    → Lessens p r (record r { frames = frames })
goes_work p r running o at frames g to same is pc less =
    let weigh : frames_work (reverse frames.frames) ≡ frames_work (reverse r.frames.frames) = ap frames_work is ∙ body_weighs g same (reverse r.frames.frames) in
    record {
      still = refl;
      spared = same_fuel r (record r { frames = frames }) refl;
      falls =
          goes_falls p r (record r { frames = frames }) running.pc to at.doing at.doing refl refl
          (ap (λ n. n + ahead_work r.source.ahead + outer_work r.outer.items) weigh) at.pc (ap pc_in is ∙ pc) less;
    }

-- its place among the stations
station : (p : Program) (r : Run) (running : Running) (o : Op) (at : IsAtOp p r running o) → (c : Context) × Goes at.well.stations running.pc c
station p r running o at =
    let x = some_context p r running o at in
    (x.0, goes_at p at.well.stations 0 false (reverse r.frames.frames) x.0 (standing_of r) running.pc at.pc x.1)

pc_goes : (next pc : ℕ) (fs : List Frame) → pc_in fs ≡ Some pc → pc_in (on_body (with_pc next) fs) ≡ Some next
pc_goes next pc [] at = absurd (cc)
pc_goes next pc (Loop turn ∷ fs) at = pc_goes next pc fs at
pc_goes next pc (Body template alternative old locals level spent ∷ fs) at = refl
pc_goes next pc (Call procedure old locals level ∷ fs) at = refl
pc_goes next pc (f ∷ fs) at = absurd (cc)

pub jump_works : (p : Program) (r : Run) (running : Running) (to : ℕ) (at : IsAtOp p r running (op.Jump to)) (frames : FrameStack)
    → frames ≡ with_frames (changed (with_pc to) running.body r.frames.frames) r.frames → Lessens p r (record r { frames = frames })
jump_works p r running to at frames is =
    let s = station p r running (op.Jump to) at in
    goes_work p r running (op.Jump to) at frames (with_pc to) to (pc_weighs to) (behind_pc p r running (op.Jump to) at to frames is).0
    (pc_goes to running.pc (reverse r.frames.frames) at.pc) (jump_falls p.code at.well.stations p.sheet at.well.stand running.pc to s.1.0 s.0 at.is s.1.1)

pub close_works : (p : Program) (r : Run) (running : Running) (n : ℕ) (at : IsAtOp p r running (op.Close n)) (frames : FrameStack)
    → frames ≡ with_frames (changed (with_pc (running.pc + 1)) running.body r.frames.frames) r.frames → Lessens p r (record r { frames = frames })
close_works p r running n at frames is =
    let s = station p r running (op.Close n) at in
    let to = running.pc + 1 in
    goes_work p r running (op.Close n) at frames (with_pc to) to (pc_weighs to) (behind_pc p r running (op.Close n) at to frames is).0
    (pc_goes to running.pc (reverse r.frames.frames) at.pc) (close_falls p.code at.well.stations p.sheet at.well.stand running.pc n s.1.0 s.0 at.is s.1.1)

pub tagged_works : (p : Program) (r : Run) (running : Running) (n : ℕ) (h : List Local → List Local) (at : IsAtOp p r running (op.Close n)) (frames more : FrameStack)
    → frames ≡ with_frames (changed (with_pc (running.pc + 1)) running.body r.frames.frames) r.frames
    → more ≡ with_frames (changed (with_locals h) running.body frames.frames) frames → Lessens p r (record r { frames = more })
tagged_works p r running n h at frames more is then_is =
    let s = station p r running (op.Close n) at in
    let to = running.pc + 1 in
    goes_work p r running (op.Close n) at more (λ f. with_locals h (with_pc to f)) to (both_weigh h to)
    (behind_locals p r running (op.Close n) at to h frames more is then_is) (pc_moved (reverse r.frames.frames) running.pc to h at.pc)
    (close_falls p.code at.well.stations p.sheet at.well.stand running.pc n s.1.0 s.0 at.is s.1.1)

pub drop_works : (p : Program) (r : Run) (running : Running) (count : ℕ) (h : List Local → List Local) (at : IsAtOp p r running (op.Drop count)) (frames more : FrameStack)
    → frames ≡ with_frames (changed (with_pc (running.pc + 1)) running.body r.frames.frames) r.frames
    → more ≡ with_frames (changed (with_locals h) running.body frames.frames) frames → Lessens p r (record r { frames = more })
drop_works p r running count h at frames more is then_is =
    let s = station p r running (op.Drop count) at in
    let to = running.pc + 1 in
    goes_work p r running (op.Drop count) at more (λ f. with_locals h (with_pc to f)) to (both_weigh h to)
    (behind_locals p r running (op.Drop count) at to h frames more is then_is) (pc_moved (reverse r.frames.frames) running.pc to h at.pc)
    (drop_falls p.code at.well.stations p.sheet at.well.stand running.pc count s.1.0 s.0 at.is s.1.1)

-- the test of a branch, which holds or doesn't
pub branch_works : (p : Program) (r : Run) (running : Running) (n arm to b : ℕ) (at : IsAtOp p r running (op.Test n arm to)) → HasForm p.code n (Choices b)
    → ((frames : FrameStack) → frames ≡ with_frames (changed (with_pc (running.pc + 1)) running.body r.frames.frames) r.frames → Lessens p r (record r { frames = frames }))
    × ((frames : FrameStack) → frames ≡ with_frames (changed (with_pc to) running.body r.frames.frames) r.frames → Lessens p r (record r { frames = frames }))
branch_works p r running n arm to b at has =
    let o = op.Test n arm to in
    let s = station p r running o at in
    let f = choice_falls p.code at.well.stations p.sheet at.well.stand running.pc n arm to s.1.0 b s.0 at.is has s.1.1 in (
      λ frames is.
          goes_work p r running o at frames (with_pc (running.pc + 1)) (running.pc + 1) (pc_weighs (running.pc + 1)) (behind_pc p r running o at (running.pc + 1) frames is).0
          (pc_goes (running.pc + 1) running.pc (reverse r.frames.frames) at.pc) f.0,
      λ frames is.
          goes_work p r running o at frames (with_pc to) to (pc_weighs to) (behind_pc p r running o at to frames is).0
          (pc_goes to running.pc (reverse r.frames.frames) at.pc) f.1,
    )

-- The top frame is gone.
pub top_off : (p : Program) (r : Run) (frames : FrameStack) (f : Frame) (gs : List Frame) → length p.code.ops < 2 ^ 32 → reverse r.frames.frames ≡ f ∷ gs
    → frames_work (reverse frames.frames) ≡ frames_work gs → 0 < frame_work f → Lessens p r (record r { frames = frames })
top_off p r frames f gs small is same some =
    less_lessens p r (record r { frames = frames }) small refl
    (by (frames_work (reverse frames.frames)) (frames_work (reverse r.frames.frames)) (frame_work f) (frames_work gs) (ahead_work r.source.ahead) (outer_work r.outer.items)
    (waits_work r.doing r.source.ahead) (ap frames_work is) same some)
  where
    by : (x y t g a o w : ℕ) → y ≡ t + g → x ≡ g → 0 < t → x + a + o + w + 1 ≤ y + a + o + w
    by x y t g a o w e h some = omega (arith, e, h, some)

-- What else a run has doesn't matter.

pub begins_as : (k : ℕ) (old other new : Run) → means_of other ≡ means_of old → load other ≡ load old → Begins k other new → Begins k old new
begins_as k old other new means same b = record { means = b.means ∙ means; load = subst (λ n. burden new ≤ n + k) same b.load }

pub puts_begin : (old new : Run) → OnlyPuts old new → old.doing ≡ doing.Body → Begins 0 old new
puts_begin old new o is =
    subst (Begins 0 old) (sym o.rest) (begins_body 0 old (record old { putting = new.putting }) is refl (omega arith))

pub stores_begin : (r : Run) (store : Stored) → r.doing ≡ doing.Body → Begins 0 r (record r { store = store })
stores_begin r store is = begins_body 0 r (record r { store = store }) is refl (omega arith)

pub still_begins : (r : Run) → r.doing ≡ doing.Body → Begins 0 r r
still_begins r is = begins_body 0 r r is refl (omega arith)

pub spent_on : (p : Program) (old mid new : Run) (most : ℕ) → length p.code.ops < 2 ^ 32 → mid ≡ record old { fuel = mid.fuel } → one_less old.fuel ≡ Some mid.fuel
    → most ≤ 2 ^ 68 → {A E : Type 0} (result : Result A E) → OnOk result (Begins most mid new) → OnOk result (Lessens p old new)
spent_on p old mid new most small same spent few (Ok a) b = spent_falls p old mid new most small same spent few b
spent_on p old mid new most small same spent few (Err e) b = tt

-- a unit is spent, parts are put, and the body goes on
pub puts_falls : (p : Program) (old mid put new : Run) → length p.code.ops < 2 ^ 32 → mid ≡ record old { fuel = mid.fuel } → one_less old.fuel ≡ Some mid.fuel
    → OnlyPuts mid put → old.doing ≡ doing.Body → Begins 0 put new → Lessens p old new
puts_falls p old mid put new small same spent o is b =
    spent_falls p old mid new 0 small same spent (omega arith)
    (begins_on 0 0 mid put new (puts_begin mid put o (ap (λ (x : Run). x.doing) same ∙ is)) b)

-- parts are put, and then it falls
pub falls_put : (p : Program) (old put new : Run) → OnlyPuts old put → Lessens p put new → Lessens p old new
falls_put p old put new o less = record {
  still = less.still ∙ ap documents o.rest;
  spared = subst (λ k. new.fuel ≤ k) (ap (λ (x : Run). x.fuel) o.rest) less.spared;
  falls = subst (λ n. work p new < n) (ap (work p) o.rest) less.falls;
}
