-- Operations that cost nothing make a run's work less.
use Rattle.std.proofs.Common.{◌≡◌, ℕ, ◌+◌, ◌<◌, Bool, false, List, [], ◌∷◌, length, reverse, Some, IsSome, refl, ap, ◌∙◌, arith}
use Rattle.std.proofs.lemmas.Bool.{false≢true}
use Rattle.frame_stack.specs.Change.{with_locals, with_pc}
use Rattle.frame_stack.specs.declared.frame.Frame.{Frame}
use Rattle.frame_stack.specs.declared.frame.Frame.TheVariants.{Body, Call, Attributes, Loop, Region, Source, Skip, Pass}
use Rattle.frame_stack.specs.declared.locals.Local.{Local}
use Rattle.instr_code.specs.declared.code.Op.{Op}
use Rattle.instr_code.specs.declared.code.Op.TheVariants as op
use Rattle.template_machine.specs.Bodies.{level_in, on_body, pc_in, pc_of}
use Rattle.template_machine.specs.Contexts.{Choices, Context, HasForm, IsAt}
use Rattle.template_machine.specs.Standing.{standing_of}
use Rattle.template_machine.specs.Moments.{IsAtOp}
use Rattle.template_machine.specs.Work.{ahead_work, frame_work, frames_work, free, outer_work, work}
use Rattle.template_machine.specs.declared.program.Program.{Program}
use Rattle.template_machine.specs.declared.run.Run.{Run}
use Rattle.template_machine.specs.declared.run.Running.{Running}
use Rattle.template_machine.proofs.Freely.{choice_falls, close_falls, drop_falls, jump_falls}
use Rattle.template_machine.proofs.Moving.{goes_at}
use Rattle.template_machine.proofs.Operating.{at_body, some_context}
use Rattle.template_machine.proofs.Works.{goes_falls}

-- The station of an operation.
station_at : (p : Program) (r : Run) (running : Running) (o : Op) (at : IsAtOp p r running o) → (c : Context) × ((rank : ℕ) × IsAt at.well.stations running.pc c rank)
station_at p r running o at =
    let c = some_context p r running o at in
    let g = goes_at p at.well.stations 0 false (reverse r.frames.frames) c.0 (standing_of r) running.pc at.pc c.1 in
    (c.0, (g.0, g.1))

-- Changes of the innermost body that leave it as heavy as it was.

pub pc_weighs : (next : ℕ) (f : Frame) → frame_work (with_pc next f) ≡ frame_work f
pc_weighs next (Body template alternative pc locals level spent) = refl
pc_weighs next (Call procedure pc locals level) = refl
pc_weighs next f = refl

pub locals_weigh : (h : List Local → List Local) (f : Frame) → frame_work (with_locals h f) ≡ frame_work f
locals_weigh h (Body template alternative pc locals level spent) = refl
locals_weigh h (Call procedure pc locals level) = refl
locals_weigh h f = refl

body_weighs : (g : Frame → Frame) → ((f : Frame) → frame_work (g f) ≡ frame_work f) → (fs : List Frame) → frames_work (on_body g fs) ≡ frames_work fs
body_weighs g same [] = refl
body_weighs g same (Loop turn ∷ fs) = omega (arith, body_weighs g same fs)
body_weighs g same (f ∷ fs) = omega (arith, same f)

body_goes : (g : Frame → Frame) (next : ℕ) → ((template alternative pc level : ℕ) (spent : Bool) (locals : List Local) → pc_of (g (Body template alternative pc locals level spent)) ≡ Some next)
    → ((procedure pc level : ℕ) (locals : List Local) → pc_of (g (Call procedure pc locals level)) ≡ Some next)
    → (stays : (f : Frame) (fs : List Frame) → pc_of (g f) ≡ Some next → pc_in (g f ∷ fs) ≡ Some next)
    → (fs : List Frame) → IsSome (level_in fs) → pc_in (on_body g fs) ≡ Some next
body_goes g next body call stays [] some = absurd (false≢true some)
body_goes g next body call stays (Loop turn ∷ fs) some = body_goes g next body call stays fs some
body_goes g next body call stays (Body template alternative pc locals level spent ∷ fs) some =
    stays (Body template alternative pc locals level spent) fs (body template alternative pc level spent locals)
body_goes g next body call stays (Call procedure pc locals level ∷ fs) some = stays (Call procedure pc locals level) fs (call procedure pc level locals)
body_goes g next body call stays (f ∷ fs) some = absurd (false≢true some)

-- a frame that has a next operation is no loop
goes_there : (f : Frame) (fs : List Frame) (next : ℕ) → pc_of f ≡ Some next → pc_in (f ∷ fs) ≡ Some next
goes_there (Loop turn) fs next e = absurd (cc)
goes_there (Body template alternative pc locals level spent) fs next e = e
goes_there (Call procedure pc locals level) fs next e = e
goes_there (Region asked level) fs next e = absurd (cc)
goes_there (Attributes k asked) fs next e = absurd (cc)
goes_there (Source buffer k asked) fs next e = absurd (cc)
goes_there (Skip depth) fs next e = absurd (cc)
goes_there (Pass base level spent) fs next e = absurd (cc)

-- The innermost body goes on elsewhere, for nothing.
pub body_eases : (p : Program) (r n : Run) (running : Running) (o : Op) (at : IsAtOp p r running o) (to : ℕ) (h : List Local → List Local)
    → n ≡ record r { frames = n.frames } → reverse n.frames.frames ≡ on_body (λ f. with_locals h (with_pc to f)) (reverse r.frames.frames)
    → free p.code (length p.code.ops) to < free p.code (length p.code.ops) running.pc → work p n < work p r
body_eases p r n running o at to h is frames less =
    let fs = reverse r.frames.frames in
    let g : Frame → Frame = λ f. with_locals h (with_pc to f) in
    let some = (at_body p r running o at).body in
    let weighs : frames_work (reverse n.frames.frames) ≡ frames_work fs =
    ap frames_work frames ∙ body_weighs g (λ f. locals_weigh h (with_pc to f) ∙ pc_weighs to f) fs in
    let pc : pc_in (reverse n.frames.frames) ≡ Some to =
    ap pc_in frames
    ∙ body_goes g to (λ template alternative pc level spent locals. refl) (λ procedure pc level locals. refl) (λ f gs e. goes_there (g f) gs to e) fs some in
    goes_falls p r n running.pc to at.doing (ap (λ (x : Run). x.doing) is ∙ at.doing) (ap (λ (x : Run). x.source.ahead) is) (ap (λ (x : Run). x.fuel) is)
    (omega (arith, weighs, ap (λ (x : Run). ahead_work x.source.ahead) is, ap (λ (x : Run). outer_work x.outer.items) is)) at.pc pc less

pub jump_eases : (p : Program) (r : Run) (running : Running) (to : ℕ) (at : IsAtOp p r running (op.Jump to))
    → free p.code (length p.code.ops) to < free p.code (length p.code.ops) running.pc
jump_eases p r running to at =
    let c = station_at p r running (op.Jump to) at in jump_falls p.code at.well.stations p.sheet at.well.stand running.pc to c.1.0 c.0 at.is c.1.1

pub drop_eases : (p : Program) (r : Run) (running : Running) (count : ℕ) (at : IsAtOp p r running (op.Drop count))
    → free p.code (length p.code.ops) (running.pc + 1) < free p.code (length p.code.ops) running.pc
drop_eases p r running count at =
    let c = station_at p r running (op.Drop count) at in drop_falls p.code at.well.stations p.sheet at.well.stand running.pc count c.1.0 c.0 at.is c.1.1

pub close_eases : (p : Program) (r : Run) (running : Running) (n : ℕ) (at : IsAtOp p r running (op.Close n))
    → free p.code (length p.code.ops) (running.pc + 1) < free p.code (length p.code.ops) running.pc
close_eases p r running n at =
    let c = station_at p r running (op.Close n) at in close_falls p.code at.well.stations p.sheet at.well.stand running.pc n c.1.0 c.0 at.is c.1.1

pub choice_eases : (p : Program) (r : Run) (running : Running) (n arm to branches : ℕ) (at : IsAtOp p r running (op.Test n arm to)) → HasForm p.code n (Choices branches)
    → (free p.code (length p.code.ops) (running.pc + 1) < free p.code (length p.code.ops) running.pc)
    × (free p.code (length p.code.ops) to < free p.code (length p.code.ops) running.pc)
choice_eases p r running n arm to branches at has =
    let c = station_at p r running (op.Test n arm to) at in
    choice_falls p.code at.well.stations p.sheet at.well.stand running.pc n arm to c.1.0 branches c.0 at.is has c.1.1
