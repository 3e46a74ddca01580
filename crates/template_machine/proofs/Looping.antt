-- A run at the turn of a loop over items.
use Rattle.std.proofs.Common.{◌≡◌, ℕ, ◌+◌, ◌-◌, ◌<◌, ◌≤◌, false, List, [], ◌∷◌, length, reverse, take, Some, IsSome, refl, ap, sym, subst, ◌∙◌, arith, length-append}
use Rattle.std.specs.List.{slice_get}
use Rattle.std.specs.Option.{option_and_then, option_map}
use Rattle.frame_stack.specs.Change.{changed, locals_of, with_locals, with_pc}
use Rattle.frame_stack.specs.Stack.{FrameStack, with_frames}
use Rattle.frame_stack.specs.declared.frame.Frame.{Frame}
use Rattle.frame_stack.specs.declared.frame.Frame.TheVariants.{Loop}
use Rattle.frame_stack.specs.declared.locals.Local.{Local}
use Rattle.instr_code.specs.declared.code.Op.{Op}
use Rattle.instr_code.specs.declared.code.Op.TheVariants as op
use Rattle.template_machine.specs.Bodies.{body_in, frame_in, level_in, level_of, on_body, pc_in, turn_of}
use Rattle.template_machine.specs.Contexts.{Context, Items, with_kind}
use Rattle.template_machine.specs.Standing.{known_now, rooms_of, standing_of}
use Rattle.template_machine.specs.Moments.{IsAtOp}
use Rattle.template_machine.specs.Well.{BodyGoesOn, TellWithin}
use Rattle.template_machine.specs.Working.{IsWalk}
use Rattle.template_machine.specs.declared.program.Program.{Program}
use Rattle.template_machine.specs.declared.run.Run.{Run}
use Rattle.template_machine.specs.declared.run.Running.{Running}
use Rattle.template_machine.proofs.Branching.{top_loop}
use Rattle.template_machine.proofs.Moving.{BodyIs, goes_at, locals_long, moves_only, on_twice, place_moves}
use Rattle.template_machine.proofs.Operating.{at_body, at_place, goes_under, some_context}
use Rattle.template_machine.proofs.Placing.{changed_reversed, top_at}
use Rattle.template_machine.proofs.Walking.{turns_at}

-- the body of a run at an operation has a level
pub level_at_body : (p : Program) (r : Run) (running : Running) (o : Op) → IsAtOp p r running o → IsSome (option_and_then level_of (slice_get r.frames.frames running.body))
level_at_body p r running o at =
    let a = at_place p r running o at in subst (λ y. IsSome (option_and_then level_of y)) (a.1.0 ∙ sym a.1.1) (at_body p r running o at).body

-- the loop that is on top
pub open_walk : (p : Program) (r : Run) (running : Running) (n to : ℕ) → IsAtOp p r running (op.Turn n to) → IsWalk p.code n
    → (turn : ℕ) × ((gs : List Frame) × (reverse r.frames.frames ≡ Loop turn ∷ gs))
open_walk p r running n to at walk =
    let x = some_context p r running (op.Turn n to) at in
    let fs = reverse r.frames.frames in
    let a = turns_at p at.well.stations x.0 running.pc n to walk.0 at.well.stand at.is walk.1
    (goes_at p at.well.stations 0 false fs x.0 (standing_of r) running.pc at.pc x.1) in
    top_loop p at.well.stations fs x.0 (standing_of r) (with_kind Items a.0) a.1.0 x.1

pub has_turn : (p : Program) (r : Run) (running : Running) (n to : ℕ) → IsAtOp p r running (op.Turn n to) → IsWalk p.code n
    → IsSome (option_and_then turn_of (slice_get r.frames.frames (length r.frames.frames - 1))) × (0 < length r.frames.frames)
has_turn p r running n to at walk =
    let l = open_walk p r running n to at walk in
    let t = top_at r.frames.frames (Loop l.0) l.1.0 l.1.1 in
    (subst (λ o. IsSome (option_and_then turn_of o)) (sym t.0) refl, omega (arith, t.1))

-- its items are the last local
pub has_items : (p : Program) (r : Run) (running : Running) (n to : ℕ) (at : IsAtOp p r running (op.Turn n to)) → IsWalk p.code n → (locals : List Local)
    → option_map locals_of (slice_get r.frames.frames running.body) ≡ Some locals → 1 ≤ length locals
has_items p r running n to at walk locals are =
    let x = some_context p r running (op.Turn n to) at in
    let fs = reverse r.frames.frames in
    let f = at_place p r running (op.Turn n to) at in
    let a = turns_at p at.well.stations x.0 running.pc n to walk.0 at.well.stand at.is walk.1
    (goes_at p at.well.stations 0 false fs x.0 (standing_of r) running.pc at.pc x.1) in
    let long = locals_long p at.well.stations 0 fs x.0 (standing_of r) f.0 f.1.0 x.1 in
    let same : Some (locals_of f.0) ≡ Some locals = sym (ap (option_map locals_of) f.1.1) ∙ are in
    let ls : locals_of f.0 ≡ locals = cc in
    omega (arith, long, ap length ls, ap (λ (c : Context). length c.locals) a.1.0, length-append a.0.locals (Items ∷ []))

-- of so many locals as the context of its body says
pub walk_long : (p : Program) (r : Run) (running : Running) (n to : ℕ) (at : IsAtOp p r running (op.Turn n to)) → IsWalk p.code n → (locals : List Local) (turn : ℕ)
    (gs : List Frame) → option_map locals_of (slice_get r.frames.frames running.body) ≡ Some locals → reverse r.frames.frames ≡ Loop turn ∷ gs
    → (c : Context) → BodyIs p at.well.stations 1 false gs c (standing_of r) → length locals - 1 + 1 ≡ length c.locals
walk_long p r running n to at walk locals turn gs are top c b =
    let f = at_place p r running (op.Turn n to) at in
    let there : frame_in gs ≡ Some f.0 = sym (ap frame_in top) ∙ f.1.0 in
    let long = locals_long p at.well.stations 1 gs c (standing_of r) f.0 there b in
    let same : Some (locals_of f.0) ≡ Some locals = sym (ap (option_map locals_of) f.1.1) ∙ are in
    let ls : locals_of f.0 ≡ locals = cc in
    omega (arith, long, ap length ls, has_items p r running n to at walk locals are)

-- the loop on top has bound another number of items
pub at_counted : (p : Program) (r : Run) (running : Running) (o : Op) (frames : FrameStack) (turn bound : ℕ) (gs : List Frame) → IsAtOp p r running o
    → reverse r.frames.frames ≡ Loop turn ∷ gs → reverse frames.frames ≡ Loop bound ∷ gs → IsAtOp p (record r { frames = frames }) running o
at_counted p r running o frames turn bound gs at top same =
    let s = standing_of r in
    let b : BodyGoesOn p at.well.stations (Loop turn ∷ gs) s (known_now r) = subst (λ l. BodyGoesOn p at.well.stations l s (known_now r)) top (at_body p r running o at) in
    record {
      well =
          goes_under p r at.well frames at.doing (Loop bound ∷ gs) same (record { body = b.body; well = b.well; fits = b.fits })
          (subst (λ l. TellWithin l (rooms_of r) s.shelves) top at.well.steady.within);
      doing = at.doing;
      body = ap body_in same ∙ sym (ap body_in top) ∙ at.body;
      pc = ap pc_in same ∙ sym (ap pc_in top) ∙ at.pc;
      is = at.is;
    }

-- the last locals of the body are taken off, then the loop over it, and then its next operation is another
pub walk_over : (first second third fourth : FrameStack) (body turn len to : ℕ) (gs : List Frame) → reverse first.frames ≡ Loop turn ∷ gs → body_in (reverse first.frames) ≡ Some body
    → IsSome (level_in gs) → second ≡ with_frames (changed (with_locals (take len)) body first.frames) first
    → (reverse second.frames ≡ Loop turn ∷ on_body (with_locals (take len)) gs → reverse third.frames ≡ on_body (with_locals (take len)) gs)
    → fourth ≡ with_frames (changed (with_pc to) body third.frames) third
    → (body_in (reverse third.frames) ≡ Some body) × (reverse fourth.frames ≡ on_body (λ f. with_pc to (with_locals (take len) f)) gs)
walk_over first second third fourth body turn len to gs top at some cut off set =
    let g = with_locals (take len) in
    let one : reverse second.frames ≡ Loop turn ∷ on_body g gs =
    ap (λ (x : FrameStack). reverse x.frames) cut ∙ changed_reversed g first.frames body at ∙ ap (on_body g) top in
    let two = off one in
    let there : body_in (reverse third.frames) ≡ Some body =
    ap body_in two ∙ place_moves g (λ o. o) (take len) (moves_only (take len)) gs some ∙ sym (ap body_in top) ∙ at in (
      there,
      ap (λ (x : FrameStack). reverse x.frames) set ∙ changed_reversed (with_pc to) third.frames body there ∙ ap (on_body (with_pc to)) two
          ∙ on_twice g (with_pc to) (λ o. o) (take len) (moves_only (take len)) gs some,
    )
