use Rattle.std.proofs.Common.{◌≡◌, ◌+◌, ◌-◌, ◌∷◌, ◌∙◌, Some, IsSome, false, length, take, refl, ap, sym, subst, arith}
use Rattle.std.specs.Option.{option_map}
use Rattle.frame_stack.specs.Change.{changed, locals_of, with_locals, with_pc}
use Rattle.frame_stack.specs.Stack.{with_frames}
use Rattle.frame_stack.specs.declared.frame.Frame.TheVariants.{Loop}
use Rattle.instr_code.specs.declared.code.Op.TheVariants as op
use Rattle.template_machine.specs.Bodies.{level_in, on_body, pc_in}
use Rattle.template_machine.specs.Standing.{standing_of}
use Rattle.template_machine.specs.Well.{AreWell}
use Rattle.template_machine.proofs.Looping.{has_items, level_at_body, open_walk, walk_long, walk_over}
use Rattle.template_machine.proofs.Operating.{at_body, at_place, below_loop}
use Rattle.template_machine.proofs.Placing.{placed_in}
use Rattle.template_machine.proofs.Walking.{moves_back, walk_ends}
use Rattle.template_machine.proofs.Falling.{body_weighs, locals_weigh, pc_weighs, top_off}
use Rattle.template_machine.specs.Work.{frames_work}
use Rattle.template_machine.proofs.run.Run.end_walk.Goals as goal

pub locals_at-requires : goal.locals_at-requires
locals_at-requires c = level_at_body c.args.program.now c.args.self.now c.args.running (op.Turn c.args.number c.args.to) c.requires.op

pub overflow_sub-last : goal.overflow_sub-last
overflow_sub-last c =
    omega (
      arith,
      c.len-last.ensures,
      has_items c.args.program.now c.args.self.now c.args.running c.args.number c.args.to c.requires.op c.requires.form c.locals_at.result.now c.locals_at.ensures,
    )

pub cut_locals-requires-clause-place : goal.cut_locals-requires-clause-place
cut_locals-requires-clause-place c = (at_place c.args.program.now c.args.self.now c.args.running (op.Turn c.args.number c.args.to) c.requires.op).1.2

pub set_pc-requires : goal.set_pc-requires
set_pc-requires c =
    let p = c.args.program.now in
    let r = c.args.self.now in
    let at = c.requires.op in
    let l = open_walk p r c.args.running c.args.number c.args.to at c.requires.form in
    let some : IsSome (level_in l.1.0) = subst (λ fs. IsSome (level_in fs)) l.1.1 (at_body p r c.args.running (op.Turn c.args.number c.args.to) at).body in
    let len = c.len-last.result - 1 in
    let over = walk_over r.frames c.cut_locals.new.self c.take_off.new.frames (with_frames (changed (with_pc c.args.to) c.args.running.body c.take_off.new.frames.frames) c.take_off.new.frames) c.args.running.body l.0 len c.args.to l.1.0 l.1.1 at.body some c.cut_locals.ensures
    (c.take_off.ensures (Loop l.0) (on_body (with_locals (take len)) l.1.0)) refl in
    (placed_in c.take_off.new.frames.frames c.args.running.body over.0).1.2

pub returns-clause-stands : goal.returns-clause-stands
returns-clause-stands c =
    let p = c.args.program.now in
    let r = c.args.self.now in
    let at = c.requires.op in
    let w = at.well in
    let to = c.args.to in
    let o = op.Turn c.args.number to in
    let walk = c.requires.form in
    let l = open_walk p r c.args.running c.args.number to at walk in
    let gs = l.1.0 in
    let some : IsSome (level_in gs) = subst (λ fs. IsSome (level_in fs)) l.1.1 (at_body p r c.args.running o at).body in
    let len = c.len-last.result - 1 in
    let over = walk_over r.frames c.cut_locals.new.self c.take_off.new.frames c.set_pc.new.self c.args.running.body l.0 len to gs l.1.1 at.body some c.cut_locals.ensures
    (c.take_off.ensures (Loop l.0) (on_body (with_locals (take len)) gs)) c.set_pc.ensures in
    let well : AreWell p w.stations 0 false (Loop l.0 ∷ gs) (standing_of r) =
    subst (λ fs. AreWell p w.stations 0 false fs (standing_of r)) l.1.1 (at_body p r c.args.running o at).well in
    below_loop p r w c.set_pc.new.self l.0 gs (λ f. with_pc to (with_locals (take len) f)) (λ o. to) (take len) (moves_back to (take len)) at.doing l.1.1 over.1
    (walk_ends p w.stations l.0 gs (standing_of r) c.args.running.pc c.args.number to len walk.0 w.stand (sym (ap pc_in l.1.1) ∙ at.pc) at.is walk.1
    (λ y b. ap (λ n. n - 1 + 1) c.len-last.ensures ∙ walk_long p r c.args.running c.args.number to at walk c.locals_at.result.now l.0 gs c.locals_at.ensures l.1.1 y b) well)

pub returns-clause-works : goal.returns-clause-works
returns-clause-works c =
    let p = c.args.program.now in
    let r = c.args.self.now in
    let at = c.requires.op in
    let to = c.args.to in
    let l = open_walk p r c.args.running c.args.number to at c.requires.form in
    let gs = l.1.0 in
    let some : IsSome (level_in gs) = subst (λ fs. IsSome (level_in fs)) l.1.1 (at_body p r c.args.running (op.Turn c.args.number to) at).body in
    let len = c.len-last.result - 1 in
    let over = walk_over r.frames c.cut_locals.new.self c.take_off.new.frames c.set_pc.new.self c.args.running.body l.0 len to gs l.1.1 at.body some c.cut_locals.ensures
    (c.take_off.ensures (Loop l.0) (on_body (with_locals (take len)) gs)) c.set_pc.ensures in
    top_off p r c.set_pc.new.self (Loop l.0) gs at.well.steady.places l.1.1
    (ap frames_work over.1
    ∙ body_weighs (λ f. with_pc to (with_locals (take len) f)) (λ f. pc_weighs to (with_locals (take len) f) ∙ locals_weigh (take len) f) gs)
    (omega arith)

pub returns-clause-behind : goal.returns-clause-behind
returns-clause-behind c =
    let p = c.args.program.now in
    let r = c.args.self.now in
    let at = c.requires.op in
    let to = c.args.to in
    let o = op.Turn c.args.number to in
    let l = open_walk p r c.args.running c.args.number to at c.requires.form in
    let gs = l.1.0 in
    let some : IsSome (level_in gs) = subst (λ fs. IsSome (level_in fs)) l.1.1 (at_body p r c.args.running o at).body in
    let len = c.len-last.result - 1 in
    let over = walk_over r.frames c.cut_locals.new.self c.take_off.new.frames c.set_pc.new.self c.args.running.body l.0 len to gs l.1.1 at.body some c.cut_locals.ensures
    (c.take_off.ensures (Loop l.0) (on_body (with_locals (take len)) gs)) c.set_pc.ensures in
    let a = at_place p r c.args.running o at in
    record {
      turn = l.0;
      others = gs;
      top = l.1.1;
      left = len;
      long = λ x there.
          let same : locals_of x ≡ c.locals_at.result.now = one_list (ap (option_map locals_of) (sym there ∙ a.1.0 ∙ sym a.1.1) ∙ c.locals_at.ensures) in
          omega (
            arith,
            ap length same,
            c.len-last.ensures,
            has_items p r c.args.running c.args.number to at c.requires.form c.locals_at.result.now c.locals_at.ensures,
          );
      behind = over.1;
    }
  where
    one_list : {A : Type 0} {x y : A} → Some x ≡ Some y → x ≡ y
    one_list e = cc
