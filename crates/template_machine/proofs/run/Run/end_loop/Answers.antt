use Rattle.std.proofs.Common.{◌∙◌, ◌∷◌, false, reverse, ap, subst, arith}
use Rattle.frame_stack.specs.Change.{with_pc}
use Rattle.frame_stack.specs.Stack.{FrameStack}
use Rattle.instr_code.specs.declared.code.Op.TheVariants as op
use Rattle.frame_stack.specs.declared.frame.Frame.TheVariants.{Loop}
use Rattle.template_machine.specs.Bodies.{on_body}
use Rattle.template_machine.specs.Standing.{standing_of}
use Rattle.template_machine.specs.Well.{AreWell}
use Rattle.template_machine.specs.Work.{frames_work}
use Rattle.template_machine.proofs.Branching.{loop_ends}
use Rattle.template_machine.proofs.Moving.{moves_pc}
use Rattle.template_machine.proofs.Operating.{at_body, below_loop, below_top, open_loop}
use Rattle.template_machine.proofs.Placing.{changed_reversed, placed_in}
use Rattle.template_machine.proofs.Falling.{pc_set, top_off}
use Rattle.template_machine.proofs.run.Run.end_loop.Goals as goal

pub set_pc-requires : goal.set_pc-requires
set_pc-requires c =
    let p = c.args.program.now in
    let r = c.args.self.now in
    let o = op.Test c.args.number c.args.arm c.args.to in
    let l = open_loop p r c.args.running c.args.number c.args.arm c.args.to c.requires.op c.requires.form in
    let same = c.take_off.ensures (Loop l.0) l.1.0 l.1.1 in
    (placed_in c.take_off.new.frames.frames c.args.running.body (below_top p r c.args.running o l.0 l.1.0 c.take_off.new.frames c.requires.op l.1.1 same).0).1.2

pub returns-clause-stands : goal.returns-clause-stands
returns-clause-stands c =
    let p = c.args.program.now in
    let r = c.args.self.now in
    let to = c.args.to in
    let o = op.Test c.args.number c.args.arm to in
    let w = c.requires.op.well in
    let l = open_loop p r c.args.running c.args.number c.args.arm to c.requires.op c.requires.form in
    let gs = l.1.0 in
    let same = c.take_off.ensures (Loop l.0) gs l.1.1 in
    let there = below_top p r c.args.running o l.0 gs c.take_off.new.frames c.requires.op l.1.1 same in
    let well : AreWell p w.stations 0 false (Loop l.0 ∷ gs) (standing_of r) =
    subst (λ fs. AreWell p w.stations 0 false fs (standing_of r)) l.1.1 (at_body p r c.args.running o c.requires.op).well in
    below_loop p r w c.set_pc.new.self l.0 gs (with_pc to) (λ o. to) (λ l. l) (moves_pc to) c.requires.op.doing l.1.1
    (ap (λ (x : FrameStack). reverse x.frames) c.set_pc.ensures ∙ changed_reversed (with_pc to) c.take_off.new.frames.frames c.args.running.body there.0
    ∙ ap (on_body (with_pc to)) same)
    (loop_ends p w.stations l.0 gs (standing_of r) c.args.running.pc c.args.number c.args.arm to w.stand there.1 c.requires.op.is c.requires.form well)

pub returns-clause-works : goal.returns-clause-works
returns-clause-works c =
    let p = c.args.program.now in
    let r = c.args.self.now in
    let to = c.args.to in
    let o = op.Test c.args.number c.args.arm to in
    let l = open_loop p r c.args.running c.args.number c.args.arm to c.requires.op c.requires.form in
    let gs = l.1.0 in
    let same = c.take_off.ensures (Loop l.0) gs l.1.1 in
    let there = below_top p r c.args.running o l.0 gs c.take_off.new.frames c.requires.op l.1.1 same in
    top_off p r c.set_pc.new.self (Loop l.0) gs c.requires.op.well.steady.places l.1.1
    (pc_set to c.args.running.body c.take_off.new.frames c.set_pc.new.self c.set_pc.ensures ∙ ap frames_work same) (omega arith)

pub returns-clause-behind : goal.returns-clause-behind
returns-clause-behind c =
    let p = c.args.program.now in
    let r = c.args.self.now in
    let to = c.args.to in
    let o = op.Test c.args.number c.args.arm to in
    let l = open_loop p r c.args.running c.args.number c.args.arm to c.requires.op c.requires.form in
    let gs = l.1.0 in
    let same = c.take_off.ensures (Loop l.0) gs l.1.1 in
    let there = below_top p r c.args.running o l.0 gs c.take_off.new.frames c.requires.op l.1.1 same in
    record {
      turn = l.0;
      others = gs;
      top = l.1.1;
      behind =
          ap (λ (x : FrameStack). reverse x.frames) c.set_pc.ensures ∙ changed_reversed (with_pc to) c.take_off.new.frames.frames c.args.running.body there.0
          ∙ ap (on_body (with_pc to)) same;
    }
