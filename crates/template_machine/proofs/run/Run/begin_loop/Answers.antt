use Rattle.std.proofs.Common.{◌+◌, ◌∙◌, [], ◌∷◌, reverse, ap, arith}
use Rattle.std.proofs.lemmas.List.{reverse-append}
use Rattle.frame_stack.specs.Change.{with_pc}
use Rattle.frame_stack.specs.Stack.{FrameStack}
use Rattle.frame_stack.specs.declared.frame.Frame.TheVariants.{Loop}
use Rattle.instr_code.specs.declared.code.Op.TheVariants as op
use Rattle.template_machine.specs.Standing.{standing_of}
use Rattle.template_machine.proofs.Branching.{loop_begins}
use Rattle.template_machine.proofs.Moving.{moves_pc}
use Rattle.template_machine.proofs.Operating.{at_body, at_place, behind_pc, on_ok, under_loop}
use Rattle.template_machine.proofs.Falling.{begins_under, frame_pushed, pc_set}
use Rattle.template_machine.proofs.Rounding.{loop_refused}
use Rattle.template_machine.proofs.run.Run.begin_loop.Goals as goal

pub set_pc-requires : goal.set_pc-requires
set_pc-requires c = (at_place c.args.program.now c.args.self.now c.args.running (op.Begin c.args.number) c.requires.op).1.2

pub returns-clause-stands : goal.returns-clause-stands
returns-clause-stands c =
    let p = c.args.program.now in
    let r = c.args.self.now in
    let at = c.requires.op in
    let w = at.well in
    let o = op.Begin c.args.number in
    let next = c.args.running.pc + 1 in
    on_ok c.push.result _ _ c.push.ensures.ok
    (λ e. under_loop p r w c.push.new.self 0 (with_pc next) (λ o. next) (λ l. l) (moves_pc next) at.doing
    (ap (λ (x : FrameStack). reverse x.frames) e ∙ reverse-append c.set_pc.new.self.frames (Loop 0 ∷ [])
    ∙ ap (λ l. Loop 0 ∷ l) (behind_pc p r c.args.running o at next c.set_pc.new.self c.set_pc.ensures).0)
    (loop_begins p w.stations (reverse r.frames.frames) (standing_of r) c.args.running.pc c.args.number 0 w.stand at.pc at.is c.requires.form
    (at_body p r c.args.running o at).well))

pub returns-clause-works : goal.returns-clause-works
returns-clause-works c =
    let r = c.args.self.now in
    on_ok c.push.result _ _ c.push.ensures.ok
    (λ e. begins_under 1 r c.push.new.self c.requires.op.doing
    (omega (arith, frame_pushed (Loop 0) c.set_pc.new.self c.push.new.self e, pc_set (c.args.running.pc + 1) c.args.running.body r.frames c.set_pc.new.self c.set_pc.ensures)))

pub returns-clause-behind : goal.returns-clause-behind
returns-clause-behind c =
    let r = c.args.self.now in
    let next = c.args.running.pc + 1 in
    on_ok c.push.result _ _ c.push.ensures.ok
    (λ e. ap (λ (x : FrameStack). reverse x.frames) e ∙ reverse-append c.set_pc.new.self.frames (Loop 0 ∷ [])
    ∙ ap (λ l. Loop 0 ∷ l) (behind_pc c.args.program.now r c.args.running (op.Begin c.args.number) c.requires.op next c.set_pc.new.self c.set_pc.ensures).0)

pub returns-clause-memory : goal.returns-clause-memory
returns-clause-memory c = loop_refused c.push.result c.args.program.now.limits.instances c.set_pc.new.self.frames c.push.ensures.full
