use Rattle.std.proofs.Common.{◌+◌, reverse}
use Rattle.frame_stack.specs.Change.{with_pc}
use Rattle.instr_code.specs.declared.code.Op.TheVariants as op
use Rattle.template_machine.specs.Standing.{standing_of}
use Rattle.template_machine.proofs.Branching.{turn_begins}
use Rattle.template_machine.proofs.Moving.{moves_pc}
use Rattle.template_machine.proofs.Operating.{at_body, at_place, behind_pc, goes_elsewhere}
use Rattle.template_machine.proofs.Falling.{begins_pc}
use Rattle.template_machine.proofs.run.Run.begin_turn.Goals as goal

pub set_pc-requires : goal.set_pc-requires
set_pc-requires c = (at_place c.args.program.now c.args.self.now c.args.running (op.Test c.args.number c.args.arm c.args.to) c.requires.op).1.2

pub returns-clause-stands : goal.returns-clause-stands
returns-clause-stands c =
    let p = c.args.program.now in
    let r = c.args.self.now in
    let at = c.requires.op in
    let w = at.well in
    let o = op.Test c.args.number c.args.arm c.args.to in
    let next = c.args.running.pc + 1 in
    goes_elsewhere p r w c.set_pc.new.self (with_pc next) (λ o. next) (λ l. l) (moves_pc next) at.doing (behind_pc p r c.args.running o at next c.set_pc.new.self c.set_pc.ensures).0
    (turn_begins p w.stations (reverse r.frames.frames) (standing_of r) c.args.running.pc c.args.number c.args.arm c.args.to w.stand at.pc at.is c.requires.form
    (at_body p r c.args.running o at).well)

pub returns-clause-works : goal.returns-clause-works
returns-clause-works c = begins_pc c.args.self.now (c.args.running.pc + 1) c.args.running.body c.set_pc.new.self c.requires.op.doing c.set_pc.ensures

pub returns-clause-behind : goal.returns-clause-behind
returns-clause-behind c =
    (behind_pc c.args.program.now c.args.self.now c.args.running (op.Test c.args.number c.args.arm c.args.to) c.requires.op (c.args.running.pc + 1) c.set_pc.new.self c.set_pc.ensures).0
