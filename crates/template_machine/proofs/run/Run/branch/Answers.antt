use Rattle.std.proofs.Common.{◌+◌, if◌then◌else◌, reverse, ap, sym, ◌∙◌}
use Rattle.frame_stack.specs.Change.{with_pc}
use Rattle.instr_code.specs.declared.code.Op.TheVariants as op
use Rattle.template_machine.specs.Bodies.{on_body}
use Rattle.template_machine.specs.Standing.{standing_of}
use Rattle.template_machine.proofs.Branching.{asked}
use Rattle.template_machine.proofs.Moving.{moves_pc}
use Rattle.template_machine.proofs.Operating.{at_body, at_place, behind_pc, goes_elsewhere}
use Rattle.template_machine.proofs.Falling.{begins_pc, branch_works}
use Rattle.template_machine.proofs.run.Run.branch.Goals as goal

pub set_pc-requires : goal.set_pc-requires
set_pc-requires c = (at_place c.args.program.now c.args.self.now c.args.running (op.Test c.args.number c.args.arm c.args.to) c.requires.op).1.2

pub set_pc-requires-2 : goal.set_pc-requires-2
set_pc-requires-2 c = (at_place c.args.program.now c.args.self.now c.args.running (op.Test c.args.number c.args.arm c.args.to) c.requires.op).1.2

pub returns-then-holds-clause-stands : goal.returns-then-holds-clause-stands
returns-then-holds-clause-stands c =
    let p = c.args.program.now in
    let r = c.args.self.now in
    let at = c.requires.op in
    let w = at.well in
    let o = op.Test c.args.number c.args.arm c.args.to in
    let next = c.args.running.pc + 1 in
    goes_elsewhere p r w c.set_pc.new.self (with_pc next) (λ o. next) (λ l. l) (moves_pc next) at.doing (behind_pc p r c.args.running o at next c.set_pc.new.self c.set_pc.ensures).0
    (asked p w.stations (reverse r.frames.frames) (standing_of r) c.args.running.pc c.args.number c.args.arm c.args.to w.stand at.pc at.is c.requires.form
    (at_body p r c.args.running o at).well).0

pub returns-clause-stands : goal.returns-clause-stands
returns-clause-stands c =
    let p = c.args.program.now in
    let r = c.args.self.now in
    let at = c.requires.op in
    let w = at.well in
    let o = op.Test c.args.number c.args.arm c.args.to in
    let next = c.args.to in
    goes_elsewhere p r w c.set_pc-2.new.self (with_pc next) (λ o. next) (λ l. l) (moves_pc next) at.doing (behind_pc p r c.args.running o at next c.set_pc-2.new.self c.set_pc-2.ensures).0
    (asked p w.stations (reverse r.frames.frames) (standing_of r) c.args.running.pc c.args.number c.args.arm c.args.to w.stand at.pc at.is c.requires.form
    (at_body p r c.args.running o at).well).1

pub returns-then-holds-clause-works : goal.returns-then-holds-clause-works
returns-then-holds-clause-works c =
    begins_pc c.args.self.now (c.args.running.pc + 1) c.args.running.body c.set_pc.new.self c.requires.op.doing c.set_pc.ensures

pub returns-clause-works : goal.returns-clause-works
returns-clause-works c = begins_pc c.args.self.now c.args.to c.args.running.body c.set_pc-2.new.self c.requires.op.doing c.set_pc-2.ensures

pub returns-then-holds-clause-chooses : goal.returns-then-holds-clause-chooses
returns-then-holds-clause-chooses c = λ is.
    (branch_works c.args.program.now c.args.self.now c.args.running c.args.number c.args.arm c.args.to is.0 c.requires.op is.1).0 c.set_pc.new.self c.set_pc.ensures

pub returns-clause-chooses : goal.returns-clause-chooses
returns-clause-chooses c = λ is.
    (branch_works c.args.program.now c.args.self.now c.args.running c.args.number c.args.arm c.args.to is.0 c.requires.op is.1).1 c.set_pc-2.new.self c.set_pc-2.ensures

pub returns-then-holds-clause-behind : goal.returns-then-holds-clause-behind
returns-then-holds-clause-behind c =
    let r = c.args.self.now in
    (behind_pc c.args.program.now r c.args.running (op.Test c.args.number c.args.arm c.args.to) c.requires.op (c.args.running.pc + 1) c.set_pc.new.self c.set_pc.ensures).0
    ∙ ap (λ b. on_body (with_pc (if b then c.args.running.pc + 1 else c.args.to)) (reverse r.frames.frames)) (sym c.if-holds.true)

pub returns-clause-behind : goal.returns-clause-behind
returns-clause-behind c =
    let r = c.args.self.now in
    (behind_pc c.args.program.now r c.args.running (op.Test c.args.number c.args.arm c.args.to) c.requires.op c.args.to c.set_pc-2.new.self c.set_pc-2.ensures).0
    ∙ ap (λ b. on_body (with_pc (if b then c.args.running.pc + 1 else c.args.to)) (reverse r.frames.frames)) (sym c.if-holds.false)
