use Rattle.std.proofs.Common.{◌+◌, ◌++◌, ◌∷◌, [], reverse, refl}
use Rattle.frame_stack.specs.Change.{with_locals, with_pc}
use Rattle.frame_stack.specs.Locals.{local}
use Rattle.instr_code.specs.declared.code.Op.TheVariants as op
use Rattle.template_machine.specs.Standing.{standing_of}
use Rattle.template_machine.proofs.Branching.{declares}
use Rattle.template_machine.proofs.Moving.{moves_locals}
use Rattle.template_machine.proofs.Operating.{at_body, at_place, behind_locals, frame_behind, goes_elsewhere, on_ok}
use Rattle.template_machine.proofs.Falling.{begins_locals}
use Rattle.template_machine.proofs.run.Run.pass_declared.Goals as goal

pub set_pc-requires : goal.set_pc-requires
set_pc-requires c = (at_place c.args.program.now c.args.self.now c.args.running (op.Do c.args.number) c.requires.op).1.2

pub push_local-requires : goal.push_local-requires
push_local-requires c =
    (frame_behind c.args.program.now c.args.self.now c.args.running (op.Do c.args.number) c.requires.op (c.args.running.pc + 1) c.set_pc.new.self c.set_pc.ensures).1.1

pub returns-clause-stands : goal.returns-clause-stands
returns-clause-stands c =
    let p = c.args.program.now in
    let r = c.args.self.now in
    let at = c.requires.op in
    let w = at.well in
    let o = op.Do c.args.number in
    let next = c.args.running.pc + 1 in
    let x = local c.args.name c.args.value in
    on_ok c.push_local.result _ _ c.push_local.ensures.ok
    (λ e. goes_elsewhere p r w c.push_local.new.self (λ f. with_locals (λ ls. ls ++ x ∷ []) (with_pc next f)) (λ o. next) (λ ls. ls ++ x ∷ [])
    (moves_locals next (λ ls. ls ++ x ∷ [])) at.doing
    (behind_locals p r c.args.running o at next (λ ls. ls ++ x ∷ []) c.set_pc.new.self c.push_local.new.self c.set_pc.ensures e)
    (declares p w.stations (reverse r.frames.frames) (standing_of r) c.args.running.pc c.args.number c.args.name x w.stand at.pc at.is c.requires.form refl
    (at_body p r c.args.running o at).well))

pub returns-clause-works : goal.returns-clause-works
returns-clause-works c =
    let x = local c.args.name c.args.value in
    on_ok c.push_local.result _ _ c.push_local.ensures.ok
    (λ e. begins_locals c.args.self.now (c.args.running.pc + 1) c.args.running.body c.args.running.body (λ ls. ls ++ x ∷ []) c.set_pc.new.self c.push_local.new.self
    c.requires.op.doing c.set_pc.ensures e)

pub returns-clause-behind : goal.returns-clause-behind
returns-clause-behind c =
    let next = c.args.running.pc + 1 in
    let x = local c.args.name c.args.value in
    on_ok c.push_local.result _ _ c.push_local.ensures.ok
    (λ e. behind_locals c.args.program.now c.args.self.now c.args.running (op.Do c.args.number) c.requires.op next (λ ls. ls ++ x ∷ []) c.set_pc.new.self c.push_local.new.self c.set_pc.ensures e)
