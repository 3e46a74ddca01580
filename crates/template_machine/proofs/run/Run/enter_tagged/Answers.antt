use Rattle.std.proofs.Common.{◌+◌, arith, ◌++◌, ◌∷◌, []}
use Rattle.instr_code.specs.declared.code.Op.TheVariants as op
use Rattle.frame_stack.specs.Locals.{local}
use Rattle.template_machine.proofs.Enclosed.{enters_tagged}
use Rattle.template_machine.proofs.Operating.{next_fits, at_place, behind_locals, frame_behind, on_ok}
use Rattle.template_machine.proofs.Falling.{begins_locals}
use Rattle.template_machine.proofs.run.Run.enter_tagged.Goals as goal

pub set_pc-requires : goal.set_pc-requires
set_pc-requires c = (at_place c.args.program.now c.args.self.now c.args.running (op.Open c.args.number c.args.to) c.requires.op).1.2

pub push_local-requires : goal.push_local-requires
push_local-requires c =
    (frame_behind c.args.program.now c.args.self.now c.args.running (op.Open c.args.number c.args.to) c.requires.op (c.args.running.pc + 1) c.set_pc.new.self c.set_pc.ensures).1.1

pub returns-clause-stands : goal.returns-clause-stands
returns-clause-stands c =
    on_ok c.push_local.result _ _ c.push_local.ensures.ok
    (λ e. enters_tagged c.args.program.now c.args.self.now c.args.running c.args.number c.args.to (local c.nameless-nameless.result c.in_ok-value.value) c.set_pc.new.self c.push_local.new.self
    c.requires.op c.requires.form (c.nameless-nameless.ensures, c.in_ok-value.ensures.texts) c.set_pc.ensures e)

pub overflow_add-running : goal.overflow_add-running
overflow_add-running c = omega (arith, next_fits c.args.program.now c.args.self.now c.args.running (op.Open c.args.number c.args.to) c.requires.op)

pub returns-clause-works : goal.returns-clause-works
returns-clause-works c =
    let x = local c.nameless-nameless.result c.in_ok-value.value in
    on_ok c.push_local.result _ _ c.push_local.ensures.ok
    (λ e. begins_locals c.args.self.now (c.args.running.pc + 1) c.args.running.body c.args.running.body (λ ls. ls ++ x ∷ []) c.set_pc.new.self c.push_local.new.self
    c.requires.op.doing c.set_pc.ensures e)

pub returns-clause-behind : goal.returns-clause-behind
returns-clause-behind c =
    let x = local c.nameless-nameless.result c.in_ok-value.value in
    on_ok c.push_local.result _ _ c.push_local.ensures.ok
    (λ e. record {
      waiting = x;
      nameless = c.nameless-nameless.ensures;
      is = c.in_ok-value.ensures.tag;
      behind =
          behind_locals c.args.program.now c.args.self.now c.args.running (op.Open c.args.number c.args.to) c.requires.op (c.args.running.pc + 1) (λ ls. ls ++ x ∷ []) c.set_pc.new.self
          c.push_local.new.self c.set_pc.ensures e;
    })
