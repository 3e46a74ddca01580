use Rattle.std.proofs.Common.{IsSome, refl, ap, sym, subst, arith}
use Rattle.instr_code.specs.declared.code.Op.TheVariants as op
use Rattle.template_machine.specs.Puts.{first_target}
use Rattle.template_machine.proofs.Operating.{next_fits, at_place}
use Rattle.template_machine.proofs.Writing.{buffer_ends, named_by, writes_first}
use Rattle.template_machine.proofs.Falling.{close_works}
use Rattle.template_machine.proofs.run.Run.leave_buffer.Goals as goal

pub end_writing-requires-clause-written : goal.end_writing-requires-clause-written
end_writing-requires-clause-written c = c.requires.op.well.steady.written

pub end_writing-requires-clause-some : goal.end_writing-requires-clause-some
end_writing-requires-clause-some c =
    subst (λ l. IsSome (first_target l)) (sym (writes_first c.args.program.now c.args.self.now c.args.running c.args.number c.requires.op c.requires.form).1) refl

pub set_pc-requires : goal.set_pc-requires
set_pc-requires c = (at_place c.args.program.now c.args.self.now c.args.running (op.Close c.args.number) c.requires.op).1.2

pub returns-clause-stands : goal.returns-clause-stands
returns-clause-stands c =
    let first = (writes_first c.args.program.now c.args.self.now c.args.running c.args.number c.requires.op c.requires.form).1 in
    buffer_ends c.args.program.now c.args.self.now c.args.running c.args.number c.end_writing.new.self c.set_pc.new.self
    c.requires.op c.requires.form (c.in_ok-end_writing.ensures (named_by c.args.program.now c.args.number) (ap first_target first)) c.set_pc.ensures

pub overflow_add-running : goal.overflow_add-running
overflow_add-running c = omega (arith, next_fits c.args.program.now c.args.self.now c.args.running (op.Close c.args.number) c.requires.op)

pub returns-clause-works : goal.returns-clause-works
returns-clause-works c =
    let l = close_works c.args.program.now c.args.self.now c.args.running c.args.number c.requires.op c.set_pc.new.self c.set_pc.ensures in
    record { still = l.still; spared = l.spared; falls = l.falls }
