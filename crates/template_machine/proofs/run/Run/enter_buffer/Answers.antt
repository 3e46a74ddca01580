use Rattle.std.proofs.Common.{◌+◌, refl, ap, arith}
use Rattle.std.specs.Option.{option_map_or}
use Rattle.instr_code.specs.declared.code.Op.TheVariants as op
use Rattle.template_machine.specs.declared.program.Link.{Link}
use Rattle.template_machine.proofs.Formed.{has_number}
use Rattle.template_machine.proofs.Operating.{next_fits, at_place}
use Rattle.template_machine.proofs.Spelled.{buffer_there}
use Rattle.template_machine.proofs.Writing.{buffer_begins, copies_there}
use Rattle.template_machine.proofs.Falling.{begins_as, begins_pc}
use Rattle.template_machine.proofs.run.Run.enter_buffer.Goals as goal

pub link-buffer-requires : goal.link-buffer-requires
link-buffer-requires c = omega (arith, has_number c.args.program.now.code c.args.number _ c.requires.form, c.requires.op.well.steady.program.all_linked)

pub begin_writing-requires-clause-id : goal.begin_writing-requires-clause-id
begin_writing-requires-clause-id c =
    buffer_there c.args.program.now c.args.self.now c.args.running c.args.number c.args.to c.link-buffer.result c.requires.op c.requires.form c.link-buffer.ensures

pub begin_writing-requires-clause-copy : goal.begin_writing-requires-clause-copy
begin_writing-requires-clause-copy c =
    copies_there c.args.self.now.putting.buffers.buffers c.link-buffer.result.named
    (buffer_there c.args.program.now c.args.self.now c.args.running c.args.number c.args.to c.link-buffer.result c.requires.op c.requires.form c.link-buffer.ensures)
    c.requires.op.well.steady.shelved

pub set_pc-requires : goal.set_pc-requires
set_pc-requires c = (at_place c.args.program.now c.args.self.now c.args.running (op.Open c.args.number c.args.to) c.requires.op).1.2

pub returns-clause-stands : goal.returns-clause-stands
returns-clause-stands c =
    buffer_begins c.args.program.now c.args.self.now c.args.running c.args.number c.args.to c.link-buffer.result.named c.begin_writing.new.self c.set_pc.new.self
    c.requires.op c.requires.form (ap (λ o. option_map_or (λ (l : Link). l.named) o 0) c.link-buffer.ensures) c.in_ok-begin_writing.ensures c.set_pc.ensures

pub overflow_add-running : goal.overflow_add-running
overflow_add-running c = omega (arith, next_fits c.args.program.now c.args.self.now c.args.running (op.Open c.args.number c.args.to) c.requires.op)

pub returns-clause-works : goal.returns-clause-works
returns-clause-works c =
    let r = c.args.self.now in
    let u = record r { putting = c.begin_writing.new.self } in
    begins_as 0 r u (record u { frames = c.set_pc.new.self }) refl refl
    (begins_pc u (c.args.running.pc + 1) c.args.running.body c.set_pc.new.self c.requires.op.doing c.set_pc.ensures)
