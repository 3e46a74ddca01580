use Rattle.std.proofs.Common.{◌+◌}
use Rattle.instr_code.specs.declared.code.Op.TheVariants as op
use Rattle.template_machine.proofs.Enclosed.{leaves_list}
use Rattle.template_machine.proofs.Operating.{at_place, behind_pc}
use Rattle.template_machine.proofs.Falling.{close_works}
use Rattle.template_machine.proofs.run.Run.leave_list.Goals as goal

pub set_pc-requires : goal.set_pc-requires
set_pc-requires c = (at_place c.args.program.now c.args.self.now c.args.running (op.Close c.args.number) c.requires.op).1.2

pub returns-clause-stands : goal.returns-clause-stands
returns-clause-stands c = leaves_list c.args.program.now c.args.self.now c.args.running c.args.number c.set_pc.new.self c.requires.op c.requires.form c.set_pc.ensures

pub returns-clause-works : goal.returns-clause-works
returns-clause-works c =
    close_works c.args.program.now c.args.self.now c.args.running c.args.number c.requires.op c.set_pc.new.self c.set_pc.ensures

pub returns-clause-behind : goal.returns-clause-behind
returns-clause-behind c =
    (behind_pc c.args.program.now c.args.self.now c.args.running (op.Close c.args.number) c.requires.op (c.args.running.pc + 1) c.set_pc.new.self c.set_pc.ensures).0
