use Rattle.instr_code.specs.declared.code.Op.TheVariants as op
use Rattle.template_machine.proofs.Enclosed.{passes_list}
use Rattle.template_machine.proofs.Operating.{at_place, behind_pc}
use Rattle.template_machine.proofs.Falling.{begins_pc}
use Rattle.template_machine.proofs.run.Run.pass_list.Goals as goal

pub set_pc-requires : goal.set_pc-requires
set_pc-requires c = (at_place c.args.program.now c.args.self.now c.args.running (op.Open c.args.number c.args.to) c.requires).1.2

pub returns-clause-stands : goal.returns-clause-stands
returns-clause-stands c = passes_list c.args.program.now c.args.self.now c.args.running c.args.number c.args.to c.set_pc.new.self c.requires c.set_pc.ensures

pub returns-clause-works : goal.returns-clause-works
returns-clause-works c = begins_pc c.args.self.now c.args.to c.args.running.body c.set_pc.new.self c.requires.doing c.set_pc.ensures

pub returns-clause-behind : goal.returns-clause-behind
returns-clause-behind c =
    (behind_pc c.args.program.now c.args.self.now c.args.running (op.Open c.args.number c.args.to) c.requires c.args.to c.set_pc.new.self c.set_pc.ensures).0
