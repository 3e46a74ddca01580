use Rattle.template_machine.proofs.Operating.{asked_at, waiting_pc}
use Rattle.template_machine.proofs.run.Run.place_of_wanted.Goals as goal

pub running-requires : goal.running-requires
running-requires c = waiting_pc c.args.program.now c.args.self.now c.requires

pub overflow_sub-running : goal.overflow_sub-running
overflow_sub-running c = (asked_at c.args.program.now c.args.self.now c.running.result.pc c.requires c.running.ensures.pc).0

pub instr_asked-requires : goal.instr_asked-requires
instr_asked-requires c = (asked_at c.args.program.now c.args.self.now c.running.result.pc c.requires c.running.ensures.pc).2
