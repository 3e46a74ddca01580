use Rattle.template_machine.proofs.Starting.{ready_sound}
use Rattle.template_machine.proofs.run.Run.new.Goals as goal

pub new-requires-2-clause-whole : goal.new-requires-2-clause-whole
new-requires-2-clause-whole c = (ready_sound c.args.program.now c.requires).buffers

pub new-requires-2-clause-small : goal.new-requires-2-clause-small
new-requires-2-clause-small c = (ready_sound c.args.program.now c.requires).small
