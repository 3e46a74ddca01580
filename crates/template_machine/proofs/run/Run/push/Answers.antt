use Rattle.template_machine.proofs.Finished.{push_full, push_room}
use Rattle.template_machine.proofs.run.Run.push.Goals as goal

pub returns-clause-room : goal.returns-clause-room
returns-clause-room c = push_room c.args.at c.push.result c.pushed.result _ c.pushed.ensures c.push.ensures.room

pub returns-clause-full : goal.returns-clause-full
returns-clause-full c = push_full c.args.at c.push.result c.pushed.result c.args.program.now.limits.instances c.args.frame c.args.self.now.frames.frames c.pushed.ensures c.push.ensures.full
