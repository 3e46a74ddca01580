use Rattle.template_machine.proofs.Making.{can_take_off, leaves_scope}
use Rattle.template_machine.proofs.run.Run.leave_scope.Goals as goal

pub leave_group-requires-clause-laid : goal.leave_group-requires-clause-laid
leave_group-requires-clause-laid c = (can_take_off c.args.self.now c.args.group c.requires.laid).0

pub unshadow-requires : goal.unshadow-requires
unshadow-requires c = (can_take_off c.args.self.now c.args.group c.requires.laid).1

pub returns : goal.returns
returns c = leaves_scope c.args.self.now c.args.group c.leave_group.new.self c.unshadow.new.self c.leave_group.ensures c.unshadow.ensures
