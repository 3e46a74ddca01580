use Rattle.std.proofs.Common.{arith}
use Rattle.template_machine.proofs.Current.{some_node}
use Rattle.template_machine.proofs.setting.Setting.env.Goals as goal

pub overflow_sub-place : goal.overflow_sub-place
overflow_sub-place g c = omega (arith, some_node c.args.self.now.stack.now, c.len-place.ensures.value)

pub returns-clause-place : goal.returns-clause-place
returns-clause-place g c = omega (arith, some_node c.args.self.now.stack.now, c.len-place.ensures.value)
