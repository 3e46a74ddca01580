use Rattle.template_machine.proofs.Below.{pop_top}
use Rattle.template_machine.proofs.bodies.take_off.Goals as goal

pub returns : goal.returns
returns c = λ top others is. pop_top c.args.frames.now c.pop.new.self c.pop.result top others c.pop.ensures is
