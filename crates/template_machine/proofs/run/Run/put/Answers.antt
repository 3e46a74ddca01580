use Rattle.template_machine.proofs.Seeing.{sees}
use Rattle.template_machine.proofs.Writing.{in_any, puts_well}
use Rattle.template_machine.proofs.Falling.{puts_begin}
use Rattle.template_machine.proofs.run.Run.put.Goals as goal

pub put_parts-requires-clause-target : goal.put_parts-requires-clause-target
put_parts-requires-clause-target g c = c.requires.runs.well.steady.written

pub put_parts-requires-clause-sees : goal.put_parts-requires-clause-sees
put_parts-requires-clause-sees g c = sees c.args.program.now c.args.self.now c.args.spot.body c.requires.runs

pub returns-clause-stands : goal.returns-clause-stands
returns-clause-stands g c =
    in_any c.put_parts.result _ (puts_well c.args.program.now c.args.self.now c.put_parts.new.self c.put_parts.ensures.only c.requires.runs.well)

pub returns-clause-works : goal.returns-clause-works
returns-clause-works g c =
    in_any c.put_parts.result _ (puts_begin c.args.self.now c.put_parts.new.self c.put_parts.ensures.only c.requires.runs.doing)

pub returns-clause-rest : goal.returns-clause-rest
returns-clause-rest g c = c.put_parts.ensures.only.rest

pub returns-clause-acts : goal.returns-clause-acts
returns-clause-acts g c = c.put_parts.ensures.acts
