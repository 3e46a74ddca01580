use Rattle.std.proofs.Common.{refl}
use Rattle.template_machine.specs.WrittenOn.{wrote_in_turn}
use Rattle.template_machine.proofs.output.OutputSink.attributes.Goals as goal

pub returns : goal.returns
returns c =
    let old = c.args.self.now in
    let w = c.put_attributes_in_turn.new.self in
    wrote_in_turn old w c.args.attrs c.put_attributes_in_turn.result (record old { writer = w }) refl refl refl c.put_attributes_in_turn.ensures
