use Rattle.std.proofs.Common.{refl}
use Rattle.stx_base.specs.declared.part.Part.TheVariants as part
use Rattle.template_machine.specs.WrittenOn.{wrote_part}
use Rattle.template_machine.proofs.output.OutputSink.start_again.Goals as goal

pub returns : goal.returns
returns c =
    let old = c.args.self.now in
    wrote_part old (record old { writer = c.put_start_again.new.self; bytes = c.put_start_again.new.out }) (part.Start c.args.name c.args.self.now.writer.last) c.put_start_again.result c.put_start_again.ensures.taken
    c.put_start_again.ensures.fault c.put_start_again.ensures.ok c.put_start_again.ensures.err c.put_start_again.ensures.written c.put_start_again.ensures.unwritten refl
