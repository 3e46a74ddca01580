use Rattle.std.proofs.Common.{refl}
use Rattle.stx_base.specs.declared.part.Part.TheVariants as part
use Rattle.template_machine.specs.WrittenOn.{wrote_part}
use Rattle.template_machine.proofs.output.OutputSink.end.Goals as goal

pub returns : goal.returns
returns c =
    let old = c.args.self.now in
    wrote_part old (record old { writer = c.put_end_keeping.new.self; bytes = c.put_end_keeping.new.out }) (part.End c.args.name.now) c.put_end_keeping.result c.put_end_keeping.ensures.taken
    c.put_end_keeping.ensures.fault c.put_end_keeping.ensures.ok c.put_end_keeping.ensures.err c.put_end_keeping.ensures.written c.put_end_keeping.ensures.unwritten refl
