use Rattle.std.proofs.Common.{refl}
use Rattle.stx_base.specs.declared.part.Part.TheVariants as part
use Rattle.template_machine.specs.WrittenOn.{wrote_part}
use Rattle.template_machine.proofs.output.OutputSink.start.Goals as goal

pub returns : goal.returns
returns c =
    let old = c.args.self.now in
    wrote_part old (record old { writer = c.put_start.new.self; bytes = c.put_start.new.out }) (part.Start c.args.name c.args.scope.now) c.put_start.result c.put_start.ensures.taken
    c.put_start.ensures.fault c.put_start.ensures.ok c.put_start.ensures.err c.put_start.ensures.written c.put_start.ensures.unwritten refl
