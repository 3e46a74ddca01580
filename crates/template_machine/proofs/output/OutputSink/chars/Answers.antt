use Rattle.std.proofs.Common.{refl}
use Rattle.stx_base.specs.declared.part.Part.TheVariants as part
use Rattle.template_machine.specs.WrittenOn.{wrote_part}
use Rattle.template_machine.proofs.output.OutputSink.chars.Goals as goal

pub returns : goal.returns
returns c =
    let old = c.args.self.now in
    wrote_part old (record old { writer = c.put_chars.new.self; bytes = c.put_chars.new.out }) (part.Chars c.args.text.now) c.put_chars.result c.put_chars.ensures.taken
    c.put_chars.ensures.fault c.put_chars.ensures.ok c.put_chars.ensures.err c.put_chars.ensures.written c.put_chars.ensures.unwritten refl
