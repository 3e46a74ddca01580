use Rattle.std.proofs.Common.{refl}
use Rattle.stx_base.specs.declared.part.Part.TheVariants as part
use Rattle.template_machine.specs.WrittenOn.{wrote_part}
use Rattle.template_machine.proofs.output.OutputSink.instruction.Goals as goal

pub returns : goal.returns
returns c =
    let old = c.args.self.now in
    wrote_part old (record old { writer = c.put_instruction.new.self; bytes = c.put_instruction.new.out }) (part.Pi c.args.target.now c.args.text.now) c.put_instruction.result c.put_instruction.ensures.taken
    c.put_instruction.ensures.fault c.put_instruction.ensures.ok c.put_instruction.ensures.err c.put_instruction.ensures.written c.put_instruction.ensures.unwritten refl
