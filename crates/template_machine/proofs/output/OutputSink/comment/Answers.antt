use Rattle.std.proofs.Common.{refl}
use Rattle.stx_base.specs.declared.part.Part.TheVariants as part
use Rattle.template_machine.specs.WrittenOn.{wrote_part}
use Rattle.template_machine.proofs.output.OutputSink.comment.Goals as goal

pub returns : goal.returns
returns c =
    let old = c.args.self.now in
    wrote_part old (record old { writer = c.put_comment.new.self; bytes = c.put_comment.new.out }) (part.Comment c.args.text.now) c.put_comment.result c.put_comment.ensures.taken
    c.put_comment.ensures.fault c.put_comment.ensures.ok c.put_comment.ensures.err c.put_comment.ensures.written c.put_comment.ensures.unwritten refl
