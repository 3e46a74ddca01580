use Rattle.std.proofs.Common.{Ok, Err, refl, subst, sym}
use Rattle.stx_base.specs.declared.part.Part.TheVariants as part
use Rattle.result_writer.specs.declared.fault.WriteStop.TheVariants as write
use Rattle.template_machine.specs.Sinks.{Takes}
use Rattle.template_machine.specs.Written.{Wrote}
use Rattle.template_machine.specs.WrittenOn.{fails_with, wrote_part}
use Rattle.template_machine.specs.declared.output.Output.{Output}
use Rattle.template_machine.proofs.output.OutputSink.cdata.Goals as goal

pub returns-in_err-put_cdata : goal.returns-in_err-put_cdata
returns-in_err-put_cdata c =
    let old = c.args.self.now in
    let new = record old { writer = c.put_cdata.new.self; bytes = c.put_cdata.new.out } in
    subst (λ r. Takes (λ (o : Output). o.writer) Wrote (part.CData c.args.text.now) r old new) (sym (fails_with c.from_residual.result write.Memory c.from_residual.ensures.1))
    (wrote_part old new (part.CData c.args.text.now) (Err write.Memory) tt tt tt c.in_err-put_cdata.ensures.err tt c.in_err-put_cdata.ensures.unwritten refl)

pub returns : goal.returns
returns c =
    let old = c.args.self.now in
    let new = record old { writer = c.put_cdata.new.self; bytes = c.put_cdata.new.out } in
    wrote_part old new (part.CData c.args.text.now) (Ok _) refl tt c.in_ok-put_cdata.ensures.ok tt c.in_ok-put_cdata.ensures.written tt refl
