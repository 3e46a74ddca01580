use Rattle.std.proofs.Common.{refl, sym, append-nil}
use Rattle.stx_base.specs.declared.part.Part.TheVariants as part
use Rattle.template_machine.specs.WrittenOn.{always_err, always_ok, wrote_part}
use Rattle.template_machine.proofs.output.OutputSink.attribute.Goals as goal

pub returns : goal.returns
returns c =
    let old = c.args.self.now in
    wrote_part old (record old { writer = c.put_attribute.new.self }) (part.Attribute c.args.name c.args.value) c.put_attribute.result c.put_attribute.ensures.taken
    c.put_attribute.ensures.fault c.put_attribute.ensures.ok c.put_attribute.ensures.err (always_ok c.put_attribute.result (sym (append-nil old.bytes.items))) (always_err c.put_attribute.result refl) refl
