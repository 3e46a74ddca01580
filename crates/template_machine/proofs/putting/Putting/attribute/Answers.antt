use Rattle.std.proofs.Common.{◌∷◌, [], sym, subst}
use Rattle.stx_base.specs.declared.part.Part.TheVariants as part
use Rattle.template_machine.specs.Saying.{Puts}
use Rattle.template_machine.proofs.Saying.{puts_in, puts_out}
use Rattle.template_machine.proofs.putting.Putting.attribute.Goals as goal

pub returns-in-Some-clause-puts : goal.returns-in-Some-clause-puts
returns-in-Some-clause-puts g c =
    puts_in g.S.Sink.output g.S.Sink.told g.met.S.Sink.nothing c.in-Some.buffer c.args.at (part.Attribute c.args.name c.args.value) c.keep.result c.args.self.now c.keep.new.self c.args.out.now
    (sym c.in-Some.ensures) c.keep.ensures.keeps

pub returns-in-None-clause-puts : goal.returns-in-None-clause-puts
returns-in-None-clause-puts g c =
    subst (λ r. Puts g.S.Sink.output g.S.Sink.told c.args.at (part.Attribute c.args.name c.args.value ∷ []) r c.args.self.now c.args.self.now c.args.out.now c.attribute.new.self) (sym c.written.ensures)
    (puts_out g.S.Sink.output g.S.Sink.told g.met.S.Sink.leaves c.args.at (part.Attribute c.args.name c.args.value) c.attribute.result c.args.self.now c.args.out.now c.attribute.new.self c.attribute.ensures
    (sym c.in-None.ensures))
