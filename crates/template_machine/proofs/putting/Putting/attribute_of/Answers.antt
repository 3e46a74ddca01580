use Rattle.std.proofs.Common.{◌∷◌, [], sym, subst}
use Rattle.stx_base.specs.declared.name.Attr.{Attr}
use Rattle.template_machine.specs.Putting.{attribute_part}
use Rattle.template_machine.specs.Saying.{Puts}
use Rattle.template_machine.specs.declared.stop.Stop.TheVariants as stop
use Rattle.template_machine.proofs.Copied.{puts_copied}
use Rattle.template_machine.proofs.Saying.{puts_not, stops_with}
use Rattle.template_machine.proofs.Shelved.{stands_on}
use Rattle.template_machine.proofs.putting.Putting.attribute_of.Goals as goal

pub returns-clause-stands : goal.returns-clause-stands
returns-clause-stands g c = stands_on _ _ _ c.copied_attr.ensures.same c.attribute.ensures.stands

pub returns-in_err-copy-clause-puts : goal.returns-in_err-copy-clause-puts
returns-in_err-copy-clause-puts g c =
    subst (λ r. Puts g.S.Sink.output g.S.Sink.told c.args.at (attribute_part c.args.attr.now ∷ []) r c.args.self.now c.copied_attr.new.self c.args.out.now c.args.out.now)
    (sym (stops_with c.from_residual.result stop.Memory c.from_residual.ensures.1))
    (puts_not g.S.Sink.output g.S.Sink.told g.met.S.Sink.nothing c.args.at (attribute_part c.args.attr.now ∷ []) c.args.self.now c.copied_attr.new.self c.args.out.now)

pub returns-clause-puts : goal.returns-clause-puts
returns-clause-puts g c =
    subst (λ (a : Attr). Puts g.S.Sink.output g.S.Sink.told c.args.at (attribute_part a ∷ []) c.attribute.result c.args.self.now c.attribute.new.self c.args.out.now c.attribute.new.out) c.in_ok-copy.ensures.copy
    (puts_copied g.S.Sink.output g.S.Sink.told c.args.at (attribute_part c.in_ok-copy.copy ∷ []) c.attribute.result c.args.self.now c.copied_attr.new.self c.attribute.new.self c.args.out.now c.attribute.new.out
    c.copied_attr.ensures.rest c.attribute.ensures.puts)
