use Rattle.std.proofs.Common.{map, ap, sym, subst}
use Rattle.stx_base.specs.declared.name.Attr.{Attr}
use Rattle.template_machine.specs.Putting.{attribute_part}
use Rattle.template_machine.specs.Saying.{Puts}
use Rattle.template_machine.specs.declared.stop.Stop.TheVariants as stop
use Rattle.template_machine.proofs.Copied.{puts_copied}
use Rattle.template_machine.proofs.Saying.{puts_not, puts_nothing, stops_with}
use Rattle.template_machine.proofs.Shelved.{stands_on}
use Rattle.template_machine.proofs.putting.Putting.attributes_of.Goals as goal

pub returns-clause-stands : goal.returns-clause-stands
returns-clause-stands g c = stands_on _ _ _ c.copied_attrs.ensures.same c.attributes.ensures.stands

pub returns-then-is_empty-clause-puts : goal.returns-then-is_empty-clause-puts
returns-then-is_empty-clause-puts g c =
    puts_nothing g.S.Sink.output g.S.Sink.told g.met.S.Sink.nothing c.args.at (map attribute_part c.args.attrs.now) _ c.args.self.now c.args.out.now
    (ap (map attribute_part) (c.is_empty.ensures.0 c.if-is_empty.true))

pub returns-in_err-copies-clause-puts : goal.returns-in_err-copies-clause-puts
returns-in_err-copies-clause-puts g c =
    let parts = map attribute_part c.args.attrs.now in
    subst (λ r. Puts g.S.Sink.output g.S.Sink.told c.args.at parts r c.args.self.now c.copied_attrs.new.self c.args.out.now c.args.out.now)
    (sym (stops_with c.from_residual.result stop.Memory c.from_residual.ensures.1))
    (puts_not g.S.Sink.output g.S.Sink.told g.met.S.Sink.nothing c.args.at parts c.args.self.now c.copied_attrs.new.self c.args.out.now)

pub returns-clause-puts : goal.returns-clause-puts
returns-clause-puts g c =
    subst (λ as_. Puts g.S.Sink.output g.S.Sink.told c.args.at (map attribute_part as_) c.attributes.result c.args.self.now c.attributes.new.self c.args.out.now c.attributes.new.out) c.in_ok-copies.ensures.copies
    (puts_copied g.S.Sink.output g.S.Sink.told c.args.at (map attribute_part c.in_ok-copies.copies) c.attributes.result c.args.self.now c.copied_attrs.new.self c.attributes.new.self c.args.out.now c.attributes.new.out
    c.copied_attrs.ensures.rest c.attributes.ensures.puts)
