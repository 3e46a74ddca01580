use Rattle.std.proofs.Common.{Option, Some, map, ap, sym, subst, ◌∙◌}
use Rattle.stxpath_syntax.specs.declared.expr.Pattern.{Pattern}
use Rattle.template_machine.specs.Finding.{passing}
use Rattle.template_machine.specs.Putting.{attribute_part}
use Rattle.template_machine.specs.Saying.{Puts}
use Rattle.template_machine.specs.declared.stop.Stop.TheVariants as stop
use Rattle.template_machine.proofs.Copied.{puts_copied}
use Rattle.template_machine.proofs.Saying.{none_there, puts_not, puts_nothing, stops_with}
use Rattle.template_machine.proofs.Shelved.{stands_on}
use Rattle.template_machine.proofs.putting.Putting.passing_attributes.Goals as goal

pub returns-clause-stands : goal.returns-clause-stands
returns-clause-stands g c = stands_on _ _ _ c.copied_passing.ensures.same c.attributes.ensures.stands

pub returns-in_err-copies-clause-puts : goal.returns-in_err-copies-clause-puts
returns-in_err-copies-clause-puts g c =
    let parts = map attribute_part (passing c.args.pattern.now c.args.attrs.now) in
    subst (λ r. Puts g.S.Sink.output g.S.Sink.told c.args.at parts r c.args.self.now c.copied_passing.new.self c.args.out.now c.args.out.now)
    (sym (stops_with c.from_residual.result stop.Memory c.from_residual.ensures.1))
    (puts_not g.S.Sink.output g.S.Sink.told g.met.S.Sink.nothing c.args.at parts c.args.self.now c.copied_passing.new.self c.args.out.now)

pub returns-in_default-clause-puts : goal.returns-in_default-clause-puts
returns-in_default-clause-puts g c =
    puts_nothing g.S.Sink.output g.S.Sink.told g.met.S.Sink.nothing c.args.at (map attribute_part (passing c.args.pattern.now c.args.attrs.now)) _ c.args.self.now c.args.out.now
    (ap (λ (p : Option Pattern). map attribute_part (passing p c.args.attrs.now)) (none_there c.args.pattern.now (λ x e. c.in_default.not-Some x e)))

pub returns-clause-puts : goal.returns-clause-puts
returns-clause-puts g c =
    let copies = c.in_ok-copies.copies in
    let made = c.in_ok-copies.ensures.copies ∙ ap (λ (p : Option Pattern). passing p c.args.attrs.now) (sym c.in-Some.is) in
    subst (λ as_. Puts g.S.Sink.output g.S.Sink.told c.args.at (map attribute_part as_) c.attributes.result c.args.self.now c.attributes.new.self c.args.out.now c.attributes.new.out) made
    (puts_copied g.S.Sink.output g.S.Sink.told c.args.at (map attribute_part copies) c.attributes.result c.args.self.now c.copied_passing.new.self c.attributes.new.self c.args.out.now c.attributes.new.out
    c.copied_passing.ensures.rest c.attributes.ensures.puts)
