use Rattle.std.proofs.Common.{Some, get_or, ap, sym, ◌∙◌}
use Rattle.template_machine.specs.Values.{text_value}
use Rattle.template_machine.specs.declared.turn.Param.{Param}
use Rattle.template_machine.proofs.Commanded.{commanded_none, commanded_value}
use Rattle.template_machine.proofs.Saying.{none_there}
use Rattle.template_machine.proofs.run.Run.commanded.Goals as goal

pub returns-in_default-clause-value : goal.returns-in_default-clause-value
returns-in_default-clause-value c = λ given has.
    commanded_none given c.args.program.now has c.args.variable.now c.as_slice.result.now c.as_slice.ensures c.if-not-variable.false
    (sym c.place_of_given.ensures.place ∙ none_there c.place_of_given.result (λ x e. c.in_default.not-Some x e))

pub returns-clause-value : goal.returns-clause-value
returns-clause-value c = λ given has.
    let x = c.index-as_slice-place.result in
    let all = c.as_slice.ensures ∙ sym c.as_slice-2.ensures in
    ap (λ v. Some v) (c.in_ok-text_value.ensures ∙ ap text_value (c.in_ok-text.ensures ∙ sym (ap (λ (y : Param). y.value) c.index-as_slice-place.is)))
    ∙ commanded_value given c.args.program.now has c.args.variable.now c.as_slice.result.now c.as_slice.ensures c.if-not-variable.false c.in-Some.place x (sym c.in-Some.ensures.place)
    (c.index-as_slice-place.is ∙ ap (λ l. get_or l c.in-Some.place x) (sym all))
