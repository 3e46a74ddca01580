use Rattle.std.proofs.Common.{◌<◌, ◌≤◌, ◌∙◌, Some, ap, arith, length, sym}
use Rattle.template_machine.proofs.NamedValues.{none_named, not_past, value_named}
use Rattle.template_machine.proofs.Saying.{none_there}
use Rattle.template_machine.proofs.run.Run.given.Goals as goal

pub returns-in_default-clause-value : goal.returns-in_default-clause-value
returns-in_default-clause-value c = λ long.
    sym
    (none_named c.args.param.now.name c.args.names.now c.args.values.now long
    (sym c.place_of_param.ensures.place ∙ none_there c.place_of_param.result (λ x e. c.in_default.not-Some x e)))

pub returns-in_ok-copy-in-Some-get-clause-value : goal.returns-in_ok-copy-in-Some-get-clause-value
returns-in_ok-copy-in-Some-get-clause-value c = λ long.
    ap (λ v. Some v) c.in_ok-copy-in-Some-get.ensures
    ∙ sym
    (value_named c.args.param.now.name c.args.names.now c.args.values.now c.in-Some.place c.in-Some-get.value.now long (sym c.in-Some.ensures.place) (sym c.in-Some-get.ensures.value))

-- each name has its value
pub returns-in-None-clause-value : goal.returns-in-None-clause-value
returns-in-None-clause-value c = λ long.
    let less : c.in-Some.place < length c.args.values.now = omega (arith, long, c.in-Some.ensures.within) in
    absurd (not_past c.args.values.now c.in-Some.place less (sym c.in-None.ensures.value))
