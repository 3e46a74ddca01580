use Rattle.std.proofs.Common.{subst, sym}
use Rattle.std.specs.Str.{chars}
use Rattle.sheet_loader.specs.Meant.{Tells, form_of}
use Rattle.sheet_loader.specs.Values.{value_of}
use Rattle.sheet_loader.proofs.value.value_of.Goals as goal

pub returns-in-YesOrNo : goal.returns-in-YesOrNo
unfolding chars
returns-in-YesOrNo c = λ reads.
    subst (λ f. Tells (value_of reads c.args.dialect c.args.scope.now (form_of f) c.args.text.now) c.one_of.result) (sym c.in-YesOrNo.is) c.one_of.ensures

pub returns-in-Visibility : goal.returns-in-Visibility
unfolding chars
returns-in-Visibility c = λ reads.
    subst (λ f. Tells (value_of reads c.args.dialect c.args.scope.now (form_of f) c.args.text.now) c.one_of-in-Visibility.result) (sym c.in-Visibility.is) c.one_of-in-Visibility.ensures

pub returns-in-Passing : goal.returns-in-Passing
returns-in-Passing c = λ reads.
    subst (λ f. Tells (value_of reads c.args.dialect c.args.scope.now (form_of f) c.args.text.now) c.pass.result) (sym c.in-Passing.is) c.pass.ensures

pub returns-in-Priority : goal.returns-in-Priority
returns-in-Priority c = λ reads.
    subst (λ f. Tells (value_of reads c.args.dialect c.args.scope.now (form_of f) c.args.text.now) c.priority.result) (sym c.in-Priority.is) c.priority.ensures

pub returns-in-Named : goal.returns-in-Named
returns-in-Named c = λ reads.
    subst (λ f. Tells (value_of reads c.args.dialect c.args.scope.now (form_of f) c.args.text.now) c.name.result) (sym c.in-Named.is) c.name.ensures

pub returns-in-Expression : goal.returns-in-Expression
returns-in-Expression c = λ reads.
    subst (λ f. Tells (value_of reads c.args.dialect c.args.scope.now (form_of f) c.args.text.now) c.expression.result) (sym c.in-Expression.is) (c.expression.ensures reads)

pub returns-in-Pattern : goal.returns-in-Pattern
returns-in-Pattern c = λ reads.
    subst (λ f. Tells (value_of reads c.args.dialect c.args.scope.now (form_of f) c.args.text.now) c.pattern.result) (sym c.in-Pattern.is) (c.pattern.ensures reads)

pub returns-in-Tests : goal.returns-in-Tests
returns-in-Tests c = λ reads.
    subst (λ f. Tells (value_of reads c.args.dialect c.args.scope.now (form_of f) c.args.text.now) c.tests.result) (sym c.in-Tests.is) (c.tests.ensures reads)

pub returns-in-Template : goal.returns-in-Template
returns-in-Template c = λ reads.
    subst (λ f. Tells (value_of reads c.args.dialect c.args.scope.now (form_of f) c.args.text.now) c.template.result) (sym c.in-Template.is) (c.template.ensures reads)
