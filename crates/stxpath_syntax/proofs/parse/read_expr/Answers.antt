use Rattle.std.proofs.Common.{◌≡◌, ◌∙◌, subst, rules}
use Rattle.std.specs.Str.{chars}
use Rattle.std.proofs.lemmas.Str.{chars_from_encodes}
use Rattle.stxpath_syntax.specs.Template.{Answers, IsExpression}
use Rattle.stxpath_syntax.proofs.Shaping.{expression_answer}
use Rattle.stxpath_syntax.proofs.parse.read_expr.Goals as goal

pub returns : goal.returns
returns c =
    let e : c.in_ok-chars.chars.items ≡ chars c.as_str.result.now = search (rules, chars_from_encodes) in
    let a : Answers (IsExpression c.args.dialect c.args.scope.now 0 c.args.text.now) c.expression.result
    = subst (λ text. Answers (IsExpression c.args.dialect c.args.scope.now 0 text) c.expression.result) (c.deref.ensures.value ∙ e ∙ c.as_str.ensures.chars) c.expression.ensures in
    let shape = expression_answer c.args.dialect c.args.scope.now c.args.text.now c.expression.result a in
    record { reads = a; called_well = shape.0; low = shape.1 }
