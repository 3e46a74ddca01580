use Rattle.std.proofs.Common.{◌∙◌, ap, sym}
use Rattle.std.specs.Str.{chars}
use Rattle.sheet_model.specs.declared.instr.Content.TheVariants as content
use Rattle.sheet_loader.specs.Contents.{content_by}
use Rattle.sheet_loader.proofs.making.content.Goals as goal

pub returns-in-Some : goal.returns-in-Some
unfolding chars
returns-in-Some c = ap (λ o. content_by o c.args.inner.now.text) (sym c.in-Some.is ∙ c.take_maybe_expression.ensures.value)

pub returns-in-None : goal.returns-in-None
unfolding chars
returns-in-None c =
    ap (λ t. content.Chars t) c.take_text.ensures.value
    ∙ ap (λ o. content_by o c.args.inner.now.text) (sym c.in-None.is ∙ c.take_maybe_expression.ensures.value)
