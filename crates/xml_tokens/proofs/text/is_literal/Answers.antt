use Rattle.std.proofs.Common.{sym, ap, ◌∙◌, is_some}
use Rattle.memchr.specs.Find.{is_byte2}
use Rattle.xml_tokens.specs.Texts.{is_ampersand}
use Rattle.xml_tokens.specs.inside.Spans.{is_break, is_changed, is_literal}
use Rattle.xml_tokens.specs.declared.text.Context.TheVariants.{Content}
use Rattle.xml_tokens.proofs.LiteralLemmas.{turned, neither-test}
use Rattle.xml_tokens.proofs.TextLemmas.{first-any}
use Rattle.xml_tokens.proofs.text.is_literal.Goals as goal

pub returns-in-Content : goal.returns-in-Content
returns-in-Content c =
    let bytes = c.args.bytes.now in
    turned _ _ c.is_none.ensures
    ∙ (neither-test is_ampersand (is_changed Content) bytes (is_some c.memchr2.result) (first-any (is_byte2 38 13) bytes c.memchr2.result c.memchr2.ensures)
    ∙ ap (λ p. is_literal p bytes) (sym c.in-Content.is))

pub returns-in-Value : goal.returns-in-Value
returns-in-Value c =
    neither-test is_ampersand is_break c.args.bytes.now c.has_unsaid.result c.has_unsaid.ensures ∙ ap (λ p. is_literal p c.args.bytes.now) (sym c.in-Value.is)
