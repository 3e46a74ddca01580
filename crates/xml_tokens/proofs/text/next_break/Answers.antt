use Rattle.std.proofs.Common.{sym, subst}
use Rattle.memchr.specs.Find.{is_byte, is_byte3}
use Rattle.xml_tokens.specs.inside.Spans.{IsFirstOf, is_changed}
use Rattle.xml_tokens.proofs.TextLemmas.{first-place}
use Rattle.xml_tokens.proofs.text.next_break.Goals as goal

pub returns-in-Content : goal.returns-in-Content
returns-in-Content c =
    subst (λ p. IsFirstOf (is_changed p) c.args.bytes.now c.memchr.result) (sym c.in-Content.is) (first-place (is_byte 13) c.args.bytes.now c.memchr.result c.memchr.ensures)

pub returns-in-Value : goal.returns-in-Value
returns-in-Value c =
    subst (λ p. IsFirstOf (is_changed p) c.args.bytes.now c.memchr3.result) (sym c.in-Value.is) (first-place (is_byte3 13 10 9) c.args.bytes.now c.memchr3.result c.memchr3.ensures)
