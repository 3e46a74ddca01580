use Rattle.std.proofs.Common.{Ok, sym, ap, ◌∙◌}
use Rattle.std.specs.Str.{chars}
use Rattle.xml_tokens.specs.Texts.{result_map}
use Rattle.xml_tokens.proofs.LiteralLemmas.{literal-said}
use Rattle.xml_tokens.proofs.text.said.Goals as goal

pub returns-then-is_literal : goal.returns-then-is_literal
returns-then-is_literal c =
    ap (λ l. Ok l) c.in_ok-text.ensures ∙ ap (result_map chars) (sym (literal-said c.args.context c.args.bytes.now (sym c.is_literal.ensures ∙ c.if-is_literal.true)))
