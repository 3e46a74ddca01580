use Rattle.std.proofs.Common.{rules, IsUtf8, sym, ◌∙◌, subst}
use Rattle.xml_tokens.proofs.Utf8Lemmas.{utf8-word}
use Rattle.std.specs.Prelude.{codes}
use Rattle.xml_tokens.proofs.text.referred.Goals as goal

pub character-requires-clause-utf8 : goal.character-requires-clause-utf8
character-requires-clause-utf8 c = subst IsUtf8 (sym c.tail.ensures) (utf8-word c.args.name.now (codes "#x") (sym c.begins.ensures ∙ c.if-begins.true) (search rules) c.requires)

pub character-requires-then-begins-2-clause-utf8 : goal.character-requires-then-begins-2-clause-utf8
character-requires-then-begins-2-clause-utf8 c = subst IsUtf8 (sym c.tail-then-begins-2.ensures) (utf8-word c.args.name.now (codes "#") (sym c.begins-else-begins.ensures ∙ c.if-begins-2.true) (search rules) c.requires)
