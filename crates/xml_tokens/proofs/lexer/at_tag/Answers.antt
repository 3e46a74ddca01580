use Rattle.std.proofs.Common.{ap, ◌+◌, arith}
use Rattle.xml_tokens.proofs.PlainTagLemmas.{tag-due}
use Rattle.xml_tokens.proofs.lexer.at_tag.Goals as goal

pub returns : goal.returns
returns c = λ first bytes spells. (
  tag-due c.args.limits.now c.args.tag c.args.at first bytes spells (omega (arith, c.if-tag-limits.false, spells.0)),
  ap (λ n. c.args.mark + n) spells.0,
)
