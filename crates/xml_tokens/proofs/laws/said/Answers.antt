use Rattle.xml_tokens.proofs.SayableLemmas.{lexemes-sayable}
use Rattle.xml_tokens.proofs.laws.said.Goals as goal

pub returns : goal.returns
returns c = lexemes-sayable
