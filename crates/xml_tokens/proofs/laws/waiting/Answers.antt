use Rattle.xml_tokens.proofs.BoundLemmas.{few-unread}
use Rattle.xml_tokens.proofs.laws.waiting.Goals as goal

pub returns : goal.returns
returns c = few-unread
