use Rattle.xml_tokens.proofs.CutLemmas.{joined-again, rest-unended, some-cut, one-cut}
use Rattle.xml_tokens.proofs.laws.cuts.Goals as goal

pub returns : goal.returns
returns c = record { joined = joined-again; rest = rest-unended; some = some-cut; one = one-cut }
