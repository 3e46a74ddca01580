use Rattle.xml_tokens.proofs.SaysLemmas.{shapes-say, saying-read}
use Rattle.xml_tokens.proofs.laws.lexemes.Goals as goal

pub returns : goal.returns
returns c = record { said = shapes-say; read = saying-read }
