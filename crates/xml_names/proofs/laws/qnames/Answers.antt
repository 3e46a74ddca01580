use Rattle.xml_names.proofs.QNames.{spelled, read}
use Rattle.xml_names.proofs.laws.qnames.Goals as goal

pub returns : goal.returns
returns c = record { spelled = spelled; read = read }
