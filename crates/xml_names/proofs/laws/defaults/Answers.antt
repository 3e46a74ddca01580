use Rattle.xml_names.proofs.Nearest.{defaults-elements}
use Rattle.xml_names.proofs.Taken.{defaults-no-attributes}
use Rattle.xml_names.proofs.laws.defaults.Goals as goal

pub returns : goal.returns
returns c = record { elements = defaults-elements; attributes = defaults-no-attributes }
