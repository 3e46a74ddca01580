use Rattle.stxpath_values.proofs.NumberTextLemmas.{number-is-read}
use Rattle.stxpath_values.proofs.law.number_text.Goals as goal

pub returns : goal.returns
returns c = number-is-read
