use Rattle.stxpath_values.proofs.OccurrenceLemmas.{cut-at-word, place-of-word}
use Rattle.stxpath_values.proofs.law.cut_at_word.Goals as goal

pub returns : goal.returns
returns c = record { joined = cut-at-word; place = place-of-word }
