use Rattle.stxpath_values.proofs.OccurrenceLemmas.{starts_same}
use Rattle.stxpath_values.proofs.places.starts_with.Goals as goal

pub returns : goal.returns
returns c = starts_same c.starts_with.result c.args.text.now c.args.word.now c.utf8.text c.utf8.word c.starts_with.ensures.cases
