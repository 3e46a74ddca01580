use Rattle.stxpath_values.proofs.OccurrenceLemmas.{ends_same}
use Rattle.stxpath_values.proofs.places.ends_with.Goals as goal

pub returns : goal.returns
returns c = ends_same c.ends_with.result c.args.text.now c.args.word.now c.utf8.text c.utf8.word c.ends_with.ensures.cases
