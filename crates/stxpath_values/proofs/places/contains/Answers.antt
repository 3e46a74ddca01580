use Rattle.std.proofs.Common.{◌∙◌}
use Rattle.stxpath_values.proofs.OccurrenceLemmas.{contains_same}
use Rattle.stxpath_values.proofs.places.contains.Goals as goal

pub returns : goal.returns
returns c = c.is_some.ensures ∙ contains_same c.find.result c.args.text.now c.args.word.now c.utf8.text c.utf8.word c.find.ensures.cases
