use Rattle.std.proofs.lemmas.Str.{chars-nil}
use Rattle.stxpath_values.proofs.convert.no_text.Goals as goal

pub returns : goal.returns
returns c = chars-nil
