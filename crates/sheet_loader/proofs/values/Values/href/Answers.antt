use Rattle.std.specs.Str.{chars}
use Rattle.sheet_loader.proofs.values.Values.href.Goals as goal

pub returns : goal.returns
unfolding chars
returns c = c.word_by.ensures
