use Rattle.std.specs.Str.{chars}
use Rattle.sheet_loader.proofs.values.Values.pass_or.Goals as goal

pub returns : goal.returns
unfolding chars
returns c = c.pass_by.ensures
