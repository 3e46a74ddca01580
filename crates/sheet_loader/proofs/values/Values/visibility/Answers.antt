use Rattle.std.specs.Str.{chars}
use Rattle.sheet_loader.proofs.values.Values.visibility.Goals as goal

pub returns : goal.returns
unfolding chars
returns c = c.visibility_by.ensures
