use Rattle.std.specs.Str.{chars}
use Rattle.sheet_loader.proofs.values.Values.priority.Goals as goal

pub returns : goal.returns
unfolding chars
returns c = c.priority_by.ensures
