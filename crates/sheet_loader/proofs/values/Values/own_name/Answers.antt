use Rattle.std.specs.Str.{chars}
use Rattle.sheet_loader.proofs.values.Values.own_name.Goals as goal

pub returns : goal.returns
unfolding chars
returns c = c.named.ensures
