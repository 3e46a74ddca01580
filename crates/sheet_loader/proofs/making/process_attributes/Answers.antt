use Rattle.std.specs.Str.{chars}
use Rattle.sheet_loader.proofs.making.process_attributes.Goals as goal

pub returns : goal.returns
unfolding chars
returns c = cc
