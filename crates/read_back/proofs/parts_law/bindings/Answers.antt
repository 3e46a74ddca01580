use Rattle.read_back.proofs.Following.{knows_bindings, knows_path}
use Rattle.read_back.proofs.parts_law.bindings.Goals as goal

pub returns : goal.returns
returns c = record { path = knows_path c.names.ensures; bound = knows_bindings c.names.ensures }
