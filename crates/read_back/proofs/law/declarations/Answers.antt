use Rattle.read_back.proofs.Declaring.{declares_sound}
use Rattle.read_back.proofs.law.declarations.Goals as goal

pub returns : goal.returns
returns c = declares_sound c.prefixes_are_names.ensures
