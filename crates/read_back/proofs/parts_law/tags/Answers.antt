use Rattle.read_back.proofs.Following.{reads_held_tags}
use Rattle.read_back.proofs.parts_law.tags.Goals as goal

pub returns : goal.returns
returns c = reads_held_tags c.names.ensures
