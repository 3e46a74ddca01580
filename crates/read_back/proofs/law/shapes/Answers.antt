use Rattle.read_back.proofs.Pieces.{writes_shapes}
use Rattle.read_back.proofs.law.shapes.Goals as goal

pub returns : goal.returns
returns c = writes_shapes c.declarations.ensures c.spelling.ensures.shapes c.spelling.ensures.read
