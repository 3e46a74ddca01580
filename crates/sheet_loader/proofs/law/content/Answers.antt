use Rattle.sheet_loader.proofs.NodeParts.{writes_nodes}
use Rattle.sheet_loader.proofs.law.content.Goals as goal

pub returns : goal.returns
returns c = writes_nodes
