use Rattle.std.proofs.Common.{◌∙◌}
use Rattle.stxpath_eval.proofs.Items.{one_atom}
use Rattle.stxpath_eval.proofs.functions.no_node.Goals as goal

pub returns-in-1 : goal.returns-in-1
returns-in-1 c = λ p xs h. one_atom p xs (h ∙ c.in-1.is)
