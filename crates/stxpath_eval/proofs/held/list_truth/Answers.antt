use Rattle.stxpath_eval.proofs.Items.{several}
use Rattle.stxpath_eval.proofs.held.list_truth.Goals as goal

pub returns-in_default : goal.returns-in_default
returns-in_default c = several c.args.list.now c.in_default.len_at_least
