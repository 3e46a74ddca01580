use Rattle.stxpath_eval.proofs.Items.{several_hold}
use Rattle.stxpath_eval.proofs.held.list_holds.Goals as goal

pub returns-in_default : goal.returns-in_default
returns-in_default c = several_hold c.args.position c.args.list.now c.in_default.len_at_least
