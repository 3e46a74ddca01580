use Rattle.group_scope.proofs.Lawful.{same_in_any_order}
use Rattle.group_scope.proofs.Ordering.{chosen, ordered}
use Rattle.group_scope.proofs.law.best.Goals as goal

pub returns : goal.returns
returns c = record { chosen = chosen; ordered = ordered; any_order = same_in_any_order }
