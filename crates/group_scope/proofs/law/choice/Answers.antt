use Rattle.group_scope.proofs.Lawful.{better_than_others, never_active}
use Rattle.group_scope.proofs.law.choice.Goals as goal

pub returns : goal.returns
returns c = record { never_active = never_active; better = better_than_others }
