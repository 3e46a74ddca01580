use Rattle.group_scope.proofs.asking.Asking.+best_around.Given as goal

abbrev pub decreases-best_around : goal.decreases-best_around
decreases-best_around g l = l.levels
