use Rattle.group_scope.proofs.category.+is_around.Given as goal

abbrev pub decreases-is_around : goal.decreases-is_around
decreases-is_around l = l.levels
