use Rattle.std.proofs.Common.{◌≡◌, take, filter}
use Rattle.node_stack.specs.Stack.{path}
use Rattle.group_scope.specs.Choice.{all_from, category, fitting, is_free, settings}
use Rattle.group_scope.specs.Rank.{best_of}
use Rattle.group_scope.proofs.plain.choose.Given as goal

-- The best of the templates so far.
abbrev pub invariant-loop-index : goal.invariant-loop-index
invariant-loop-index g l =
    l.best
    ≡ best_of (fitting (settings (g.G.GroupVars.seen l.vars) l.limits (path l.stack)) (filter (is_free l.active) (all_from (category l.sheet l.base) 0 (take l.index l.sheet.templates))))
