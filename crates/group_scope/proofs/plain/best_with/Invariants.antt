use Rattle.std.proofs.Common.{◌≡◌, take}
use Rattle.node_stack.specs.Stack.{path}
use Rattle.group_scope.specs.Choice.{alternatives_from, fitting, settings}
use Rattle.group_scope.specs.Rank.{improved}
use Rattle.group_scope.proofs.plain.best_with.Given as goal

-- The best of the alternatives so far.
abbrev pub invariant-loop-place : goal.invariant-loop-place
invariant-loop-place g l =
    l.best ≡ improved l.fn.best (fitting (settings (g.G.GroupVars.seen l.fn.vars) l.limits (path l.stack)) (alternatives_from l.number l.template l.category 0 (take l.place l.template.pattern.alternatives)))
