use Rattle.std.proofs.Common.{◌≡◌, take}
use Rattle.node_stack.specs.Stack.{path}
use Rattle.group_scope.specs.Asking.{question, ranks_of_home}
use Rattle.group_scope.specs.Rank.{improved}
use Rattle.group_scope.proofs.asking.Asking.best_of_home.Given as goal

-- The best of the rows so far.
abbrev pub invariant-loop-test : goal.invariant-loop-test
invariant-loop-test g l =
    l.best
    ≡ improved l.fn.best (ranks_of_home (question l.self.sheet.now l.self.active.now (g.G.GroupVars.seen l.self.vars.now) l.self.limits.now (path l.self.stack.now)) l.rows (take l.test-index l.tests) l.category l.home)
