use Rattle.std.proofs.Common.{◌≡◌, [], take, filter}
use Rattle.node_stack.specs.Stack.{path}
use Rattle.group_scope.specs.Asking.{can_be, question}
use Rattle.group_scope.proofs.asking.Asking.best_in_row.Given as goal

-- None so far can be chosen.
abbrev pub invariant-loop-entry : goal.invariant-loop-entry
invariant-loop-entry g l =
    filter (can_be (question l.self.sheet.now l.self.active.now (g.G.GroupVars.seen l.self.vars.now) l.self.limits.now (path l.self.stack.now))) (take l.entry-index l.row) ≡ []
