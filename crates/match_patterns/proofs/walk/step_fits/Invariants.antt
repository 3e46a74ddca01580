use Rattle.std.proofs.Common.{◌≡◌, true, take}
use Rattle.std.specs.List.{list_all}
use Rattle.node_stack.specs.Stack.{path}
use Rattle.stxpath_eval.specs.Setting.{at_step}
use Rattle.stxpath_eval.specs.Steps.{holds}
use Rattle.stxpath_eval.specs.Value.{value}
use Rattle.stxpath_syntax.specs.declared.expr.Expr.{Expr}
use Rattle.match_patterns.specs.Fits.{at_current, surely}
use Rattle.match_patterns.proofs.walk.step_fits.Given as goal

-- Those that were asked hold.
abbrev pub invariant-loop-predicate : goal.invariant-loop-predicate
invariant-loop-predicate g l =
    list_all
    (λ (predicate : Expr). surely (holds (value predicate) (at_step l.place l.step.test (at_current (g.V.Vars.value_of l.vars) l.limits (path l.stack)))))
    (take l.predicate-index l.predicate-items)
    ≡ true
