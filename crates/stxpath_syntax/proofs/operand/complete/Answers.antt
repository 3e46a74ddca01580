use Rattle.std.proofs.Common.{◌-◌, ◌^◌, List, subst}
use Rattle.stxpath_syntax.specs.declared.expr.Expr.{Expr}
use Rattle.stxpath_syntax.specs.declared.meant.Meant.{Meant}
use Rattle.stxpath_syntax.specs.declared.state.Frame.{Frame}
use Rattle.stxpath_syntax.specs.Counts.{CanCount}
use Rattle.stxpath_syntax.proofs.Counts.{gathered_counts}
use Rattle.stxpath_syntax.proofs.operand.complete.Goals as goal

pub end-requires : goal.end-requires
end-requires c =
    subst (λ (both : List Frame × Meant Expr). CanCount both.0) c.in_ok-last-in-Some.ensures
    (gathered_counts (2 ^ 64 - 2) c.least.result c.args.stack.now c.args.operand c.requires)
