use Rattle.std.proofs.Common.{sym, subst}
use Rattle.node_stack.specs.Open.{node_of, KeepsOwn}
use Rattle.node_stack.proofs.Keeping.{kept_again}
use Rattle.node_stack.proofs.open.kept.Goals as goal

pub returns-in-Some : goal.returns-in-Some
returns-in-Some c =
    subst (λ o. KeepsOwn c.args.siblings.now o (node_of c.args.node) c.in-Some.own) (sym c.in-Some.is) (kept_again c.args.siblings.now c.in-Some.own (node_of c.args.node))
