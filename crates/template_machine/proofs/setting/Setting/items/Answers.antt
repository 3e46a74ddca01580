use Rattle.std.proofs.Common.{subst}
use Rattle.stxpath_eval.specs.Value.{value}
use Rattle.stxpath_values.specs.Outcome.{IsAnswer}
use Rattle.template_machine.proofs.setting.Setting.items.Goals as goal

pub returns : goal.returns
returns g c = subst (λ s. IsAnswer c.eval.result (value c.args.expr.now s)) c.env-env.ensures.seen c.eval.ensures
