use Rattle.std.proofs.Common.{subst}
use Rattle.stxpath_values.specs.Outcome.{IsAnswer}
use Rattle.template_machine.specs.Values.{truth_of}
use Rattle.template_machine.proofs.setting.Setting.truth.Goals as goal

pub returns : goal.returns
returns g c = subst (λ s. IsAnswer c.eval_truth.result (truth_of c.args.expr.now s)) c.env-env.ensures.seen c.eval_truth.ensures
