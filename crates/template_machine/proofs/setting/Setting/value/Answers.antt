use Rattle.std.proofs.Common.{subst}
use Rattle.stxpath_values.specs.Outcome.{IsAnswer}
use Rattle.template_machine.specs.Values.{atoms_of}
use Rattle.template_machine.proofs.setting.Setting.value.Goals as goal

pub returns : goal.returns
returns g c = subst (λ s. IsAnswer c.eval_atoms.result (atoms_of c.args.expr.now s)) c.env-env.ensures.seen c.eval_atoms.ensures
