use Rattle.stx_base.proofs.Course.{one_end}
use Rattle.template_machine.specs.Outcome.{deep_enough}
use Rattle.template_machine.proofs.Ending.{has_meaning, outcome_is}
use Rattle.template_machine.proofs.law.one_meaning.Goals as goal

pub returns-clause-some : goal.returns-clause-some
returns-clause-some c = has_meaning

pub returns-clause-one : goal.returns-clause-one
returns-clause-one c = λ given tree os ps e f a b. one_end a b

pub returns-clause-function : goal.returns-clause-function
returns-clause-function c = λ given new tree os e. (λ h. outcome_is given new tree os e h, λ h. record { depth = deep_enough given tree; comes = h })
