use Rattle.stxpath_eval.proofs.Led.{none_led}
use Rattle.stxpath_eval.proofs.steps.reachable.Goals as goal

pub returns-in_default-clause-before : goal.returns-in_default-clause-before
returns-in_default-clause-before c = λ p h.
    none_led c.args.link c.args.places.now c.nearest.result p c.nearest.ensures (λ from low. c.first_led.ensures.before from p low h)
