use Rattle.stx_engine.proofs.Growing.{bytes-stay, run-stays}
use Rattle.stx_engine.proofs.passed.settled_stays.Goals as goal

pub returns-clause-output : goal.returns-clause-output
returns-clause-output c = bytes-stay c.growing.ensures

pub returns-clause-over : goal.returns-clause-over
returns-clause-over c = run-stays c.growing.ensures
