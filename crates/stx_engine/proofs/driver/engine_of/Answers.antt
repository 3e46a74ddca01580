use Rattle.std.specs.Prelude.{IfOk}
use Rattle.std.proofs.Common.{subst}
use Rattle.run_engine.specs.Run.{IsAtStart}
use Rattle.stx_engine.proofs.driver.engine_of.Goals as goal

pub returns-in-Ok : goal.returns-in-Ok
returns-in-Ok c = subst (λ params. IfOk c.new.result (IsAtStart c.args.sheet params c.args.asked.limits)) c.in-Ok.ensures c.new.ensures
