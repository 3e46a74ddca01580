use Rattle.std.proofs.Common.{arith, ap, inl, inr, refl}
use Rattle.run_engine.specs.Run.{Run}
use Rattle.stx_engine.proofs.Begun.{begun-so}
use Rattle.stx_engine.proofs.driver.run_any.Goals as goal

pub run_sheet-requires-clause-begun : goal.run_sheet-requires-clause-begun
run_sheet-requires-clause-begun g c = begun-so c.args.sheet _ c.args.asked.limits c.in-Ok.engine c.in-Ok.ensures

pub run_sheet-requires-clause-input : goal.run_sheet-requires-clause-input
run_sheet-requires-clause-input g c = omega (arith, ap (λ (e : Run). e.limits.input) c.in-Ok.ensures.is, c.requires.limits.input)

pub returns-in-Ok : goal.returns-in-Ok
returns-in-Ok g c = inl (c.in-Ok.engine, (c.in-Ok.ensures, c.run_sheet.ensures))

pub returns-in-Err : goal.returns-in-Err
returns-in-Err g c = inr (refl, refl)
