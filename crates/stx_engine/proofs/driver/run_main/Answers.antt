use Rattle.std.proofs.Common.{map, refl, subst, sym}
use Rattle.sheet_model.specs.Sound.{IsSound}
use Rattle.sheet_runs.specs.declared.main_document.Main.TheVariants.{Host}
use Rattle.stx_engine.specs.Answer.{param_of}
use Rattle.stx_engine.specs.Doing.{RunsAny, RunsIt}
use Rattle.stx_engine.proofs.Runnable.{runnable-sound}
use Rattle.stx_engine.proofs.driver.run_main.Goals as goal

pub run_any-requires-clause-sound : goal.run_any-requires-clause-sound
run_any-requires-clause-sound g c = subst IsSound (sym c.runnable-sheet.ensures) (runnable-sound c.args.sheet c.requires.sound)

pub returns : goal.returns
returns g c =
    let old = g.H.Host.outside c.args.host.now in
    let new = g.H.Host.outside c.run_any.new.host in
    let a = c.args.asked in
    RunsIt refl c.run_any.result (subst (λ s. RunsAny (map param_of a.params) a.limits s Host old new c.run_any.result) c.runnable-sheet.ensures c.run_any.ensures) c.end_of_run.ensures
