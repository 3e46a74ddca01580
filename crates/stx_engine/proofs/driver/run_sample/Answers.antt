use Rattle.std.proofs.Common.{map, refl, subst, sym}
use Rattle.sample_maker.specs.Document.{pieces}
use Rattle.sheet_model.specs.Sound.{IsSound}
use Rattle.sheet_runs.specs.declared.main_document.Main.TheVariants as main
use Rattle.stx_engine.specs.Answer.{param_of}
use Rattle.stx_engine.specs.Doing.{RunsAny, RunsOnSample}
use Rattle.stx_engine.proofs.Runnable.{runnable-sound}
use Rattle.stx_engine.proofs.driver.run_sample.Goals as goal

pub run_any-requires-clause-sound : goal.run_any-requires-clause-sound
run_any-requires-clause-sound g c = subst IsSound (sym c.runnable-sheet.ensures) (runnable-sound c.args.sheet c.requires.sound)

pub returns : goal.returns
returns g c =
    let old = g.H.Host.outside c.args.host.now in
    let new = g.H.Host.outside c.run_any.new.host in
    let a = c.args.asked in
    let records = c.args.records in
    RunsOnSample records refl c.run_any.result
    (subst (λ s. RunsAny (map param_of a.params) a.limits s (main.Sample (pieces records)) old new c.run_any.result) c.runnable-sheet.ensures
    (subst (λ ps. RunsAny (map param_of a.params) a.limits c.runnable-sheet.result (main.Sample ps) old new c.run_any.result) c.make_sample.ensures c.run_any.ensures))
    c.end_of_sample.ensures
