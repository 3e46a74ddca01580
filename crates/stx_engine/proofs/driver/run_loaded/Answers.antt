use Rattle.std.proofs.Common.{refl, subst, sym}
use Rattle.stx_engine.specs.Doing.{Checks, Does}
use Rattle.stx_engine.proofs.driver.run_loaded.Goals as goal

pub returns-in-Check : goal.returns-in-Check
returns-in-Check g c = Checks c.in-Check.is refl c.check.ensures

pub returns-in-Run : goal.returns-in-Run
returns-in-Run g c =
    let old = g.H.Host.outside c.args.host.now in
    let new = g.H.Host.outside c.run_main.new.host in
    subst (λ m. Does (record c.args.command { mode = m }) c.args.loaded old new c.run_main.result) (sym c.in-Run.is) c.run_main.ensures

pub returns-in-Sample : goal.returns-in-Sample
returns-in-Sample g c =
    let old = g.H.Host.outside c.args.host.now in
    let new = g.H.Host.outside c.run_sample.new.host in
    subst (λ m. Does (record c.args.command { mode = m }) c.args.loaded old new c.run_sample.result) (sym c.in-Sample.is) c.run_sample.ensures
