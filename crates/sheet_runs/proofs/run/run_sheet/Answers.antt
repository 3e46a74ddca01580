use Rattle.std.proofs.Common.{subst}
use Rattle.sheet_runs.specs.inside.Running.{Halted}
use Rattle.sheet_runs.proofs.Halting.{over-some, ran-so}
use Rattle.sheet_runs.proofs.run.run_sheet.Goals as goal

pub close_all-requires : goal.close_all-requires
close_all-requires g c = ((g.H.Host.outside c.args.host.now).open_ids, c.go-halt.ensures.held)

pub ran-requires : goal.ran-requires
ran-requires g c =
    let f = c.new-running.ensures in
    let r = c.new-running.result in
    let old = g.H.Host.outside c.args.host.now in
    let h = c.close_all.ensures.halted r.engine r.main old c.go-halt.result c.go-halt.ensures in
    λ over. over-some c.close_all.new.self.engine c.go-halt.result h.end h.halts over

pub returns : goal.returns
returns g c =
    let f = c.new-running.ensures in
    let r = c.new-running.result in
    let old = g.H.Host.outside c.args.host.now in
    let new = g.H.Host.outside c.close_all.new.host in
    let s = c.close_all.new.self in
    let why = c.go-halt.result in
    let h = c.close_all.ensures.halted r.engine r.main old why c.go-halt.ensures in
    let of_engine = subst (λ e. Halted e r.main old new s why) f.engine_is h in
    let of_main = subst (λ m. Halted c.args.engine m old new s why) f.main_is of_engine in
    ran-so c.args.engine c.args.main old new s why c.ran.result of_main c.close_all.ensures.closed c.ran.ensures.end c.ran.ensures.input c.ran.ensures.output
