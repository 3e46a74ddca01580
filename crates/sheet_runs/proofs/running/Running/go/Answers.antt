use Rattle.sheet_runs.proofs.Stepping.{begins}
use Rattle.sheet_runs.proofs.running.Running.go.Goals as goal

pub loop-next-init : goal.loop-next-init
loop-next-init g c =
    let r = c.args.self.now in
    let o = g.H.Host.outside c.args.host.now in
    c.pump-pumped.ensures.driven r.engine r.main o o (begins r.engine r.main r c.requires.fresh c.requires.begun o c.requires.input)

pub advance-requires : goal.advance-requires
advance-requires g c =
    let r = c.args.self.now in
    (r.engine, r.main, g.H.Host.outside c.args.host.now, c.loop-next.invariant)

pub loop-next-preserved : goal.loop-next-preserved
loop-next-preserved g c =
    let r = c.args.self.now in
    c.in-Ok.ensures.driven r.engine r.main (g.H.Host.outside c.args.host.now) c.loop-next.invariant

pub loop-next-smaller : goal.loop-next-smaller
loop-next-smaller g c = c.in-Ok.ensures.less

pub returns-in-Err : goal.returns-in-Err
returns-in-Err g c =
    let r = c.args.self.now in
    c.in-Err.ensures.driven r.engine r.main (g.H.Host.outside c.args.host.now) c.loop-next.invariant
