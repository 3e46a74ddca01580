use Rattle.std.proofs.Common.{arith}
use Rattle.sheet_runs.specs.inside.Running.{IsWritten}
use Rattle.sheet_runs.proofs.Halting.{ends-over, wrote-not}
use Rattle.sheet_runs.proofs.Leaving.{beside-kept, main-kept}
use Rattle.run_engine.specs.declared.piece.Pumped.TheVariants as asks
use Rattle.sheet_runs.proofs.running.Running.reach_main.Goals as goal

pub loop-pumped-init : goal.loop-pumped-init
loop-pumped-init g c = (λ start main old d. d, omega arith)

pub returns-in_err-write_settled-clause-driven : goal.returns-in_err-write_settled-clause-driven
returns-in_err-write_settled-clause-driven g c = λ start whole old d.
    let s = c.write_settled.new.self in
    wrote-not start whole old (g.H.Host.outside c.write_settled.new.host) s asks.Main (IsWritten s) c.in_err-write_settled.field-0.0 c.from_residual.result c.from_residual.ensures.1
    (c.in_err-write_settled.ensures.driven start whole old c.loop-pumped.pumped (c.loop-pumped.invariant.0 start whole old d))

pub read_other-requires-clause-driven : goal.read_other-requires-clause-driven
read_other-requires-clause-driven g c =
    let d = c.requires in
    (d.0, d.1, d.2, rw c.in-Document.is at (c.in_ok-write_settled.ensures.driven d.0 d.1 d.2 c.loop-pumped.pumped (c.loop-pumped.invariant.0 d.0 d.1 d.2 d.3)).0)

pub open-requires-clause-driven : goal.open-requires-clause-driven
open-requires-clause-driven g c =
    let d = c.requires in
    (d.0, d.1, d.2, rw c.in-Open.is at (c.in_ok-write_settled.ensures.driven d.0 d.1 d.2 c.loop-pumped.pumped (c.loop-pumped.invariant.0 d.0 d.1 d.2 d.3)).0)

pub returns-in-Done-clause-driven : goal.returns-in-Done-clause-driven
returns-in-Done-clause-driven g c = λ start whole old d.
    let wrote = c.in_ok-write_settled.ensures.driven start whole old c.loop-pumped.pumped (c.loop-pumped.invariant.0 start whole old d) in
    ends-over start whole old (g.H.Host.outside c.write_settled.new.host) c.write_settled.new.self c.loop-pumped.pumped wrote.0 c.in-Done.is wrote.1

pub loop-pumped-preserved-in_ok-pumped-in-Document : goal.loop-pumped-preserved-in_ok-pumped-in-Document
loop-pumped-preserved-in_ok-pumped-in-Document g c =
    let loop = c.loop-pumped in (
      λ start main old d.
          let wrote = (c.in_ok-write_settled.ensures.driven start main old loop.pumped (loop.invariant.0 start main old d)).0 in
          c.in_ok-pumped-in-Document.ensures.driven start main old (rw c.in-Document.is at wrote),
      omega (arith, c.in_ok-pumped-in-Document.ensures.less.main, main-kept loop.self c.write_settled.new.self c.in_ok-write_settled.ensures.kept, loop.invariant.1),
    )

pub loop-pumped-smaller-in_ok-pumped-in-Document : goal.loop-pumped-smaller-in_ok-pumped-in-Document
loop-pumped-smaller-in_ok-pumped-in-Document g c =
    omega (arith, c.in_ok-pumped-in-Document.ensures.less.beside, beside-kept c.loop-pumped.self c.write_settled.new.self c.in_ok-write_settled.ensures.kept)

pub loop-pumped-preserved : goal.loop-pumped-preserved
loop-pumped-preserved g c =
    let loop = c.loop-pumped in (
      λ start main old d.
          let wrote = (c.in_ok-write_settled.ensures.driven start main old loop.pumped (loop.invariant.0 start main old d)).0 in
          c.in_ok-pumped-in-Open.ensures.driven start main old (rw c.in-Open.is at wrote),
      omega (arith, c.in_ok-pumped-in-Open.ensures.less.main, main-kept loop.self c.write_settled.new.self c.in_ok-write_settled.ensures.kept, loop.invariant.1),
    )

pub loop-pumped-smaller : goal.loop-pumped-smaller
loop-pumped-smaller g c =
    omega (arith, c.in_ok-pumped-in-Open.ensures.less.beside, beside-kept c.loop-pumped.self c.write_settled.new.self c.in_ok-write_settled.ensures.kept)
