use Rattle.std.proofs.Common.{arith}
use Rattle.run_engine.specs.Run.{Main}
use Rattle.run_engine.specs.inside.Cores.{opens_of, asks_of, stage_of}
use Rattle.run_engine.specs.inside.Gives.{Runs, gives}
use Rattle.run_engine.proofs.Asking.{answers-then, same-same, same-then}
use Rattle.run_engine.proofs.Gives.{gives-first, gives-then}
use Rattle.run_engine.proofs.Taking.{took-same, took-then}
use Rattle.run_engine.proofs.run.Core.go_on.Goals as goal

pub loop-pumped-init : goal.loop-pumped-init
loop-pumped-init c = (c.requires, same-same c.args.self.now, took-same (opens_of c.args.self.now), omega arith, λ order. gives-first c.args.self.now order)

pub loop-pumped-preserved : goal.loop-pumped-preserved
loop-pumped-preserved c =
    let loop = c.loop-pumped in
    let i = loop.invariant in
    let d = c.in_default.ensures.advances in (
      d.0,
      same-then c.args.self.now loop.self c.advance.new.self i.1 d.2,
      took-then (opens_of c.args.self.now) (opens_of loop.self) (opens_of c.advance.new.self) i.2 d.3,
      omega (arith, d.4, i.3),
      λ order.
          let g = i.4 order in
          gives-then (λ given. Runs given c.args.self.now) (gives c.args.self.now) Main c.args.self.now loop.self c.advance.new.self i.1.files g (c.in_default.ensures.gives g.order),
    )

pub loop-pumped-smaller : goal.loop-pumped-smaller
loop-pumped-smaller c = c.in_default.ensures.advances.1

pub returns-in-Some-clause-answers : goal.returns-in-Some-clause-answers
returns-in-Some-clause-answers c =
    let loop = c.loop-pumped in
    answers-then (asks_of loop.self) (asks_of c.args.self.now) c.args.self.now loop.self c.advance.new.self c.in-Some.pumped loop.invariant.3 loop.invariant.1 loop.invariant.2 c.in-Some.ensures.advances

pub returns-in-Some-clause-gives : goal.returns-in-Some-clause-gives
returns-in-Some-clause-gives c = λ order.
    let loop = c.loop-pumped in
    let s = c.args.self.now in
    let g = loop.invariant.4 order in
    gives-then (λ given. Runs given s) (gives s) (stage_of c.advance.new.self.stage) s loop.self c.advance.new.self loop.invariant.1.files g (c.in-Some.ensures.gives g.order)
