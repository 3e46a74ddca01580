use Rattle.run_engine.specs.Asks.{AsksFewer, asks_handed}
use Rattle.run_engine.specs.Run.{Absents, HasBegun}
use Rattle.run_engine.specs.inside.Cores.{stage_of, asks_of, run_of}
use Rattle.run_engine.specs.declared.run.Core.{Core}
use Rattle.run_engine.proofs.Asking.{absents-memory, begins-same, has-begun-so}
use Rattle.std.proofs.Common.{ap, inl, inr, refl, subst, sym}
use Rattle.run_engine.proofs.Reading.{piece-lacks}
use Rattle.stx_base.specs.Course.{Begins}
use Rattle.run_engine.proofs.run.Core.step.Goals as goal

pub returns-in-Ok-clause-out : goal.returns-in-Ok-clause-out
returns-in-Ok-clause-out c = has-begun-so c.args.piece c.args.out.now.items c.begin.new.out.items (stage_of c.take.new.self.stage) c.in-Ok.ensures.ok

pub returns-in-Err-clause-absent : goal.returns-in-Err-clause-absent
returns-in-Err-clause-absent c = subst (λ (x : Core). Absents c.args.piece (stage_of x.stage)) (sym c.lack.ensures.over) (absents-memory c.args.piece)

pub returns-in-Err-clause-out : goal.returns-in-Err-clause-out
returns-in-Err-clause-out c =
    subst (λ (x : Core). HasBegun c.args.piece c.args.out.now.items (stage_of x.stage) c.begin.new.out.items) (sym c.lack.ensures.over)
    (subst (Begins c.args.out.now.items) (sym c.in-Err.ensures.err) (begins-same c.args.out.now.items))

pub returns-in-Err-clause-asks : goal.returns-in-Err-clause-asks
returns-in-Err-clause-asks c = subst (λ (x : Core). AsksFewer (stage_of x.stage) (asks_handed (run_of c.args.self.now) c.args.piece) (asks_of x)) (sym c.lack.ensures.over) tt

pub returns-in-Ok-clause-begun : goal.returns-in-Ok-clause-begun
returns-in-Ok-clause-begun c = inl c.in-Ok.ensures.ok

pub returns-in-Err-clause-begun : goal.returns-in-Err-clause-begun
returns-in-Err-clause-begun c = inr (c.in-Err.ensures.err, ap (λ (x : Core). x.out) c.lack.ensures.over)

pub returns-in-Ok-clause-gives : goal.returns-in-Ok-clause-gives
returns-in-Ok-clause-gives c = c.take.ensures.gives

pub returns-in-Err-clause-gives : goal.returns-in-Err-clause-gives
returns-in-Err-clause-gives c = λ order. piece-lacks c.args.piece c.args.self.now c.args.self.now c.lack.new.self refl refl c.lack.ensures.over
