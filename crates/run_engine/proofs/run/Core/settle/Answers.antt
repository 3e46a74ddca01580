use Rattle.std.proofs.Common.{ap, refl, subst, sym}
use Rattle.run_engine.specs.inside.Cores.{Answers, IsTurned, asks_of, most_at, stage_of}
use Rattle.run_engine.specs.inside.Gives.{TellsTurn}
use Rattle.run_engine.specs.declared.run.Core.{Core}
use Rattle.run_engine.proofs.Asking.{lacks}
use Rattle.run_engine.proofs.Gives.{stays-but}
use Rattle.run_engine.proofs.run.Core.settle.Goals as goal

pub returns-in-More-clause-settles : goal.returns-in-More-clause-settles
returns-in-More-clause-settles c = (refl, subst (λ t. IsTurned t c.args.self.now) c.in-More.is c.requires, c.in-More.is)

pub returns-in-More-clause-tells : goal.returns-in-More-clause-tells
returns-in-More-clause-tells c = c.in-More.is

pub done-requires : goal.done-requires
done-requires c = subst (λ t. IsTurned t c.args.self.now) c.in-Ended.is c.requires

pub returns-in-Ended-clause-settles : goal.returns-in-Ended-clause-settles
returns-in-Ended-clause-settles c = subst (λ t. Answers (most_at t (asks_of c.args.self.now)) c.args.self.now c.done.result c.done.new.self) (sym c.in-Ended.is) c.done.ensures.answers

pub returns-in-Ended-clause-tells : goal.returns-in-Ended-clause-tells
returns-in-Ended-clause-tells c = subst (λ t. TellsTurn c.args.self.now.files t (stage_of c.done.new.self.stage)) (sym c.in-Ended.is) c.done.ensures.tells

pub want-requires : goal.want-requires
want-requires c = subst (λ t. IsTurned t c.args.self.now) c.in-WantDocument.is c.requires

pub returns-in-WantDocument-clause-settles : goal.returns-in-WantDocument-clause-settles
returns-in-WantDocument-clause-settles c =
    subst (λ t. Answers (most_at t (asks_of c.args.self.now)) c.args.self.now c.want.result c.want.new.self) (sym c.in-WantDocument.is) c.want.ensures.answers

pub returns-in-WantDocument-clause-tells : goal.returns-in-WantDocument-clause-tells
returns-in-WantDocument-clause-tells c = subst (λ t. TellsTurn c.args.self.now.files t (stage_of c.want.new.self.stage)) (sym c.in-WantDocument.is) tt

pub returns-in-Stopped-clause-settles : goal.returns-in-Stopped-clause-settles
returns-in-Stopped-clause-settles c = subst (λ t. Answers (most_at t (asks_of c.args.self.now)) c.args.self.now c.stop.result c.stop.new.self) (sym c.in-Stopped.is) c.stop.ensures.answers

pub returns-in-Stopped-clause-tells : goal.returns-in-Stopped-clause-tells
returns-in-Stopped-clause-tells c = subst (λ t. TellsTurn c.args.self.now.files t (stage_of c.stop.new.self.stage)) (sym c.in-Stopped.is) c.stop.ensures.tells

pub returns-in-Spent-clause-settles : goal.returns-in-Spent-clause-settles
returns-in-Spent-clause-settles c = subst (λ t. Answers (most_at t (asks_of c.args.self.now)) c.args.self.now c.spend.result c.spend.new.self) (sym c.in-Spent.is) c.spend.ensures.answers

pub returns-in-Spent-clause-tells : goal.returns-in-Spent-clause-tells
returns-in-Spent-clause-tells c = subst (λ t. TellsTurn c.args.self.now.files t (stage_of c.spend.new.self.stage)) (sym c.in-Spent.is) c.spend.ensures.tells

pub returns-in-Memory-clause-settles : goal.returns-in-Memory-clause-settles
returns-in-Memory-clause-settles c =
    subst (λ t. Answers (most_at t (asks_of c.args.self.now)) c.args.self.now c.lack.result c.lack.new.self) (sym c.in-Memory.is)
    (lacks c.args.self.now c.lack.new.self c.lack.result c.lack.ensures.answer c.lack.ensures.over)

pub returns-in-Memory-clause-kept : goal.returns-in-Memory-clause-kept
returns-in-Memory-clause-kept c = stays-but c.args.self.now c.lack.new.self _ c.lack.ensures.over

pub returns-in-Memory-clause-tells : goal.returns-in-Memory-clause-tells
returns-in-Memory-clause-tells c =
    subst (λ t. TellsTurn c.args.self.now.files t (stage_of c.lack.new.self.stage)) (sym c.in-Memory.is) (ap (λ (x : Core). stage_of x.stage) c.lack.ensures.over)
