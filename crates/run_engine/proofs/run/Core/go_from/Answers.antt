use Rattle.std.proofs.Common.{ap, subst, sym}
use Rattle.run_engine.specs.declared.run.Core.{Core}
use Rattle.run_engine.specs.inside.Cores.{Answers, asks_of, most_at, stage_of}
use Rattle.run_engine.specs.inside.Gives.{Gives, GivesAfter, ReadsInOrder}
use Rattle.run_engine.proofs.Gives.{after-told}
use Rattle.run_engine.proofs.run.Core.go_from.Goals as goal

pub go_on-requires : goal.go_on-requires
go_on-requires c = c.in-None.ensures.settles.1

pub returns-in-None-clause-answers : goal.returns-in-None-clause-answers
returns-in-None-clause-answers c =
    subst (λ t. Answers (most_at t (asks_of c.args.self.now)) c.args.self.now c.go_on.result c.go_on.new.self) (sym c.in-None.ensures.settles.2)
    (subst (λ (x : Core). Answers (asks_of x) x c.go_on.result c.go_on.new.self) c.in-None.ensures.settles.0 c.go_on.ensures.answers)

pub returns-in-None-clause-gives : goal.returns-in-None-clause-gives
returns-in-None-clause-gives c =
    let s = stage_of c.go_on.new.self.stage in
    subst (λ t. GivesAfter t s c.args.self.now c.go_on.new.self) (sym c.in-None.ensures.settles.2)
    (λ order. subst (λ (x : Core). Gives s x c.go_on.new.self) c.in-None.ensures.settles.0 (c.go_on.ensures.gives (subst ReadsInOrder (sym c.in-None.ensures.settles.0) order)))

pub returns-in-Some-clause-gives : goal.returns-in-Some-clause-gives
returns-in-Some-clause-gives c =
    after-told c.args.turn (stage_of c.settle.new.self.stage) c.args.self.now c.settle.new.self c.in-Some.ensures.tells (ap (λ (x : Core). x.machine) c.settle.ensures.kept)
    (ap (λ (x : Core). x.out) c.settle.ensures.kept)
