use Rattle.template_machine.proofs.Onward.{goes_first, goes_last}
use Rattle.std.proofs.Common.{subst, ◌∙◌, refl, arith}
use Rattle.template_machine.specs.Moments.{Follows}
use Rattle.template_machine.proofs.Turning.{asks_for_none, more_wants, more_ended}
use Rattle.template_machine.proofs.Spared.{burns_not}
use Rattle.template_machine.specs.Work.{AsksNone}
use Rattle.template_machine.proofs.run.Run.go_on_behind.Goals as goal

pub go_on-requires : goal.go_on-requires
go_on-requires g c = subst (λ s. Follows c.args.program.now s c.args.self.now) c.in-More.is c.requires.follows

pub returns-in-Wait-clause-more : goal.returns-in-Wait-clause-more
returns-in-Wait-clause-more g c = λ e. subst (λ s. Follows c.args.program.now s c.args.self.now) c.in-Wait.is c.requires.follows

pub returns-in-Wait-clause-want : goal.returns-in-Wait-clause-want
returns-in-Wait-clause-want g c = λ name e. absurd (more_wants name e)

pub returns-in-Over-clause-more : goal.returns-in-Over-clause-more
returns-in-Over-clause-more g c = λ e. absurd (c.finish.ensures.more e)

pub returns-in-Over-clause-want : goal.returns-in-Over-clause-want
returns-in-Over-clause-want g c = λ name e. absurd (c.finish.ensures.want name e)

pub returns-in-Wait-clause-documents : goal.returns-in-Wait-clause-documents
returns-in-Wait-clause-documents g c = λ goes. refl

pub returns-in-Wait-clause-ended : goal.returns-in-Wait-clause-ended
returns-in-Wait-clause-ended g c = λ e. absurd (more_ended e)

pub returns-in-Over-clause-documents : goal.returns-in-Over-clause-documents
returns-in-Over-clause-documents g c = λ goes. c.finish.ensures.documents

pub returns-in-Over-clause-ended : goal.returns-in-Over-clause-ended
returns-in-Over-clause-ended g c = λ e.
    c.finish.ensures.documents ∙ subst (λ s. Follows c.args.program.now s c.args.self.now) c.in-Over.is c.requires.follows

pub unreachable-requires : goal.unreachable-requires
unreachable-requires g c = subst AsksNone c.in-Want.is c.requires.asks

pub returns-in-Wait-clause-fuel : goal.returns-in-Wait-clause-fuel
returns-in-Wait-clause-fuel g c = omega arith

pub returns-in-Over-clause-fuel : goal.returns-in-Over-clause-fuel
returns-in-Over-clause-fuel g c = burns_not c.finish.result c.args.self.now.fuel c.finish.new.self.fuel c.finish.ensures.more c.finish.ensures.want

pub returns-in-Wait-clause-alone : goal.returns-in-Wait-clause-alone
returns-in-Wait-clause-alone g c = λ ordinary. tt

pub returns-in-Over-clause-alone : goal.returns-in-Over-clause-alone
returns-in-Over-clause-alone g c = λ ordinary. asks_for_none c.finish.result c.finish.ensures.want

-- What was done.

pub returns-in-More-clause-goes : goal.returns-in-More-clause-goes
returns-in-More-clause-goes g c = λ alone ordinary over. c.go_on.ensures.goes alone ordinary

pub returns-in-Wait-clause-goes : goal.returns-in-Wait-clause-goes
returns-in-Wait-clause-goes g c = λ alone ordinary over.
    goes_first g.S.Sink.output g.S.Sink.told g.met.S.Sink.nothing g.met.S.Sink.further g.met.S.Sink.leaves c.args.program.now c.args.self.now c.args.out.now alone

pub returns-in-Over-clause-goes : goal.returns-in-Over-clause-goes
returns-in-Over-clause-goes g c = λ alone ordinary over.
    goes_last g.S.Sink.output g.S.Sink.told g.met.S.Sink.nothing g.met.S.Sink.further g.met.S.Sink.leaves c.args.program.now c.finish.result c.args.self.now c.finish.new.self c.args.out.now c.finish.new.out c.finish.ensures.more (over c.in-Over.is) c.finish.ensures.unsaid c.finish.ensures.ends
