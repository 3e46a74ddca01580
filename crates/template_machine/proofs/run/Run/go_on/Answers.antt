use Rattle.std.proofs.Common.{Ok, refl, arith, sym, subst, ◌∙◌, ap, ◌<◌}
use Rattle.template_machine.specs.Onward.{StepsOn}
use Rattle.template_machine.proofs.Onward.{comes_first, comes_on, goes_over, goes_stops, goes_waits, goes_wants}
use Rattle.template_machine.specs.Moments.{Follows}
use Rattle.template_machine.specs.Work.{Falls}
use Rattle.template_machine.proofs.Based.{has_root}
use Rattle.template_machine.proofs.Turning.{asks_for_none, more_wants, stop_more, stop_wants, wanted_waits, wants_more, more_ended, stop_ended, stop_goes, wants_ended}
use Rattle.template_machine.specs.Documents.{documents}
use Rattle.template_machine.specs.Between.{GoesOn, Burns}
use Rattle.template_machine.proofs.Spared.{burns_not, fuel_less, fuel_on, stop_burns}
use Rattle.template_machine.specs.declared.run.Run.{Run}
use Rattle.template_machine.proofs.run.Run.go_on.Goals as goal

pub loop-self-preserved : goal.loop-self-preserved
loop-self-preserved g c =
    let p = c.args.program.now in
    let less = subst (λ s. Falls p c.loop-self.self s c.step.new.self) c.in-Ok-More.field-0-is c.in-Ok-More.ensures.works in (
      subst (λ s. Follows p s c.step.new.self) c.in-Ok-More.field-0-is c.in-Ok-More.ensures.stands,
      less.still ∙ c.loop-self.invariant.1,
      fuel_on less.spared c.loop-self.invariant.2,
      λ alone ordinary.
          let so = c.loop-self.invariant.3 alone ordinary in
          comes_on g.S.Sink.output g.S.Sink.told g.met.S.Sink.nothing g.met.S.Sink.further g.met.S.Sink.leaves p c.args.self.now c.loop-self.self c.step.new.self c.args.out.now c.loop-self.out c.step.new.out so
          (subst (λ s. StepsOn g.S.Sink.output g.S.Sink.told p (Ok s) c.loop-self.self c.step.new.self c.loop-self.out c.step.new.out) c.in-Ok-More.field-0-is (c.in-Ok-More.ensures.steps so.alone ordinary)),
    )

pub loop-self-smaller : goal.loop-self-smaller
loop-self-smaller g c = (subst (λ s. Falls c.args.program.now c.loop-self.self s c.step.new.self) c.in-Ok-More.field-0-is c.in-Ok-More.ensures.works).falls

pub finish-requires : goal.finish-requires
finish-requires g c = has_root c.args.program.now c.loop-self.self c.loop-self.invariant.0.steady

pub returns-in-Ok-Wait-clause-more : goal.returns-in-Ok-Wait-clause-more
returns-in-Ok-Wait-clause-more g c = λ e. subst (λ s. Follows c.args.program.now s c.step.new.self) c.in-Ok-Wait.field-0-is c.in-Ok-Wait.ensures.stands

pub returns-in-Ok-Wait-clause-want : goal.returns-in-Ok-Wait-clause-want
returns-in-Ok-Wait-clause-want g c = λ name e. absurd (more_wants name e)

pub returns-in-Ok-Want-clause-more : goal.returns-in-Ok-Want-clause-more
returns-in-Ok-Want-clause-more g c = λ e. absurd (wants_more _ (sym c.want_document.ensures.name ∙ e))

pub returns-in-Ok-Want-clause-want : goal.returns-in-Ok-Want-clause-want
returns-in-Ok-Want-clause-want g c = λ name e.
    wanted_waits c.args.program.now c.step.new.self c.want_document.new.self _ c.want_document.ensures.rest
    (subst (λ s. Follows c.args.program.now s c.step.new.self) c.in-Ok-Want.field-0-is c.in-Ok-Want.ensures.stands).0

pub returns-in-Ok-Over-clause-more : goal.returns-in-Ok-Over-clause-more
returns-in-Ok-Over-clause-more g c = λ e. absurd (c.finish.ensures.more e)

pub returns-in-Ok-Over-clause-want : goal.returns-in-Ok-Over-clause-want
returns-in-Ok-Over-clause-want g c = λ name e. absurd (c.finish.ensures.want name e)

pub returns-in-Err-clause-more : goal.returns-in-Err-clause-more
returns-in-Err-clause-more g c = λ e. absurd (stop_more c.in-Err.stop (sym c.turn.ensures ∙ e))

pub returns-in-Err-clause-want : goal.returns-in-Err-clause-want
returns-in-Err-clause-want g c = λ name e. absurd (stop_wants c.in-Err.stop name (sym c.turn.ensures ∙ e))

pub returns-in-Ok-Wait-clause-documents : goal.returns-in-Ok-Wait-clause-documents
returns-in-Ok-Wait-clause-documents g c = λ goes.
    (subst (λ s. Falls c.args.program.now c.loop-self.self s c.step.new.self) c.in-Ok-Wait.field-0-is c.in-Ok-Wait.ensures.works).still ∙ c.loop-self.invariant.1

pub returns-in-Ok-Wait-clause-ended : goal.returns-in-Ok-Wait-clause-ended
returns-in-Ok-Wait-clause-ended g c = λ e. absurd (more_ended e)

pub returns-in-Ok-Want-clause-documents : goal.returns-in-Ok-Want-clause-documents
returns-in-Ok-Want-clause-documents g c = λ goes.
    ap documents c.want_document.ensures.rest
    ∙ (subst (λ s. Falls c.args.program.now c.loop-self.self s c.step.new.self) c.in-Ok-Want.field-0-is c.in-Ok-Want.ensures.works).still ∙ c.loop-self.invariant.1

pub returns-in-Ok-Want-clause-ended : goal.returns-in-Ok-Want-clause-ended
returns-in-Ok-Want-clause-ended g c = λ e. absurd (wants_ended _ (sym c.want_document.ensures.name ∙ e))

pub returns-in-Ok-Over-clause-documents : goal.returns-in-Ok-Over-clause-documents
returns-in-Ok-Over-clause-documents g c = λ goes.
    c.finish.ensures.documents
    ∙ (subst (λ s. Falls c.args.program.now c.loop-self.self s c.step.new.self) c.in-Ok-Over.field-0-is c.in-Ok-Over.ensures.works).still ∙ c.loop-self.invariant.1

pub returns-in-Ok-Over-clause-ended : goal.returns-in-Ok-Over-clause-ended
returns-in-Ok-Over-clause-ended g c = λ e.
    c.finish.ensures.documents ∙ subst (λ s. Follows c.args.program.now s c.step.new.self) c.in-Ok-Over.field-0-is c.in-Ok-Over.ensures.stands

pub returns-in-Err-clause-documents : goal.returns-in-Err-clause-documents
returns-in-Err-clause-documents g c = λ goes. absurd (stop_goes c.in-Err.stop (subst GoesOn c.turn.ensures goes))

pub returns-in-Err-clause-ended : goal.returns-in-Err-clause-ended
returns-in-Err-clause-ended g c = λ e. absurd (stop_ended c.in-Err.stop (sym c.turn.ensures ∙ e))

pub returns-in-Ok-Wait-clause-fuel : goal.returns-in-Ok-Wait-clause-fuel
returns-in-Ok-Wait-clause-fuel g c =
    let stays = subst (λ s. Falls c.args.program.now c.loop-self.self s c.step.new.self) c.in-Ok-Wait.field-0-is c.in-Ok-Wait.ensures.works in
    fuel_on stays.spared c.loop-self.invariant.2

pub returns-in-Ok-Want-clause-fuel : goal.returns-in-Ok-Want-clause-fuel
returns-in-Ok-Want-clause-fuel g c =
    let costs = subst (λ s. Falls c.args.program.now c.loop-self.self s c.step.new.self) c.in-Ok-Want.field-0-is c.in-Ok-Want.ensures.works in
    subst (λ t. Burns t c.args.self.now.fuel c.want_document.new.self.fuel) (sym c.want_document.ensures.name)
    (subst (λ k. k < c.args.self.now.fuel) (sym (ap (λ (x : Run). x.fuel) c.want_document.ensures.rest)) (fuel_less costs.spent c.loop-self.invariant.2))

pub returns-in-Ok-Over-clause-fuel : goal.returns-in-Ok-Over-clause-fuel
returns-in-Ok-Over-clause-fuel g c = burns_not c.finish.result c.args.self.now.fuel c.finish.new.self.fuel c.finish.ensures.more c.finish.ensures.want

pub returns-in-Err-clause-fuel : goal.returns-in-Err-clause-fuel
returns-in-Err-clause-fuel g c =
    subst (λ t. Burns t c.args.self.now.fuel c.step.new.self.fuel) (sym c.turn.ensures) (stop_burns c.in-Err.stop c.args.self.now.fuel c.step.new.self.fuel)

pub returns-in-Ok-Wait-clause-alone : goal.returns-in-Ok-Wait-clause-alone
returns-in-Ok-Wait-clause-alone g c = λ ordinary. tt

pub returns-in-Ok-Want-clause-alone : goal.returns-in-Ok-Want-clause-alone
returns-in-Ok-Want-clause-alone g c = λ ordinary.
    absurd ((subst (λ s. Follows c.args.program.now s c.step.new.self) c.in-Ok-Want.field-0-is c.in-Ok-Want.ensures.stands).1 ordinary)

pub returns-in-Ok-Over-clause-alone : goal.returns-in-Ok-Over-clause-alone
returns-in-Ok-Over-clause-alone g c = λ ordinary. asks_for_none c.finish.result c.finish.ensures.want

pub returns-in-Err-clause-alone : goal.returns-in-Err-clause-alone
returns-in-Err-clause-alone g c = λ ordinary. asks_for_none c.turn.result (λ name e. stop_wants c.in-Err.stop name (sym c.turn.ensures ∙ e))

-- What was done.

pub loop-self-init : goal.loop-self-init
loop-self-init g c =
    (c.requires, refl, omega arith, λ alone ordinary. comes_first g.S.Sink.output g.S.Sink.told g.met.S.Sink.nothing g.met.S.Sink.further g.met.S.Sink.leaves c.args.program.now c.args.self.now c.args.out.now alone)

pub returns-in-Ok-Wait-clause-goes : goal.returns-in-Ok-Wait-clause-goes
returns-in-Ok-Wait-clause-goes g c = λ alone ordinary.
    let p = c.args.program.now in
    let so = c.loop-self.invariant.3 alone ordinary in
    goes_waits g.S.Sink.output g.S.Sink.told g.met.S.Sink.nothing g.met.S.Sink.further g.met.S.Sink.leaves p c.args.self.now c.loop-self.self c.step.new.self c.args.out.now c.loop-self.out c.step.new.out so
    (subst (λ s. StepsOn g.S.Sink.output g.S.Sink.told p (Ok s) c.loop-self.self c.step.new.self c.loop-self.out c.step.new.out) c.in-Ok-Wait.field-0-is (c.in-Ok-Wait.ensures.steps so.alone ordinary))

pub returns-in-Ok-Want-clause-goes : goal.returns-in-Ok-Want-clause-goes
returns-in-Ok-Want-clause-goes g c = λ alone ordinary.
    let p = c.args.program.now in
    let so = c.loop-self.invariant.3 alone ordinary in
    goes_wants g.S.Sink.output g.S.Sink.told g.met.S.Sink.nothing g.met.S.Sink.further g.met.S.Sink.leaves p c.args.self.now c.loop-self.self c.step.new.self c.args.out.now c.loop-self.out c.step.new.out so
    c.want_document.result c.want_document.new.self c.step.new.self.wanted c.want_document.ensures.name
    (subst (λ s. StepsOn g.S.Sink.output g.S.Sink.told p (Ok s) c.loop-self.self c.step.new.self c.loop-self.out c.step.new.out) c.in-Ok-Want.field-0-is (c.in-Ok-Want.ensures.steps so.alone ordinary))

pub returns-in-Ok-Over-clause-goes : goal.returns-in-Ok-Over-clause-goes
returns-in-Ok-Over-clause-goes g c = λ alone ordinary.
    let p = c.args.program.now in
    let so = c.loop-self.invariant.3 alone ordinary in
    goes_over g.S.Sink.output g.S.Sink.told g.met.S.Sink.nothing g.met.S.Sink.further g.met.S.Sink.leaves p c.args.self.now c.loop-self.self c.step.new.self c.args.out.now c.loop-self.out c.step.new.out so
    c.finish.result c.finish.new.self c.finish.new.out c.finish.ensures.more
    (subst (λ s. StepsOn g.S.Sink.output g.S.Sink.told p (Ok s) c.loop-self.self c.step.new.self c.loop-self.out c.step.new.out) c.in-Ok-Over.field-0-is (c.in-Ok-Over.ensures.steps so.alone ordinary))
    c.finish.ensures.unsaid c.finish.ensures.ends

pub returns-in-Err-clause-goes : goal.returns-in-Err-clause-goes
returns-in-Err-clause-goes g c = λ alone ordinary.
    let p = c.args.program.now in
    let so = c.loop-self.invariant.3 alone ordinary in
    goes_stops g.S.Sink.output g.S.Sink.told g.met.S.Sink.nothing g.met.S.Sink.further g.met.S.Sink.leaves p c.args.self.now c.loop-self.self c.step.new.self c.args.out.now c.loop-self.out c.step.new.out so
    c.turn.result c.in-Err.stop c.turn.ensures (c.in-Err.ensures.steps so.alone ordinary)
