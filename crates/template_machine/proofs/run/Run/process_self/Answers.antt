use Rattle.std.proofs.Common.{◌^◌, arith, Err, subst, sym}
use Rattle.template_machine.specs.Work.{Begins}
use Rattle.template_machine.specs.Behind.{StepsFrom, instr_acts}
use Rattle.template_machine.proofs.Beginning.{begins_after}
use Rattle.template_machine.proofs.Operating.{on_ok}
use Rattle.template_machine.proofs.run.Run.process_self.Goals as goal
use Rattle.template_machine.proofs.Alone.{handed_alone}
use Rattle.template_machine.proofs.Composed.{says_nothing}
use Rattle.template_machine.proofs.ForItself.{itself_place, itself_steps, itself_stop}
use Rattle.template_machine.proofs.Saying.{stops_with}

pub returns-clause-works : goal.returns-clause-works
returns-clause-works g c =
    on_ok c.again.result (Begins (2 ^ 68) c.hand.new.self c.again.new.self) (Begins (2 ^ 68) c.args.self.now c.again.new.self) c.again.ensures.works
    (λ b. begins_after (2 ^ 68) c.args.self.now c.hand.new.self c.again.new.self c.in_ok-hand.ensures.works b (omega arith))

pub returns-in_err-hand-clause-steps : goal.returns-in_err-hand-clause-steps
returns-in_err-hand-clause-steps g c = λ i is asks alone.
    let p = c.args.program.now in
    let r = c.args.self.now in
    let m = c.hand.new.self in
    let e = c.in_err-hand.field-0.0 in
    subst (λ x. StepsFrom g.S.Sink.output g.S.Sink.told p (λ given left f. instr_acts given p i c.args.running.pc r left f) x m c.args.out.now c.args.out.now) (sym (stops_with c.from_residual.result e c.from_residual.ensures.1))
    (says_nothing g.S.Sink.output g.S.Sink.told g.met.S.Sink.nothing p (λ given left f. instr_acts given p i c.args.running.pc r left f) (Err e) m c.args.out.now
    (itself_stop p r m c.args.running c.args.number i c.args.at c.requires.op is asks e m (c.in_err-hand.ensures.hands i is)))

pub returns-clause-steps : goal.returns-clause-steps
returns-clause-steps g c = λ i is asks alone.
    let p = c.args.program.now in
    let r = c.args.self.now in
    let m = c.hand.new.self in
    let h = c.in_ok-hand.ensures.hands i is in
    itself_steps p r m c.args.running c.args.number i c.args.at c.requires.op is asks _ h g.S.Sink.output g.S.Sink.told c.again.result c.again.new.self c.args.out.now c.again.new.out
    (c.again.ensures.steps (handed_alone p r m c.args.running c.args.number i c.args.at _ c.requires.op h alone c.in_ok-hand.ensures.stands)
    (itself_place p r m c.args.running c.args.number i c.args.at c.requires.op is asks c.args.running.body))
