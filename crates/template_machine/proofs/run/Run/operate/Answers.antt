use Rattle.std.proofs.Common.{Ok, Err, subst, sym}
use Rattle.instr_code.specs.declared.code.Op.TheVariants as op
use Rattle.template_machine.proofs.Instructing.{at_op, op_within, pc_there}
use Rattle.template_machine.proofs.Deciding.{carried, carries_so, steps_answered}
use Rattle.template_machine.proofs.Saying.{stops_with}
use Rattle.template_machine.specs.Onward.{StepsOn}
use Rattle.template_machine.specs.Still.{still}
use Rattle.template_machine.specs.declared.run.Step.TheVariants as step
use Rattle.template_machine.proofs.run.Run.operate.Goals as goal
use Rattle.template_machine.proofs.Composed.{says_nothing}
use Rattle.template_machine.proofs.Operated.{carries_steps, put_steps, shown_close, shown_open, stopped_steps}

pub running-running-requires : goal.running-running-requires
running-running-requires g c =
    pc_there c.args.program.now c.args.self.now c.requires.well c.requires.body

pub op-requires : goal.op-requires
op-requires g c =
    op_within c.args.program.now c.args.self.now c.running-running.result.pc c.requires.well c.requires.body c.running-running.ensures.pc

pub instruct-requires : goal.instruct-requires
instruct-requires g c =
    at_op c.args.program.now c.args.self.now c.running-running.result c.op.result (op.Do c.in-Do.instr) c.requires.well c.requires.body c.running-running.ensures.body
    c.running-running.ensures.pc c.op.ensures c.in-Do.is

pub open_list-requires : goal.open_list-requires
open_list-requires g c =
    at_op c.args.program.now c.args.self.now c.running-running.result c.op.result (op.Open c.in-Open.instr c.in-Open.to) c.requires.well c.requires.body c.running-running.ensures.body
    c.running-running.ensures.pc c.op.ensures c.in-Open.is

pub close_list-requires : goal.close_list-requires
close_list-requires g c =
    at_op c.args.program.now c.args.self.now c.running-running.result c.op.result (op.Close c.in-Close.instr) c.requires.well c.requires.body c.running-running.ensures.body
    c.running-running.ensures.pc c.op.ensures c.in-Close.is

pub begin_round-requires : goal.begin_round-requires
begin_round-requires g c =
    at_op c.args.program.now c.args.self.now c.running-running.result c.op.result (op.Begin c.in-Begin.instr) c.requires.well c.requires.body c.running-running.ensures.body
    c.running-running.ensures.pc c.op.ensures c.in-Begin.is

pub test-requires : goal.test-requires
test-requires g c =
    at_op c.args.program.now c.args.self.now c.running-running.result c.op.result (op.Test c.in-Test.instr c.in-Test.arm c.in-Test.to) c.requires.well c.requires.body c.running-running.ensures.body
    c.running-running.ensures.pc c.op.ensures c.in-Test.is

pub turn-requires : goal.turn-requires
turn-requires g c =
    at_op c.args.program.now c.args.self.now c.running-running.result c.op.result (op.Turn c.in-Turn.instr c.in-Turn.to) c.requires.well c.requires.body c.running-running.ensures.body
    c.running-running.ensures.pc c.op.ensures c.in-Turn.is

pub jump-requires : goal.jump-requires
jump-requires g c =
    at_op c.args.program.now c.args.self.now c.running-running.result c.op.result (op.Jump c.in-Jump.to) c.requires.well c.requires.body c.running-running.ensures.body
    c.running-running.ensures.pc c.op.ensures c.in-Jump.is

pub drop_locals-requires : goal.drop_locals-requires
drop_locals-requires g c =
    at_op c.args.program.now c.args.self.now c.running-running.result c.op.result (op.Drop c.in-Drop.count) c.requires.well c.requires.body c.running-running.ensures.body
    c.running-running.ensures.pc c.op.ensures c.in-Drop.is

pub end_body-requires : goal.end_body-requires
end_body-requires g c =
    at_op c.args.program.now c.args.self.now c.running-running.result c.op.result op.Return c.requires.well c.requires.body c.running-running.ensures.body
    c.running-running.ensures.pc c.op.ensures c.in-Return.is

-- What is done.

pub returns-in-Do-clause-steps : goal.returns-in-Do-clause-steps
returns-in-Do-clause-steps g c = c.instruct.ensures.steps

pub returns-in-Begin-clause-steps : goal.returns-in-Begin-clause-steps
returns-in-Begin-clause-steps g c = λ alone ordinary.
    carries_steps g.S.Sink.output g.S.Sink.told c.args.program.now c.args.self.now c.begin_round.new.self c.begin_round.result c.args.out.now c.args.out.now
    (carried g.S.Sink.output g.S.Sink.told g.met.S.Sink.nothing c.args.program.now c.begin_round.result c.args.self.now c.begin_round.new.self c.args.out.now c.begin_round.ensures.goes)
    c.begin_round.ensures.keeps c.begin_round.ensures.works alone

pub returns-in-Test-clause-steps : goal.returns-in-Test-clause-steps
returns-in-Test-clause-steps g c = λ alone ordinary.
    carries_steps g.S.Sink.output g.S.Sink.told c.args.program.now c.args.self.now c.test.new.self c.test.result c.args.out.now c.args.out.now
    (carried g.S.Sink.output g.S.Sink.told g.met.S.Sink.nothing c.args.program.now c.test.result c.args.self.now c.test.new.self c.args.out.now c.test.ensures.goes)
    c.test.ensures.keeps c.test.ensures.works alone

pub returns-in-Turn-clause-steps : goal.returns-in-Turn-clause-steps
returns-in-Turn-clause-steps g c = λ alone ordinary.
    carries_steps g.S.Sink.output g.S.Sink.told c.args.program.now c.args.self.now c.turn.new.self c.turn.result c.args.out.now c.args.out.now
    (carried g.S.Sink.output g.S.Sink.told g.met.S.Sink.nothing c.args.program.now c.turn.result c.args.self.now c.turn.new.self c.args.out.now c.turn.ensures.goes)
    c.turn.ensures.keeps c.turn.ensures.works alone

pub returns-in-Jump-clause-steps : goal.returns-in-Jump-clause-steps
returns-in-Jump-clause-steps g c = λ alone ordinary.
    put_steps g.S.Sink.output g.S.Sink.told c.args.program.now c.args.self.now c.jump.new.self c.args.out.now c.args.out.now
    (carried g.S.Sink.output g.S.Sink.told g.met.S.Sink.nothing c.args.program.now (Ok step.More) c.args.self.now c.jump.new.self c.args.out.now (carries_so c.jump.ensures.goes _))
    c.jump.ensures.keeps c.jump.ensures.works.spared alone

pub returns-in-Drop-clause-steps : goal.returns-in-Drop-clause-steps
returns-in-Drop-clause-steps g c = λ alone ordinary.
    put_steps g.S.Sink.output g.S.Sink.told c.args.program.now c.args.self.now c.drop_locals.new.self c.args.out.now c.args.out.now
    (carried g.S.Sink.output g.S.Sink.told g.met.S.Sink.nothing c.args.program.now (Ok step.More) c.args.self.now c.drop_locals.new.self c.args.out.now (carries_so c.drop_locals.ensures.goes _))
    c.drop_locals.ensures.keeps c.drop_locals.ensures.works.spared alone

pub returns-in_ok-open_list-in-Open-clause-steps : goal.returns-in_ok-open_list-in-Open-clause-steps
returns-in_ok-open_list-in-Open-clause-steps g c = λ alone ordinary.
    let p = c.args.program.now in
    let r = c.args.self.now in
    let new = c.open_list.new.self in
    let shown = shown_open p r c.running-running.result c.in-Open.instr c.in-Open.to (at_op p r c.running-running.result c.op.result (op.Open c.in-Open.instr c.in-Open.to) c.requires.well c.requires.body c.running-running.ensures.body c.running-running.ensures.pc c.op.ensures c.in-Open.is) ordinary in
    put_steps g.S.Sink.output g.S.Sink.told p r new c.args.out.now c.open_list.new.out
    (steps_answered g.S.Sink.output g.S.Sink.told p (Ok _) step.More r new c.args.out.now c.open_list.new.out (c.in_ok-open_list-in-Open.ensures.goes shown))
    (c.in_ok-open_list-in-Open.ensures.keeps shown) c.in_ok-open_list-in-Open.ensures.works.spared alone

pub returns-in_err-open_list-in-Open-clause-steps : goal.returns-in_err-open_list-in-Open-clause-steps
returns-in_err-open_list-in-Open-clause-steps g c = λ alone ordinary.
    let p = c.args.program.now in
    let r = c.args.self.now in
    let new = c.open_list.new.self in
    let e = c.in_err-open_list-in-Open.field-0.0 in
    let shown = shown_open p r c.running-running.result c.in-Open.instr c.in-Open.to (at_op p r c.running-running.result c.op.result (op.Open c.in-Open.instr c.in-Open.to) c.requires.well c.requires.body c.running-running.ensures.body c.running-running.ensures.pc c.op.ensures c.in-Open.is) ordinary in
    subst (λ x. StepsOn g.S.Sink.output g.S.Sink.told p x r new c.args.out.now c.open_list.new.out) (sym (stops_with c.from_residual.result e c.from_residual.ensures.1))
    (stopped_steps g.S.Sink.output g.S.Sink.told p r new e c.args.out.now c.open_list.new.out
    (steps_answered g.S.Sink.output g.S.Sink.told p (Err e) step.More r new c.args.out.now c.open_list.new.out (c.in_err-open_list-in-Open.ensures.goes shown)))

pub returns-in_ok-close_list-in-Close-clause-steps : goal.returns-in_ok-close_list-in-Close-clause-steps
returns-in_ok-close_list-in-Close-clause-steps g c = λ alone ordinary.
    let p = c.args.program.now in
    let r = c.args.self.now in
    let new = c.close_list.new.self in
    let shown = shown_close p r c.running-running.result c.in-Close.instr (at_op p r c.running-running.result c.op.result (op.Close c.in-Close.instr) c.requires.well c.requires.body c.running-running.ensures.body c.running-running.ensures.pc c.op.ensures c.in-Close.is) ordinary in
    put_steps g.S.Sink.output g.S.Sink.told p r new c.args.out.now c.close_list.new.out
    (steps_answered g.S.Sink.output g.S.Sink.told p (Ok _) step.More r new c.args.out.now c.close_list.new.out (c.in_ok-close_list-in-Close.ensures.goes shown))
    (c.in_ok-close_list-in-Close.ensures.keeps shown) c.in_ok-close_list-in-Close.ensures.works.spared alone

pub returns-in_err-close_list-in-Close-clause-steps : goal.returns-in_err-close_list-in-Close-clause-steps
returns-in_err-close_list-in-Close-clause-steps g c = λ alone ordinary.
    let p = c.args.program.now in
    let r = c.args.self.now in
    let new = c.close_list.new.self in
    let e = c.in_err-close_list-in-Close.field-0.0 in
    let shown = shown_close p r c.running-running.result c.in-Close.instr (at_op p r c.running-running.result c.op.result (op.Close c.in-Close.instr) c.requires.well c.requires.body c.running-running.ensures.body c.running-running.ensures.pc c.op.ensures c.in-Close.is) ordinary in
    subst (λ x. StepsOn g.S.Sink.output g.S.Sink.told p x r new c.args.out.now c.close_list.new.out) (sym (stops_with c.from_residual-in_err-close_list-in-Close.result e c.from_residual-in_err-close_list-in-Close.ensures.1))
    (stopped_steps g.S.Sink.output g.S.Sink.told p r new e c.args.out.now c.close_list.new.out
    (steps_answered g.S.Sink.output g.S.Sink.told p (Err e) step.More r new c.args.out.now c.close_list.new.out (c.in_err-close_list-in-Close.ensures.goes shown)))

pub returns-in-Return-clause-steps : goal.returns-in-Return-clause-steps
returns-in-Return-clause-steps g c = λ alone ordinary.
    let p = c.args.program.now in
    let r = c.args.self.now in
    says_nothing g.S.Sink.output g.S.Sink.told g.met.S.Sink.nothing p (λ given left f. still given p r left f) c.end_body.result c.end_body.new.self c.args.out.now (c.end_body.ensures.moves alone)
