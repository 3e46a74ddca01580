use Rattle.run_engine.proofs.Counting.{need-asks}
use Rattle.run_engine.specs.inside.Cores.{asks_asked, asks_of, stage_of}
use Rattle.std.proofs.Common.{arith}
use Rattle.xml_events.specs.declared.event.Pull.TheVariants as pull
use Rattle.run_engine.proofs.Asking.{answers-then, lacks}
use Rattle.run_engine.specs.inside.Gives.{Gives, gives, stage_after}
use Rattle.run_engine.specs.declared.run.Core.{Core}
use Rattle.run_engine.proofs.Events.{advanced, order-read}
use Rattle.run_engine.proofs.Reading.{faulted, lacked, needed}
use Rattle.run_engine.proofs.Going.{advances-so}
use Rattle.run_engine.proofs.Pulled.{faulty, hungry, never-ends, pull-took, reads-still, told}
use Rattle.run_engine.proofs.run.Core.advance.Goals as goal

pub hand-requires : goal.hand-requires
hand-requires c = told c.args.self.now c.pull.new.self c.in-Event.event c.requires c.in-Event.ensures

pub returns-in-Event-clause-advances : goal.returns-in-Event-clause-advances
returns-in-Event-clause-advances c = advances-so c.args.self.now c.pull.new.self c.hand.new.self c.in-Event.event c.hand.result c.requires c.in-Event.ensures c.hand.ensures.hands

pub ask-requires-clause-reads : goal.ask-requires-clause-reads
ask-requires-clause-reads c = reads-still c.args.self.now c.pull.new.self c.requires c.in-Need.ensures

pub ask-requires-clause-hungry : goal.ask-requires-clause-hungry
ask-requires-clause-hungry c = hungry c.args.self.now c.pull.new.self c.in-Need.ensures

pub returns-in-Need-clause-advances : goal.returns-in-Need-clause-advances
returns-in-Need-clause-advances c =
    answers-then (asks_asked c.pull.new.self) (asks_of c.args.self.now) c.args.self.now c.pull.new.self c.ask.new.self c.ask.result (need-asks c.args.self.now c.pull.new.self c.in-Need.ensures) c.in-Need.ensures.own (pull-took c.args.self.now c.pull.new.self pull.Need c.in-Need.ensures) c.ask.ensures.answers

pub unreachable-requires : goal.unreachable-requires
unreachable-requires c = never-ends c.args.self.now c.pull.new.self c.requires c.in-End.ensures

pub fail-requires : goal.fail-requires
fail-requires c = faulty c.args.self.now c.pull.new.self c.in-Bad.fault c.in-Bad.ensures

pub returns-in-Bad-clause-advances : goal.returns-in-Bad-clause-advances
returns-in-Bad-clause-advances c =
    answers-then 0 (asks_of c.args.self.now) c.args.self.now c.pull.new.self c.fail.new.self c.fail.result (omega arith) c.in-Bad.ensures.own
    (pull-took c.args.self.now c.pull.new.self (pull.Bad c.in-Bad.fault) c.in-Bad.ensures) c.fail.ensures.answers

pub returns-in-Memory-clause-advances : goal.returns-in-Memory-clause-advances
returns-in-Memory-clause-advances c =
    answers-then 0 (asks_of c.args.self.now) c.args.self.now c.pull.new.self c.lack.new.self c.lack.result (omega arith) c.in-Memory.ensures.own
    (pull-took c.args.self.now c.pull.new.self pull.Memory c.in-Memory.ensures)
    (lacks c.pull.new.self c.lack.new.self c.lack.result c.lack.ensures.answer c.lack.ensures.over)

pub returns-in-Event-clause-gives : goal.returns-in-Event-clause-gives
returns-in-Event-clause-gives c = λ order.
    advanced c.args.self.now c.pull.new.self c.hand.new.self c.in-Event.event (stage_after c.hand.result (stage_of c.hand.new.self.stage)) c.in-Event.ensures order
    (c.hand.ensures.gives (order-read c.args.self.now c.pull.new.self c.in-Event.event c.in-Event.ensures order))

pub returns-in-Need-clause-gives : goal.returns-in-Need-clause-gives
returns-in-Need-clause-gives c = λ order. needed c.args.self.now c.pull.new.self c.ask.new.self c.in-Need.ensures order c.ask.ensures.kept c.ask.ensures.main

pub returns-in-Bad-clause-gives : goal.returns-in-Bad-clause-gives
returns-in-Bad-clause-gives c = λ order.
    faulted c.args.self.now c.pull.new.self c.fail.new.self c.in-Bad.fault c.in-Bad.ensures order c.waiting.ensures c.fail.ensures.kept c.fail.ensures.tells

pub returns-in-Memory-clause-gives : goal.returns-in-Memory-clause-gives
returns-in-Memory-clause-gives c = λ order. lacked c.args.self.now c.pull.new.self c.lack.new.self c.in-Memory.ensures c.lack.ensures.over
