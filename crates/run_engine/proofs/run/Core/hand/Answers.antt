use Rattle.std.proofs.Common.{ap, refl, subst, sym}
use Rattle.run_engine.specs.declared.run.Core.{Core}
use Rattle.run_engine.specs.inside.Gives.{ReadsInOrder}
use Rattle.template_machine.specs.Giving.{RunsInOrder}
use Rattle.run_engine.proofs.Events.{handed-on}
use Rattle.run_engine.proofs.Going.{closed-asks, closed-continues, hands-so}
use Rattle.run_engine.proofs.Turning.{turned}
use Rattle.run_engine.proofs.run.Core.hand.Goals as goal

pub on_event-turn-requires-clause-asking : goal.on_event-turn-requires-clause-asking
on_event-turn-requires-clause-asking c = closed-asks c.args.event c.args.self.now c.close.new.self c.close.ensures c.requires

pub on_event-turn-requires-clause-event : goal.on_event-turn-requires-clause-event
on_event-turn-requires-clause-event c = closed-continues c.args.event c.args.self.now c.close.new.self c.close.ensures c.requires

pub settle-requires : goal.settle-requires
settle-requires c =
    let next : Core = record c.close.new.self { machine = c.on_event-turn.new.self; out = c.on_event-turn.new.out } in
    turned c.args.event c.args.self.now c.close.new.self c.requires c.close.ensures next refl refl refl c.on_event-turn.ensures.depth c.on_event-turn.ensures.fuel_limit c.on_event-turn.result c.on_event-turn.ensures.more
    c.on_event-turn.ensures.want c.on_event-turn.ensures.ended c.on_event-turn.ensures.documents c.on_event-turn.ensures.mains

pub returns-clause-hands : goal.returns-clause-hands
returns-clause-hands c =
    let next : Core = record c.close.new.self { machine = c.on_event-turn.new.self; out = c.on_event-turn.new.out } in
    hands-so c.args.event c.args.self.now c.close.new.self c.close.ensures next c.settle.new.self c.on_event-turn.result c.settle.result refl
    (record { files = refl; limits = refl; strip = refl; cdata = refl }) c.requires c.on_event-turn.ensures.fuel c.settle.ensures.settles

pub returns-clause-gives : goal.returns-clause-gives
returns-clause-gives c = λ order.
    let closed = c.close.new.self in
    let next : Core = record closed { machine = c.on_event-turn.new.self; out = c.on_event-turn.new.out } in
    let in-order : RunsInOrder closed.machine = subst RunsInOrder (sym (ap (λ (x : Core). x.machine) c.close.ensures.others)) order.machine in
    handed-on c.args.event c.args.self.now closed next c.settle.new.self c.on_event-turn.result c.settle.result order c.close.ensures (c.on_event-turn.ensures.gives in-order) (c.on_event-turn.ensures.alone in-order)
    c.on_event-turn.ensures.of c.on_event-turn.ensures.params refl c.settle.ensures.kept c.settle.ensures.tells
