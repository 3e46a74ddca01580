use Rattle.template_machine.proofs.Answered.{alone_counted, takes_not, takes_on}
use Rattle.std.proofs.Common.{◌<◌, ◌^◌, sym, subst, arith, ◌∙◌, ◌+◌, ap, map, ◌≤◌}
use Rattle.node_stack.specs.Stack.{path}
use Rattle.template_machine.specs.Moments.{HasTold}
use Rattle.template_machine.specs.declared.source.Source.{Source}
use Rattle.template_machine.proofs.Eventful.{event_told}
use Rattle.template_machine.proofs.Turning.{asks_for_none, stop_more, stop_wants, stop_ended, stop_goes}
use Rattle.template_machine.specs.Between.{GoesOn, HasDepth, depth_of, lists_in, Burns, fuel_at, fuel_limit_of, fuel_of, main_in, mains_of}
use Rattle.template_machine.proofs.Machines.{event_depths, event_fits, event_lists, text_told, event_fuel, event_mains}
use Rattle.std.specs.Prelude.{All}
use Rattle.template_machine.proofs.Spared.{burns_more, stop_burns}
use Rattle.template_machine.specs.Steps.{fuel_ended}
use Rattle.template_machine.proofs.machine.Machine.on_event.Goals as goal

pub count-requires : goal.count-requires
count-requires g c =
    let r = c.args.self.now.run in
    let small : (path r.source.stack).limit + 1 < 2 ^ 32 = c.requires.asking.wants.well.steady.source.small in
    omega (arith, event_fits c.args.self.now c.args.event c.requires.asking c.requires.event, small)

pub arrive-requires : goal.arrive-requires
arrive-requires g c =
    let p = c.args.self.now.program in
    let r = c.args.self.now.run in
    subst (λ (x : Source). HasTold p c.args.event (record r { source = x })) (sym c.count.ensures)
    (event_told p r c.args.event c.requires.asking.wants (event_fits c.args.self.now c.args.event c.requires.asking c.requires.event)
    (text_told c.args.event c.requires.event.text))

pub returns-in-Err-clause-more : goal.returns-in-Err-clause-more
returns-in-Err-clause-more g c = λ e. absurd (stop_more c.in-Err.stop (sym c.turn.ensures ∙ e))

pub returns-in-Err-clause-want : goal.returns-in-Err-clause-want
returns-in-Err-clause-want g c = λ name e. absurd (stop_wants c.in-Err.stop name (sym c.turn.ensures ∙ e))

pub returns-in-Ok-clause-more : goal.returns-in-Ok-clause-more
returns-in-Ok-clause-more g c = λ e.
    record {
      wants = c.go_on.ensures.more e;
      depths =
          subst (All (HasDepth (depth_of c.args.self.now))) (sym (c.go_on.ensures.documents (subst GoesOn (sym e) tt) ∙ c.in-Ok.ensures.documents))
          (event_depths c.args.self.now c.args.event c.count.new.self c.requires.asking c.count.ensures);
    }

pub returns-in-Ok-clause-want : goal.returns-in-Ok-clause-want
returns-in-Ok-clause-want g c = λ name e.
    record {
      waits = c.go_on.ensures.want name e;
      depths =
          subst (All (HasDepth (depth_of c.args.self.now))) (sym (c.go_on.ensures.documents (subst GoesOn (sym e) tt) ∙ c.in-Ok.ensures.documents))
          (event_depths c.args.self.now c.args.event c.count.new.self c.requires.asking c.count.ensures);
    }

pub returns-in-Ok-clause-ended : goal.returns-in-Ok-clause-ended
returns-in-Ok-clause-ended g c = λ e. ap (map lists_in) (c.go_on.ensures.ended e)

pub returns-in-Ok-clause-documents : goal.returns-in-Ok-clause-documents
returns-in-Ok-clause-documents g c = λ goes.
    ap (map lists_in) (c.go_on.ensures.documents goes ∙ c.in-Ok.ensures.documents)
    ∙ event_lists c.args.self.now c.args.event c.count.new.self c.requires.asking c.requires.event c.count.ensures

pub returns-in-Err-clause-ended : goal.returns-in-Err-clause-ended
returns-in-Err-clause-ended g c = λ e. absurd (stop_ended c.in-Err.stop (sym c.turn.ensures ∙ e))

pub returns-in-Err-clause-documents : goal.returns-in-Err-clause-documents
returns-in-Err-clause-documents g c = λ goes. absurd (stop_goes c.in-Err.stop (subst GoesOn c.turn.ensures goes))

pub returns-in-Ok-clause-mains : goal.returns-in-Ok-clause-mains
returns-in-Ok-clause-mains g c = λ goes.
    ap (map main_in) (c.go_on.ensures.documents goes ∙ c.in-Ok.ensures.documents)
    ∙ event_mains c.args.self.now c.args.event c.count.new.self c.requires.asking c.requires.event c.count.ensures

pub returns-in-Ok-clause-fuel : goal.returns-in-Ok-clause-fuel
returns-in-Ok-clause-fuel g c =
    let m = c.args.self.now in
    let from = ap (λ (x : Source). x.origin) c.count.ensures in
    let most : c.arrive.new.self.fuel ≤ fuel_at (mains_of m) (fuel_limit_of m) (fuel_of m) =
    subst (λ k. c.arrive.new.self.fuel ≤ k) (ap (fuel_ended (fuel_limit_of m) (fuel_of m)) from ∙ event_fuel m c.requires.asking) c.in-Ok.ensures.fuel in
    burns_more c.go_on.result c.arrive.new.self.fuel (fuel_at (mains_of m) (fuel_limit_of m) (fuel_of m)) c.go_on.new.self.fuel most c.go_on.ensures.fuel

pub returns-in-Err-clause-fuel : goal.returns-in-Err-clause-fuel
returns-in-Err-clause-fuel g c =
    let m = c.args.self.now in
    let most = fuel_at (mains_of m) (fuel_limit_of m) (fuel_of m) in
    subst (λ t. Burns t most c.arrive.new.self.fuel) (sym c.turn.ensures) (stop_burns c.in-Err.stop most c.arrive.new.self.fuel)

pub returns-in-Err-clause-mains : goal.returns-in-Err-clause-mains
returns-in-Err-clause-mains g c = λ goes. absurd (stop_goes c.in-Err.stop (subst GoesOn c.turn.ensures goes))

pub returns-in-Ok-clause-alone : goal.returns-in-Ok-clause-alone
returns-in-Ok-clause-alone g c = λ order. c.go_on.ensures.alone order.sheet

pub returns-in-Err-clause-alone : goal.returns-in-Err-clause-alone
returns-in-Err-clause-alone g c = λ order. asks_for_none c.turn.result (λ name e. stop_wants c.in-Err.stop name (sym c.turn.ensures ∙ e))

-- What was done.

pub returns-in-Ok-clause-gives : goal.returns-in-Ok-clause-gives
returns-in-Ok-clause-gives g c = λ order.
    let m = c.args.self.now in
    let p = m.program in
    let alone = alone_counted p m.run c.count.new.self _ c.count.ensures order.alone in
    let hears = c.in-Ok.ensures.hears alone in
    takes_on g.S.Sink.output g.S.Sink.told m c.args.event c.count.new.self _ c.count.ensures c.go_on.result c.arrive.new.self c.go_on.new.self c.args.out.now c.go_on.new.out order hears
    (c.go_on.ensures.goes hears.alone order.sheet)

pub returns-in-Err-clause-gives : goal.returns-in-Err-clause-gives
returns-in-Err-clause-gives g c = λ order.
    let m = c.args.self.now in
    let p = m.program in
    let alone = alone_counted p m.run c.count.new.self _ c.count.ensures order.alone in
    takes_not g.S.Sink.output g.S.Sink.told m c.args.event c.count.new.self _ c.count.ensures c.turn.result c.in-Err.stop c.arrive.new.self c.args.out.now c.turn.ensures (g.met.S.Sink.nothing c.args.out.now) (c.in-Err.ensures.hears alone)
