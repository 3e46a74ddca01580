use Rattle.xml_events.proofs.Stepping.{step-gives, told-after}
use Rattle.xml_events.proofs.reader.Core.pull.Goals as goal

pub returns-in-Some : goal.returns-in-Some
returns-in-Some c =
    let i = c.loop-event.invariant in
    record {
      answers = told-after c.args.self.now c.loop-event.self _ c.in-Some.event i
          (step-gives c.loop-event.self i.reads i.going c.give.new.self c.in-Some.event c.in-Some.ensures);
    }
