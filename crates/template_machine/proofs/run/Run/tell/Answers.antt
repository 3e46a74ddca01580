use Rattle.std.proofs.Common.{◌<◌, ap, sym, subst, ◌∙◌, ◌≤◌}
use Rattle.event_buffers.specs.Buffers.{read_at}
use Rattle.event_buffers.specs.Told.{IsToldAt}
use Rattle.xml_events.specs.declared.event.Event.TheVariants as event
use Rattle.template_machine.specs.Moments.{HasTold, IsBuffer}
use Rattle.template_machine.specs.declared.source.Source.{Source}
use Rattle.template_machine.proofs.Buffered.{buffer_fits, buffer_next, buffer_over, tells_there}
use Rattle.template_machine.specs.Work.{work}
use Rattle.template_machine.proofs.Documents.{buffer_counted}
use Rattle.template_machine.proofs.Lightened.{ended_still}
use Rattle.template_machine.proofs.run.Run.tell.Goals as goal

pub event-requires-clause-id : goal.event-requires-clause-id
event-requires-clause-id c = (tells_there c.args.program.now c.args.self.now c.args.id c.requires.well c.requires.list c.requires.ahead c.requires.buffer).0

pub event-requires-clause-read : goal.event-requires-clause-read
event-requires-clause-read c = (tells_there c.args.program.now c.args.self.now c.args.id c.requires.well c.requires.list c.requires.ahead c.requires.buffer).1

pub count-requires : goal.count-requires
count-requires c =
    let r = c.args.self.now in
    let tells = subst (IsToldAt (read_at r.putting.buffers c.args.id) r.source.next) c.in-Some.is c.in_ok-event.ensures in
    buffer_fits c.args.program.now r c.args.id c.in-Some.field-0 c.requires.well c.requires.list c.requires.ahead c.requires.events c.requires.buffer tells

pub arrive-requires : goal.arrive-requires
arrive-requires c =
    let p = c.args.program.now in
    let r = c.args.self.now in
    let tells = subst (IsToldAt (read_at r.putting.buffers c.args.id) r.source.next) c.in-Some.is c.in_ok-event.ensures in
    subst (λ (x : Source). HasTold p c.in-Some.field-0.event (record r { source = x })) (sym c.count.ensures)
    (buffer_next p r c.args.id c.in-Some.field-0 c.requires.well c.requires.list c.requires.ahead c.requires.events c.requires.buffer tells).1

pub returns-in_ok-arrive-in-Some-clause-works : goal.returns-in_ok-arrive-in-Some-clause-works
returns-in_ok-arrive-in-Some-clause-works c =
    let p = c.args.program.now in
    let r = c.args.self.now in
    let buffer = subst (λ (x : Source). IsBuffer c.args.id x.origin) (sym c.count.ensures) c.requires.buffer in
    record {
      still = c.in_ok-arrive-in-Some.ensures.documents ∙ buffer_counted r c.count.new.self c.args.id c.requires.buffer (ap (λ (x : Source). x.origin) c.count.ensures);
      spared = subst (λ k. c.arrive.new.self.fuel ≤ k) (ended_still p.limits.fuel r.fuel c.args.id c.count.new.self.origin buffer) c.in_ok-arrive-in-Some.ensures.fuel;
      falls = subst (λ k. work p c.arrive.new.self < k) (ap (λ (x : Source). work p (record r { source = x })) c.count.ensures) (c.in_ok-arrive-in-Some.ensures.works c.args.id buffer);
    }

pub count-requires-in-None : goal.count-requires-in-None
count-requires-in-None c =
    let r = c.args.self.now in
    let tells = subst (IsToldAt (read_at r.putting.buffers c.args.id) r.source.next) c.in-None.is c.in_ok-event.ensures in
    (buffer_over c.args.program.now r c.args.id c.requires.well c.requires.list c.requires.ahead c.requires.events c.requires.buffer tells).0

pub arrive-requires-in-None : goal.arrive-requires-in-None
arrive-requires-in-None c =
    let p = c.args.program.now in
    let r = c.args.self.now in
    let tells = subst (IsToldAt (read_at r.putting.buffers c.args.id) r.source.next) c.in-None.is c.in_ok-event.ensures in
    subst (λ (x : Source). HasTold p (event.DocumentEnd 0) (record r { source = x })) (sym c.count-in-None.ensures)
    (buffer_over p r c.args.id c.requires.well c.requires.list c.requires.ahead c.requires.events c.requires.buffer tells).1

pub returns-in_ok-arrive-in-None-clause-works : goal.returns-in_ok-arrive-in-None-clause-works
returns-in_ok-arrive-in-None-clause-works c =
    let p = c.args.program.now in
    let r = c.args.self.now in
    let buffer = subst (λ (x : Source). IsBuffer c.args.id x.origin) (sym c.count-in-None.ensures) c.requires.buffer in
    record {
      still = c.in_ok-arrive-in-None.ensures.documents ∙ buffer_counted r c.count-in-None.new.self c.args.id c.requires.buffer (ap (λ (x : Source). x.origin) c.count-in-None.ensures);
      spared = subst (λ k. c.arrive-in-None.new.self.fuel ≤ k) (ended_still p.limits.fuel r.fuel c.args.id c.count-in-None.new.self.origin buffer) c.in_ok-arrive-in-None.ensures.fuel;
      falls =
          subst (λ k. work p c.arrive-in-None.new.self < k) (ap (λ (x : Source). work p (record r { source = x })) c.count-in-None.ensures)
          (c.in_ok-arrive-in-None.ensures.works c.args.id buffer);
    }
