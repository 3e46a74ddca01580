use Rattle.std.proofs.Common.{subst, sym}
use Rattle.template_machine.specs.Saying.{Acts, message_at}
use Rattle.template_machine.specs.declared.stop.Stop.TheVariants as stop
use Rattle.template_machine.proofs.Saying.{message_acts, message_stops, stops_with, wants_memory}
use Rattle.template_machine.proofs.run.Run.say.Goals as goal

pub returns-in_err-text : goal.returns-in_err-text
returns-in_err-text g c = λ at.
    let r = c.args.self.now in
    let out = c.args.out.now in
    let e = c.in_err-text.field-0.0 in
    subst (λ y. Acts g.S.Sink.output g.S.Sink.told c.args.program.now (message_at c.args.content.now c.args.spot.at) y r r out out) (sym (stops_with c.from_residual.result e c.from_residual.ensures.1))
    (message_stops g.S.Sink.output g.S.Sink.told _ g.met.S.Sink.nothing c.args.program.now c.args.content.now c.args.spot.at e r out (c.in_err-text.ensures at))

pub returns-in_err-note : goal.returns-in_err-note
returns-in_err-note g c = λ at.
    let r = c.args.self.now in
    subst (λ y. Acts g.S.Sink.output g.S.Sink.told c.args.program.now (message_at c.args.content.now c.args.spot.at) y r r c.args.out.now c.note.new.self)
    (sym (stops_with c.from_residual-in_err-note.result stop.Memory c.from_residual-in_err-note.ensures.1))
    (wants_memory g.S.Sink.output g.S.Sink.told _ c.args.program.now (message_at c.args.content.now c.args.spot.at) r r c.args.out.now c.note.new.self c.in_err-note.ensures.unsaid)

pub returns : goal.returns
returns g c = λ at.
    message_acts g.S.Sink.output g.S.Sink.told g.met.S.Sink.leaves c.args.program.now c.args.content.now c.args.spot.at c.in_ok-text.text _ c.args.self.now c.args.out.now c.note.new.self
    (c.in_ok-text.ensures at) c.in_ok-note.ensures.said
