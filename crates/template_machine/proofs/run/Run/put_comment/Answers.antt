use Rattle.std.proofs.Common.{subst, sym}
use Rattle.template_machine.specs.Saying.{Acts, comment_at}
use Rattle.template_machine.proofs.Saying.{comment_acts, comment_stops, stops_with}
use Rattle.template_machine.proofs.run.Run.put_comment.Goals as goal

pub returns-in_err-text-clause-acts : goal.returns-in_err-text-clause-acts
returns-in_err-text-clause-acts g c = λ at.
    let r = c.args.self.now in
    let out = c.args.out.now in
    let e = c.in_err-text.field-0.0 in
    subst (λ x. Acts g.S.Sink.output g.S.Sink.told c.args.program.now (comment_at c.args.content.now c.args.spot.at) x r r out out) (sym (stops_with c.from_residual.result e c.from_residual.ensures.1))
    (comment_stops g.S.Sink.output g.S.Sink.told g.met.S.Sink.nothing c.args.program.now c.args.content.now c.args.spot.at e r out (c.in_err-text.ensures at))

pub returns-clause-acts : goal.returns-clause-acts
returns-clause-acts g c = λ at.
    comment_acts g.S.Sink.output g.S.Sink.told c.args.program.now c.args.content.now c.args.spot.at c.in_ok-text.text c.comment.result c.args.self.now c.comment.new.self c.args.out.now c.comment.new.out
    (c.in_ok-text.ensures at) c.comment.ensures.puts
