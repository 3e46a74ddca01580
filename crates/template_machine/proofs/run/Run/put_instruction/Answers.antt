use Rattle.std.proofs.Common.{subst, sym}
use Rattle.template_machine.specs.Saying.{Acts, pi_at}
use Rattle.template_machine.specs.declared.stop.Stop.TheVariants as stop
use Rattle.template_machine.proofs.Saying.{stops_with, wants_memory}
use Rattle.template_machine.proofs.Targeted.{pi_acts, pi_stops_content, pi_stops_target}
use Rattle.template_machine.proofs.run.Run.put_instruction.Goals as goal

pub returns-in_err-target-clause-acts : goal.returns-in_err-target-clause-acts
returns-in_err-target-clause-acts g c = λ scope at.
    let p = c.args.program.now in
    let r = c.args.self.now in
    let out = c.args.out.now in
    let e = c.in_err-target.field-0.0 in
    subst (λ x. Acts g.S.Sink.output g.S.Sink.told p (pi_at c.args.name.now scope c.args.content.now c.args.spot.at) x r r out out) (sym (stops_with c.from_residual.result e c.from_residual.ensures.1))
    (pi_stops_target g.S.Sink.output g.S.Sink.told p c.args.name.now scope c.args.content.now c.args.spot.at r _ g.met.S.Sink.nothing e out (c.in_err-target.ensures at))

pub returns-in_err-text-clause-acts : goal.returns-in_err-text-clause-acts
returns-in_err-text-clause-acts g c = λ scope at.
    let p = c.args.program.now in
    let r = c.args.self.now in
    let out = c.args.out.now in
    let e = c.in_err-text.field-0.0 in
    subst (λ x. Acts g.S.Sink.output g.S.Sink.told p (pi_at c.args.name.now scope c.args.content.now c.args.spot.at) x r r out out)
    (sym (stops_with c.from_residual-in_err-text.result e c.from_residual-in_err-text.ensures.1))
    (pi_stops_content g.S.Sink.output g.S.Sink.told p c.args.name.now scope c.args.content.now c.args.spot.at r _ g.met.S.Sink.nothing c.in_ok-target.target e out
    (c.in_ok-target.ensures at) (c.in_err-text.ensures at))

pub returns-in_err-text-2-clause-acts : goal.returns-in_err-text-2-clause-acts
returns-in_err-text-2-clause-acts g c = λ scope at.
    let p = c.args.program.now in
    let r = c.args.self.now in
    let out = c.args.out.now in
    let x = pi_at c.args.name.now scope c.args.content.now c.args.spot.at in
    subst (λ y. Acts g.S.Sink.output g.S.Sink.told p x y r r out out) (sym (stops_with c.from_residual-in_err-text-2.result stop.Memory c.from_residual-in_err-text-2.ensures.1))
    (wants_memory g.S.Sink.output g.S.Sink.told _ p x r r out out (g.met.S.Sink.nothing out))

pub returns-clause-acts : goal.returns-clause-acts
returns-clause-acts g c = λ scope at.
    pi_acts g.S.Sink.output g.S.Sink.told c.args.program.now c.args.name.now scope c.args.content.now c.args.spot.at c.args.self.now c.in_ok-target.target c.in_ok-text.text c.in_ok-text-2.text
    c.instruction.result c.instruction.new.self c.args.out.now c.instruction.new.out (c.in_ok-target.ensures at) (c.in_ok-text.ensures at) c.in_ok-text-2.ensures c.instruction.ensures.puts
