use Rattle.std.proofs.Common.{[], refl, subst, sym}
use Rattle.stx_base.specs.declared.name.Name.{Name}
use Rattle.stx_base.specs.declared.part.Part.TheVariants as part
use Rattle.template_machine.specs.Saying.{Acts, start_at}
use Rattle.template_machine.proofs.Saying.{name_acts, name_stops, stops_with}
use Rattle.template_machine.proofs.run.Run.put_start.Goals as goal

pub returns-in_err-name-clause-acts : goal.returns-in_err-name-clause-acts
returns-in_err-name-clause-acts g c = λ at.
    let r = c.args.self.now in
    let out = c.args.out.now in
    let e = c.in_err-name.field-0.0 in
    let x = start_at c.args.name.now c.args.namespace.now c.args.scope.now c.args.spot.at in
    subst (λ y. Acts g.S.Sink.output g.S.Sink.told c.args.program.now x y r r out out) (sym (stops_with c.from_residual.result e c.from_residual.ensures.1))
    (name_stops g.S.Sink.output g.S.Sink.told _ g.met.S.Sink.nothing c.args.program.now x c.args.spot.at c.args.name.now c.args.namespace.now c.args.scope.now (λ (n : Name). part.Start n []) e r out
    (λ given self a. refl) (c.in_err-name.ensures at))

pub returns-clause-acts : goal.returns-clause-acts
returns-clause-acts g c = λ at.
    name_acts g.S.Sink.output g.S.Sink.told c.args.program.now (start_at c.args.name.now c.args.namespace.now c.args.scope.now c.args.spot.at) c.args.spot.at c.args.name.now c.args.namespace.now c.args.scope.now
    (λ (n : Name). part.Start n []) c.in_ok-name.name c.start_named.result c.args.self.now c.start_named.new.self c.args.out.now c.start_named.new.out (λ given self a. refl) (c.in_ok-name.ensures at) c.start_named.ensures.puts
