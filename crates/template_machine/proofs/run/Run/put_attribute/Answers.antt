use Rattle.std.proofs.Common.{Err, subst, sym, ◌∙◌}
use Rattle.template_machine.specs.Saying.{Acts, attribute_at}
use Rattle.template_machine.specs.declared.stop.Stop.TheVariants as stop
use Rattle.template_machine.proofs.Saying.{attribute_acts, attribute_nameless, attribute_stops_content, attribute_stops_name, attribute_stops_namespace, stops_with, wants_memory}
use Rattle.template_machine.proofs.run.Run.put_attribute.Goals as goal

pub returns-in_err-name-clause-acts : goal.returns-in_err-name-clause-acts
returns-in_err-name-clause-acts g c = λ at.
    let r = c.args.self.now in
    let out = c.args.out.now in
    let e = c.in_err-name.field-0.0 in
    subst (λ y. Acts g.S.Sink.output g.S.Sink.told c.args.program.now (attribute_at c.args.name.now c.args.namespace.now c.args.scope.now c.args.content.now c.args.spot.at) y r r out out)
    (sym (stops_with c.from_residual.result e c.from_residual.ensures.1))
    (attribute_stops_name g.S.Sink.output g.S.Sink.told c.args.program.now c.args.name.now c.args.namespace.now c.args.scope.now c.args.content.now c.args.spot.at r _ g.met.S.Sink.nothing e out
    (c.in_err-name.ensures at))

pub returns-in_err-namespace-clause-acts : goal.returns-in_err-namespace-clause-acts
returns-in_err-namespace-clause-acts g c = λ at.
    let r = c.args.self.now in
    let out = c.args.out.now in
    let e = c.in_err-namespace.field-0.0 in
    subst (λ y. Acts g.S.Sink.output g.S.Sink.told c.args.program.now (attribute_at c.args.name.now c.args.namespace.now c.args.scope.now c.args.content.now c.args.spot.at) y r r out out)
    (sym (stops_with c.from_residual-in_err-namespace.result e c.from_residual-in_err-namespace.ensures.1))
    (attribute_stops_namespace g.S.Sink.output g.S.Sink.told c.args.program.now c.args.name.now c.args.namespace.now c.args.scope.now c.args.content.now c.args.spot.at r _ g.met.S.Sink.nothing
    c.in_ok-name.name e out (c.in_ok-name.ensures at) (c.in_err-namespace.ensures at))

pub returns-in_err-value-clause-acts : goal.returns-in_err-value-clause-acts
returns-in_err-value-clause-acts g c = λ at.
    let r = c.args.self.now in
    let out = c.args.out.now in
    let e = c.in_err-value.field-0.0 in
    subst (λ y. Acts g.S.Sink.output g.S.Sink.told c.args.program.now (attribute_at c.args.name.now c.args.namespace.now c.args.scope.now c.args.content.now c.args.spot.at) y r r out out)
    (sym (stops_with c.from_residual-in_err-value.result e c.from_residual-in_err-value.ensures.1))
    (attribute_stops_content g.S.Sink.output g.S.Sink.told c.args.program.now c.args.name.now c.args.namespace.now c.args.scope.now c.args.content.now c.args.spot.at r _ g.met.S.Sink.nothing
    c.in_ok-name.name c.in_ok-namespace.namespace e out (c.in_ok-name.ensures at) (c.in_ok-namespace.ensures at) (c.in_err-value.ensures at))

pub returns-in_err-name-2-clause-acts : goal.returns-in_err-name-2-clause-acts
returns-in_err-name-2-clause-acts g c = λ at.
    let r = c.args.self.now in
    let out = c.args.out.now in
    let x = attribute_at c.args.name.now c.args.namespace.now c.args.scope.now c.args.content.now c.args.spot.at in
    subst (λ y. Acts g.S.Sink.output g.S.Sink.told c.args.program.now x y r r out out)
    (sym (stops_with c.from_residual-in_err-name-2.result stop.Memory c.from_residual-in_err-name-2.ensures.1))
    (wants_memory g.S.Sink.output g.S.Sink.told _ c.args.program.now x r r out out (g.met.S.Sink.nothing out))

pub returns-in-Some-clause-acts : goal.returns-in-Some-clause-acts
returns-in-Some-clause-acts g c = λ at.
    attribute_acts g.S.Sink.output g.S.Sink.told c.args.program.now c.args.name.now c.args.namespace.now c.args.scope.now c.args.content.now c.args.spot.at c.args.self.now
    c.in_ok-name.name c.in_ok-namespace.namespace c.in_ok-value.value c.in-Some.name c.attribute.result c.attribute.new.self c.args.out.now c.attribute.new.out
    (c.in_ok-name.ensures at) (c.in_ok-namespace.ensures at) (c.in_ok-value.ensures at) (sym c.in-Some.is ∙ c.in_ok-name-2.ensures) c.attribute.ensures.puts

pub returns-clause-acts : goal.returns-clause-acts
returns-clause-acts g c = λ at.
    let r = c.args.self.now in
    let out = c.args.out.now in
    subst (λ y. Acts {A = Unit {0}} g.S.Sink.output g.S.Sink.told c.args.program.now (attribute_at c.args.name.now c.args.namespace.now c.args.scope.now c.args.content.now c.args.spot.at) (Err y) r r out out)
    (sym c.fault.ensures)
    (attribute_nameless g.S.Sink.output g.S.Sink.told c.args.program.now c.args.name.now c.args.namespace.now c.args.scope.now c.args.content.now c.args.spot.at r (Unit {0}) g.met.S.Sink.nothing
    c.in_ok-name.name c.in_ok-namespace.namespace c.in_ok-value.value out (c.in_ok-name.ensures at) (c.in_ok-namespace.ensures at) (c.in_ok-value.ensures at) (sym c.in-None.is ∙ c.in_ok-name-2.ensures))
