use Rattle.std.proofs.Common.{Err, subst, sym, ◌∙◌}
use Rattle.template_machine.specs.Saying.{NamesAs}
use Rattle.template_machine.specs.declared.stop.Stop.TheVariants as stop
use Rattle.template_machine.proofs.Saying.{names_as, names_nothing, no_name_yet, no_namespace, stops_with}
use Rattle.template_machine.proofs.run.Run.element_name.Goals as goal

pub returns-in_err-name : goal.returns-in_err-name
returns-in_err-name c = λ body.
    let e = c.in_err-name.field-0.0 in
    subst (NamesAs c.args.spot.at c.args.name.now c.args.namespace.now c.args.scope.now c.args.program.now c.args.self.now) (sym (stops_with c.from_residual.result e c.from_residual.ensures.1))
    (no_name_yet c.args.spot.at c.args.name.now c.args.namespace.now c.args.scope.now c.args.program.now c.args.self.now e (c.in_err-name.ensures body))

pub returns-in_err-namespace : goal.returns-in_err-namespace
returns-in_err-namespace c = λ body.
    let e = c.in_err-namespace.field-0.0 in
    subst (NamesAs c.args.spot.at c.args.name.now c.args.namespace.now c.args.scope.now c.args.program.now c.args.self.now) (sym (stops_with c.from_residual-in_err-namespace.result e c.from_residual-in_err-namespace.ensures.1))
    (no_namespace c.args.spot.at c.args.name.now c.args.namespace.now c.args.scope.now c.args.program.now c.args.self.now c.in_ok-name.name e (c.in_ok-name.ensures body) (c.in_err-namespace.ensures body))

pub returns-in_err-name-2 : goal.returns-in_err-name-2
returns-in_err-name-2 c = λ body.
    subst (NamesAs c.args.spot.at c.args.name.now c.args.namespace.now c.args.scope.now c.args.program.now c.args.self.now)
    (sym (stops_with c.from_residual-in_err-name-2.result stop.Memory c.from_residual-in_err-name-2.ensures.1)) (λ given self a sees go. tt)

pub returns-in-Some : goal.returns-in-Some
returns-in-Some c = λ body.
    names_as c.args.spot.at c.args.name.now c.args.namespace.now c.args.scope.now c.args.program.now c.args.self.now c.in_ok-name.name c.in_ok-namespace.namespace c.in-Some.name
    (c.in_ok-name.ensures body) (c.in_ok-namespace.ensures body) (sym c.in-Some.is ∙ c.in_ok-name-2.ensures)

pub returns : goal.returns
returns c = λ body.
    subst (λ s. NamesAs c.args.spot.at c.args.name.now c.args.namespace.now c.args.scope.now c.args.program.now c.args.self.now (Err s)) (sym c.fault.ensures)
    (names_nothing c.args.spot.at c.args.name.now c.args.namespace.now c.args.scope.now c.args.program.now c.args.self.now c.in_ok-name.name c.in_ok-namespace.namespace
    (c.in_ok-name.ensures body) (c.in_ok-namespace.ensures body) (sym c.in-None.is ∙ c.in_ok-name-2.ensures))
