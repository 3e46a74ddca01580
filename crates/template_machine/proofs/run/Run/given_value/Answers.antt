use Rattle.std.proofs.Common.{Err, sym, subst, ◌∙◌}
use Rattle.var_store.specs.Variables.{value_of}
use Rattle.template_machine.specs.Declaring.{parameter_value}
use Rattle.template_machine.specs.Parameters.{named_values}
use Rattle.template_machine.specs.Saying.{Gave, sight}
use Rattle.template_machine.specs.declared.stop.Stop.TheVariants as stop
use Rattle.template_machine.proofs.Binding.{value_given, value_made}
use Rattle.template_machine.proofs.Saying.{stops_with}
use Rattle.template_machine.proofs.run.Run.given_value.Goals as goal

pub returns-in-Some : goal.returns-in-Some
returns-in-Some c = λ given long top.
    let v = c.args.param.now in value_given given v.at c.given.result v _ c.in-Some.value (sight c.args.program.now c.args.self.now) (sym c.in-Some.is ∙ c.in_ok-value.ensures.value long)

pub returns-in-None : goal.returns-in-None
returns-in-None c = λ given long top.
    let v = c.args.param.now in
    value_made given v.at c.default_value.result v _ (sight c.args.program.now c.args.self.now) (sym c.in-None.is ∙ c.in_ok-value.ensures.value long) (c.default_value.ensures top)

-- only memory was wanting
pub returns-in_err-value : goal.returns-in_err-value
returns-in_err-value c = λ given long top.
    let v = c.args.param.now in
    let e = c.in_err-value.field-0.0 in
    let value = parameter_value given (value_of v.name (named_values c.args.names.now c.args.values.now)) v (sight c.args.program.now c.args.self.now) in
    subst (λ x. Gave v.at x value) (sym (stops_with c.from_residual.result e c.from_residual.ensures.1))
    (subst (λ s. Gave v.at (Err s) value) (sym c.in_err-value.ensures.memory) tt)
