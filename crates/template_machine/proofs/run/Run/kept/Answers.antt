use Rattle.std.proofs.Common.{◌∙◌, None, Some, ap, sym}
use Rattle.std.specs.Prelude.{if◌then◌else◌}
use Rattle.std.specs.Option.{option_copied}
use Rattle.var_store.specs.Variables.{value_of}
use Rattle.template_machine.specs.Variables.{older}
use Rattle.template_machine.proofs.run.Run.kept.Goals as goal

pub returns-then-not-variable-clause-value : goal.returns-then-not-variable-clause-value
returns-then-not-variable-clause-value c = λ given st same.
    let v = c.args.variable.now in sym (ap (λ b. if b then value_of v.name (older st.variables v.group) else None) c.if-not-variable.true)

pub returns-in_ok-copy-in-Some-clause-value : goal.returns-in_ok-copy-in-Some-clause-value
returns-in_ok-copy-in-Some-clause-value c = λ given st same.
    let v = c.args.variable.now in
    ap (λ x. Some x) c.in_ok-copy-in-Some.ensures ∙ sym (ap option_copied c.in-Some.is) ∙ c.older.ensures ∙ ap (λ s. value_of v.name (older s v.group)) (sym same)
    ∙ sym (ap (λ b. if b then value_of v.name (older st.variables v.group) else None) c.if-not-variable.false)

pub returns-in-None-clause-value : goal.returns-in-None-clause-value
returns-in-None-clause-value c = λ given st same.
    let v = c.args.variable.now in
    sym (ap option_copied c.in-None.is) ∙ c.older.ensures ∙ ap (λ s. value_of v.name (older s v.group)) (sym same)
    ∙ sym (ap (λ b. if b then value_of v.name (older st.variables v.group) else None) c.if-not-variable.false)
