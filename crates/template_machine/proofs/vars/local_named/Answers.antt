use Rattle.std.proofs.Common.{None, if◌then◌else◌, sym, ap, ◌∙◌}
use Rattle.std.proofs.lemmas.Bool.{false≢true}
use Rattle.result_writer.specs.Allowed.{is_empty}
use Rattle.template_machine.specs.Seen.{bounds_of}
use Rattle.template_machine.proofs.Unseen.{not_empty}
use Rattle.template_machine.proofs.vars.local_named.Goals as goal
use Rattle.var_store.specs.Variables.{slot_of}

pub returns-then-is_empty-clause-value : goal.returns-then-is_empty-clause-value
returns-then-is_empty-clause-value c =
    sym (ap (λ l. if is_empty l then None else slot_of c.args.name.now (bounds_of c.args.locals.now)) (c.is_empty.ensures.0 c.if-is_empty.true))

pub returns-clause-value : goal.returns-clause-value
returns-clause-value c =
    let some = not_empty c.args.name.now.local (λ none. false≢true (sym c.if-is_empty.false ∙ c.is_empty.ensures.1 none)) in
    c.first_called.ensures.value ∙ sym (ap (λ b. if b then None else slot_of c.args.name.now (bounds_of c.args.locals.now)) some)
