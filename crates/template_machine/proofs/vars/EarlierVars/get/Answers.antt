use Rattle.std.proofs.Common.{◌∙◌, Option, List, None, sym, ap, ℕ, take, if◌then◌else◌}
use Rattle.std.specs.Option.{option_and_then}
use Rattle.sheet_model.specs.Groups.{around, around_parent}
use Rattle.sheet_model.specs.declared.sheet.Group.{Group}
use Rattle.stxpath_values.specs.declared.value.Atom.{Atom}
use Rattle.var_store.specs.Variables.{value_of}
use Rattle.template_machine.specs.Declaring.{is_declared_in}
use Rattle.template_machine.specs.Variables.{first_some, newest}
use Rattle.template_machine.proofs.Around.{found_outwards}
use Rattle.template_machine.proofs.vars.EarlierVars.get.Goals as goal

pub loop-outwards-preserved : goal.loop-outwards-preserved
loop-outwards-preserved c =
    let groups = c.args.self.now.sheet.now.groups in
    let earlier = take c.args.self.now.count c.as_slice.result.now in
    let name = c.args.name.now in
    let f : ℕ → Option (List Atom) = λ g. if is_declared_in earlier g name then value_of name (newest c.args.self.now.store.now g) else None in
    c.loop-outwards.invariant
    ∙ ap (λ o. first_some f (around_parent (around groups) o)) c.in-Some.is
    ∙ found_outwards f groups c.args.self.now.parents c.in-Some.number (sym c.in-None.ensures)
    ∙ ap (λ o. first_some f (around_parent (around groups) o)) (sym (ap (option_and_then (λ (x : Group). x.parent)) c.in_ok-there.ensures.value))
