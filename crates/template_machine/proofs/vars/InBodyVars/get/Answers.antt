use Rattle.std.proofs.Common.{◌≡◌, Some, None, sym, ap, ◌∙◌}
use Rattle.std.specs.Prelude.{slice_get}
use Rattle.std.specs.Option.{option_or}
use Rattle.sheet_model.specs.Groups.{around}
use Rattle.var_store.proofs.Finding.{slot_leads_to_value}
use Rattle.template_machine.specs.Seen.{bounds_of, local_of}
use Rattle.template_machine.specs.Variables.{seen_in}
use Rattle.template_machine.proofs.Locally.{values_are}
use Rattle.template_machine.proofs.Unseen.{named_seen, seen_nowhere, stands_at}
use Rattle.template_machine.proofs.vars.InBodyVars.get.Goals as goal

pub returns-in-Some : goal.returns-in-Some
returns-in-Some c =
    let self = c.args.self.now in
    let name = c.args.name.now in
    let bounds = bounds_of self.locals.now in
    let group = seen_in (around self.all.groups.now self.group) self.all.store.now name in
    let at = stands_at name self.locals.now c.in-Some.index (sym c.in-Some.ensures.value) in
    let own : local_of name self.locals.now ≡ Some c.value.result.now =
    named_seen name self.locals.now at.0 ∙ sym (slot_leads_to_value name bounds c.in-Some.index at.1)
    ∙ ap (λ vs. slice_get vs c.in-Some.index) (values_are self.locals.now) ∙ c.value.ensures in
    sym (ap (λ o. option_or o group) own)

pub returns-in-None : goal.returns-in-None
returns-in-None c =
    let self = c.args.self.now in
    let group = seen_in (around self.all.groups.now self.group) self.all.store.now c.args.name.now in
    c.get.ensures ∙ sym (ap (λ o. option_or o group) (seen_nowhere c.args.name.now self.locals.now (sym c.in-None.ensures.value)))
