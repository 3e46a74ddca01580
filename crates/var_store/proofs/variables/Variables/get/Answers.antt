use Rattle.std.proofs.Common.{sym, ap, ◌∙◌}
use Rattle.std.specs.Prelude.{option_map}
use Rattle.var_store.proofs.Finding.{found_nowhere, slot_leads_to_value}
use Rattle.var_store.proofs.variables.Variables.get.Goals as goal

pub returns-in-Some : goal.returns-in-Some
returns-in-Some c =
    sym c.at.ensures ∙ slot_leads_to_value c.args.name.now c.args.self.now c.in-Some.slot (sym c.in-Some.ensures.value)

pub returns-in-None : goal.returns-in-None
returns-in-None c =
    sym (ap (option_map (λ b. b.value)) (found_nowhere c.args.name.now c.args.self.now (sym c.in-None.ensures.value)))
