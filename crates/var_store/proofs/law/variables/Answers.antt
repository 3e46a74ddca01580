use Rattle.var_store.proofs.Finding.{assigned_is_read, declared_is_read, others_are_read, slot_leads_to_value}
use Rattle.var_store.proofs.law.variables.Goals as goal

pub returns-clause-declared : goal.returns-clause-declared
returns-clause-declared c = declared_is_read

pub returns-clause-assigned : goal.returns-clause-assigned
returns-clause-assigned c = assigned_is_read

pub returns-clause-others : goal.returns-clause-others
returns-clause-others c = others_are_read

pub returns-clause-slot : goal.returns-clause-slot
returns-clause-slot c = slot_leads_to_value
