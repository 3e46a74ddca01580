use Rattle.std.proofs.Common.{◌∙◌, sym}
use Rattle.node_stack.proofs.Opening.{last_attributes}
use Rattle.node_stack.proofs.open.attributes.Goals as goal

pub returns-in-Some : goal.returns-in-Some
returns-in-Some c = c.as_slice.ensures ∙ sym (last_attributes c.args.elements.now _ (sym c.in-Some.ensures.value))
