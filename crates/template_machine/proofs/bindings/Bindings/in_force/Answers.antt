use Rattle.std.proofs.Common.{sym, ap, ◌∙◌}
use Rattle.template_machine.specs.Scopes.{in_force}
use Rattle.template_machine.proofs.Scoped.{in_force_is}
use Rattle.template_machine.proofs.bindings.Bindings.in_force.Goals as goal

pub returns : goal.returns
returns c = sym (in_force_is _ _) ∙ ap in_force c.self.view_is
