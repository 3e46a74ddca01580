use Rattle.template_machine.proofs.Scoped.{told_same}
use Rattle.template_machine.proofs.bindings.Bindings.leave.Goals as goal

pub returns-in-Some-None-clause-told : goal.returns-in-Some-None-clause-told
returns-in-Some-None-clause-told c =
    λ same. told_same c.self.inside.around.items c.pop.new.self.items c.self.inside.in_force c.args.self.now c.self.view_is
