use Rattle.std.proofs.Common.{◌∙◌}
use Rattle.template_machine.proofs.Shelved.{last_target}
use Rattle.template_machine.proofs.putting.Putting.target.Goals as goal

pub returns : goal.returns
returns c = c.copied.ensures ∙ c.last.ensures ∙ last_target c.args.self.now.targets
