use Rattle.template_machine.proofs.Patterned.{choices_see_nodes, patterns_see_nodes, trails_pass_alike}
use Rattle.template_machine.proofs.law.choosing.Goals as goal

pub returns : goal.returns
returns c = record { patterns = patterns_see_nodes; choices = choices_see_nodes; trails = trails_pass_alike }
