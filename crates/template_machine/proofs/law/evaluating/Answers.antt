use Rattle.template_machine.proofs.Alike.{expressions_see_nodes}
use Rattle.template_machine.proofs.Sighted.{texts_see_nodes, trails_look_alike}
use Rattle.template_machine.proofs.law.evaluating.Goals as goal

pub returns : goal.returns
returns c = record { expressions = expressions_see_nodes; texts = texts_see_nodes; trails = trails_look_alike }
