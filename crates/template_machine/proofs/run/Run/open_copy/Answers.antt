use Rattle.std.proofs.Common.{◌∙◌}
use Rattle.node_stack.specs.Open.{node_of}
use Rattle.node_stack.specs.Stack.{path}
use Rattle.template_machine.specs.Ways.{way_of}
use Rattle.template_machine.proofs.Sourcing.{first_section}
use Rattle.template_machine.proofs.Ways.{way_here}
use Rattle.template_machine.proofs.Writing.{only_puts}
use Rattle.template_machine.proofs.run.Run.open_copy.Goals as goal

pub open_copy-requires-clause-text : goal.open_copy-requires-clause-text
open_copy-requires-clause-text g c =
    let p = path c.args.self.now.source.stack in
    first_section (way_of p).nodes (node_of c.current-node.result) (way_here p ∙ c.current-node.ensures) c.requires.source.sections

pub returns-clause-only : goal.returns-clause-only
returns-clause-only g c = only_puts _ _ c.open_copy.ensures.stands

pub returns-clause-begins : goal.returns-clause-begins
returns-clause-begins g c = record {
  node = node_of c.current-node.result;
  there = c.current-node.ensures;
  puts = c.open_copy.ensures.puts;
  inside = c.open_copy.ensures.inside;
}
