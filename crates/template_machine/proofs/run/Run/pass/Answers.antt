use Rattle.std.proofs.Common.{◌∙◌, subst}
use Rattle.node_stack.specs.Open.{node_of}
use Rattle.node_stack.specs.Stack.{path}
use Rattle.template_machine.specs.Sections.{HoldsSection}
use Rattle.template_machine.specs.Ways.{way_of}
use Rattle.template_machine.proofs.Sourcing.{first_section}
use Rattle.template_machine.proofs.Ways.{way_here}
use Rattle.template_machine.proofs.run.Run.pass.Goals as goal

pub cdata-requires-clause-text : goal.cdata-requires-clause-text
cdata-requires-clause-text g c =
    let p = path c.args.self.now.source.stack in
    let holds : HoldsSection (node_of c.current.result) =
    first_section (way_of p).nodes (node_of c.current.result) (way_here p ∙ c.current.ensures) c.requires.source.sections in
    subst (λ v. HoldsSection (node_of v)) c.in-CData.is holds
