use Rattle.template_machine.proofs.Finished.{node_is_last}
use Rattle.std.proofs.Common.{◌∙◌, Some, ap}
use Rattle.node_stack.specs.Open.{node_of}
use Rattle.node_stack.specs.Stack.{path}
use Rattle.template_machine.proofs.Lightened.{begins_still}
use Rattle.template_machine.proofs.Ways.{way_here}
use Rattle.template_machine.proofs.run.Run.leave_node.Goals as goal

pub returns-in-Document-clause-stands : goal.returns-in-Document-clause-stands
returns-in-Document-clause-stands c =
    c.requires.ended (way_here (path c.args.self.now.source.stack) ∙ c.current.ensures ∙ ap (λ v. Some (node_of v)) c.in-Document.is)

pub returns-in-Document-clause-works : goal.returns-in-Document-clause-works
returns-in-Document-clause-works c = begins_still c.args.self.now

pub returns-in-Document-clause-moves : goal.returns-in-Document-clause-moves
returns-in-Document-clause-moves c = λ alone last listed.
    node_is_last c.args.program.now c.args.self.now alone (last (c.current.ensures ∙ ap (λ v. Some (node_of v)) c.in-Document.is))

pub returns-in-Attribute-clause-moves : goal.returns-in-Attribute-clause-moves
returns-in-Attribute-clause-moves c = λ alone last listed. c.leave_attribute.ensures.moves alone

pub returns-in-Element-clause-moves : goal.returns-in-Element-clause-moves
returns-in-Element-clause-moves c = λ alone last listed. c.close_node.ensures.moves alone listed

pub returns-in-Chars-clause-moves : goal.returns-in-Chars-clause-moves
returns-in-Chars-clause-moves c = λ alone last listed. c.close_node-in-Chars.ensures.moves alone listed

pub returns-in-CData-clause-moves : goal.returns-in-CData-clause-moves
returns-in-CData-clause-moves c = λ alone last listed. c.close_node-in-CData.ensures.moves alone listed

pub returns-in-Comment-clause-moves : goal.returns-in-Comment-clause-moves
returns-in-Comment-clause-moves c = λ alone last listed. c.close_node-in-Comment.ensures.moves alone listed

pub returns-in-Pi-clause-moves : goal.returns-in-Pi-clause-moves
returns-in-Pi-clause-moves c = λ alone last listed. c.close_node-in-Pi.ensures.moves alone listed
