use Rattle.result_writer.proofs.Judging.{judges-nodes}
use Rattle.result_writer.proofs.Nesting.{accepts-nodes}
use Rattle.result_writer.proofs.Trees.{reads-nodes, writes-nodes}
use Rattle.result_writer.proofs.law.nodes.Goals as goal

pub returns-clause-accepted : goal.returns-clause-accepted
returns-clause-accepted c = accepts-nodes

pub returns-clause-fault : goal.returns-clause-fault
returns-clause-fault c = judges-nodes

pub returns-clause-text : goal.returns-clause-text
returns-clause-text c = writes-nodes

pub returns-clause-forest : goal.returns-clause-forest
returns-clause-forest c = reads-nodes
