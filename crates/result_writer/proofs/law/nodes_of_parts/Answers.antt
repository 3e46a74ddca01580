use Rattle.result_writer.proofs.Trees.{makes-proper, texts-join}
use Rattle.result_writer.proofs.law.nodes_of_parts.Goals as goal

pub returns-clause-proper : goal.returns-clause-proper
returns-clause-proper c = makes-proper

pub returns-clause-join : goal.returns-clause-join
returns-clause-join c = texts-join
