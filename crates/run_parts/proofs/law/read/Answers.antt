use Rattle.run_parts.proofs.Read.{reads_runs}
use Rattle.run_parts.proofs.law.read.Goals as goal

pub returns : goal.returns
returns c = reads_runs c.accepted.ensures.settled c.accepted.ensures.whole c.in_force.ensures c.results.ensures.whole c.results.ensures.content
