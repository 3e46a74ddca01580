use Rattle.run_future.proofs.Sources.{goes_no_further}
use Rattle.run_future.proofs.Standing.{waits_for_nodes}
use Rattle.run_future.proofs.law.waiting.Goals as goal

pub returns : goal.returns
returns c = record { documents = waits_for_nodes; events = goes_no_further }
