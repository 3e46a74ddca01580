use Rattle.run_future.proofs.Held.{holds_nodes}
use Rattle.run_future.proofs.Sources.{stands_in_buffer, stands_in_document}
use Rattle.run_future.proofs.Standing.{sources_begin}
use Rattle.run_future.proofs.law.beginning.Goals as goal

pub returns : goal.returns
returns c = record { nodes = holds_nodes; begins = sources_begin; buffer = stands_in_buffer; document = stands_in_document }
