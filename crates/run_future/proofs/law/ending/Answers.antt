use Rattle.run_future.proofs.Sources.{buffers_end, documents_end, ends_are_told}
use Rattle.run_future.proofs.Standing.{sources_end}
use Rattle.run_future.proofs.law.ending.Goals as goal

pub returns : goal.returns
returns c = record { sources = sources_end; buffers = buffers_end; documents = documents_end; told = ends_are_told }
