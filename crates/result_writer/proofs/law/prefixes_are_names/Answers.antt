use Rattle.result_writer.proofs.Prefixing.{writes-prefixes}
use Rattle.result_writer.proofs.law.prefixes_are_names.Goals as goal

pub returns : goal.returns
returns c = writes-prefixes
