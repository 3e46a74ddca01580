use Rattle.stxpath_syntax.proofs.Completing.{one_expression, one_pattern}
use Rattle.stxpath_syntax.proofs.law.one_reading.Goals as goal

pub returns : goal.returns
returns c = λ dialect scope ts. (one_expression dialect scope ts, one_pattern dialect scope ts)
