use Rattle.stxpath_syntax.proofs.Evaluable.{readable_expression, readable_alternative, readable_parts}
use Rattle.stxpath_syntax.proofs.law.can_be_evaluated.Goals as goal

pub returns : goal.returns
returns c = (readable_expression, readable_alternative, readable_parts)
