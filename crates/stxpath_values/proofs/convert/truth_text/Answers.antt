use Rattle.std.proofs.Common.{rules}
use Rattle.std.specs.Str.{chars}
use Rattle.stxpath_values.proofs.convert.truth_text.Goals as goal

pub returns-then-b : goal.returns-then-b
unfolding chars
returns-then-b c = search rules

pub returns-else-b : goal.returns-else-b
unfolding chars
returns-else-b c = search rules
