use Rattle.std.specs.Str.{chars}
use Rattle.sheet_loader.proofs.values.Values.take_name.Goals as goal

pub returns-clause-value : goal.returns-clause-value
unfolding chars
returns-clause-value c = c.take_name_by.ensures.value

pub returns-clause-others : goal.returns-clause-others
unfolding chars
returns-clause-others c = c.take_name_by.ensures.others
