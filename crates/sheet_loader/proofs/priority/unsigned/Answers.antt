use Rattle.std.proofs.Common.{◌∙◌}
use Rattle.sheet_loader.proofs.Parted.{unsigned-there}
use Rattle.sheet_loader.proofs.priority.unsigned.Goals as goal

pub returns-in-Some-clause-value : goal.returns-in-Some-clause-value
returns-in-Some-clause-value c = c.with_part.ensures.value ∙ unsigned-there c.args.text.now c.in-Some.at c.in-Some.ensures
