use Rattle.std.proofs.Common.{◌∙◌}
use Rattle.sheet_loader.proofs.KeyLemmas.{same-chars}
use Rattle.sheet_loader.proofs.words.are_same.Goals as goal

pub returns : goal.returns
returns c = c.eq.ensures ∙ same-chars c.args.one.now c.args.other.now c.utf8.one c.utf8.other
