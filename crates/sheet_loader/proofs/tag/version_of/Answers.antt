use Rattle.std.proofs.Common.{◌∙◌, ap}
use Rattle.std.specs.Str.{chars}
use Rattle.sheet_loader.specs.Versions.{language, version_named}
use Rattle.sheet_loader.proofs.tag.version_of.Goals as goal

pub returns : goal.returns
unfolding chars
returns c = c.version_named.ensures ∙ ap (version_named language) c.text_at.ensures
