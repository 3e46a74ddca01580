use Rattle.std.proofs.Common.{◌∙◌}
use Rattle.std.specs.Str.{chars}
use Rattle.xml_names.proofs.Texts.{same-sym}
use Rattle.sheet_loader.proofs.tag.is_named.Goals as goal

pub returns : goal.returns
returns c = c.is_spelled.ensures ∙ same-sym c.args.name.now (chars c.args.row.now.name.now)
