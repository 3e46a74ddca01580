use Rattle.std.proofs.Common.{◌∙◌}
use Rattle.xml_names.proofs.Texts.{is-empty}
use Rattle.xml_names.proofs.words.is_empty.Goals as goal

pub returns : goal.returns
returns c = c.is_empty.ensures ∙ is-empty c.args.text.now c.utf8.text
