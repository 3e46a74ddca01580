use Rattle.std.proofs.Common.{◌∙◌}
use Rattle.xml_names.proofs.Texts.{same-spelled}
use Rattle.sheet_loader.proofs.words.is_spelled.Goals as goal

pub returns : goal.returns
returns c = c.eq.ensures ∙ same-spelled c.as_str.result.now c.args.text.now c.args.other.now c.as_str.ensures.bytes c.utf8.other
