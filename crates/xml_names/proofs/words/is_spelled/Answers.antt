use Rattle.std.proofs.Common.{◌∙◌}
use Rattle.xml_names.proofs.Texts.{same-spelled, other-length}
use Rattle.xml_names.proofs.words.is_spelled.Goals as goal

pub returns-then-as_str-other : goal.returns-then-as_str-other
returns-then-as_str-other c =
    c.eq.ensures ∙ same-spelled c.as_str-then-as_str-other.result.now c.args.text.now c.args.other.now c.as_str-then-as_str-other.ensures.bytes c.utf8.other

pub returns-else-as_str-other : goal.returns-else-as_str-other
returns-else-as_str-other c =
    other-length c.as_str.result.now c.args.other.now c.if-as_str-other.false ∙ same-spelled c.as_str.result.now c.args.text.now c.args.other.now c.as_str.ensures.bytes c.utf8.other
