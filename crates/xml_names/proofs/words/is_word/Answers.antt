use Rattle.std.proofs.Common.{◌∙◌}
use Rattle.xml_names.proofs.Texts.{is-word, other-length}
use Rattle.xml_names.proofs.words.is_word.Goals as goal

pub returns-then-text-word : goal.returns-then-text-word
returns-then-text-word c = c.eq.ensures ∙ is-word c.args.text.now c.args.word.now c.utf8.text c.requires

pub returns-else-text-word : goal.returns-else-text-word
returns-else-text-word c =
    other-length c.args.text.now c.args.word.now c.if-text-word.false ∙ is-word c.args.text.now c.args.word.now c.utf8.text c.requires
