use Rattle.std.proofs.Common.{◌∙◌, ap}
use Rattle.std.specs.Prelude.{bytes_eq}
use Rattle.std.proofs.lemmas.Str.{chars-IsAscii}
use Rattle.xml_names.proofs.Texts.{ascii, same-spelled}
use Rattle.sheet_loader.proofs.words.is_word.Goals as goal

pub returns : goal.returns
returns c =
    c.eq.ensures ∙ same-spelled c.as_str.result.now c.args.text.now c.args.word.now c.as_str.ensures.bytes c.utf8.word
    ∙ ap (bytes_eq c.args.text.now) (chars-IsAscii c.args.word.now (ascii c.args.word.now c.requires))
