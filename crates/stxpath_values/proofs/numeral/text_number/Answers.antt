use Rattle.std.proofs.Common.{sym, subst, ap, ◌∙◌}
use Rattle.std.specs.Str.{chars, IsAscii}
use Rattle.std.proofs.lemmas.Str.{chars-IsAscii}
use Rattle.stxpath_values.specs.Numeral.{text_number, stripped, stripped_number}
use Rattle.stxpath_values.proofs.NumeralLemmas.{text_number-high, high_chars, stripped-IsAscii}
use Rattle.stxpath_values.proofs.numeral.text_number.Goals as goal

pub returns-then-not-is_ascii : goal.returns-then-not-is_ascii
returns-then-not-is_ascii c =
    sym (text_number-high (chars c.args.text.now) (high_chars c.args.text.now c.utf8.text c.if-not-is_ascii.ensures.cases))

pub stripped_number-requires : goal.stripped_number-requires
stripped_number-requires c =
    subst IsAscii (sym (c.stripped.ensures ∙ ap stripped c.as_bytes.ensures.value)) (stripped-IsAscii c.args.text.now c.if-not-is_ascii.ensures.cases)

pub returns : goal.returns
unfolding text_number
returns c =
    c.stripped_number.ensures ∙ ap stripped_number (c.stripped.ensures ∙ ap stripped (c.as_bytes.ensures.value ∙ sym (chars-IsAscii c.args.text.now c.if-not-is_ascii.ensures.cases)))
