use Rattle.command_words.proofs.Numerals.{not_numeral}
use Rattle.command_words.proofs.numeral.numeral.Goals as goal

pub returns-in_default-3-clause-value : goal.returns-in_default-3-clause-value
returns-in_default-3-clause-value c =
    not_numeral c.args.range.least c.args.range.most c.args.word.now c.parse.result c.in_default.field-0 c.parse.ensures.value.0 c.in_default.is
