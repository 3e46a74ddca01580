use Rattle.std.proofs.Common.{length, ap, arith}
use Rattle.std.specs.Str.{chars}
use Rattle.std.proofs.lemmas.Iterator.{YieldsList-from_chars}
use Rattle.std.proofs.lemmas.Iterator.Consumers.{count_from_yields_List}
use Rattle.std.proofs.lemmas.Str.{length-le-encodes, encodes-chars}
use Rattle.stxpath_values.proofs.texts.count.Goals as goal

pub returns-clause-value : goal.returns-clause-value
returns-clause-value c = count_from_yields_List c.chars.result _ c.count.ensures.ran (YieldsList-from_chars c.args.text.now c.utf8.text cc)

pub returns-clause-bound : goal.returns-clause-bound
returns-clause-bound c =
    let text = c.args.text.now in
    let counted = count_from_yields_List c.chars.result _ c.count.ensures.ran (YieldsList-from_chars text c.utf8.text cc) in
    omega (arith, counted, length-le-encodes (chars text), ap length (encodes-chars text c.utf8.text))
