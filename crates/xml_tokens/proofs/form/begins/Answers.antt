use Rattle.std.proofs.Common.{◌∙◌}
use Rattle.xml_tokens.proofs.PlaceLemmas.{starts_with-begins}
use Rattle.xml_tokens.proofs.form.begins.Goals as goal

pub returns : goal.returns
returns c = c.starts_with.ensures.value ∙ starts_with-begins c.args.bytes.now c.args.word.now
