use Rattle.std.proofs.Common.{sym, ◌∙◌}
use Rattle.xml_tokens.proofs.PlaceLemmas.{begins-length}
use Rattle.xml_tokens.proofs.prolog.after_word.Goals as goal

pub tail-requires : goal.tail-requires
tail-requires c = begins-length c.args.bytes.now c.args.word.now (sym c.begins.ensures ∙ c.if-begins.true)
