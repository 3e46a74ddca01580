use Rattle.std.proofs.Common.{ap, ◌∙◌, encode_utf8_all}
use Rattle.std.proofs.lemmas.Str.{IsUtf8-string_bytes, encodes-chars}
use Rattle.stx_engine.proofs.run_end.summary_line.Goals as goal

pub returns : goal.returns
returns c = ap encode_utf8_all c.from_string.ensures ∙ encodes-chars _ (IsUtf8-string_bytes c.in_ok-line.line) ∙ c.in_ok-line.ensures
