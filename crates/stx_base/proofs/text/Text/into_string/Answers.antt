use Rattle.std.proofs.Common.{sym, ap, ◌∙◌, encode_utf8_all}
use Rattle.std.proofs.lemmas.Str.{encodes-chars, IsUtf8-string_bytes}
use Rattle.stx_base.proofs.text.Text.into_string.Goals as goal

pub returns : goal.returns
returns c = sym (encodes-chars _ (IsUtf8-string_bytes c.self.inside.string)) ∙ ap encode_utf8_all c.self.view_is
