use Rattle.std.proofs.Common.{◌≡◌, ℕ, ap, ◌∙◌, sym, List, [], ◌∷◌, ◌++◌, encode_utf8}
use Rattle.std.specs.Char.{IsScalar}
use Rattle.std.specs.Str.{chars, IsUtf8}
use Rattle.std.proofs.lemmas.List.{append-nil}
use Rattle.std.proofs.lemmas.Str.{chars-append, chars-nil, chars_past_char, IsUtf8-encode, IsUtf8-string_bytes}
use Rattle.stx_base.proofs.text.Text.push.Goals as goal

-- the bytes of one character more spell that character more
chars_pushed : (bs cs : List ℕ) (c : ℕ) → IsUtf8 bs → chars bs ≡ cs → IsScalar c → chars (bs ++ encode_utf8 c) ≡ cs ++ c ∷ []
chars_pushed bs cs c u e s =
    chars-append bs (encode_utf8 c) u ∙ ap (λ l. l ++ chars (encode_utf8 c)) e ∙ ap (λ l. cs ++ l) (chars_past_char (encode_utf8 c) [] c (IsUtf8-encode c s) (sym (append-nil (encode_utf8 c))) ∙ ap (λ l. c ∷ l) chars-nil)

pub returns-clause-ok : goal.returns-clause-ok
returns-clause-ok c =
    ap chars c.in_ok-push.ensures.bytes ∙ chars_pushed _ _ c.args.c (IsUtf8-string_bytes c.self.inside.string) c.self.view_is c.ranges.c.0
