-- What lexemes can say: which characters and names stand in them (XML 1.0, 2.2, 2.5, 2.6, 2.11 and 3.1).
use Rattle.std.specs.Prelude.{◌≡◌, ℕ, ◌-◌, Bool, true, false, not, ◌&&◌, ◌==◌, List, None, length, drop, slice_get, encode_utf8_all, codes}
use Rattle.std.specs.List.{list_all}
use Rattle.std.specs.Option.{option_map_or}
use Rattle.stx_base.specs.Character.{is_char, is_name, is_space}
use Rattle.xml_tokens.specs.Places.{begins}
use Rattle.xml_tokens.specs.Judged.{holds, is_target}
use Rattle.xml_tokens.specs.Reader.{Reader, due}
use Rattle.xml_tokens.specs.declared.lexeme.Body.{Body}
use Rattle.xml_tokens.specs.declared.lexeme.Body.TheVariants.{Chars, CData, Start, End, Comment, Pi, Doctype, Declaration}
use Rattle.xml_tokens.specs.declared.lexeme.Lexeme.{Lexeme}
use Rattle.xml_tokens.specs.declared.lexeme.Step.TheVariants as step

-- a Char that stands where there are no references: a carriage return is read as a line feed there
abbrev pub is_literal : ℕ → Bool
is_literal c = is_char c && not (c == 13)

-- no `--`, and no `-` at the end
abbrev pub is_comment : List ℕ → Bool
is_comment text = let bytes = encode_utf8_all text in not (holds (codes "--") bytes) && not (begins (drop (length bytes - 1) bytes) (codes "-"))

-- no `?>`, and no white space at the beginning
abbrev pub is_data : List ℕ → Bool
is_data text = not (holds (codes "?>") (encode_utf8_all text)) && not (option_map_or is_space (slice_get text 0) false)

-- what a lexeme can say
abbrev pub is_sayable : Body → Bool
is_sayable (Chars text blank) = list_all is_char text
is_sayable (CData text) = list_all is_literal text
is_sayable (Start name attrs empty) = is_name name && list_all (λ a. is_name a.name && list_all is_char a.value) attrs
is_sayable (End name) = is_name name
is_sayable (Comment text) = list_all is_literal text && is_comment text
is_sayable (Pi target text) = is_target target && list_all is_literal text && is_data text
is_sayable Doctype = true
is_sayable Declaration = true

-- Each lexeme that is read says what lexemes can say.
abbrev pub LexemesAreSayable : Type 0
LexemesAreSayable = (r : Reader) (lexeme : Lexeme) → r.over ≡ None → due r ≡ step.Lexeme lexeme → is_sayable lexeme.body ≡ true
