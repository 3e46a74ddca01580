-- Lexemes that one look at their bytes shows whole and without fault.
use Rattle.std.specs.Prelude.{◌≡◌, ℕ, true, List, [], ◌∷◌, ◌++◌}
use Rattle.std.specs.List.{list_all}
use Rattle.std.specs.Str.{chars}
use Rattle.stx_base.specs.Character.{is_name}
use Rattle.xml_tokens.specs.inside.Spans.{is_ascii_name_byte}

-- the end tag of a name, without white space
abbrev pub end_of : (name : List ℕ) → List ℕ
end_of name = 60 ∷ 47 ∷ (name ++ 62 ∷ [])

-- a Name of ASCII
abbrev pub IsBareName : List ℕ → Type 0
IsBareName name = (list_all is_ascii_name_byte name ≡ true) × (is_name (chars name) ≡ true)

-- the bytes are a front, and then others of which b is the first
abbrev pub IsBefore : (b : ℕ) → (front bytes : List ℕ) → Type 0
IsBefore b front bytes = (more : List ℕ) × (bytes ≡ front ++ b ∷ more)
