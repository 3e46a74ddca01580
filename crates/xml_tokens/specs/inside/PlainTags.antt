-- Start tags that one look at their bytes shows whole and without fault.
use Rattle.std.specs.Prelude.{◌≡◌, ℕ, Bool, true, not, ◌&&◌, ◌==◌, nat_lt, List, ◌∷◌, ◌++◌, length}
use Rattle.std.specs.List.{list_all}
use Rattle.stx_base.specs.Character.{is_char}
use Rattle.xml_tokens.specs.inside.Simple.{IsBareName}
use Rattle.xml_tokens.specs.inside.Spans.{is_break}
use Rattle.xml_tokens.specs.Spelling.{Spells, SpellsAttributes}
use Rattle.xml_tokens.specs.declared.lexeme.Body.TheVariants as body
use Rattle.xml_tokens.specs.declared.lexeme.RawAttr.{RawAttr}
use Rattle.xml_tokens.specs.declared.plain_tag.PlainTag.{PlainTag}

-- a Char of ASCII
abbrev pub is_low_char : ℕ → Bool
is_low_char b = nat_lt b 128 && is_char b

-- a Char of ASCII that says itself in a value in double quotes
abbrev pub is_plain_in_value : ℕ → Bool
is_plain_in_value b = is_low_char b && (not (b == 34) && (not (b == 60) && (not (b == 38) && not (is_break b))))

-- the bytes begin with a name, `=` and a value in double quotes, each of which says itself
abbrev pub IsPlainAttribute : (name value rest bytes : List ℕ) → Type 0
IsPlainAttribute name value rest bytes =
    IsBareName name × (list_all is_plain_in_value value ≡ true) × (bytes ≡ name ++ 61 ∷ 34 ∷ (value ++ 34 ∷ rest))

-- these bytes spell these attributes before any others
abbrev pub SpellFirst : List RawAttr → List ℕ → Type 0
SpellFirst attrs front =
    (list_all is_low_char front ≡ true) × ((others : List RawAttr) (empty : Bool) (more : List ℕ) → SpellsAttributes others empty more → SpellsAttributes (attrs ++ others) empty (front ++ more))

-- the bytes begin with these attributes
abbrev pub AreFirst : List RawAttr → (rest bytes : List ℕ) → Type 0
AreFirst attrs rest bytes = (front : List ℕ) × SpellFirst attrs front × (bytes ≡ front ++ rest)

-- bytes of ASCII spell the tag, wherever they stand
abbrev pub SpellsPlainTag : PlainTag → List ℕ → Type 0
SpellsPlainTag tag bytes =
    (tag.len ≡ length bytes) × (list_all is_low_char bytes ≡ true) × ((first : Bool) → Spells first (body.Start tag.name tag.attrs tag.empty) bytes)

-- the bytes begin with the tag
abbrev pub BeginsWithTag : PlainTag → List ℕ → Type 0
BeginsWithTag tag bytes = (front more : List ℕ) × SpellsPlainTag tag front × (bytes ≡ front ++ more)
