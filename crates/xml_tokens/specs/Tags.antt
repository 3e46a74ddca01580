-- What a tag says, by the bytes between its `<` and its `>` (XML 1.0, 2.3 and 3.1).
use Rattle.std.specs.Prelude.{ℕ, zero, suc, ◌+◌, Bool, true, false, ◌||◌, ◌==◌, nat_le, nat_lt, List, [], ◌∷◌, Option, Some, None, Result, Ok, is_none, length, take, drop, slice_get, if◌then◌else◌}
use Rattle.std.specs.List.{list_any, prefix_len, position_or_len}
use Rattle.std.specs.Option.{option_map, option_map_or, option_or, option_and_then}
use Rattle.std.specs.Str.{chars}
use Rattle.stx_base.specs.Character.{is_space, is_name_char, is_name}
use Rattle.xml_tokens.specs.Places.{is_quote}
use Rattle.xml_tokens.specs.Texts.{both, result_map, said}
use Rattle.xml_tokens.specs.declared.text.BadText.{BadText}
use Rattle.xml_tokens.specs.declared.text.Context.TheVariants.{Value}
use Rattle.xml_tokens.specs.declared.lexeme.RawAttr.{RawAttr}
use Rattle.xml_tokens.specs.declared.lexeme.Body.{Body}
use Rattle.xml_tokens.specs.declared.lexeme.Body.TheVariants.{Start, End}

-- a byte of an ASCII NameChar, or of a character beyond ASCII
abbrev pub is_name_byte : ℕ → Bool
is_name_byte b = nat_le 128 b || is_name_char b

-- a Name, as long as possible, and what follows it
unfoldable pub named : List ℕ → Option (List ℕ × List ℕ)
named bytes =
    let len = prefix_len is_name_byte bytes in
    if is_name (chars (take len bytes)) then Some (take len bytes, drop len bytes) else None

-- what follows the white space
abbrev pub after_space : List ℕ → List ℕ
after_space bytes = drop (prefix_len is_space bytes) bytes

-- what follows the byte that must come first
abbrev pub after_byte : ℕ → List ℕ → Option (List ℕ)
after_byte b [] = None
after_byte b (x ∷ xs) = if x == b then Some xs else None

-- what stands up to the next such quote, and what follows that quote
abbrev pub until_quote : ℕ → List ℕ → Option (List ℕ × List ℕ)
until_quote quote bytes =
    let len = position_or_len (λ b. b == quote) bytes in
    if nat_lt len (length bytes) then Some (take len bytes, drop (len + 1) bytes) else None

-- what stands in quotes, and what follows them
unfoldable pub quoted : List ℕ → Option (List ℕ × List ℕ)
quoted [] = None
quoted (quote ∷ bytes) = if is_quote quote then until_quote quote bytes else None

-- a value without `<` (AttValue; XML 1.0, 2.3)
abbrev pub without_less : List ℕ × List ℕ → Option (List ℕ × List ℕ)
without_less found = if list_any (λ b. b == 60) found.0 then None else Some found

-- `=` with white space round it, and what stands in quotes behind it
unfoldable pub equated : List ℕ → Option (List ℕ × List ℕ)
equated bytes = option_and_then (λ rest. quoted (after_space rest)) (after_byte 61 (after_space bytes))

-- a name, `=`, a quoted value (Attribute; XML 1.0, 3.1), and what follows
unfoldable pub attribute : List ℕ → Option (List ℕ × List ℕ × List ℕ)
attribute bytes =
    option_and_then (λ name. option_map (λ value. (name.0, value.0, value.1)) (option_and_then without_less (equated name.1))) (named bytes)

-- the end of a start tag: nothing, or `/`, which says that the element is empty
abbrev pub tag_end : List ℕ → Option Bool
tag_end [] = Some false
tag_end (b ∷ []) = if b == 47 then Some true else None
tag_end (b ∷ c ∷ bs) = None

-- an attribute before others
abbrev pub with_first : {A : Type 0} → A → List A × Bool → List A × Bool
with_first attr more = (attr ∷ more.0, more.1)

-- what follows the name in a start tag (STag, EmptyElemTag; XML 1.0, 3.1): attributes as they are written, fewer than n, each
-- behind white space, and then white space or none and the end
unfoldable pub attributes : ℕ → List ℕ → Option (List (List ℕ × List ℕ) × Bool)
attributes zero bytes = None
attributes (suc n) bytes =
    option_or (option_map (λ empty. ([], empty)) (tag_end (after_space bytes)))
    (if length (after_space bytes) == length bytes then None
    else option_and_then (λ found. option_map (with_first (found.0, found.1)) (attributes n found.2)) (attribute (after_space bytes)))

-- an attribute as it is read
abbrev pub attr_said : List ℕ × List ℕ → Result RawAttr BadText
attr_said written = result_map (λ value. record { name = chars written.0; value = chars value }) (said Value written.1)

-- attributes as they are read
abbrev pub attrs_said : List (List ℕ × List ℕ) → Result (List RawAttr) BadText
attrs_said [] = Ok []
attrs_said (written ∷ others) = both (λ attr attrs. attr ∷ attrs) (attr_said written) (attrs_said others)

-- an end tag behind its `</` (ETag; XML 1.0, 3.1)
abbrev pub end_tag : List ℕ → Option (Result Body BadText)
end_tag bytes = option_and_then (λ found. if is_none (slice_get (after_space found.1) 0) then Some (Ok (End (chars found.0))) else None) (named bytes)

-- a start tag behind its `<`
abbrev pub start_tag : List ℕ → Option (Result Body BadText)
start_tag bytes =
    option_and_then (λ found. option_map (λ more. result_map (λ attrs. Start (chars found.0) attrs more.1) (attrs_said more.0)) (attributes (suc (length found.1)) found.1)) (named bytes)

-- a tag by the bytes between its `<` and its `>`, if these are one; and the fault of its values, if they have one
abbrev pub tag : List ℕ → Option (Result Body BadText)
tag inside = option_map_or end_tag (after_byte 47 inside) (start_tag inside)
