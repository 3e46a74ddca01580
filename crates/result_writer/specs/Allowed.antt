-- What may stand in a result (XML 1.0, 2.2, 2.5 and 2.6; Namespaces in XML 1.0, 3, 4 and 5).
use Rattle.std.specs.Prelude.{ℕ, Bool, true, false, ◌&&◌, ◌||◌, not, ◌==◌, List, [], ◌∷◌, bytes_eq, codes, slice_get, length, ◌-◌, encode_utf8_all, map}
use Rattle.std.specs.Char.{to_ascii_lowercase}
use Rattle.std.specs.List.{list_all, list_any}
use Rattle.std.specs.Option.{option_map_or}
use Rattle.stx_base.specs.Character.{is_char, is_ncname}
use Rattle.stx_base.specs.declared.name.Name.{Name}

abbrev pub is_empty : List ℕ → Bool
is_empty [] = true
is_empty (c ∷ cs) = false

-- two texts are the same
abbrev pub same : List ℕ → List ℕ → Bool
same a b = bytes_eq a b

-- the text is spelled with these bytes
abbrev pub is_word : (text word : List ℕ) → Bool
is_word text word = bytes_eq (encode_utf8_all text) word

abbrev pub xml_uri : List ℕ
xml_uri = codes "http://www.w3.org/XML/1998/namespace"

abbrev pub xmlns_uri : List ℕ
xmlns_uri = codes "http://www.w3.org/2000/xmlns/"

-- both hold, or neither does
abbrev pub agree : Bool → Bool → Bool
agree true b = b
agree false b = not b

-- an NCName, or none
abbrev pub is_prefix : List ℕ → Bool
is_prefix p = is_empty p || is_ncname p

-- an NCName, or two with a colon between them
abbrev pub is_qname : Name → Bool
is_qname n = is_prefix n.prefix && is_ncname n.local

-- `xml` and its namespace stand together only, `xmlns` and its namespace are no name's, and a prefix has a namespace
abbrev pub is_well_bound : Name → Bool
is_well_bound n =
    not (is_word n.prefix (codes "xmlns"))
    && agree (is_word n.prefix (codes "xml")) (is_word n.uri xml_uri)
    && not (is_word n.uri xmlns_uri)
    && (is_empty n.prefix || not (is_empty n.uri))

abbrev pub is_good_name : Name → Bool
is_good_name n = is_qname n && is_well_bound n

-- an attribute that is written `xmlns` is a declaration
abbrev pub is_good_attribute : Name → Bool
is_good_attribute n = is_good_name n && not (is_empty n.prefix && is_word n.local (codes "xmlns"))

abbrev pub are_chars : List ℕ → Bool
are_chars = list_all is_char

-- two bytes stand side by side
abbrev pub has_pair : (first second : ℕ) → List ℕ → Bool
has_pair first second [] = false
has_pair first second (b ∷ bs) =
    (b == first && option_map_or (λ next. next == second) (slice_get bs 0) false) || has_pair first second bs

abbrev pub ends_in : ℕ → List ℕ → Bool
ends_in last bs = option_map_or (λ b. b == last) (slice_get bs (length bs - 1)) false

-- no CR, which would be read back as LF, no `--`, and no `-` before the end
abbrev pub is_good_comment : List ℕ → Bool
is_good_comment text =
    let bytes = encode_utf8_all text in
    not (list_any (λ b. b == 0xD) bytes) && not (has_pair 0x2D 0x2D bytes) && not (ends_in 0x2D bytes)

-- an NCName other than `xml`, in whatever case
abbrev pub is_good_target : List ℕ → Bool
is_good_target target = is_ncname target && not (bytes_eq (map to_ascii_lowercase (encode_utf8_all target)) (codes "xml"))

-- no CR and no `?>`
abbrev pub is_good_data : List ℕ → Bool
is_good_data text = let bytes = encode_utf8_all text in not (list_any (λ b. b == 0xD) bytes) && not (has_pair 0x3F 0x3E bytes)
