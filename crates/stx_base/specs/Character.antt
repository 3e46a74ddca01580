-- The character classes of XML 1.0 (Fifth Edition), 2.2 and 2.3, and names without colon (Namespaces in XML 1.0, 3).
use Rattle.std.specs.Prelude.{ℕ, Bool, false, ◌&&◌, ◌||◌, not, nat_le, ◌==◌, List, [], ◌∷◌, take, slice_get, bytes_eq, codes}
use Rattle.std.specs.List.{list_all}
use Rattle.std.specs.Option.{option_map_or}

-- c lies in one of the ranges, both ends included
abbrev pub is_among : List (ℕ × ℕ) → ℕ → Bool
is_among [] c = false
is_among (r ∷ rs) c = (nat_le r.0 c && nat_le c r.1) || is_among rs c

-- Char (XML 1.0, 2.2)
abbrev pub is_char : ℕ → Bool
is_char = is_among ((0x9, 0xA) ∷ (0xD, 0xD) ∷ (0x20, 0xD7FF) ∷ (0xE000, 0xFFFD) ∷ (0x10000, 0x10FFFF) ∷ [])

-- S, white space (XML 1.0, 2.3)
abbrev pub is_space : ℕ → Bool
is_space = is_among ((0x20, 0x20) ∷ (0x9, 0x9) ∷ (0xD, 0xD) ∷ (0xA, 0xA) ∷ [])

-- NameStartChar (XML 1.0, 2.3): a colon, A to Z, an underscore, a to z, and the ranges beyond ASCII
abbrev pub is_name_start : ℕ → Bool
is_name_start = is_among (
    (0x3A, 0x3A) ∷ (0x41, 0x5A) ∷ (0x5F, 0x5F) ∷ (0x61, 0x7A) ∷ (0xC0, 0xD6) ∷ (0xD8, 0xF6) ∷ (0xF8, 0x2FF) ∷ (0x370, 0x37D)
    ∷ (0x37F, 0x1FFF) ∷ (0x200C, 0x200D) ∷ (0x2070, 0x218F) ∷ (0x2C00, 0x2FEF) ∷ (0x3001, 0xD7FF) ∷ (0xF900, 0xFDCF)
    ∷ (0xFDF0, 0xFFFD) ∷ (0x10000, 0xEFFFF) ∷ [])

-- NameChar (XML 1.0, 2.3): also a hyphen, a dot, 0 to 9, a middle dot, combining marks and ties
abbrev pub is_name_char : ℕ → Bool
is_name_char c = is_name_start c || is_among ((0x2D, 0x2E) ∷ (0x30, 0x39) ∷ (0xB7, 0xB7) ∷ (0x300, 0x36F) ∷ (0x203F, 0x2040) ∷ []) c

-- Name: a NameStartChar and then NameChars (XML 1.0, 2.3)
abbrev pub is_name : List ℕ → Bool
is_name cs = option_map_or is_name_start (slice_get cs 0) false && list_all is_name_char cs

-- a NameChar other than a colon
abbrev pub is_ncname_char : ℕ → Bool
is_ncname_char c = is_name_char c && not (c == 0x3A)

-- NCName: a NameStartChar and then NameChars, none of them a colon (Namespaces in XML 1.0, 3)
abbrev pub is_ncname : List ℕ → Bool
is_ncname cs = option_map_or is_name_start (slice_get cs 0) false && list_all is_ncname_char cs

-- the mark that ends a CDATA section stands somewhere in the text (XML 1.0, 2.7)
abbrev pub has_cdata_end : List ℕ → Bool
has_cdata_end [] = false
has_cdata_end (c ∷ cs) = bytes_eq (take 3 (c ∷ cs)) (codes "]]>") || has_cdata_end cs

-- a Char other than a carriage return, which reading turns into a line feed (XML 1.0, 2.11)
abbrev pub is_char_of_cdata : ℕ → Bool
is_char_of_cdata c = is_char c && not (c == 0xD)

-- a text that a CDATA section holds as it is: such Chars, and nowhere the mark of the end
abbrev pub is_cdata_text : List ℕ → Bool
is_cdata_text cs = list_all is_char_of_cdata cs && not (has_cdata_end cs)
