-- A search for a shape's end that goes on where an earlier one stopped.
use Rattle.std.specs.Prelude.{◌≡◌, ◌≤◌, ◌<◌, ◌+◌, ℕ, Bool, true, false, not, ◌&&◌, ◌||◌, List, ◌++◌, Option, Some, None, length, drop, max, codes}
use Rattle.xml_tokens.specs.Places.{first_byte, first_word, first_outside, is_outside, is_quote, quote_after}
use Rattle.xml_tokens.specs.Shape.{form, is_less, ends_tag, ends_declaration, behind, text_end, shape_len}
use Rattle.xml_tokens.specs.declared.form.Form.{Form}
use Rattle.xml_tokens.specs.declared.form.Form.TheVariants.{Text, Comment, CData, Instruction, Declaration, Tag, Undecided}
use Rattle.xml_tokens.specs.declared.scan.Scan.{Scan}
use Rattle.xml_tokens.specs.declared.scan.Found.{Found}
use Rattle.xml_tokens.specs.declared.scan.Found.TheVariants.{Whole, Unended}

-- where a shape ends, sought from the place that the scan has come to
abbrev pub end_from : Form → Scan → Bool → List ℕ → Option ℕ
end_from Text scan ended bytes = text_end ended bytes (first_byte is_less scan.searched (drop scan.searched bytes))
end_from Comment scan ended bytes = behind 3 (first_word (codes "-->") (max scan.searched 4) (drop (max scan.searched 4) bytes))
end_from CData scan ended bytes = behind 3 (first_word (codes "]]>") (max scan.searched 9) (drop (max scan.searched 9) bytes))
end_from Instruction scan ended bytes = behind 2 (first_word (codes "?>") (max scan.searched 2) (drop (max scan.searched 2) bytes))
end_from Declaration scan ended bytes = behind 1 (first_outside ends_declaration scan.quote scan.searched (drop scan.searched bytes))
end_from Tag scan ended bytes = behind 1 (first_outside ends_tag scan.quote scan.searched (drop scan.searched bytes))
end_from Undecided scan ended bytes = None

-- going on from the scan finds what a search from the beginning finds
pub record Resumes (scan : Scan) (bytes : List ℕ) : Type 0 where
  pub within : scan.searched ≤ length bytes
  pub same : (ended : Bool) → end_from (form bytes) scan ended bytes ≡ shape_len ended bytes

-- the same, whatever bytes follow
abbrev pub AlwaysResumes : Scan → List ℕ → Type 0
AlwaysResumes scan bytes = (more : List ℕ) → Resumes scan (bytes ++ more)

-- a search for the end of text from a place on found this
abbrev pub IsTextFound : ℕ → Bool → List ℕ → Found → Type 0
IsTextFound at ended bytes (Whole len) = text_end ended bytes (first_byte is_less at (drop at bytes)) ≡ Some len
IsTextFound at ended bytes (Unended next) =
    (text_end ended bytes (first_byte is_less at (drop at bytes)) ≡ None) × (next.searched ≡ length bytes)
    × ((more : List ℕ) → first_byte is_less at (drop at (bytes ++ more)) ≡ first_byte is_less (length bytes) more)

-- a search for a word from a place on found this; where it found none, it leaves fewer bytes than the word has to be searched again
abbrev pub IsWordFound : List ℕ → ℕ → List ℕ → Found → Type 0
IsWordFound word at bytes (Whole len) = behind (length word) (first_word word at (drop at bytes)) ≡ Some len
IsWordFound word at bytes (Unended next) =
    (first_word word at (drop at bytes) ≡ None) × (at ≤ next.searched) × (next.searched ≤ length bytes)
    × ((more : List ℕ) → first_word word at (drop at (bytes ++ more)) ≡ first_word word next.searched (drop next.searched (bytes ++ more)))
    × (length bytes < next.searched + length word)

-- what ends a shape outside quotes, with `[` or without it
abbrev pub ending_test : Bool → ℕ → Bool
ending_test true = ends_declaration
ending_test false = ends_tag

-- a byte that neither ends a shape nor opens a quote
abbrev pub is_unmarked : ℕ → Bool
is_unmarked b = not (is_quote b || ends_declaration b)

-- a byte that neither ends a shape nor opens or closes a quote, where `quote` is open before it
abbrev pub IsUnmarked : Option ℕ → ℕ → Type 0
IsUnmarked quote b = (quote_after quote b ≡ quote) × ((is_outside quote && ends_declaration b) ≡ false)

-- a search outside quotes from a scan on found this
abbrev pub IsOutsideFound : (ℕ → Bool) → Scan → List ℕ → Found → Type 0
IsOutsideFound test scan bytes (Whole len) =
    behind 1 (first_outside test scan.quote scan.searched (drop scan.searched bytes)) ≡ Some len
IsOutsideFound test scan bytes (Unended next) =
    (first_outside test scan.quote scan.searched (drop scan.searched bytes) ≡ None) × (next.searched ≡ length bytes)
    × ((more : List ℕ) → first_outside test scan.quote scan.searched (drop scan.searched (bytes ++ more)) ≡ first_outside test next.quote (length bytes) more)

-- the first shape is found, or it isn't whole and the search can go on from here
abbrev pub IsFound : Bool → List ℕ → Found → Type 0
IsFound ended bytes (Whole len) = shape_len ended bytes ≡ Some len
IsFound ended bytes (Unended next) = (shape_len ended bytes ≡ None) × AlwaysResumes next bytes
