-- The shapes that a document is cut into, by their first and last bytes alone (XML 1.0, 2.4 to 2.8 and 3.1).
use Rattle.std.specs.Prelude.{ℕ, ◌+◌, Bool, ◌||◌, ◌==◌, List, Option, Some, None, length, drop, if◌then◌else◌, codes}
use Rattle.std.specs.Option.{option_map}
use Rattle.xml_tokens.specs.Places.{begins, is_part, first_byte, first_word, first_outside}
use Rattle.xml_tokens.specs.declared.form.Form.{Form}
use Rattle.xml_tokens.specs.declared.form.Form.TheVariants.{Text, Comment, CData, Instruction, Declaration, Tag, Undecided}

-- which shape the bytes begin: a front of `<!--` or `<![CDATA[` doesn't say yet
abbrev pub form : List ℕ → Form
form bytes =
    if is_part bytes (codes "<!--") || is_part bytes (codes "<![CDATA[") then Undecided
    else if begins bytes (codes "<!--") then Comment
    else if begins bytes (codes "<![CDATA[") then CData
    else if begins bytes (codes "<?") then Instruction
    else if begins bytes (codes "<!") then Declaration
    else if begins bytes (codes "<") then Tag
    else Text

-- `<`
abbrev pub is_less : ℕ → Bool
is_less b = b == 60

-- `>`
abbrev pub ends_tag : ℕ → Bool
ends_tag b = b == 62

-- `>` or `[`
abbrev pub ends_declaration : ℕ → Bool
ends_declaration b = b == 62 || b == 91

-- n bytes behind a place
abbrev pub behind : ℕ → Option ℕ → Option ℕ
behind n = option_map (λ at. at + n)

-- text ends before the next `<`, and without one where the input ends
abbrev pub text_end : Bool → List ℕ → Option ℕ → Option ℕ
text_end ended bytes (Some at) = Some at
text_end ended bytes None = if ended then Some (length bytes) else None

-- where a shape of each form ends, with its closing bytes
abbrev pub end_by : Form → Bool → List ℕ → Option ℕ
end_by Text ended bytes = text_end ended bytes (first_byte is_less 0 bytes)
end_by Comment ended bytes = behind 3 (first_word (codes "-->") 4 (drop 4 bytes))
end_by CData ended bytes = behind 3 (first_word (codes "]]>") 9 (drop 9 bytes))
end_by Instruction ended bytes = behind 2 (first_word (codes "?>") 2 (drop 2 bytes))
end_by Declaration ended bytes = behind 1 (first_outside ends_declaration None 0 bytes)
end_by Tag ended bytes = behind 1 (first_outside ends_tag None 0 bytes)
end_by Undecided ended bytes = None

-- the length of the whole shape that the bytes begin with, if it is whole; `ended` says that no bytes follow them
abbrev pub shape_len : Bool → List ℕ → Option ℕ
shape_len ended bytes = end_by (form bytes) ended bytes
