-- What a whole shape says, or the first fault that it has (XML 1.0, 2.2 to 2.8, 3.1 and 4.1).
use Rattle.std.specs.Prelude.{ℕ, ◌+◌, ◌-◌, Bool, true, false, not, ◌&&◌, ◌||◌, ◌==◌, nat_le, List, Option, Some, None, Result, Ok, Err, is_some, length, take, drop, map, slice_get, bytes_eq, encode_utf8_all, if◌then◌else◌, codes}
use Rattle.std.specs.List.{list_all, position_or_len}
use Rattle.std.specs.Char.{to_ascii_lowercase}
use Rattle.std.specs.Option.{option_map_or}
use Rattle.std.specs.Result.{result_map_both}
use Rattle.std.specs.Str.{chars, is_utf8}
use Rattle.stx_base.specs.Character.{is_char, is_space, is_ncname}
use Rattle.stx_base.specs.declared.fault.XmlKind.{XmlKind}
use Rattle.stx_base.specs.declared.fault.XmlKind.TheVariants as kind
use Rattle.xml_tokens.specs.Places.{begins, first_word}
use Rattle.xml_tokens.specs.Shape.{form}
use Rattle.xml_tokens.specs.Prolog.{declared, is_doctype, is_encoding, is_version}
use Rattle.xml_tokens.specs.Tags.{after_space, tag}
use Rattle.xml_tokens.specs.Texts.{lines, said}
use Rattle.xml_tokens.specs.declared.form.Form.{Form}
use Rattle.xml_tokens.specs.declared.form.Form.TheVariants as form
use Rattle.xml_tokens.specs.declared.lexeme.Body.{Body}
use Rattle.xml_tokens.specs.declared.lexeme.Body.TheVariants.{Chars, CData, Comment, Pi, Doctype, Declaration}
use Rattle.xml_tokens.specs.declared.text.BadText.{BadText}
use Rattle.xml_tokens.specs.declared.text.BadText.TheVariants.{Reference, Entity}
use Rattle.xml_tokens.specs.declared.text.Context.TheVariants.{Content}

-- the fault of a text as one of a document
abbrev pub kind_of : BadText → XmlKind
kind_of Reference = kind.BadReference
kind_of Entity = kind.UnknownEntity

-- whether a word stands somewhere in the bytes
abbrev pub holds : List ℕ → List ℕ → Bool
holds word bytes = is_some (first_word word 0 bytes)

-- the bytes between an opening and a closing word, if they begin and end so
abbrev pub between : (opener closer : List ℕ) → List ℕ → Option (List ℕ)
between opener closer bytes =
    if nat_le (length opener + length closer) (length bytes) && begins bytes opener && begins (drop (length bytes - length closer) bytes) closer
    then Some (take (length bytes - length opener - length closer) (drop (length opener) bytes)) else None

-- character data (CharData and Reference; XML 1.0, 2.4 and 4.1)
abbrev pub text : List ℕ → Result Body XmlKind
text bytes =
    if holds (codes "]]>") bytes then Err kind.CdataEnd
    else result_map_both (λ text. Chars (chars text) (list_all is_space bytes)) kind_of (said Content bytes)

-- a comment's bytes (Comment; XML 1.0, 2.5)
abbrev pub comment : List ℕ → Result Body XmlKind
comment inside =
    if holds (codes "--") inside || begins (drop (length inside - 1) inside) (codes "-") then Err kind.BadComment
    else Ok (Comment (chars (lines inside)))

-- a CDATA section's bytes (CDSect; XML 1.0, 2.7)
abbrev pub cdata : List ℕ → Result Body XmlKind
cdata inside = Ok (CData (chars (lines inside)))

-- a target that a processing instruction may have: an NCName other than `xml` in any case of letters (PITarget; XML 1.0, 2.6, and
-- Namespaces in XML 1.0, 7)
abbrev pub is_target : List ℕ → Bool
is_target target = is_ncname target && not (bytes_eq (map to_ascii_lowercase (encode_utf8_all target)) (codes "xml"))

-- a processing instruction's bytes: its target ends with them or at white space (PI; XML 1.0, 2.6)
abbrev pub instruction : List ℕ → Result Body XmlKind
instruction inside =
    let len = position_or_len is_space inside in
    if is_target (chars (take len inside)) then Ok (Pi (chars (take len inside)) (chars (lines (after_space (drop len inside))))) else Err kind.BadPi

-- whether an instruction at the very start of a document is to be an XML declaration: behind `xml` comes white space or a `?`
abbrev pub is_declaration : List ℕ → Bool
is_declaration inside = begins inside (codes "xml") && option_map_or (λ b. is_space b || b == 63) (slice_get inside 3) true

-- an XML declaration, by the bytes behind its `<?xml` (XMLDecl; XML 1.0, 2.8)
abbrev pub declaration : List ℕ → Result Body XmlKind
declaration bytes =
    option_map_or (λ told.
    if not (is_version told.0) then Err kind.BadVersion
    else if not (option_map_or is_encoding told.1 true) then Err kind.Encoding
    else Ok Declaration) (declared bytes) (Err kind.BadDeclaration)

-- the bytes of a processing instruction, or of the XML declaration
abbrev pub instruction_or_declaration : (first : Bool) → List ℕ → Result Body XmlKind
instruction_or_declaration first inside = if first && is_declaration inside then declaration (drop 3 inside) else instruction inside

-- other markup that begins with `<!`: a document type declaration without an internal subset, which is skipped (XML 1.0, 2.8)
abbrev pub doctype : List ℕ → Result Body XmlKind
doctype bytes =
    if begins bytes (codes "<!DOCTYPE") && begins (drop (length bytes - 1) bytes) (codes "[") then Err kind.InternalSubset
    else if option_map_or is_doctype (between (codes "<!DOCTYPE") (codes ">") bytes) false then Ok Doctype
    else Err kind.BadMarkup

-- a tag, or the fault of its values
abbrev pub tag_or_fault : Option (Result Body BadText) → Result Body XmlKind
tag_or_fault (Some said) = result_map_both (λ body. body) kind_of said
tag_or_fault None = Err kind.BadTag

-- what markup of a form says
abbrev pub by_form : (first : Bool) → Form → List ℕ → Result Body XmlKind
by_form first form.Text bytes = text bytes
by_form first form.Comment bytes = option_map_or comment (between (codes "<!--") (codes "-->") bytes) (Err kind.BadMarkup)
by_form first form.CData bytes = option_map_or cdata (between (codes "<![CDATA[") (codes "]]>") bytes) (Err kind.BadMarkup)
by_form first form.Instruction bytes = option_map_or (instruction_or_declaration first) (between (codes "<?") (codes "?>") bytes) (Err kind.BadPi)
by_form first form.Declaration bytes = doctype bytes
by_form first form.Undecided bytes = Err kind.BadMarkup
by_form first form.Tag bytes = option_map_or (λ inside. tag_or_fault (tag inside)) (between (codes "<") (codes ">") bytes) (Err kind.BadTag)

-- what a whole shape says, or the first kind of fault that it has; `first` says that it stands at the document's very start
unfoldable pub judged : (first : Bool) → List ℕ → Result Body XmlKind
judged first bytes =
    if not (is_utf8 bytes) then Err kind.BadUtf8
    else if not (list_all is_char (chars bytes)) then Err kind.BadChar
    else by_form first (form bytes) bytes
