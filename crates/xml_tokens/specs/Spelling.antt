-- How XML spells lexemes: which bytes say what, apart from how they are read.
use Rattle.std.specs.Prelude.{◌≡◌, ◌≢◌, ◌⊎◌, ◌-◌, ◌&&◌, ℕ, ◌<◌, Bool, true, false, ◌==◌, List, [], ◌∷◌, ◌++◌, Some, Ok, length, drop, encode_utf8, encode_utf8_all, slice_get, if◌then◌else◌, codes}
use Rattle.std.specs.List.{list_all, list_any}
use Rattle.std.specs.Char.{is_digit}
use Rattle.std.specs.Option.{option_map_or}
use Rattle.std.specs.Str.{chars, IsUtf8}
use Rattle.std.specs.Str.Parse.{digits_value}
use Rattle.stx_base.specs.Character.{is_char, is_space, is_name}
use Rattle.xml_tokens.specs.Places.{begins, is_quote}
use Rattle.xml_tokens.specs.Shape.{is_less, shape_len}
use Rattle.xml_tokens.specs.Tags.{tag}
use Rattle.xml_tokens.specs.Texts.{as_space, lines, predefined, said}
use Rattle.xml_tokens.specs.Prolog.{is_encoding, is_standalone, is_version}
use Rattle.xml_tokens.specs.Judged.{holds, is_declaration, is_target, judged}
use Rattle.xml_tokens.specs.declared.text.Context.{Context}
use Rattle.xml_tokens.specs.declared.text.Context.TheVariants.{Content, Value}
use Rattle.xml_tokens.specs.declared.lexeme.RawAttr.{RawAttr}
use Rattle.xml_tokens.specs.declared.lexeme.Body.{Body}
use Rattle.xml_tokens.specs.declared.lexeme.Body.TheVariants.{Chars, CData, Start, End, Comment, Pi, Doctype, Declaration}

-- Texts

-- the literal character c is spelled by bytes that others follow: by itself, or a line end by CR LF or by CR (XML 1.0, 2.2 and 2.11)
pub data SpellsLiteral : (c : ℕ) → (bytes more : List ℕ) → Type 0 where
  itself : (c : ℕ) (more : List ℕ) → is_char c ≡ true → c ≢ 13 → SpellsLiteral c (encode_utf8 c) more
  return_and_feed : (more : List ℕ) → SpellsLiteral 10 (13 ∷ 10 ∷ []) more
  return : (more : List ℕ) → slice_get more 0 ≢ Some 10 → SpellsLiteral 10 (13 ∷ []) more

-- what a literal character is read as: in a value a tab and a line feed as a space (XML 1.0, 3.3.3)
abbrev pub as_read : Context → ℕ → ℕ
as_read Content c = c
as_read Value c = as_space c

-- digits of a radix that write the number of a Char
pub record IsNumber (radix : ℕ) (digits : List ℕ) (c : ℕ) : Type 0 where
  pub some : 0 < length digits
  pub each : list_all (λ b. is_digit b radix) digits ≡ true
  pub value : digits_value radix digits ≡ c
  pub char : is_char c ≡ true

-- a reference is spelled by `&`, a name, and `;`
abbrev pub reference : List ℕ → List ℕ
reference name = 38 ∷ (name ++ 59 ∷ [])

-- the character c is spelled by bytes that others follow: literally, or by a reference (XML 1.0, 4.1 and 4.6)
pub data SpellsChar : Context → (c : ℕ) → (bytes more : List ℕ) → Type 0 where
  literal : (place : Context) (c : ℕ) (bytes more : List ℕ) → SpellsLiteral c bytes more → c ≢ 38 → SpellsChar place (as_read place c) bytes more
  entity : (place : Context) (name : List ℕ) (c : ℕ) (more : List ℕ) → predefined name ≡ Some c → SpellsChar place c (reference name) more
  decimal : (place : Context) (digits : List ℕ) (c : ℕ) (more : List ℕ) → IsNumber 10 digits c → SpellsChar place c (reference (35 ∷ digits)) more
  hexadecimal : (place : Context) (digits : List ℕ) (c : ℕ) (more : List ℕ) → IsNumber 16 digits c → SpellsChar place c (reference (35 ∷ 120 ∷ digits)) more

-- characters are spelled one after another
abbrev pub SpellsAll : ((c : ℕ) → (bytes more : List ℕ) → Type 0) → (text bytes : List ℕ) → Type 0
SpellsAll One [] bytes = bytes ≡ []
SpellsAll One (c ∷ text) bytes = (front : List ℕ) × (more : List ℕ) × One c front more × (bytes ≡ front ++ more) × SpellsAll One text more

-- a text in which references stand
abbrev pub SpellsText : Context → (text bytes : List ℕ) → Type 0
SpellsText place = SpellsAll (SpellsChar place)

-- a text without references
abbrev pub SpellsLines : (text bytes : List ℕ) → Type 0
SpellsLines = SpellsAll SpellsLiteral

-- Tags

-- white space, or none (S; XML 1.0, 2.3)
abbrev pub IsSpace : List ℕ → Type 0
IsSpace bytes = list_all is_space bytes ≡ true

-- the end of a start tag
abbrev pub slash : Bool → List ℕ
slash empty = if empty then 47 ∷ [] else []

-- an attribute as it may be spelled (Attribute, AttValue; XML 1.0, 3.1 and 2.3): white space, the name, `=` with white space round
-- it, and a value in quotes
pub record Attribute : Type 0 where
  pub first : ℕ
  pub space : List ℕ
  pub before : List ℕ
  pub behind : List ℕ
  pub quote : ℕ
  pub value : List ℕ

abbrev pub spelled : (name : List ℕ) → Attribute → (more : List ℕ) → List ℕ
spelled name a more = (a.first ∷ a.space) ++ (name ++ (a.before ++ 61 ∷ (a.behind ++ a.quote ∷ (a.value ++ a.quote ∷ more))))

-- white space is white space, and the value doesn't hold its quote
pub record IsQuoted (a : Attribute) : Type 0 where
  pub space : IsSpace (a.first ∷ a.space)
  pub before : IsSpace a.before
  pub behind : IsSpace a.behind
  pub quote : is_quote a.quote ≡ true
  pub unquoted : list_any (λ b. b == a.quote) a.value ≡ false

-- the attribute has a Name, and a value without `<` that spells what it says
pub record SpellsAttribute (attr : RawAttr) (a : Attribute) : Type 0 where
  pub name : is_name attr.name ≡ true
  pub quoted : IsQuoted a
  pub markless : list_any (λ b. b == 60) a.value ≡ false
  pub value : SpellsText Value attr.value a.value

-- what follows the name in a start tag: attributes, white space, and `/` where the element is empty
abbrev pub SpellsAttributes : List RawAttr → Bool → List ℕ → Type 0
SpellsAttributes [] empty bytes = (space : List ℕ) × IsSpace space × (bytes ≡ space ++ slash empty)
SpellsAttributes (attr ∷ attrs) empty bytes =
    (a : Attribute) × (more : List ℕ) × SpellsAttribute attr a × (bytes ≡ spelled (encode_utf8_all attr.name) a more) × SpellsAttributes attrs empty more

-- a tag between its `<` and its `>` (STag, EmptyElemTag, ETag; XML 1.0, 3.1)
abbrev pub SpellsTag : Body → List ℕ → Type 0
SpellsTag (Start name attrs empty) inside =
    (rest : List ℕ) × (is_name name ≡ true) × (inside ≡ encode_utf8_all name ++ rest) × SpellsAttributes attrs empty rest
SpellsTag (End name) inside = (space : List ℕ) × (is_name name ≡ true) × IsSpace space × (inside ≡ 47 ∷ (encode_utf8_all name ++ space))
SpellsTag other inside = ⊥

-- Declarations

-- a value that is declared under a word: white space, the word, `=` with white space round it, and the value in quotes
abbrev pub SpellsDeclared : (word : List ℕ) → Attribute → (bytes more : List ℕ) → Type 0
SpellsDeclared word a bytes more = IsQuoted a × (bytes ≡ spelled word a more)

-- what ends an XML declaration: `standalone` or not (SDDecl; XML 1.0, 2.9), and white space
abbrev pub SpellsStandalone : List ℕ → Type 0
SpellsStandalone bytes =
    IsSpace bytes ⊎ ((a : Attribute) × (more : List ℕ) × SpellsDeclared (codes "standalone") a bytes more × (is_standalone (Some a.value) ≡ true) × IsSpace more)

-- and an encoding before it, or not (EncodingDecl; XML 1.0, 4.3.3)
abbrev pub SpellsEncoding : List ℕ → Type 0
SpellsEncoding bytes =
    SpellsStandalone bytes ⊎ ((a : Attribute) × (more : List ℕ) × SpellsDeclared (codes "encoding") a bytes more × (is_encoding a.value ≡ true) × SpellsStandalone more)

-- an XML declaration behind its `<?xml` (XMLDecl; XML 1.0, 2.8)
abbrev pub SpellsDeclaration : List ℕ → Type 0
SpellsDeclaration bytes = (a : Attribute) × (more : List ℕ) × SpellsDeclared (codes "version") a bytes more × (is_version a.value ≡ true) × SpellsEncoding more

-- a literal in quotes, behind white space
abbrev pub SpellsQuoted : (bytes more : List ℕ) → Type 0
SpellsQuoted bytes more =
    (first : ℕ) × (space : List ℕ) × (quote : ℕ) × (value : List ℕ) × IsSpace (first ∷ space) × (is_quote quote ≡ true) × (list_any (λ b. b == quote) value ≡ false)
    × (bytes ≡ (first ∷ space) ++ quote ∷ (value ++ quote ∷ more))

-- a word behind white space
abbrev pub SpellsWord : (word bytes more : List ℕ) → Type 0
SpellsWord word bytes more = (first : ℕ) × (space : List ℕ) × IsSpace (first ∷ space) × (bytes ≡ (first ∷ space) ++ (word ++ more))

-- an external identifier and white space, or white space alone (ExternalID; XML 1.0, 4.2.2)
abbrev pub SpellsIdentifier : List ℕ → Type 0
SpellsIdentifier bytes =
    IsSpace bytes
    ⊎ (((more rest : List ℕ) × SpellsWord (codes "SYSTEM") bytes more × SpellsQuoted more rest × IsSpace rest)
    ⊎ ((more middle rest : List ℕ) × SpellsWord (codes "PUBLIC") bytes more × SpellsQuoted more middle × SpellsQuoted middle rest × IsSpace rest))

-- a document type declaration without an internal subset, between `<!DOCTYPE` and `>` (doctypedecl; XML 1.0, 2.8)
abbrev pub SpellsDoctype : List ℕ → Type 0
SpellsDoctype bytes = (name : List ℕ) × (more : List ℕ) × (is_name name ≡ true) × SpellsWord (encode_utf8_all name) bytes more × SpellsIdentifier more

-- Lexemes

-- bytes between an opening and a closing word
abbrev pub enclosed : (opener closer : List ℕ) → (inside : List ℕ) → List ℕ
enclosed opener closer inside = opener ++ (inside ++ closer)

-- what follows the target of a processing instruction: nothing, or white space and then bytes that don't begin with it
abbrev pub SpellsBehind : (bytes inside : List ℕ) → Type 0
SpellsBehind bytes inside =
    ((bytes ≡ []) × (inside ≡ []))
    ⊎ ((first : ℕ) × (space : List ℕ) × IsSpace (first ∷ space) × (bytes ≡ (first ∷ space) ++ inside) × (option_map_or is_space (slice_get inside 0) false ≡ false))

-- Bytes spell a lexeme; `first` says that they stand at the document's very start.
abbrev pub Spells : (first : Bool) → Body → List ℕ → Type 0
Spells first (Chars text blank) bytes =
    SpellsText Content text bytes × (0 < length bytes) × (list_any is_less bytes ≡ false) × (holds (codes "]]>") bytes ≡ false) × (list_all is_space bytes ≡ blank)
Spells first (CData text) bytes =
    (inside : List ℕ) × SpellsLines text inside × (holds (codes "]]>") inside ≡ false) × (bytes ≡ enclosed (codes "<![CDATA[") (codes "]]>") inside)
Spells first (Comment text) bytes =
    (inside : List ℕ) × SpellsLines text inside × (holds (codes "--") inside ≡ false) × (begins (drop (length inside - 1) inside) (codes "-") ≡ false)
    × (bytes ≡ enclosed (codes "<!--") (codes "-->") inside)
Spells first (Pi target text) bytes =
    (behind inside : List ℕ) × (is_target target ≡ true) × SpellsBehind behind inside × SpellsLines text inside
    × (holds (codes "?>") (encode_utf8_all target ++ behind) ≡ false) × ((first && is_declaration (encode_utf8_all target ++ behind)) ≡ false) × (bytes ≡ enclosed (codes "<?") (codes "?>") (encode_utf8_all target ++ behind))
Spells first Doctype bytes = (inside : List ℕ) × SpellsDoctype inside × (bytes ≡ enclosed (codes "<!DOCTYPE") (codes ">") inside)
Spells first Declaration bytes = (first ≡ true) × ((inside : List ℕ) × SpellsDeclaration inside × (bytes ≡ enclosed (codes "<?xml") (codes "?>") inside))
Spells first body bytes = (inside : List ℕ) × SpellsTag body inside × (bytes ≡ enclosed (codes "<") (codes ">") inside)

-- what follows a lexeme, so that it is whole: behind a text a `<`, or nothing at the document's end
abbrev pub IsFollowed : (ended : Bool) → Body → (more : List ℕ) → Type 0
IsFollowed ended (Chars text blank) [] = ended ≡ true
IsFollowed ended (Chars text blank) (b ∷ bs) = is_less b ≡ true
IsFollowed ended body more = Unit {0}

-- A lexeme that is spelled so is cut out of the document, whatever follows.
abbrev pub SpelledLexemesAreShapes : Type 0
SpelledLexemesAreShapes = (first ended : Bool) (body : Body) (bytes more : List ℕ) → Spells first body bytes → IsFollowed ended body more → shape_len ended (bytes ++ more) ≡ Some (length bytes)

-- Bytes of Chars say the lexeme that they spell, and a whole shape spells what it says.
abbrev pub SpelledLexemesAreRead : Type 0
SpelledLexemesAreRead = (first : Bool) (body : Body) (bytes : List ℕ) → IsUtf8 bytes → list_all is_char (chars bytes) ≡ true → Spells first body bytes → judged first bytes ≡ Ok body

abbrev pub LexemesAreSpelled : Type 0
LexemesAreSpelled = (first : Bool) (body : Body) (bytes : List ℕ) → shape_len true bytes ≡ Some (length bytes) → judged first bytes ≡ Ok body → Spells first body bytes

-- what is spelled so is what a text says
abbrev pub SpelledTextsAreRead : Type 0
SpelledTextsAreRead = (place : Context) (text bytes : List ℕ) → SpellsText place text bytes → said place bytes ≡ Ok (encode_utf8_all text)

-- what a text of Chars says is spelled so
abbrev pub TextsAreSpelled : Type 0
TextsAreSpelled = (place : Context) (bytes out : List ℕ) → IsUtf8 bytes → list_all is_char (chars bytes) ≡ true → said place bytes ≡ Ok out →
    (text : List ℕ) × (out ≡ encode_utf8_all text) × SpellsText place text bytes

-- the same of a text without references
abbrev pub SpelledLinesAreRead : Type 0
SpelledLinesAreRead = (text bytes : List ℕ) → SpellsLines text bytes → lines bytes ≡ encode_utf8_all text

abbrev pub LinesAreSpelled : Type 0
LinesAreSpelled = (bytes : List ℕ) → IsUtf8 bytes → list_all is_char (chars bytes) ≡ true → (text : List ℕ) × (lines bytes ≡ encode_utf8_all text) × SpellsLines text bytes

-- a tag is read exactly where it is spelled so
abbrev pub SpelledTagsAreRead : Type 0
SpelledTagsAreRead = (body : Body) (inside : List ℕ) → SpellsTag body inside → tag inside ≡ Some (Ok body)

abbrev pub TagsAreSpelled : Type 0
TagsAreSpelled = (body : Body) (inside : List ℕ) → IsUtf8 inside → list_all is_char (chars inside) ≡ true → tag inside ≡ Some (Ok body) → SpellsTag body inside
