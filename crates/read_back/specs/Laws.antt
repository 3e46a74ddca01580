-- What laws of the definitions say.
use Rattle.std.specs.Prelude.{◌≡◌, ◌≢◌, ℕ, ◌+◌, ◌<◌, ◌^◌, Bool, true, false, List, [], ◌++◌, None, Ok, codes, encode_utf8_all, length, map}
use Rattle.std.specs.List.{list_all}
use Rattle.stx_base.specs.Character.{is_cdata_text, is_space}
use Rattle.stx_base.specs.declared.limits.Limits.{Limits}
use Rattle.stx_base.specs.declared.name.Binding.{Binding}
use Rattle.stx_base.specs.declared.name.Name.{Name}
use Rattle.stx_base.specs.declared.part.Part.{Part}
use Rattle.xml_tokens.specs.Cuts.{Cuts}
use Rattle.xml_tokens.specs.Judged.{judged}
use Rattle.xml_tokens.specs.Texts.{said}
use Rattle.xml_tokens.specs.declared.lexeme.Body.TheVariants.{Chars, CData, Comment, End, Pi, Start}
use Rattle.xml_tokens.specs.declared.text.Context.TheVariants as place
use Rattle.xml_names.specs.Scope.{declared_on}
use Rattle.xml_names.specs.Tag.{name_fault, resolved}
use Rattle.xml_events.specs.Document.{doc_for}
use Rattle.xml_events.specs.Flatten.{is_closed}
use Rattle.result_writer.specs.Allowed.{are_chars, is_good_name, is_prefix}
use Rattle.result_writer.specs.Escape.{escaped}
use Rattle.result_writer.specs.Nodes.{Nodes, expanded_attr, expanded_name, forest, nodes_fault, parts_of, written}
use Rattle.result_writer.specs.Target.{AreDistinct, cdata_text, comment_fault, comment_text, instruction_fault, instruction_text, text, whole_fault}
use Rattle.result_writer.specs.declared.escape.Context.TheVariants.{Content, Value}
use Rattle.result_writer.specs.Tag.{dressed, end_tag, open_tag}
use Rattle.result_writer.specs.declared.tag.Dressed.{Dressed}
use Rattle.result_writer.specs.declared.tag.HeldTag.{HeldTag}
use Rattle.read_back.specs.Lexemes.{AreJudged, bodies}
use Rattle.read_back.specs.Read.{Suffices, as_read, head, is_bare, is_document, nodes_of, within}
use Rattle.read_back.specs.Reading.{raw_attrs, read_data, written_name}
use Rattle.read_back.specs.Sound.{is_sound_attribute, is_sound_binding, is_readable_part, is_sound_tag}

-- A text is read as it was, and as blank where white space alone is written of it.
abbrev pub ReadsTexts : Type 0
ReadsTexts =
    (first : Bool) (text : List ℕ)
    → text ≢ []
    → are_chars text ≡ true
    → let bytes = escaped Content (encode_utf8_all text) in judged first bytes ≡ Ok (Chars text (list_all is_space bytes))

-- So is the value of an attribute.
abbrev pub ReadsValues : Type 0
ReadsValues =
    (value : List ℕ) → are_chars value ≡ true → said place.Value (escaped Value (encode_utf8_all value)) ≡ Ok (encode_utf8_all value)

-- So is the text of a CDATA section that may have it.
abbrev pub ReadsSections : Type 0
ReadsSections = (first : Bool) (text : List ℕ) → is_cdata_text text ≡ true → judged first (cdata_text text) ≡ Ok (CData text)

-- So is that of a comment.
abbrev pub ReadsComments : Type 0
ReadsComments = (first : Bool) (text : List ℕ) → comment_fault text ≡ None → judged first (comment_text text) ≡ Ok (Comment text)

-- So is a processing instruction behind a document's very start, without the white space that its data begins with.
abbrev pub ReadsInstructions : Type 0
ReadsInstructions =
    (target text : List ℕ)
    → instruction_fault target text ≡ None
    → judged false (instruction_text target text) ≡ Ok (Pi target (read_data text))

-- A start tag is read as this name, its declarations and its attributes, and as that of an empty element where it is one.
abbrev pub ReadsStartTags : Type 0
ReadsStartTags =
    (first : Bool) (tag : HeldTag) (d : Dressed)
    → is_good_name tag.name ≡ true
    → list_all is_sound_attribute tag.attrs ≡ true
    → list_all is_sound_binding d.declared ≡ true
    → list_all is_prefix d.prefixes ≡ true
    → let name = written_name tag.name.prefix tag.name.local in
    (judged first (open_tag tag d ++ codes ">") ≡ Ok (Start name (raw_attrs d tag.attrs) false))
    × (judged first (open_tag tag d ++ codes "/>") ≡ Ok (Start name (raw_attrs d tag.attrs) true))

-- So is an end tag.
abbrev pub ReadsEndTags : Type 0
ReadsEndTags = (first : Bool) (n : Name) → is_good_name n ≡ true → judged first (end_tag n.prefix n.local) ≡ Ok (End (written_name n.prefix n.local))

-- A sound tag declares what a document may, with prefixes that are names, whatever is in force.
abbrev pub DeclaresSound : Type 0
DeclaresSound =
    (in_force : List Binding) (tag : HeldTag)
    → is_sound_tag tag ≡ true
    → (list_all is_sound_binding (dressed in_force tag).declared ≡ true) × (list_all is_prefix (dressed in_force tag).prefixes ≡ true)

-- A tag that is written where these bindings are in force is read on the path without a fault, as its own names, attributes and
-- declarations.
abbrev pub IsRead : (path : List (List Binding)) → (in_force : List Binding) → HeldTag → Type 0
IsRead path in_force tag =
    let d = dressed in_force tag in
    let name = written_name tag.name.prefix tag.name.local in
    let attrs = raw_attrs d tag.attrs in
    (name_fault path name attrs ≡ None)
    × (expanded_name (resolved path name attrs).name ≡ expanded_name tag.name)
    × (map expanded_attr (resolved path name attrs).attrs ≡ map expanded_attr tag.attrs)
    × ((resolved path name attrs).decls ≡ d.declared)

-- Where a path declares what is in force, a sound tag is read so.
abbrev pub ResolvesNames : Type 0
ResolvesNames =
    (path : List (List Binding)) (tag : HeldTag)
    → is_sound_tag tag ≡ true
    → AreDistinct tag.attrs
    → length tag.attrs < 2 ^ 64
    → IsRead path (declared_on path) tag

-- What is written of sound nodes is cut into shapes that say their lexemes: no piece runs into the next.
abbrev pub WritesShapes : Type 0
WritesShapes =
    (limit depth : ℕ) (in_force : List Binding) (nodes : Nodes)
    → nodes_fault limit depth nodes ≡ None
    → list_all is_readable_part (parts_of nodes) ≡ true
    → (shapes : List (List ℕ)) × Cuts true (written in_force nodes) shapes [] × AreJudged shapes (bodies in_force nodes)

-- Where no instruction's data begins with white space, and CDATA sections are recognised, nodes are read as they are: those of parts, in
-- which no two texts touch and none is empty.
abbrev pub ReadsTheSame : Type 0
ReadsTheSame = (ps : List Part) → is_bare (forest ps) ≡ true → as_read true (forest ps) ≡ forest ps

-- A result that is accepted as a whole, with its first line and one element, is read without a fault, as the nodes of its parts, whether
-- CDATA sections are recognised or not.
abbrev pub ReadsResults : Type 0
ReadsResults =
    (limits : Limits) (cdata : Bool) (limit : ℕ) (ps : List Part)
    → whole_fault limit ps ≡ None
    → list_all is_readable_part ps ≡ true
    → is_document (forest ps) ≡ true
    → let bytes = head ++ text ps in Suffices limits bytes limit
    → let tree = doc_for limits false cdata bytes true in (is_closed tree ≡ true) × (nodes_of tree ≡ as_read cdata (forest ps))

-- So is any result that is accepted as a whole, between a start and an end tag.
abbrev pub ReadsContents : Type 0
ReadsContents =
    (limits : Limits) (cdata : Bool) (limit : ℕ) (ps : List Part)
    → whole_fault limit ps ≡ None
    → list_all is_readable_part ps ≡ true
    → let bytes = codes "<r>" ++ text ps ++ codes "</r>" in Suffices limits bytes (limit + 1)
    → let tree = doc_for limits false cdata bytes true in (is_closed tree ≡ true) × (nodes_of tree ≡ within (as_read cdata (forest ps)))
