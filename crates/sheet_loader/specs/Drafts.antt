-- What a draft stands for: the lists that are open, how its file is read, and what was read so far.
use Rattle.std.specs.Prelude.{◌≡◌, ℕ, false, List, [], ◌∷◌, ◌++◌, map, drop, take, reverse, Option, Some, None}
use Rattle.std.specs.List.{flat_map}
use Rattle.stx_base.specs.declared.name.Attr.{Attr}
use Rattle.stx_base.specs.declared.part.Part.{Part}
use Rattle.stx_base.specs.declared.part.Part.TheVariants as part
use Rattle.stxpath_syntax.specs.declared.dialect.Dialect.TheVariants.{One}
use Rattle.xml_events.specs.Tree.{Element}
use Rattle.sheet_loader.specs.Gathering.{values_in}
use Rattle.sheet_loader.specs.Known.{known}
use Rattle.sheet_loader.specs.Levels.{Level, What, The_sheet, A_file, An_element, A_literal, A_part}
use Rattle.sheet_loader.specs.Making.{behind, last_of}
use Rattle.sheet_loader.specs.Meant.{before_of, inside_of, item_of, kind_of, version_of}
use Rattle.sheet_loader.specs.Reading as reading
use Rattle.sheet_loader.specs.Reading.{Loading}
use Rattle.sheet_loader.specs.Versions as version
use Rattle.sheet_loader.specs.declared.draft.Draft.{Draft}
use Rattle.sheet_loader.specs.declared.element.StartTag.{StartTag}
use Rattle.sheet_loader.specs.declared.frame.Frame.{Frame}
use Rattle.sheet_loader.specs.declared.frame.OpenFile.{OpenFile}
use Rattle.sheet_loader.specs.declared.frame.Opened.{Opened}
use Rattle.sheet_loader.specs.declared.frame.Opened.TheVariants as opened
use Rattle.sheet_loader.specs.declared.frame.Version.{Version}
use Rattle.sheet_loader.specs.declared.item.Item.{Item}

abbrev pub version_or_default : Option Version → Version
version_or_default (Some v) = v
version_or_default None = record { dialect = One; is_known = false }

-- how a file is read once the attributes of its root are known
abbrev pub version_taken : Option Version → List Attr → Option Version
version_taken (Some v) attrs = Some v
version_taken None attrs =
    let named = version.version_by_root version.language (Some attrs) in Some (record { dialect = named.dialect; is_known = named.is_known })

-- how a file is read whose root was read
abbrev pub version_in : OpenFile → version.Version
version_in file = version_of (version_or_default file.version)

abbrev pub attribute_in : Part → List Attr
attribute_in (part.Attribute name value) = record { name = name; value = value } ∷ []
attribute_in other = []

-- what a list stands in, in a file and behind these parts
abbrev pub what_in : Opened → (until : ℕ) → OpenFile → List Part → What
what_in opened.Sheet until file parts = The_sheet
what_in (opened.File includer) until file parts = A_file file.number (version_in includer)
what_in (opened.Element kind v own) until file parts = An_element (kind_of kind) (values_in v)
what_in (opened.Literal name attrs) until file parts = A_literal name attrs
what_in (opened.Part name start) until file parts = A_part name (flat_map attribute_in (drop start (take until parts)))

-- the items of a list: those of a buffer's content are parts, which stand in one list
abbrev pub items_in : Frame → List Part → List reading.Item
items_in f parts = map item_of f.items ++ map reading.A_part (drop f.parts parts)

abbrev pub level_in : Frame → OpenFile → List Part → Level
level_in f file parts = record {
  what = what_in f.opened f.parts file parts;
  at = f.at;
  decls = drop f.around file.scope;
  group = f.group;
  before = items_in f parts;
}

-- the file around a list, as far as its declarations are in force there
abbrev pub file_around : Opened → (around : ℕ) → OpenFile → OpenFile
file_around (opened.File includer) around file = includer
file_around other around file = record file { scope = take around file.scope }

-- the parts before an element
abbrev pub parts_around : Opened → (until : ℕ) → List Part → List Part
parts_around (opened.Part name start) until parts = take start parts
parts_around other until parts = take until parts

-- lists, the innermost first, in a file, where a buffer's content came to these parts
abbrev pub levels_in : List Frame → OpenFile → List Part → List Level
levels_in [] file parts = []
levels_in (f ∷ frames) file parts =
    level_in f file parts ∷ levels_in frames (file_around f.opened f.around file) (parts_around f.opened f.parts parts)

-- all lists of a draft, the innermost first
abbrev pub frames_of : Draft → List Frame
frames_of d = d.top ∷ reverse d.below.items

abbrev pub levels_of : Draft → List Level
levels_of d = levels_in (frames_of d) d.file d.parts

abbrev pub loading_of : Draft → Loading
loading_of d = record { sheet = record d.sheet { files = d.own ∷ d.sheet.files }; references = (known d.register).references }

-- a start tag, whose declarations are the last ones of the scope
abbrev pub element_of : StartTag → Draft → Element
element_of tag d = record { offset = tag.offset; name = tag.name; attrs = tag.attrs; decls = drop tag.around d.file.scope }

-- a draft before the declarations of a tag
abbrev pub before_tag : Draft → (around : ℕ) → Draft
before_tag d around = record d { file = record d.file { scope = take around d.file.scope } }

-- the list has an item more
pub record Adds (item : Item) (old new : Frame) : Type 0 where
  pub before : before_of new.before ≡ last_of (item_of item ∷ [])
  pub inside : inside_of new.inside ≡ behind (inside_of old.inside) (item_of item ∷ [])
  pub others : new ≡ record old { inside = new.inside; items = old.items ++ item ∷ []; before = new.before }
