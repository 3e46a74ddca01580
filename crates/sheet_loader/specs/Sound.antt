-- What is so of each draft, point by point.
use Rattle.std.specs.Prelude.{◌≡◌, ◌<◌, ◌≤◌, ℕ, Bool, true, false, ◌||◌, List, [], ◌∷◌, ◌++◌, drop, length, map, reverse, take, Option, is_some}
use Rattle.stx_base.specs.declared.name.Name.{Name}
use Rattle.std.specs.List.{flat_map}
use Rattle.stx_base.specs.declared.name.Attr.{Attr}
use Rattle.stx_base.specs.declared.part.Part.{Part}
use Rattle.stx_base.specs.declared.part.Part.TheVariants as part
use Rattle.sheet_loader.specs.Drafts.{attribute_in, file_around, frames_of, level_in, levels_in, loading_of, parts_around}
use Rattle.sheet_loader.specs.Elements.{Inside, Document, Declarations, Parts, is_include, makes_group}
use Rattle.sheet_loader.specs.Gathering.{values_in}
use Rattle.sheet_loader.specs.Judging.{locals_at}
use Rattle.sheet_loader.specs.Keys.{Owned, names_in, own_of, text_of}
use Rattle.sheet_loader.specs.Known.{AreGiven, Knows, known}
use Rattle.sheet_loader.specs.Levels.{Place_in, entered, name_at, place_in, version_around}
use Rattle.sheet_loader.specs.Making.{Values, bare, behind, last_of, name}
use Rattle.sheet_loader.specs.Meant.{before_of, inside_of, kind_of}
use Rattle.sheet_loader.specs.Reading.{File}
use Rattle.sheet_loader.specs.Elements as element
use Rattle.sheet_loader.specs.Versions.{Version}
use Rattle.sheet_model.specs.Names.{is_among}
use Rattle.sheet_loader.specs.declared.draft.Draft.{Draft}
use Rattle.sheet_loader.specs.declared.frame.Frame.{Frame}
use Rattle.sheet_loader.specs.declared.frame.OpenFile.{OpenFile}
use Rattle.sheet_loader.specs.declared.frame.Opened.{Opened}
use Rattle.sheet_loader.specs.declared.frame.Version as frame
use Rattle.sheet_loader.specs.declared.frame.Opened.TheVariants as opened

-- among declarations, and in a buffer's content, no locals are in scope
abbrev pub is_outside : Inside → Bool
is_outside (Document included) = true
is_outside (Declarations params) = true
is_outside Parts = true
is_outside other = false

abbrev pub is_document : Inside → Bool
is_document (Document included) = true
is_document other = false

abbrev pub is_of_parts : Inside → Bool
is_of_parts Parts = true
is_of_parts other = false

-- the name that is kept of an element, where it counts
abbrev pub OwnIs : element.Kind → (group : ℕ) → Values → Owned → Type 0
OwnIs kind group v own = (makes_group kind || is_include kind) ≡ false → own ≡ record { group = group; name = bare (name v) }

-- the element whose list it is includes a file
abbrev pub IsInclude : Opened → Type 0
IsInclude (opened.Element kind v own) = kind_of kind ≡ element.Include
IsInclude other = ⊥

-- a file's root was read, and an include, in which nothing stands, is directly around the file
abbrev pub IsIncluding : OpenFile → List Frame → Type 0
IsIncluding includer [] = ⊥
IsIncluding includer (f ∷ frames) = (is_some includer.version ≡ true) × IsInclude f.opened × (f.items ≡ [])

-- these parts are an element's start with its attributes
abbrev pub AreStart : Name → List Part → Type 0
AreStart name parts = parts ≡ part.Start name [] ∷ map (λ (a : Attr). part.Attribute a.name a.value) (flat_map attribute_in parts)

-- What a list stands in, within others: the sheet's own file stands in nothing, and a file in its include.
abbrev pub StandsIn : Opened → (until : ℕ) → List Part → (around : Place_in) → List Frame → Type 0
StandsIn opened.Sheet until parts around frames = frames ≡ []
StandsIn (opened.File includer) until parts around frames = IsIncluding includer frames
StandsIn (opened.Element kind v own) until parts around frames =
    (until ≡ 0)
    × OwnIs (kind_of kind) around.here.group (values_in v) (own_of own)
    × (element.is_allowed (behind around.here.inside around.before) (last_of around.before) (kind_of kind) ≡ true)
StandsIn (opened.Literal name attrs) until parts around frames =
    (until ≡ 0) × (is_outside around.here.inside ≡ false) × (is_of_parts around.here.inside ≡ false)
StandsIn (opened.Part name start) until parts around frames =
    (start ≤ until) × AreStart name (drop start (take until parts)) × (is_of_parts around.here.inside ≡ true)

-- the sheet's own file
abbrev pub IsSheet : Opened → Type 0
IsSheet opened.Sheet = Unit {0}
IsSheet other = ⊥

-- A list's frame by what is in force in the list and around it, in a file with these parts and locals.
pub record IsFit (f : Frame) (frames : List Frame) (file : OpenFile) (content : List Part) (in_scope : List Name) (inner around : Place_in) : Type 0 where
  pub stands : StandsIn f.opened f.parts content around frames
  pub bottom : frames ≡ [] → IsSheet f.opened
  pub inside : inside_of f.inside ≡ behind inner.here.inside inner.before
  pub before : before_of f.before ≡ last_of inner.before
  pub at : f.at ≡ inner.here.at
  pub group : f.group ≡ inner.here.group
  pub pass : f.pass ≡ inner.here.pass
  pub number : file.number ≡ inner.here.file
  pub scope : file.scope ≡ inner.here.scope
  pub declared : f.around ≤ length file.scope
  pub given : AreGiven (names_in f.given) inner.before
  -- the locals, and how many of them are those around the list
  pub locals : (n : Name) → is_among in_scope n ≡ is_among (locals_at inner.here inner.before) n
  pub brought : f.locals ≤ length in_scope
  -- among declarations, and in a buffer's content, there are none
  pub outside : is_outside inner.here.inside ≡ true → locals_at inner.here inner.before ≡ []
  -- parts are only in a buffer's content
  pub parts : f.parts ≤ length content
  pub no_parts : is_of_parts inner.here.inside ≡ false → content ≡ []
  pub parts_alone : is_of_parts inner.here.inside ≡ true → before_of f.before ≡ element.Something

-- the frames of lists, the innermost first, whatever the names of the files, and the files, are
abbrev pub AreFit : List Frame → OpenFile → List Part → List Name → Type 0
AreFit [] file parts locals = Unit {0}
AreFit (f ∷ frames) file parts locals =
    ((names : List (List ℕ)) (files : List (Option File)) (version : Version)
    → let x = level_in f file parts in
    let around = place_in names files (version_around version x.what) (levels_in frames (file_around f.opened f.around file) (parts_around f.opened f.parts parts)) in
    IsFit f frames file parts locals (entered names files version x.what x around) around)
    × AreFit frames (file_around f.opened f.around file) (parts_around f.opened f.parts parts) (take f.locals locals)

-- the files that are being read, by their numbers: that of a list, before those around it
abbrev pub number_before : Opened → (number : ℕ) → (around : List ℕ) → List ℕ
number_before (opened.File includer) number around = number ∷ around
number_before other number around = around

abbrev pub numbers_of : List Frame → OpenFile → List ℕ
numbers_of [] file = 0 ∷ []
numbers_of (f ∷ frames) file = number_before f.opened file.number (numbers_of frames (file_around f.opened f.around file))

abbrev pub AreBelow : (most : ℕ) → List ℕ → Type 0
AreBelow most [] = Unit {0}
AreBelow most (n ∷ numbers) = (n < most) × AreBelow most numbers

-- the files that are being read have names, and these are kept, but for the sheet's own the outermost first
pub record AreNamed (numbers : List ℕ) (d : Draft) : Type 0 where
  pub known : AreBelow (length (loading_of d).sheet.files) numbers
  pub kept : map (name_at (loading_of d).sheet.files) numbers ≡ reverse (map text_of d.reading.keys) ++ d.own ∷ []

-- only a file's own list may stand before the version of the file is known
abbrev pub IsKnown : Opened → Option frame.Version → Type 0
IsKnown opened.Sheet version = Unit {0}
IsKnown (opened.File includer) version = Unit {0}
IsKnown other version = is_some version ≡ true

-- A draft is sound with these frames.
pub record IsSoundIn (lists : List Frame) (innermost : Opened) (d : Draft) : Type 0 where
  pub frames : AreFit lists d.file d.parts (known d.register).locals
  pub version : IsKnown innermost d.file.version
  pub declares : Knows (known d.register).declares (loading_of d).sheet
  pub files : AreNamed (numbers_of lists d.file) d

-- a draft is sound
abbrev pub IsSound : Draft → Type 0
IsSound d = IsSoundIn (frames_of d) d.top.opened d

-- it is sound where a list stands within its innermost one
abbrev pub IsSoundWithin : Frame → Draft → Type 0
IsSoundWithin f d = IsSoundIn (f ∷ frames_of d) f.opened d
