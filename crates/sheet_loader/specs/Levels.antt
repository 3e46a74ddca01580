-- What is open while a sheet is read, list by list, and what is in force there.
use Rattle.std.specs.Prelude.{ℕ, List, [], ◌∷◌, ◌++◌, Option, slice_get}
use Rattle.std.specs.Option.{option_and_then}
use Rattle.stx_base.specs.declared.name.Attr.{Attr}
use Rattle.stx_base.specs.declared.name.Binding.{Binding}
use Rattle.stx_base.specs.declared.name.Name.{Name}
use Rattle.sheet_model.specs.declared.instr.LiteralAttr.{LiteralAttr}
use Rattle.xml_events.specs.Tree.{Element, Cut, Need}
use Rattle.sheet_loader.specs.Elements.{Kind}
use Rattle.sheet_loader.specs.Load.{at_start}
use Rattle.sheet_loader.specs.Making.{Values, nameless, or_else}
use Rattle.sheet_loader.specs.Read.{in_file, within}
use Rattle.sheet_loader.specs.Reading.{Context, File, Item}
use Rattle.sheet_loader.specs.Resuming.{Open, Of_element, Of_file, Of_literal, Of_part, in_literal, in_part}
use Rattle.sheet_loader.specs.Versions.{Version}

-- what a list stands in
pub data What : Type 0 where
  The_sheet : What
  -- a file that is included, and how that is read which includes it
  A_file : (number : ℕ) → (around : Version) → What
  An_element : Kind → Values → What
  A_literal : Name → List LiteralAttr → What
  A_part : Name → List Attr → What

-- an open list
pub record Level : Type 0 where
  pub what : What
  -- the start tag of its element, and what that declares
  pub at : ℕ
  pub decls : List Binding
  -- the group in which it stands
  pub group : ℕ
  -- what it came to so far
  pub before : List Item

-- the innermost list: what is in force there, what it came to so far, and what is open around it
pub record Place_in : Type 0 where
  pub here : Context
  pub before : List Item
  pub opens : List Open

-- the start tag of a list, as far as it still counts
abbrev pub tag_of : Level → Name → List Attr → Element
tag_of x name attrs = record { offset = x.at; name = name; attrs = attrs; decls = x.decls }

-- an include while its file is read
abbrev pub as_file : List Open → List Open
as_file (Of_element here before e kind v ∷ opens) = Of_file here before e kind v ∷ opens
as_file opens = opens

-- the innermost list has these items more
abbrev pub with_items : List Item → List Level → List Level
with_items items [] = []
with_items items (x ∷ levels) = record x { before = x.before ++ items } ∷ levels

-- how that is read in which a file stands
abbrev pub version_around : Version → What → Version
version_around version (A_file number around) = around
version_around version other = version

-- where the limit on sheets comes in a file, by its number
abbrev pub limit_at : List (Option File) → (number : ℕ) → Option ℕ
limit_at files number = option_and_then (option_and_then (λ (f : File). f.limit)) (slice_get files number)

abbrev pub name_at : List (List ℕ) → (number : ℕ) → List ℕ
name_at names number = or_else [] (slice_get names number)

-- a file that is read so, whatever its nodes are
abbrev pub file_at : List (Option File) → (number : ℕ) → Version → File
file_at files number version = record { version = version; nodes = Cut Need; limit = limit_at files number }

module _ (names : List (List ℕ)) (files : List (Option File)) where
  -- a list within another one, or that of the sheet's own file
  abbrev pub entered : Version → What → Level → Place_in → Place_in
  entered version The_sheet x around = record { here = at_start (name_at names 0) (file_at files 0 version); before = x.before; opens = [] }
  entered version (A_file number outer) x around = record {
    here = in_file around.here number (name_at names number) (file_at files number version);
    before = x.before;
    opens = as_file around.opens;
  }
  entered version (An_element kind v) x around = record {
    here = within around.here around.before kind (tag_of x nameless []) v x.group;
    before = x.before;
    opens = Of_element around.here around.before (tag_of x nameless []) kind v ∷ around.opens;
  }
  entered version (A_literal name attrs) x around = record {
    here = in_literal around.here around.before (tag_of x name []);
    before = x.before;
    opens = Of_literal around.here around.before (tag_of x name []) attrs ∷ around.opens;
  }
  entered version (A_part name attrs) x around = record {
    here = in_part around.here (tag_of x name attrs);
    before = x.before;
    opens = Of_part around.here around.before (tag_of x name attrs) ∷ around.opens;
  }

  -- where nothing is open
  abbrev pub nowhere : Version → Place_in
  nowhere version = record { here = at_start (name_at names 0) (file_at files 0 version); before = []; opens = [] }

  -- the innermost of these lists, the first of them, in a file that is read so
  abbrev pub place_in : Version → List Level → Place_in
  place_in version [] = nowhere version
  place_in version (x ∷ levels) = entered version x.what x (place_in (version_around version x.what) levels)
