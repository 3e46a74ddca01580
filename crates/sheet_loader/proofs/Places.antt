-- How places change with their lists.
use Rattle.std.proofs.Common.{◌≡◌, ℕ, List, ◌∷◌, ◌++◌, Option, Some, None, refl}
use Rattle.xml_events.specs.Document.{inner, outer}
use Rattle.xml_events.specs.Tree.{Future, Leaf, Mark, Single}
use Rattle.sheet_loader.specs.Levels.{A_file, A_literal, A_part, An_element, Level, Place_in, The_sheet, What, entered, place_in, version_around, with_items}
use Rattle.sheet_loader.specs.Reading.{File, Item}
use Rattle.sheet_loader.specs.Remaining.{version_by}
use Rattle.sheet_loader.specs.Versions.{Version}

-- a place behind these items too
abbrev pub place_with : List Item → Place_in → Place_in
place_with items p = record p { before = p.before ++ items }

module _ (names : List (List ℕ)) (files : List (Option File)) where
  pub entered_with : (version : Version) (what : What) (x : Level) (items : List Item) (around : Place_in) → entered names files version what (record x { before = x.before ++ items }) around ≡ place_with items (entered names files version what x around)
  entered_with version The_sheet x items around = refl
  entered_with version (A_file number outer) x items around = refl
  entered_with version (An_element kind v) x items around = refl
  entered_with version (A_literal name attrs) x items around = refl
  entered_with version (A_part name attrs) x items around = refl

  pub place_in_with : (version : Version) (x : Level) (levels : List Level) (items : List Item) → place_in names files version (with_items items (x ∷ levels)) ≡ place_with items (place_in names files version (x ∷ levels))
  place_in_with version x levels items = entered_with version x.what x items (place_in names files (version_around version x.what) levels)

-- the version of a file is that of the root among the nodes still to come, behind other nodes too
pub version_leaf : (version : Option Version) (mark : Mark) (leaf : Leaf) (f : Future) → version_by version (Single mark leaf (inner f) ∷ outer f) ≡ version_by version f
version_leaf None mark leaf f = refl
version_leaf (Some version) mark leaf f = refl
