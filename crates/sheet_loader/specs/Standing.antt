-- That the numbers of a sheet name entries.
use Rattle.std.specs.Prelude.{◌≡◌, ℕ, List, ◌∷◌, Option, Some}
use Rattle.stx_base.specs.Course.{Gives}
use Rattle.xml_events.specs.Tree.{Forest, End, Cut, Single, Nested}
use Rattle.sheet_model.specs.Sound.{AreATree, NumbersNameEntries}
use Rattle.sheet_model.specs.declared.sheet.Sheet.{Sheet}
use Rattle.sheet_loader.specs.Load.{sheet_of}
use Rattle.sheet_loader.specs.Read.{code_of_job}
use Rattle.sheet_loader.specs.Reading.{File, Listed}
use Rattle.sheet_loader.specs.Values.{Reads}

-- no element stands in the list
abbrev pub HasNoElement : Forest → Type 0
HasNoElement (End mark offset) = Unit {0}
HasNoElement (Cut why) = Unit {0}
HasNoElement (Single mark leaf next) = HasNoElement next
HasNoElement (Nested stage e kids next) = ⊥

-- one element stands in the list, its root, unless the list is cut before it (XML 1.0, 2.1)
abbrev pub IsDocument : Forest → Type 0
IsDocument (End mark offset) = ⊥
IsDocument (Cut why) = Unit {0}
IsDocument (Single mark leaf next) = IsDocument next
IsDocument (Nested stage e kids next) = HasNoElement next

-- the groups are a tree, and each number in the sheet names an entry
pub record Stands (s : Sheet) : Type 0 where
  pub tree : AreATree s.groups
  pub numbers : NumbersNameEntries s

-- A sheet that is given stands, and its files are the names that were opened, in order.
abbrev pub GivenStands : Type 0
GivenStands =
    (reads : Reads) (name : List ℕ) (file : File) (others : List (Option File)) (names : List (List ℕ)) (r : Listed)
    → IsDocument file.nodes
    → Gives (code_of_job reads (Some file ∷ others)) (sheet_of reads name (Some file ∷ others)) names r
    → Stands r.loading.sheet × (r.loading.sheet.files ≡ names)
