-- The files of a draft, by their names, and the file that an include wants.
use Rattle.std.specs.Prelude.{◌≡◌, ℕ, ◌||◌, Bool, false, List, [], Option, Some, None, Result, Ok, Err, bytes_eq}
use Rattle.std.specs.List.{list_any}
use Rattle.stx_base.specs.declared.fault.Place.{Place}
use Rattle.sheet_loader.specs.Drafts.{loading_of}
use Rattle.sheet_loader.specs.Keys.{text_of}
use Rattle.sheet_loader.specs.Sound.{IsInclude}
use Rattle.sheet_loader.specs.declared.draft.Draft.{Draft}
use Rattle.sheet_loader.specs.declared.refused.Refused as stopped
use Rattle.sheet_loader.specs.declared.refused.Refused.TheVariants as refused
use Rattle.sheet_loader.specs.declared.refused.Stop.{Stop}
use Rattle.sheet_loader.specs.declared.refused.Stop.TheVariants as stop

-- the names of the files that were opened
abbrev pub names_of : Draft → List (List ℕ)
names_of d = (loading_of d).sheet.files

-- No file is opened by a node. Where memory is wanting nothing is said.
abbrev pub SameFiles : {A : Type 0} → Result A Stop → (old new : Draft) → Type 0
SameFiles (Ok done) old new = names_of new ≡ names_of old
SameFiles (Err (stop.Fault why at)) old new = names_of new ≡ names_of old
SameFiles (Err stop.Memory) old new = Unit {0}

-- the same where a fault is told without its place
abbrev pub SameFilesByTag : {A : Type 0} → Result A stopped.Refused → (old new : Draft) → Type 0
SameFilesByTag (Ok done) old new = names_of new ≡ names_of old
SameFilesByTag (Err (refused.Code why)) old new = names_of new ≡ names_of old
SameFilesByTag (Err refused.Memory) old new = Unit {0}

-- a file of this name is being read
abbrev pub is_being_read : Draft → (name : List ℕ) → Bool
is_being_read d name = bytes_eq d.own name || list_any (λ k. bytes_eq (text_of k) name) d.reading.keys

-- the innermost open element is an include whose tag is here, and which wants this file; it isn't being read
pub record Includes (href : List ℕ) (at : Place) (d : Draft) : Type 0 where
  pub include : IsInclude d.top.opened
  pub empty : d.top.items ≡ []
  pub place : at ≡ record { file = d.file.number; offset = d.top.at }
  pub fresh : is_being_read d href ≡ false

abbrev pub WantsFile : Option (List ℕ) → Place → Draft → Type 0
WantsFile None at d = Unit {0}
WantsFile (Some href) at d = Includes href at d

-- a file that is wanted isn't being read
abbrev pub IsApart : (wanted : Option (List ℕ)) → Draft → Type 0
IsApart None d = Unit {0}
IsApart (Some name) d = is_being_read d name ≡ false
