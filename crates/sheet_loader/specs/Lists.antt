-- Which files are read, by the lists that are open.
use Rattle.std.specs.Prelude.{◌≡◌, ◌<◌, ℕ, Bool, true, false, List, [], ◌∷◌, ◌++◌, drop, map, length, Some}
use Rattle.xml_events.specs.declared.event.Event.{Event}
use Rattle.xml_events.specs.declared.event.Event.TheVariants as event
use Rattle.sheet_loader.specs.Elements.{Kind}
use Rattle.sheet_loader.specs.Levels.{Level, What, The_sheet, A_file, An_element}
use Rattle.sheet_loader.specs.Loaders.{Standing, wanted_in}
use Rattle.sheet_loader.specs.Making.{Values}
use Rattle.sheet_loader.specs.Named.{names_of}
use Rattle.sheet_loader.specs.Remaining.{Progress, Ended, Reads_on, Wants_file}
use Rattle.sheet_loader.specs.declared.draft.Draft.{Draft}
use Rattle.sheet_loader.specs.declared.frame.Frame.{Frame}
use Rattle.sheet_loader.specs.declared.frame.Opened.{Opened}
use Rattle.sheet_loader.specs.declared.frame.Opened.TheVariants as opened

-- whose nodes a list holds: those of the sheet's own file, of one that is included, by its number, or of an element
pub data Of : Type 0 where
  Own : Of
  Included : (number : ℕ) → Of
  Element : Of

abbrev pub of_what : What → Of
of_what The_sheet = Own
of_what (A_file number around) = Included number
of_what other = Element

-- the open lists, the innermost first
abbrev pub lists_in : List Level → List Of
lists_in levels = map (λ (x : Level). of_what x.what) levels

abbrev pub lists_of : Progress → List Of
lists_of (Reads_on s) = lists_in s.levels
lists_of (Wants_file href s) = lists_in s.levels
lists_of other = []

-- a start opens a list, and an end closes one
abbrev pub lists_behind : Event → List Of → List Of
lists_behind (event.Start offset name attrs decls first) lists = Element ∷ lists
lists_behind (event.End offset) lists = drop 1 lists
lists_behind (event.DocumentEnd offset) lists = drop 1 lists
lists_behind other lists = lists

-- the innermost list is that of an element of the language
abbrev pub IsInElement : List Level → Type 0
IsInElement [] = ⊥
IsInElement (x ∷ levels) = (kind : Kind) × (v : Values) × (x.what ≡ An_element kind v)

abbrev pub IsStart : Event → Type 0
IsStart (event.Start offset name attrs decls first) = Unit {0}
IsStart other = ⊥

-- An event opens and closes lists where the loader reads on. Behind a start tag it may want a file: then the list of the include is open.
-- Where all is read none is.
abbrev pub KeepsLists : Event → (old new : Progress) → Type 0
KeepsLists e (Reads_on s) (Reads_on t) = lists_in t.levels ≡ lists_behind e (lists_in s.levels)
KeepsLists e (Reads_on s) (Wants_file href t) = IsStart e × (lists_in t.levels ≡ lists_behind e (lists_in s.levels)) × IsInElement t.levels
KeepsLists e (Reads_on s) (Ended items l) = lists_behind e (lists_in s.levels) ≡ []
KeepsLists e old new = Unit {0}

abbrev pub IsReading : Progress → Type 0
IsReading (Reads_on s) = Unit {0}
IsReading other = ⊥

-- the files of the sheet so far are those that were opened, and some list is open
abbrev pub FilesAre : (names : List (List ℕ)) → Progress → Type 0
FilesAre names (Reads_on s) = (s.loading.sheet.files ≡ names) × (0 < length s.levels)
FilesAre names (Wants_file href s) = (s.loading.sheet.files ≡ names) × (0 < length s.levels)
FilesAre names other = Unit {0}

-- A file that is opened is read next. It has a list of its own, and its number is how many were opened before.
abbrev pub OpensList : (old new : Standing) → Type 0
OpensList old new =
    (href : List ℕ) → wanted_in old.progress ≡ Some href
    → IsReading new.progress × (lists_of new.progress ≡ Included (length old.names) ∷ lists_of old.progress) × FilesAre new.names new.progress

-- the same of a draft, by its frames

-- an element's list, and not that of a file
abbrev pub IsOfElement : Opened → Type 0
IsOfElement opened.Sheet = ⊥
IsOfElement (opened.File includer) = ⊥
IsOfElement other = Unit {0}

-- the number of the file in which a list stands
abbrev pub number_around : Opened → (number : ℕ) → ℕ
number_around (opened.File includer) number = includer.number
number_around other number = number

-- the lists are the same
pub record SameLists (old new : Draft) : Type 0 where
  pub top : new.top.opened ≡ old.top.opened
  pub below : new.below ≡ old.below
  pub number : new.file.number ≡ old.file.number

-- the same, where a list within them was left
pub record LeavesList (left : Opened) (old new : Draft) : Type 0 where
  pub top : new.top.opened ≡ old.top.opened
  pub below : new.below ≡ old.below
  pub number : new.file.number ≡ number_around left old.file.number

-- an element's list is open within the innermost one
pub record OpensElementList (old new : Draft) : Type 0 where
  pub element : IsOfElement new.top.opened
  pub around : new.below.items ≡ old.below.items ++ old.top ∷ []
  pub number : new.file.number ≡ old.file.number

-- so is that of a file
pub record OpensFileList (old new : Draft) : Type 0 where
  pub file : new.top.opened ≡ opened.File old.file
  pub around : new.below.items ≡ old.below.items ++ old.top ∷ []
  pub number : new.file.number ≡ length (names_of old)

-- the innermost list is closed
pub record ClosesList (old new : Draft) : Type 0 where
  pub around : Frame
  pub below : old.below.items ≡ new.below.items ++ around ∷ []
  pub top : new.top.opened ≡ around.opened
  pub number : new.file.number ≡ number_around old.top.opened old.file.number

-- so it is, or it was the last one
abbrev pub EndsLastOr : (is_all : Bool) → (old new : Draft) → Type 0
EndsLastOr true old new = old.below.items ≡ []
EndsLastOr false old new = ClosesList old new
