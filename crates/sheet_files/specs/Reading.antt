-- What is so of a sheet while its files are read, by what the program keeps of it.
use Rattle.std.specs.Prelude.{◌≡◌, ℕ, ◌<◌, ◌≤◌, ◌^◌, true, false, List, [], ◌∷◌, ◌++◌, map, length, None}
use Rattle.stx_base.specs.Course.{Begins}
use Rattle.stx_base.specs.declared.limits.Limits.{Limits}
use Rattle.stx_host.specs.declared.act.Doc.{Doc}
use Rattle.xml_events.specs.Source.{future}
use Rattle.xml_events.specs.Telling.{pulled}
use Rattle.xml_events.specs.declared.event.Pull.TheVariants as pull
use Rattle.sheet_model.specs.Sound.{IsSound}
use Rattle.sheet_model.specs.declared.sheet.Sheet.{Sheet}
use Rattle.sheet_loader.specs.Files.{Documents, load}
use Rattle.sheet_loader.specs.Lists.{IsInElement}
use Rattle.sheet_loader.specs.Loaders.{GivesSheet, Standing, is_over}
use Rattle.sheet_loader.specs.Remaining.{Progress, Wants_file}
use Rattle.sheet_loader.specs.Values.{Reads}
use Rattle.sheet_files.specs.Following.{Decides, Follows}
use Rattle.sheet_files.specs.Frames.{Frame, Part, parts_of}
use Rattle.sheet_files.specs.Held.{names_of, seen_of}
use Rattle.sheet_files.specs.Opened.{AreOf, Seen, names_in}
use Rattle.sheet_files.specs.declared.going.Going.{Going}
use Rattle.sheet_files.specs.declared.reading.Reading.{Reading}

-- bytes that may still come of each file that is being read, by its number: none where its end was told
abbrev pub AreRests : (rest : ℕ → List ℕ) → List Going → Type 0
AreRests rest [] = Unit {0}
AreRests rest (g ∷ going) = (g.reader.lexer.ended ≡ true → rest g.number ≡ []) × AreRests rest going

-- a file that is being read, as a frame has it
pub record IsShown (rest : ℕ → List ℕ) (g : Going) (f : Frame) (outer : List Frame) : Type 0 where
  pub number : g.number ≡ length (parts_of outer)
  pub source : f.source ≡ g.reader
  pub taken : f.taken ≡ g.taken
  pub bytes : f.part.bytes ≡ g.bytes.items ++ rest g.number

-- the files that are being read, the innermost last
abbrev pub Shows : (rest : ℕ → List ℕ) → List Going → List Frame → Type 0
Shows rest going [] = going ≡ []
Shows rest going (f ∷ outer) = (front : List Going) × (g : Going) × (going ≡ front ++ g ∷ []) × IsShown rest g f outer × Shows rest front outer

abbrev pub doc_of : Part → Doc
doc_of p = record { name = p.name; bytes = p.bytes }

-- all files: the bytes of one that is being read stand elsewhere
abbrev pub ShowsFiles : List Doc → List Frame → Type 0
ShowsFiles files [] = files ≡ []
ShowsFiles files (f ∷ outer) =
    (before : List Doc) × (own : Doc) × (files ≡ before ++ own ∷ map doc_of f.done) × (own.name ≡ f.part.name) × ShowsFiles before outer

-- what was read follows what the sheet is, where these bytes come of its files
pub record Stands (limits : Limits) (docs : Documents) (name : List ℕ) (going : List Going) (files : List Doc) (x : Standing) (left : ℕ) (rest : ℕ → List ℕ) : Type 0 where
  pub frames : List Frame
  pub shows : Shows rest going frames
  pub in_files : ShowsFiles files frames
  pub follows : Follows limits docs name frames x left

abbrev pub AllEnded : List Going → Type 0
AllEnded [] = Unit {0}
AllEnded (g ∷ going) = (g.reader.lexer.ended ≡ true) × AllEnded going

-- it is sound, where no file may nest deeper than bodies, and its files are small enough that all of it can be numbered
abbrev pub IsSoundWithin : Limits → Sheet → Type 0
IsSoundWithin limits sheet = limits.depth ≤ 512 → limits.sheet ≤ 2 ^ 24 → IsSound sheet

-- A sheet while its files are read, of which an include's file may be missing.
pub record IsReadBy (limits : Limits) (name : List ℕ) (going : List Going) (files : List Doc) (x : Standing) (left : ℕ) (missing : List Seen) : Type 0 where
  -- while it is read: whatever comes of its files
  pub follows : is_over x.progress ≡ false → (docs : Documents) (rest : ℕ → List ℕ) → AreRests rest going → Stands limits docs name going files x left rest
  -- then: of all documents that have the files that were opened
  pub decides : is_over x.progress ≡ true → (docs : Documents) → AreOf docs (seen_of going files ++ missing) → Decides limits docs name (names_of files ++ names_in missing) x
  -- a sheet is given where all was read, and none is missing
  pub whole : is_over x.progress ≡ true → Reads → (sheet : Sheet) → GivesSheet x sheet → AllEnded going × (missing ≡ [])
  pub sound : is_over x.progress ≡ true → Reads → (sheet : Sheet) → GivesSheet x sheet → IsSoundWithin limits sheet
  pub none : is_over x.progress ≡ false → missing ≡ []
  -- these are the first files that are opened of documents that have them
  pub begins : (docs : Documents) → AreOf docs (seen_of going files ++ missing) → (reads : Reads) → Begins (names_of files ++ names_in missing) (load reads limits docs name).opened

abbrev pub IsRead : (name : List ℕ) → Reading → (missing : List Seen) → Type 0
IsRead name r missing = IsReadBy r.limits name r.going.items r.files.items r.loader r.left missing

-- the last of the files that are being read
abbrev pub HasLast : List Going → (Going → Type 0) → Type 0
HasLast going P = (front : List Going) × (g : Going) × (going ≡ front ++ g ∷ []) × P g

abbrev pub InElement : Progress → Type 0
InElement (Wants_file href s) = IsInElement s.levels
InElement other = ⊥

-- an include of the innermost file wants a file
pub record WantsFile (going : List Going) (x : Standing) : Type 0 where
  pub here : InElement x.progress
  pub last : HasLast going (λ g. (0 < g.taken) × (0 < length (future g.reader [] false)))

-- the innermost file's reader wants more bytes
abbrev pub WantsBytes : List Going → Type 0
WantsBytes going =
    HasLast going (λ g. (pulled (future g.reader [] false) ≡ pull.Need) × (g.reader.lexer.ended ≡ false) × (g.reader.over ≡ None) × (g.reader.known ≡ []))
