-- What is so of a sheet while its files are read.
use Rattle.std.specs.Prelude.{◌≡◌, ℕ, ◌+◌, ◌<◌, ◌≤◌, Bool, true, false, List, [], ◌∷◌, ◌++◌, map, length, sum_by, Option, Some, Ok, Err}
use Rattle.stx_base.specs.Course.{Begins, Ends}
use Rattle.stx_base.specs.declared.limits.Limits.{Limits}
use Rattle.xml_events.specs.Source.{future}
use Rattle.xml_events.specs.Telling.{pulled}
use Rattle.xml_events.specs.declared.event.Event.{Event}
use Rattle.xml_events.specs.declared.event.Pull.TheVariants as pull
use Rattle.xml_tokens.specs.declared.lexeme.Ending.TheVariants as ending
use Rattle.sheet_loader.specs.Files.{Documents, load, load_from, loads}
use Rattle.sheet_loader.specs.Lists.{FilesAre, lists_of}
use Rattle.sheet_loader.specs.Load.{sheet_of}
use Rattle.sheet_loader.specs.Loaders.{EndsInFault, GivesSheet, Standing, is_over}
use Rattle.sheet_loader.specs.Read.{code_of_job}
use Rattle.sheet_loader.specs.Reading.{File, Refused}
use Rattle.sheet_loader.specs.Values.{Reads}
use Rattle.sheet_loader.specs.Versions.{language}
use Rattle.stx_base.specs.declared.fault.Place.{Place}
use Rattle.stx_base.specs.declared.fault.SheetCode.{SheetCode}
use Rattle.stx_base.specs.declared.fault.SheetFault.{SheetFault}
use Rattle.sheet_model.specs.declared.sheet.Sheet.{Sheet}
use Rattle.sheet_files.specs.Frames.{AreCut, ComesTo, FitAll, Frame, GoesOn, Part, files_cut, lists_open, opened_of, parts_of, shares}
use Rattle.sheet_files.specs.Undecided.{files_at}

-- the files have these documents
abbrev pub AreParts : Documents → List Part → Type 0
AreParts docs [] = Unit {0}
AreParts docs (p ∷ parts) = (docs p.name ≡ Some p.bytes) × AreParts docs parts

-- these files end in a fault
abbrev pub HaveFault : Reads → (name : List ℕ) → (files : List (Option File)) → Type 0
HaveFault reads name files = (names : List (List ℕ)) × (at : Place) × (why : SheetCode) × Ends (code_of_job reads files) (sheet_of reads name files) names (Refused at why)

-- so they do whatever the others are
abbrev pub EndsShort : Reads → (name : List ℕ) → (files : List (Option File)) → Type 0
EndsShort reads name files = (others : List (Option File)) → HaveFault reads name (files ++ others)

-- Each file that is being read wants no more files where fewer of its bytes may be read than were.
abbrev pub WantNoFewer : Limits → (name : List ℕ) → List Frame → Type 0
WantNoFewer limits name [] = Unit {0}
WantNoFewer limits name (f ∷ outer) =
    ((m : ℕ) → m < f.taken → (reads : Reads) (cuts : List ℕ) → AreCut outer cuts → EndsShort reads name (files_cut limits (f ∷ outer) (m ∷ cuts)))
    × WantNoFewer limits name outer

-- A file that is being read: its reader's lists are those that are counted, it has its document's end behind it only where the document has
-- ended, that is where all bytes were handed over, and it tells nothing before the first byte.
pub record IsGoing (f : Frame) : Type 0 where
  pub lists : (more : List ℕ) (ended : Bool) → length (future f.source more ended) ≡ f.lists
  pub over : f.source.over ≡ Some ending.End → (f.source.lexer.ended ≡ true) × (0 < f.taken)
  pub ended : f.source.lexer.ended ≡ true → f.taken ≡ length f.part.bytes
  pub within : f.taken ≤ length f.part.bytes
  pub known : f.part.known ≤ f.taken
  pub began : f.taken ≡ 0 → (ended : Bool) (e : Event) → pulled (future f.source [] ended) ≡ pull.Event e → ⊥

abbrev pub AllGoing : List Frame → Type 0
AllGoing [] = Unit {0}
AllGoing (f ∷ outer) = IsGoing f × AllGoing outer

-- the files around the innermost one have open lists, and the bytes of theirs that were read are those by which the include is known
abbrev pub Include : List Frame → Type 0
Include [] = Unit {0}
Include (f ∷ outer) = (0 < f.lists) × (0 < f.taken) × (f.part.known ≡ f.taken) × Include outer

-- So many bytes of sheets were read in all: those before the innermost file, those of its includes, and its own. What was read before an
-- include and in it, and all of it, was read before what follows it.
abbrev pub Adds : List Frame → (spent : ℕ) → Type 0
Adds [] spent = Unit {0}
Adds (f ∷ outer) spent = (f.part.before + f.part.inside + f.taken ≡ spent) × Adds outer (f.part.before + f.part.inside + length f.part.bytes)

-- how many bytes of these files were read, and of those that were read to their ends
abbrev pub bytes_read : List Frame → ℕ
bytes_read [] = 0
bytes_read (f ∷ outer) = f.taken + sum_by (λ (p : Part). length p.bytes) f.done + bytes_read outer

abbrev pub taken_of : List Frame → ℕ
taken_of [] = 0
taken_of (f ∷ outer) = f.taken

abbrev pub outer_of : List Frame → List Frame
outer_of [] = []
outer_of (f ∷ outer) = outer

-- the sheet comes to its files so far, or, where nothing more is read, as far as they may be read
abbrev pub Comes : Limits → (name : List ℕ) → List Frame → Standing → (is_over : Bool) → Type 0
Comes limits name frames x false = GoesOn limits name x.names frames x.progress
Comes limits name frames x true = ComesTo limits name x.names frames x.progress (shares limits frames)

-- no more of a file was read than may be read of all
abbrev pub AllTaken : Limits → List Frame → Type 0
AllTaken limits [] = Unit {0}
AllTaken limits (f ∷ outer) = (f.taken ≤ limits.sheet) × AllTaken limits outer

-- A sheet while its files are read, of which `left` bytes may still be read: these are the files, where a loader stands so.
pub record Follows (limits : Limits) (docs : Documents) (name : List ℕ) (frames : List Frame) (x : Standing) (left : ℕ) : Type 0 where
  pub comes : Comes limits name frames x (is_over x.progress)
  pub fewer : WantNoFewer limits name frames
  pub going : is_over x.progress ≡ false → AllGoing frames
  pub include : Include (outer_of frames)
  pub fit : FitAll limits frames
  pub names : map (λ (p : Part). p.name) (parts_of frames) ≡ x.names
  pub lists : is_over x.progress ≡ false → lists_of x.progress ≡ lists_open frames
  pub files : FilesAre x.names x.progress
  -- so many bytes were read
  pub spent : ℕ
  pub all : spent + left ≡ limits.sheet
  pub adds : Adds frames spent
  pub read : bytes_read frames ≡ spent
  -- each file took a byte at least, but for an innermost one that has just begun
  pub few : length (parts_of frames) ≤ spent + 1
  pub busy : 0 < taken_of frames → length (parts_of frames) ≤ spent
  -- where the documents have these files the definition comes to them, and then here, too
  pub most : ℕ
  pub more : most + length (parts_of frames) ≡ limits.sheet + 3
  pub chain : AreParts docs (parts_of frames) → (reads : Reads) → files_at reads limits docs name (length (parts_of frames)) ≡ opened_of frames
  pub loads : AreParts docs (parts_of frames) → (reads : Reads) → load reads limits docs name ≡ load_from language reads limits docs name most (opened_of frames)
  pub short : AllTaken limits frames
  -- and it opens these files first, whatever comes of the others
  pub begins : AreParts docs (parts_of frames) → (reads : Reads) → Begins (map (λ (p : Part). p.name) (parts_of frames)) (load reads limits docs name).opened

-- What a loader that is over gives is what the definition gives, and these names are those that are opened.
pub record Decides (limits : Limits) (docs : Documents) (name : List ℕ) (names : List (List ℕ)) (x : Standing) : Type 0 where
  pub sheet : (sheet : Sheet) → GivesSheet x sheet → (reads : Reads) → load reads limits docs name ≡ loads names (Ok sheet)
  pub fault : (fault : SheetFault) → EndsInFault x fault → (reads : Reads) → load reads limits docs name ≡ loads names (Err fault)
