-- What the loading of a sheet answers, and what it does to the outside.
use Rattle.std.specs.Prelude.{◌≡◌, ℕ, ◌≤◌, ◌^◌, false, ◌⊎◌, Contains, List, [], ◌∷◌, ◌++◌, map, Option, Some, IfSome, IfOk, Ok, Err}
use Rattle.std.specs.List.{list_any}
use Rattle.std.specs.Option.{option_and_then}
use Rattle.std.specs.declared.result.Result.{Result}
use Rattle.stx_base.specs.declared.fault.SheetFault.{SheetFault}
use Rattle.stx_base.specs.declared.limits.Limits.{Limits}
use Rattle.stx_host.specs.Before.{Between, is_main_read}
use Rattle.stx_host.specs.Laws.{CountsLater}
use Rattle.stx_host.specs.Outside.{LacksRoom, Outside, Rose, document, place}
use Rattle.stx_host.specs.Rooms.{needed}
use Rattle.stx_host.specs.declared.act.Act.{Act}
use Rattle.stx_host.specs.declared.act.Doc.{Doc}
use Rattle.fault_report.specs.declared.outcome.HostFault.TheVariants as host_fault
use Rattle.fault_report.specs.declared.outcome.Outcome.{Outcome}
use Rattle.fault_report.specs.declared.outcome.Outcome.TheVariants.{Sheet, Host, Memory}
use Rattle.sheet_model.specs.Sound.{IsSound}
use Rattle.sheet_model.specs.declared.sheet.Sheet as model
use Rattle.sheet_loader.specs.Files.{Documents, load, loads}
use Rattle.sheet_loader.specs.Values.{Reads}
use Rattle.sheet_files.specs.Acts.{NoneBehindEnd, given_for, is_long_read, is_write, opens, read_since_open}
use Rattle.sheet_files.specs.Opened.{Seen, AreOf, documents_told, names_in, places, whole}
use Rattle.sheet_files.specs.Undecided.{IsUndecided}
use Rattle.sheet_files.specs.declared.load.Loaded.{Loaded}

-- The answer is what all documents come to that have these files, which are all that they open. Where a host tells its documents, they
-- have them.
pub record IsLoaded (told : Option (List Doc)) (limits : Limits) (name : List ℕ) (answer : Result model.Sheet SheetFault) (files : List Seen) : Type 0 where
  pub told_of : IfSome told (λ docs. AreOf (document docs) files)
  pub gives : (docs : Documents) → AreOf docs files → (reads : Reads) → load reads limits docs name ≡ loads (names_in files) answer

-- loading answers the sheet with all of its files, its first fault, a failure of the host, or want of memory, and nothing else
abbrev pub LoadAnswers : (told : Option (List Doc)) → Limits → (name : List ℕ) → Result Loaded Outcome → Type 0
LoadAnswers told limits name (Ok loaded) = IsLoaded told limits name (Ok loaded.sheet) (map whole loaded.files)
LoadAnswers told limits name (Err (Sheet fault)) = (files : List Seen) × IsLoaded told limits name (Err fault) files
LoadAnswers told limits name (Err (Host file host_fault.Doc offset)) = Unit {0}
LoadAnswers told limits name (Err Memory) = Unit {0}
LoadAnswers told limits name answer = ⊥

-- The host failed on one of the files that were opened, after all that was read of it since, or on opening the next one.
abbrev pub FailsInOrder : (at : List ℕ → Option ℕ) → (front rest : List (List ℕ)) → (file : List ℕ) → (offset : ℕ) → List Act → Type 0
FailsInOrder at front rest file offset acts =
    (Contains front file × ((id : ℕ) × (given_for id acts ≡ Some (at file)) × (offset ≡ read_since_open id acts)))
    ⊎ ((later : List (List ℕ)) × (rest ≡ file ∷ later) × (offset ≡ 0))

-- These documents were opened, by their places, where these are the names to be opened: all of them with a sheet or its fault, and else the
-- first ones. Where the host failed it was on one of these files, or on the next one.
abbrev pub OpensInOrder : (at : List ℕ → Option ℕ) → (names : List (List ℕ)) → Result Loaded Outcome → List Act → Type 0
OpensInOrder at names (Ok loaded) acts = opens acts ≡ map at names
OpensInOrder at names (Err (Sheet fault)) acts = opens acts ≡ map at names
OpensInOrder at names (Err (Host file fault offset)) acts =
    (front : List (List ℕ)) × (rest : List (List ℕ)) × (front ++ rest ≡ names) × (opens acts ≡ map at front) × FailsInOrder at front rest file offset acts
OpensInOrder at names (Err other) acts = (front : List (List ℕ)) × (rest : List (List ℕ)) × (front ++ rest ≡ names) × (opens acts ≡ map at front)

-- with a sheet these are the names of its files; where the host failed it was in one of them, or no other could be opened
abbrev pub NamesFile : (opened : List (List ℕ)) → Result Loaded Outcome → Type 0
NamesFile opened (Ok loaded) = opened ≡ map (λ (d : Doc). d.name) loaded.files
NamesFile opened (Err (Host file fault offset)) = Contains opened file ⊎ (offset ≡ 0)
NamesFile opened (Err other) = Unit {0}

-- A failure of the host is told with what was read of the file since it was opened, by an id that was given for it; or the file could not
-- be opened.
abbrev pub FailsAfter : (told : Option (List Doc)) → Result Loaded Outcome → List Act → Type 0
FailsAfter told (Err (Host file fault offset)) acts =
    (offset ≡ 0) ⊎ ((id : ℕ) × (given_for id acts ≡ Some (option_and_then (λ docs. place docs file) told)) × (offset ≡ read_since_open id acts))
FailsAfter told answer acts = Unit {0}

-- this holds where the answer is a failure of the host
abbrev pub IfFailed : Result Loaded Outcome → Type 0 → Type 0
IfFailed (Err (Host file fault offset)) P = P
IfFailed answer P = Unit {0}

-- What loading does: it opens the sheet's files in their order, reads of them 4,096 bytes at a time at most, only while what was read doesn't
-- decide the sheet, and not behind their ends, reads nothing of the main document, and gives the lanes nothing.
pub record LoadActs (old new : Outside) (limits : Limits) (name : List ℕ) (answer : Result Loaded Outcome) (acts : List Act) : Type 0 where
  pub between : Between old new acts [] []
  pub no_write : list_any is_write acts ≡ false
  pub no_main_read : list_any is_main_read acts ≡ false
  pub no_long_read : list_any is_long_read acts ≡ false
  pub opened : (names : List (List ℕ)) × (opens acts ≡ places old names) × NamesFile names answer
  pub opens : IfSome (documents_told old) (λ docs. (reads : Reads) → OpensInOrder (place docs) (load reads limits (document docs) name).opened answer acts)
  pub fails : IfSome old.open_ids (λ ids. FailsAfter old.documents answer acts)
  pub once : IfSome old.open_ids (λ ids. NoneBehindEnd acts)
  pub undecided : IsUndecided old limits name acts
  -- the host failed for want of room alone, where it tells what it has room for
  pub room : IfFailed answer (LacksRoom old (needed acts [] []))

-- the count of documents rises where the answer is a failure of the host, and else stays
abbrev pub DocCount : Result Loaded Outcome → (before now : ℕ) → Type 0
DocCount (Err (Host file fault offset)) before now = Rose before now
DocCount answer before now = now ≡ before

-- the counts of faults after loading
pub record LoadCounts (old new : Outside) (answer : Result Loaded Outcome) : Type 0 where
  pub later : CountsLater old new
  pub doc : DocCount answer old.doc_faults new.doc_faults
  pub main : new.main_faults ≡ old.main_faults
  pub out : new.out_faults ≡ old.out_faults
  pub note : new.note_faults ≡ old.note_faults

-- what a sheet's loading comes to
pub record LoadsTo (old new : Outside) (limits : Limits) (name : List ℕ) (answer : Result Loaded Outcome) : Type 0 where
  pub answers : LoadAnswers (documents_told old) limits name answer
  pub acts : (acts : List Act) × LoadActs old new limits name answer acts
  pub counts : LoadCounts old new answer
  pub ids : new.open_ids ≡ old.open_ids
  pub sound : limits.depth ≤ 512 → limits.sheet ≤ 2 ^ 24 → IfOk answer (λ loaded. IsSound loaded.sheet)
