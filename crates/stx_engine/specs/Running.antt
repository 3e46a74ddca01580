-- What a run of the program does to the outside, before its last line is written.
use Rattle.std.specs.Prelude.{◌≡◌, ℕ, ◌<◌, ◌⊎◌, ◌==◌, Bool, true, false, if◌then◌else◌, List, [], ◌++◌, length, map, take, sum, codes, Option, Some, None, IsSome, IfSome, Ok, Err}
use Rattle.std.specs.List.{list_any}
use Rattle.stx_base.specs.Course.{Begins}
use Rattle.stx_base.specs.StandardLimits.{standard_limits}
use Rattle.stx_host.specs.Before.{AtMainReads, Between, Taken, is_main_read, main_read}
use Rattle.stx_host.specs.Outside.{LacksRoom, NoteFault, Outside, Rose, SameCounts, document, for_writes, place, wrote}
use Rattle.stx_host.specs.Rooms.{needed}
use Rattle.stx_host.specs.declared.act.Act.{Act}
use Rattle.stx_host.specs.declared.act.Doc.{Doc}
use Rattle.stx_host.specs.declared.act.Lane.TheVariants.{Note}
use Rattle.command_words.specs.Words.{command_of}
use Rattle.command_words.specs.declared.command.Command.{Command}
use Rattle.fault_report.specs.declared.outcome.HostFault.TheVariants as fault
use Rattle.fault_report.specs.declared.outcome.Outcome.{Outcome}
use Rattle.fault_report.specs.declared.outcome.Outcome.TheVariants.{Done, Run, Usage, Sheet, Host, Fuel, Memory}
use Rattle.run_engine.specs.Run as engine
use Rattle.sheet_files.specs.Acts.{NoneBehindEnd, is_write, opens}
use Rattle.sheet_files.specs.Loading.{OpensInOrder}
use Rattle.sheet_files.specs.Opened.{documents_told}
use Rattle.sheet_files.specs.Undecided.{ReadUndecided}
use Rattle.sheet_loader.specs.Values.{Reads}
use Rattle.sheet_model.specs.declared.sheet.Sheet as model
use Rattle.sheet_runs.specs.Counts.{CountsBy}
use Rattle.sheet_runs.specs.Meant.{IsSettledOn}
use Rattle.sheet_runs.specs.Reading.{EndOnce, is_doc_read, main_gots}
use Rattle.sheet_runs.specs.Runs.{AreAsTold, FailsOn}
use Rattle.sheet_runs.specs.Talk.{Exchange, Leads, beside_in, none_beside}
use Rattle.sheet_runs.specs.Writing.{counted}
use Rattle.run_engine.specs.Run.{head}
use Rattle.stx_engine.specs.Answer.{Answer, Asked_for, accepted, asked, asks_any_run, asks_run, given_of, is_run, loaded, param_of, runs_none, sheet_named}
use Rattle.stx_engine.specs.Plain.{pass_of}
use Rattle.stx_engine.specs.RunEnd.{outcome_in}
use Rattle.stx_engine.specs.declared.run_end.RunEnd.{RunEnd}
use Rattle.stx_engine.specs.declared.run_end.RunEnd.TheVariants.{Told, Sampled, Unnoted}

-- this holds, unless the host failed or memory was wanting
abbrev pub UnlessFailed : Outcome → Type 0 → Type 0
UnlessFailed (Host file fault offset) P = Unit {0}
UnlessFailed Memory P = Unit {0}
UnlessFailed outcome P = P

-- where the host failed, it failed on the main document after all that was read of it, or on `Out` after all that it took;
-- neither words nor a sheet are refused any more
abbrev pub FailedAt : Outcome → List Act → (out : List ℕ) → Type 0
FailedAt (Host file fault.Read offset) acts out = (file ≡ codes "-") × (offset ≡ main_read acts)
FailedAt (Host file fault.Write offset) acts out = (file ≡ codes "-") × (offset ≡ counted (length out))
FailedAt (Host file fault.Doc offset) acts out = ⊥
FailedAt Usage acts out = ⊥
FailedAt (Sheet reason) acts out = ⊥
FailedAt outcome acts out = Unit {0}

-- a run that is done has read the main document to its end
abbrev pub ReadsAll : (main : List ℕ) → List Act → (ended : Bool) → Outcome → Type 0
ReadsAll main acts ended outcome = outcome ≡ Done → (ended ≡ true) × (main_read acts ≡ length main)

-- Before a read of the main document: the words ask for a run on it, they and the sheet were accepted, all that the bytes read so far settle
-- of what the sheet means was written, and no more, and it needs more.
pub record Asks (reads : Reads) (words : List (List ℕ)) (docs : List Doc) (main : List ℕ) (taken : Taken) : Type 0 where
  pub run : Asked_for
  pub is : asked reads words docs ≡ Some run
  pub on_main : is_run run.command.mode ≡ true
  pub settled : IsSettledOn (given_of run) (take taken.main_read main) taken

-- Before a read of the main document, whatever the sheet does: the head of the result was written.
abbrev pub HasHead : Taken → Type 0
HasHead taken = Begins head taken.out

-- the host failed on a file of the sheet, after all that was read of it, or where the next one was to be opened
abbrev pub FailedOnSheet : Reads → (words : List (List ℕ)) → List Doc → List Act → (file : List ℕ) → (offset : ℕ) → Type 0
FailedOnSheet reads words docs acts file offset =
    (c : Command) × (command_of words ≡ Some c) × OpensInOrder (place docs) (loaded reads docs c).opened (Err (Host file fault.Doc offset)) acts

-- Or it failed on another document, which the sheet asked for: the sheet was accepted, and its engine was handed such documents as the host
-- tells them, first bytes of each or all.
pub record FailedOnOther (reads : Reads) (words : List (List ℕ)) (docs : List Doc) (file : List ℕ) (offset : ℕ) : Type 0 where
  pub command : Command
  pub sheet : model.Sheet
  pub talk : List Exchange
  pub start : engine.Run
  pub run : engine.Run
  pub asked_for : command_of words ≡ Some command
  pub accepts : (loaded reads docs command).result ≡ Ok sheet
  pub does_more : pass_of sheet ≡ None
  pub begun : engine.IsAtStart sheet (map param_of command.params) command.limits start
  pub leads : Leads start talk run
  pub handed : AreAsTold docs (beside_in none_beside start talk)
  pub fails : FailsOn run file offset

abbrev pub FailedOn : Reads → (words : List (List ℕ)) → List Doc → List Act → (file : List ℕ) → (offset : ℕ) → Type 0
FailedOn reads words docs acts file offset = FailedOnSheet reads words docs acts file offset ⊎ FailedOnOther reads words docs file offset

-- this holds where the host failed on a document that isn't the main one
abbrev pub IfDocFailed : Outcome → (P : (file : List ℕ) → (offset : ℕ) → Type 0) → Type 0
IfDocFailed (Host file fault.Doc offset) P = P file offset
IfDocFailed outcome P = Unit {0}

-- where it failed on the main document, or on `Out`, it was after all that was read or taken
abbrev pub FailedIn : Outcome → List Act → (out : List ℕ) → Type 0
FailedIn (Host file fault.Doc offset) acts out = Unit {0}
FailedIn Usage acts out = Unit {0}
FailedIn (Sheet reason) acts out = Unit {0}
FailedIn outcome acts out = FailedAt outcome acts out

-- the words are refused exactly where they name no sheet, if memory suffices
abbrev pub RefusesWords : (words : List (List ℕ)) → RunEnd → Type 0
RefusesWords words (Told Usage) = sheet_named words ≡ None
RefusesWords words (Told Memory) = Unit {0}
RefusesWords words end = IsSome (sheet_named words)

-- no part was refused, and no fuel was spent
abbrev pub TakesParts : Outcome → Type 0
TakesParts (Run file code offset) = ⊥
TakesParts (Fuel file offset) = ⊥
TakesParts outcome = Unit {0}

-- the counts of faults, by how a run ended
abbrev pub CountsIn : RunEnd → (old new : Outside) → Type 0
CountsIn (Told outcome) old new = CountsBy outcome old new
CountsIn (Sampled s) old new = SameCounts old new
CountsIn Unnoted old new = Rose old.note_faults new.note_faults × SameCounts (record old { note_faults = new.note_faults }) new

-- This holds where a run ended as the host failed. Where memory was wanting that may have come behind a failure: this holds, or no count changed.
abbrev pub IfFailed : RunEnd → (old new : Outside) → Type 0 → Type 0
IfFailed (Told (Host file fault offset)) old new P = P
IfFailed (Told Memory) old new P = SameCounts old new ⊎ P
IfFailed (Told outcome) old new P = Unit {0}
IfFailed (Sampled s) old new P = Unit {0}
IfFailed Unnoted old new P = P

-- a run was stopped at an instruction of the sheet: in one of its files
abbrev pub StopsInside : (sheet : Option model.Sheet) → (file : List ℕ) → (offset : ℕ) → Type 0
StopsInside None file offset = ⊥
StopsInside (Some sheet) file offset = engine.IsAt sheet.files file offset

abbrev pub IsOwn : (sheet : Option model.Sheet) → RunEnd → Type 0
IsOwn sheet (Told (Run file code offset)) = StopsInside sheet file offset
IsOwn sheet (Told (Fuel file offset)) = StopsInside sheet file offset
IsOwn sheet end = Unit {0}

-- all of an answer was written but its last line, and the run ended as the answer does
pub record IsAnswered (out note : List ℕ) (end : RunEnd) (a : Answer) : Type 0 where
  pub output : out ≡ a.out
  pub messages : note ≡ a.messages
  pub is : end ≡ a.end

-- the documents of the first of these names were opened, in order; of all of them, unless the run failed
abbrev pub OpensNames : List Doc → (names : List (List ℕ)) → Outcome → List Act → Type 0
OpensNames docs names outcome acts =
    (front : List (List ℕ)) × Begins front names × (opens acts ≡ map (place docs) front) × UnlessFailed outcome (front ≡ names)

-- The files of the sheet of this name come before all else: in the first acts documents are opened so, each is read on only while the sheet
-- isn't decided, and not behind its end, nothing of the main document is read, and nothing is written. Where no instruction is run, no
-- document but the main one is read after them.
pub record LoadsFirst (reads : Reads) (docs : List Doc) (name : List ℕ) (Opens : List Act → Type 0) (none_run : Bool) (acts : List Act) : Type 0 where
  pub loading : List Act
  pub running : List Act
  pub in_turn : acts ≡ loading ++ running
  pub opened : Opens loading
  pub undecided : ReadUndecided reads standard_limits (document docs) name [] loading
  pub once : NoneBehindEnd loading
  pub no_main_read : list_any is_main_read loading ≡ false
  pub no_write : list_any is_write loading ≡ false
  pub alone : none_run ≡ true → list_any is_doc_read running ≡ false

-- what a run did, and how it ended, where its answer is said
pub record RunsAnswered (reads : Reads) (words : List (List ℕ)) (docs : List Doc) (main : List ℕ) (old new : Outside) (end : RunEnd) (a : Answer) : Type 0 where
  pub acts : List Act
  pub out : List ℕ
  pub note : List ℕ
  pub between : Between old new acts out note
  pub asks : AtMainReads acts out note (Asks reads words docs main)
  pub begins : Begins out a.out × Begins note a.messages
  pub ends : UnlessFailed (outcome_in end) (IsAnswered out note end a)
  pub opened : OpensNames docs a.opened (outcome_in end) acts
  pub failed : IfDocFailed (outcome_in end) (FailedOnSheet reads words docs acts)
  -- where the host failed it was for want of room, where that is told, for an act more than were done, for a document more than were opened, or
  -- for all that is answered
  pub room : IfFailed end old new (LacksRoom old (needed acts a.out a.messages))

-- what a run did where the host tells the main document
pub record RunsMain (words : List (List ℕ)) (main : List ℕ) (acts : List Act) (ended : Bool) (out note : List ℕ) (end : RunEnd) : Type 0 where
  pub all : asks_run words ≡ true → ReadsAll main acts ended (outcome_in end)
  -- nothing is written, or it begins with the head, which is written before the main document is read
  pub begins : UnlessFailed (outcome_in end) ((out ≡ []) ⊎ Begins head out)
  pub asks : AtMainReads acts out note HasHead

-- and where it tells the documents and which ids are open
pub record RunsTold (words : List (List ℕ)) (docs : List Doc) (acts : List Act) (end : RunEnd) : Type 0 where
  pub sheet : (reads : Reads)
      → IfSome (command_of words) (λ c. LoadsFirst reads docs c.sheet (OpensNames docs (loaded reads docs c).opened (outcome_in end)) (runs_none reads words docs) acts)
  pub takes : (reads : Reads) → runs_none reads words docs ≡ true → TakesParts (outcome_in end)
  pub failed : (reads : Reads) → IfDocFailed (outcome_in end) (FailedOn reads words docs acts)
  pub own : (reads : Reads) → IfSome (command_of words) (λ c. IsOwn (accepted (loaded reads docs c).result) end)

-- what a run did, and how it ended
pub record Runs (words : List (List ℕ)) (old new : Outside) (end : RunEnd) : Type 0 where
  pub acts : List Act
  pub out : List ℕ
  pub note : List ℕ
  pub between : Between old new acts out note
  pub ended : Bool
  pub once : EndOnce ended (main_gots acts)
  pub ids : new.open_ids ≡ old.open_ids
  pub counts : CountsIn end old new
  pub failed : FailedIn (outcome_in end) acts out
  pub refuses : RefusesWords words end
  pub takes : asks_any_run words ≡ false → TakesParts (outcome_in end)
  pub main_told : (main : List ℕ) → old.to_come 0 ≡ Some main → RunsMain words main acts ended out note end
  pub told : (docs : List Doc) → documents_told old ≡ Some docs → RunsTold words docs acts end

-- the status where the line couldn't be written: want of memory stays
abbrev pub unwritten_status : ℕ → ℕ
unwritten_status status = if status == 7 then 7 else 5

-- a line was written to `Note`; or its first bytes were, and then the host failed, for want of room where that is told
abbrev pub Reports : (old : Outside) → (line : List ℕ) → (status : ℕ) → (new : Outside) → (result : ℕ) → Type 0
Reports old line status new result =
    ((lens : List ℕ) × (sum lens ≡ length line) × (new ≡ wrote old Note lens line) × (result ≡ status))
    ⊎ ((lens : List ℕ) × (n : ℕ) × (sum lens ≡ n) × (n < length line) × NoteFault (wrote old Note lens (take n line)) new × (result ≡ unwritten_status status)
    × LacksRoom old (for_writes Note lens (length line)))
