-- What the program promises of a whole call.
use Rattle.std.specs.Prelude.{◌≡◌, ◌≢◌, ◌↔◌, ℕ, ◌<◌, ◌==◌, ◌⊎◌, if◌then◌else◌, Bool, true, false, IsTrue, List, [], ◌∷◌, ◌++◌, length, map, Some, None, IsSome, IfSome}
use Rattle.std.specs.List.{list_any}
use Rattle.stx_base.specs.Course.{Begins}
use Rattle.stx_host.specs.Before.{AtMainReads, main_read, since}
use Rattle.stx_host.specs.Outside.{LacksRoom, Outside, Rose, SameCounts, place}
use Rattle.stx_host.specs.Rooms.{needed}
use Rattle.stx_host.specs.declared.act.Act.{Act}
use Rattle.stx_host.specs.declared.act.Doc.{Doc}
use Rattle.run_engine.specs.Run.{head}
use Rattle.stx_engine.specs.Answer.{Answer, Asked_for, accepted, answer, asked, asks_any_run, asks_run, loaded, note_of, runs_none, sheet_named}
use Rattle.stx_engine.specs.Nesting.{EndsHaveStarts}
use Rattle.stx_engine.specs.Plain.{takes_in_order}
use Rattle.stx_engine.specs.ReadBack.{IsRead}
use Rattle.stx_engine.specs.Doing.{DoesWords}
use Rattle.sheet_runs.specs.Reading.{EndOnce, main_gots}
use Rattle.fault_report.specs.Line.{line_of, status_of}
use Rattle.command_words.specs.Words.{command_of}
use Rattle.sheet_files.specs.Acts.{opens}
use Rattle.sheet_loader.specs.Values.{Reads}
use Rattle.stx_engine.specs.RunEnd.{line_in, status_in}
use Rattle.stx_engine.specs.Running.{Asks, FailedAt, FailedOn, FailedOnSheet, HasHead, IsOwn, LoadsFirst, Reports}
use Rattle.stx_engine.specs.declared.run_end.RunEnd.{RunEnd}
use Rattle.stx_engine.specs.declared.run_end.RunEnd.TheVariants.{Told, Unnoted}
use Rattle.fault_report.specs.declared.outcome.HostFault.{HostFault}
use Rattle.fault_report.specs.declared.outcome.HostFault.TheVariants as fault
use Rattle.fault_report.specs.declared.outcome.Outcome.{Outcome}
use Rattle.fault_report.specs.declared.outcome.Outcome.TheVariants.{Host, Memory}

-- the host tells its documents, the main one among them, its log, its lanes, and which ids are open
pub record Tells (o : Outside) (docs : List Doc) (main : List ℕ) : Type 0 where
  pub documents : o.documents ≡ Some docs
  pub open_ids : IsSome o.open_ids
  pub main_document : o.to_come 0 ≡ Some main
  pub log : IsSome o.log
  pub out : IsSome o.out
  pub note : IsSome o.note

-- What a whole call did: what is to be done with the words, and then its last line was written; or that of want of memory, where there was none
-- to make its own.
pub record DoesAll (old new : Outside) (words : List (List ℕ)) (status : ℕ) : Type 0 where
  pub before : Outside
  pub end : RunEnd
  pub did : DoesWords words old before end
  pub last : RunEnd
  pub said : (last ≡ end) ⊎ ((last ≡ Told Memory) × (end ≢ Unnoted))
  pub reports : Reports before (line_in last) (status_in last) new status

-- a count of faults rose
abbrev pub SomeRose : (old new : Outside) → Type 0
SomeRose old new =
    Rose old.doc_faults new.doc_faults ⊎ (Rose old.main_faults new.main_faults ⊎ (Rose old.out_faults new.out_faults ⊎ Rose old.note_faults new.note_faults))

-- a count of faults became greater
abbrev pub SomeGreater : (old new : Outside) → Type 0
SomeGreater old new =
    (old.doc_faults < new.doc_faults) ⊎ ((old.main_faults < new.main_faults) ⊎ ((old.out_faults < new.out_faults) ⊎ (old.note_faults < new.note_faults)))

-- where no count of faults rose and memory sufficed, what the lanes took and the status are the answer's
abbrev pub GivesAnswer : (old new : Outside) → (status : ℕ) → Answer → Type 0
GivesAnswer old new status a =
    (SomeRose old new → ⊥) → status ≢ 7 → (since old.out new.out ≡ a.out) × (since old.note new.note ≡ note_of a) × (status ≡ status_in a.end)

-- the line that a status comes with: that of want of memory, or the answer's
abbrev pub last_line : (status : ℕ) → Answer → List ℕ
last_line status a = if status == 7 then line_of Memory else line_in a.end

-- No count of faults changed, and the status isn't that the host failed; or the host lacks room, where it tells it: for one act more than were
-- done, for as many open ids as documents were opened and one more, or for the bytes of the answer.
abbrev pub FailsForRoom : (old new : Outside) → (status : ℕ) → Answer → Type 0
FailsForRoom old new status a = (SameCounts old new × (status ≢ 5)) ⊎ LacksRoom old (needed (since old.log new.log) a.out (a.messages ++ last_line status a))

-- where no count of faults rose and the status is 0, what was written is what the sheet means on the document's tree, and is read back as that
abbrev pub ReadsBack : (old new : Outside) → (main : List ℕ) → (status : ℕ) → Asked_for → Type 0
ReadsBack old new main status k = (SomeRose old new → ⊥) → status ≡ 0 → IsRead k main (since old.out new.out)

-- whenever the main document is read, all that the bytes read so far settle was written, and no more; and more is needed
abbrev pub AsksSettled : (old new : Outside) → Reads → (words : List (List ℕ)) → List Doc → (main : List ℕ) → Type 0
AsksSettled old new reads words docs main = AtMainReads (since old.log new.log) (since old.out new.out) (since old.note new.note) (Asks reads words docs main)

-- where the status is neither 5 nor 7 nothing is written, or what is written begins with the head of a result; and before the main document is
-- read it was written
pub record BeginsWell (old new : Outside) (status : ℕ) : Type 0 where
  pub out : status ≢ 5 → status ≢ 7 → (since old.out new.out ≡ []) ⊎ Begins head (since old.out new.out)
  pub reads : AtMainReads (since old.log new.log) (since old.out new.out) (since old.note new.note) HasHead

-- Where no count of faults rose and memory sufficed, the last line on `Note`, behind the messages, is that of an end with this status; one
-- that stopped at an instruction stopped in a file of the sheet.
abbrev pub EndsInLine : (old new : Outside) → Reads → (words : List (List ℕ)) → List Doc → (status : ℕ) → Type 0
EndsInLine old new reads words docs status =
    (SomeRose old new → ⊥) → status ≢ 7
    → (messages : List ℕ) × (end : RunEnd) × (status_in end ≡ status) × (since old.note new.note ≡ messages ++ line_in end)
    × IfSome (command_of words) (λ c. IsOwn (accepted (loaded reads docs c).result) end)

-- where the status of a run on the main document is 0 it was read to its end; once its end is known it isn't read any more
abbrev pub ReadsToEnd : (old new : Outside) → (words : List (List ℕ)) → (main : List ℕ) → (status : ℕ) → Type 0
ReadsToEnd old new words main status =
    let acts = since old.log new.log in
    (ended : Bool) × EndOnce ended (main_gots acts)
    × (asks_run words ≡ true → status ≡ 0 → (ended ≡ true) × (main_read acts ≡ length main))

-- the documents of the first of these names were opened, in order, and no others; all of them where the status is neither
-- 5 nor 7
abbrev pub OpensFirst : List Doc → (names : List (List ℕ)) → (status : ℕ) → List Act → Type 0
OpensFirst docs names status acts =
    (front : List (List ℕ)) × Begins front names × (opens acts ≡ map (place docs) front) × (status ≢ 5 → status ≢ 7 → front ≡ names)

-- the files of the sheet are opened and read before all else, in their order, and no further than it takes to decide it: first ones of them, and
-- all where the status is neither 5 nor 7
abbrev pub ReadsSheetFirst : (old new : Outside) → Reads → (words : List (List ℕ)) → List Doc → (status : ℕ) → Type 0
ReadsSheetFirst old new reads words docs status =
    IfSome (command_of words) (λ c. LoadsFirst reads docs c.sheet (OpensFirst docs (loaded reads docs c).opened status) (runs_none reads words docs) (since old.log new.log))

-- the statuses there are where no instruction is run: none is that an instruction of the sheet has a fault, or that fuel is spent
abbrev pub IsPlainStatus : (status : ℕ) → Type 0
IsPlainStatus status = IsTrue (list_any (λ s. s == status) (0 ∷ 2 ∷ 3 ∷ 4 ∷ 5 ∷ 7 ∷ []))

-- the statuses there are: that an instruction has a fault, or that fuel is spent, comes of runs alone; 5 comes only where a count rose, and
-- where one became greater the status is 5 or 7
pub record IsStatus (old new : Outside) (words : List (List ℕ)) (status : ℕ) : Type 0 where
  pub some : status < 8
  pub plain : asks_any_run words ≡ false → IsPlainStatus status
  pub five : status ≡ 5 → SomeRose old new
  pub greater : SomeGreater old new → (status ≡ 5) ⊎ (status ≡ 7)

-- where no count of faults rose and memory sufficed, the words are refused exactly where they name no sheet
abbrev pub RefusesUnnamed : (old new : Outside) → (words : List (List ℕ)) → (status : ℕ) → Type 0
RefusesUnnamed old new words status = (SomeRose old new → ⊥) → status ≢ 7 → ((status ≡ 2) ↔ (sheet_named words ≡ None))

-- the count of a fault rose
abbrev pub RoseFor : HostFault → (old new : Outside) → Type 0
RoseFor fault.Doc old new = Rose old.doc_faults new.doc_faults
RoseFor fault.Read old new = Rose old.main_faults new.main_faults
RoseFor fault.Write old new = Rose old.out_faults new.out_faults

-- An outcome that the host or want of memory brings: of a fault its count rose, and it is told with its place. On a document that isn't the
-- main one it is a place of which this holds.
abbrev pub IsFailure : (OnDoc : (file : List ℕ) → (offset : ℕ) → Type 0) → (old new : Outside) → List Act → (out : List ℕ) → Outcome → Type 0
IsFailure OnDoc old new acts out (Host file fault.Doc offset) = RoseFor fault.Doc old new × OnDoc file offset
IsFailure OnDoc old new acts out (Host file fault offset) = RoseFor fault old new × FailedAt (Host file fault offset) acts out
IsFailure OnDoc old new acts out Memory = Unit {0}
IsFailure OnDoc old new acts out outcome = ⊥

-- What `Note` took where the status is 5 or 7 and the answer is said: a beginning of its messages, and then the line of such an outcome with
-- this status. Where `Note` itself failed it is such a beginning and then one of that line, or, with the status 5, a beginning of all that the
-- answer writes to it.
pub record NotesFailure (Is : Outcome → Type 0) (old new : Outside) (note : List ℕ) (status : ℕ) (a : Answer) : Type 0 where
  pub whole : (Rose old.note_faults new.note_faults → ⊥)
      → (messages : List ℕ) × Begins messages a.messages × (o : Outcome) × Is o × (status_of o ≡ status) × (note ≡ messages ++ line_of o)
  pub cut : Rose old.note_faults new.note_faults
      → ((status ≡ 5) × Begins note (note_of a))
      ⊎ ((messages : List ℕ) × Begins messages a.messages × (o : Outcome) × Is o × (status_of o ≡ status) × (line : List ℕ) × Begins line (line_of o)
      × (note ≡ messages ++ line))

-- the same of what the host tells: on a document that isn't the main one it failed where the sheet was read
abbrev pub NotesAfterFailure : (old new : Outside) → Reads → (words : List (List ℕ)) → List Doc → (status : ℕ) → Answer → Type 0
NotesAfterFailure old new reads words docs status a =
    let acts = since old.log new.log in
    (status ≡ 5) ⊎ (status ≡ 7)
    → NotesFailure (IsFailure (FailedOnSheet reads words docs acts) old new acts (since old.out new.out)) old new (since old.note new.note) status a

-- What it took whatever the sheet does, where `Note` itself didn't fail: the messages, and then that line.
abbrev pub NotesItsFailure : (old new : Outside) → Reads → (words : List (List ℕ)) → List Doc → (status : ℕ) → Type 0
NotesItsFailure old new reads words docs status =
    let acts = since old.log new.log in
    (status ≡ 5) ⊎ (status ≡ 7) → (Rose old.note_faults new.note_faults → ⊥)
    → (messages : List ℕ) × (o : Outcome) × IsFailure (FailedOn reads words docs acts) old new acts (since old.out new.out) o × (status_of o ≡ status)
    × (since old.note new.note ≡ messages ++ line_of o)

-- What is kept where there is an answer.
pub record KeepsAnswer (old new : Outside) (reads : Reads) (words : List (List ℕ)) (docs : List Doc) (main : List ℕ) (status : ℕ) (a : Answer) : Type 0 where
  -- where no count of faults rose and memory sufficed, the lanes and the status are exactly the answer
  pub answer : GivesAnswer old new status a
  -- whenever the main document is read, exactly what the bytes read so far settle was written, and more is needed
  pub settled : AsksSettled old new reads words docs main
  -- after any stop the output is a beginning of the answer's
  pub prefix : Begins (since old.out new.out) a.out
  -- no end tag in it lacks its start tag
  pub nested : EndsHaveStarts (since old.out new.out)
  -- only documents that the answer opens are opened, in its order
  pub opened : OpensFirst docs a.opened status (since old.log new.log)
  -- where the host failed or memory was wanting, the line says which and where, behind first messages
  pub failure : NotesAfterFailure old new reads words docs status a
  -- where the host tells what it has room for, and that suffices for what is done and for the answer, no count of faults changes
  pub room : FailsForRoom old new status a

-- What is kept where the host tells its documents, the main one among them, its log, its lanes and which ids are open.
pub record KeepsTold (old new : Outside) (reads : Reads) (words : List (List ℕ)) (docs : List Doc) (main : List ℕ) (status : ℕ) : Type 0 where
  -- There is an answer to refused words and sheets, to sheets that are looked at alone, and to runs of sheets that take the nodes of the main
  -- document alone, each list in order.
  pub answered : (a : Answer) → answer reads words docs main ≡ Some a → KeepsAnswer old new reads words docs main status a
  -- where the status of a run of such a sheet is 0, what it wrote is read back, by the grammar of XML, as the nodes that the sheet means to put
  pub read_back : (k : Asked_for) → asked reads words docs ≡ Some k → takes_in_order k.sheet ≡ true → ReadsBack old new main status k
  -- where no instruction is run, none has a fault, and no fuel is spent
  pub plain : runs_none reads words docs ≡ true → IsPlainStatus status
  -- Whatever the sheet does: its files are opened before all else, in their order, and read no further than it takes to decide it;
  pub sheet : ReadsSheetFirst old new reads words docs status
  -- the last line is that of an end with this status,
  pub line : EndsInLine old new reads words docs status
  -- also where the host failed or memory was wanting.
  pub failed : NotesItsFailure old new reads words docs status

-- What is kept where it tells its main document, its log and its lanes, whatever the sheet does.
pub record KeepsMain (old new : Outside) (words : List (List ℕ)) (main : List ℕ) (status : ℕ) : Type 0 where
  -- where the status of a run on the main document is 0 it was read to its end; once its end is known it isn't read any more
  pub ends : ReadsToEnd old new words main status
  -- the output begins with its head, which is written before the main document is read
  pub begins : BeginsWell old new status
