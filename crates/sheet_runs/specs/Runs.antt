-- What a run over a host does to the outside, and how it ends.
use Rattle.std.specs.Prelude.{◌≡◌, ℕ, ◌<◌, ◌⊎◌, Bool, true, false, List, [], ◌∷◌, ◌++◌, length, map, Option, Some, None, IfSome, codes, encode_utf8_all}
use Rattle.std.specs.List.{concat, list_any}
use Rattle.std.specs.Option.{option_and_then}
use Rattle.stx_base.specs.Course.{Begins}
use Rattle.sheet_model.specs.declared.sheet.Sheet as model
use Rattle.stx_host.specs.Before.{AtMainReads, Between, Taken, is_main_read, main_read}
use Rattle.stx_host.specs.Outside.{LacksRoom, Outside, document, place}
use Rattle.stx_host.specs.Rooms.{needed}
use Rattle.stx_host.specs.declared.act.Act.{Act}
use Rattle.stx_host.specs.declared.act.Doc.{Doc}
use Rattle.xml_tokens.specs.Reader.{fed}
use Rattle.fault_report.specs.declared.outcome.HostFault.TheVariants as fault
use Rattle.fault_report.specs.declared.outcome.Outcome.TheVariants.{Done, Usage, Sheet, Host, Memory}
use Rattle.run_engine.specs.Run.{Document, Main as AsksMain, Open, Over, Run, Wants, at_start}
use Rattle.sheet_files.specs.Acts.{opens}
use Rattle.sheet_runs.specs.Counts.{CountsAt, IfFailed}
use Rattle.sheet_runs.specs.Reading.{EndOnce, ReadsOpened, main_gots}
use Rattle.sheet_runs.specs.Talk.{Besides, Exchange, Leads, Part, beside_in, bytes_in, main_ends, main_in, names_in, none_beside, notes_in}
use Rattle.sheet_runs.specs.Writing.{counted}
use Rattle.sheet_runs.specs.declared.main_document.Main.{Main}
use Rattle.sheet_runs.specs.declared.main_document.Main.TheVariants.{Host as OfHost, Sample}
use Rattle.sheet_runs.specs.declared.run.End.{End}
use Rattle.sheet_runs.specs.declared.run.End.TheVariants.{Told, Unnoted}
use Rattle.sheet_runs.specs.declared.run.Ran.{Ran}

-- an engine of some sheet that hasn't begun
abbrev pub IsBegun : Run → Type 0
IsBegun run = (sheet : model.Sheet) × (run ≡ at_start sheet run.limits run.machine)

-- At a read of the main document: the engine asked for it, all that it was handed before is all that was read before, and all that it
-- settled was written.
pub record IsAsked (told : Option (List ℕ)) (start : Run) (taken : Taken) : Type 0 where
  pub talk : List Exchange
  pub run : Run
  pub leads : Leads start talk run
  pub asks : run.stage ≡ AsksMain
  pub read : length (main_in start talk) ≡ taken.main_read
  -- it was handed first bytes of the main document
  pub front : (main : List ℕ) → told ≡ Some main → Begins (main_in start talk) main
  pub out : taken.out ≡ bytes_in talk
  pub note : taken.note ≡ notes_in talk

-- all that was settled was written
abbrev pub WritesAll : List Exchange → (out note : List ℕ) → Type 0
WritesAll talk out note = (out ≡ bytes_in talk) × (note ≡ notes_in talk)

-- first bytes of that were
abbrev pub WritesFront : List Exchange → (out note : List ℕ) → Type 0
WritesFront talk out note = Begins out (bytes_in talk) × Begins note (notes_in talk)

-- the same, by how the run ended: all, unless a write failed or memory was wanting
abbrev pub Writes : End → List Exchange → (out note : List ℕ) → Type 0
Writes (Told (Host file fault.Write offset)) talk out note = WritesFront talk out note
Writes (Told Memory) talk out note = WritesFront talk out note
Writes (Told outcome) talk out note = WritesAll talk out note
Writes Unnoted talk out note = WritesFront talk out note

-- the newest document has this name, and so many of its bytes were handed in
abbrev pub NewestIs : List Open → (name : List ℕ) → (read : ℕ) → Type 0
NewestIs [] name read = ⊥
NewestIs (d ∷ ds) name read = (d.name ≡ Some name) × (fed d.source.lexer ≡ read)

-- the host failed on another document, after all that was read of it; or it couldn't open one that was asked for
abbrev pub FailsOn : Run → (file : List ℕ) → (offset : ℕ) → Type 0
FailsOn run file offset =
    ((run.stage ≡ Wants file) × (offset ≡ 0)) ⊎ ((run.stage ≡ Document) × NewestIs run.documents file offset)

-- How a run ended: as its engine says, or the host failed where the engine asked for something, after all that was read or written.
abbrev pub EndsBy : Run → List Act → (out : List ℕ) → End → Type 0
EndsBy run acts out (Told Usage) = ⊥
EndsBy run acts out (Told (Sheet why)) = ⊥
EndsBy run acts out (Told (Host file fault.Doc offset)) = FailsOn run file offset
EndsBy run acts out (Told (Host file fault.Read offset)) = (run.stage ≡ AsksMain) × (file ≡ codes "-") × (offset ≡ main_read acts)
EndsBy run acts out (Told (Host file fault.Write offset)) = (file ≡ codes "-") × (offset ≡ counted (length out))
EndsBy run acts out (Told Memory) = Unit {0}
EndsBy run acts out (Told outcome) = run.stage ≡ Over outcome
EndsBy run acts out Unnoted = Unit {0}

-- The main document was handed in as it came: from the host, whose reads gave these bytes and, where it was handed in, the end; or from
-- the sample, of which these pieces were left, and then nothing is read.
abbrev pub HandsMain : Main → Outside → List Act → (handed : List ℕ) → (ended : Bool) → Type 0
HandsMain OfHost old acts handed ended =
    EndOnce ended (main_gots acts) × (length handed ≡ main_read acts)
    × ((main : List ℕ) → old.to_come 0 ≡ Some main → Begins handed main × (ended ≡ true → handed ≡ main))
HandsMain (Sample pieces) old acts handed ended =
    (list_any is_main_read acts ≡ false) × ((left : List (List ℕ)) × (handed ++ encode_utf8_all (concat left) ≡ encode_utf8_all (concat pieces)) × (ended ≡ true → left ≡ []))

-- the names that were opened: those that the engine was told of, and maybe the one that it asked for last
abbrev pub OpensNames : (at : List ℕ → Option ℕ) → Run → (names : List (List ℕ)) → List Act → Type 0
OpensNames at run names acts = (opens acts ≡ map at names) ⊎ ((name : List ℕ) × (run.stage ≡ Wants name) × (opens acts ≡ map at (names ++ name ∷ [])))

-- these are first bytes of the documents of their names
abbrev pub AreParts : List Doc → List Part → Type 0
AreParts docs [] = Unit {0}
AreParts docs (p ∷ ps) = ((rest : List ℕ) × (document docs p.name ≡ Some (p.bytes ++ rest))) × AreParts docs ps

-- these are all their bytes
abbrev pub AreWhole : List Doc → List Part → Type 0
AreWhole docs [] = Unit {0}
AreWhole docs (p ∷ ps) = (document docs p.name ≡ Some p.bytes) × AreWhole docs ps

-- there are no documents of these names
abbrev pub AreAbsent : List Doc → List (List ℕ) → Type 0
AreAbsent docs [] = Unit {0}
AreAbsent docs (name ∷ names) = (place docs name ≡ None) × AreAbsent docs names

-- the documents beside the main one were handed in as they are
pub record AreAsTold (docs : List Doc) (b : Besides) : Type 0 where
  pub going : AreParts docs b.going
  pub whole : AreWhole docs b.whole
  pub absent : AreAbsent docs b.absent

-- so it is where the host tells its documents, and which ids are open
abbrev pub HandsOthers : Outside → Besides → Type 0
HandsOthers old b = IfSome old.documents (λ docs. IfSome old.open_ids (λ ids. AreAsTold docs b))

-- What a run did that began so, and what came of it.
pub record RunsSheet (start : Run) (main : Main) (old new : Outside) (ran : Ran) : Type 0 where
  pub acts : List Act
  pub out : List ℕ
  pub note : List ℕ
  pub between : Between old new acts out note
  -- what was said between the host and the engine
  pub talk : List Exchange
  pub run : Run
  pub leads : Leads start talk run
  pub writes : Writes ran.end talk out note
  -- where `Note` failed it hasn't taken all that was to be written to it
  pub unnoted : ran.end ≡ Unnoted → length note < length (notes_in talk)
  pub reads : AtMainReads acts out note (IsAsked (old.to_come 0) start)
  pub hands : HandsMain main old acts (main_in start talk) (main_ends start talk)
  -- where the run is done the main document was handed in to its end
  pub whole : ran.end ≡ Told Done → main_ends start talk ≡ true
  pub beside : HandsOthers old (beside_in none_beside start talk)
  pub opened : OpensNames (λ name. option_and_then (λ docs. place docs name) old.documents) run (names_in start talk) acts
  pub alone : ReadsOpened acts
  pub ids : new.open_ids ≡ old.open_ids
  pub counts : CountsAt ran.end old new
  -- where the host failed it was for want of room, where that is told: for an act more, or for all bytes that were settled
  pub room : IfFailed ran.end old new (LacksRoom old (needed acts (bytes_in talk) (notes_in talk)))
  pub ends : EndsBy run acts out ran.end
  pub input : ran.input ≡ counted (length (main_in start talk))
  pub output : ran.output ≡ counted (length out)
