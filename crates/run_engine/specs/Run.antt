-- How a run stands between two pieces.
use Rattle.std.specs.Prelude.{◌≡◌, ◌≤◌, ℕ, false, Bool, List, [], ◌∷◌, ◌++◌, Option, Some, None, IsSome, codes, map, slice_get}
use Rattle.std.specs.Option.{option_map_or}
use Rattle.stx_base.specs.Course.{Begins}
use Rattle.stx_base.specs.declared.fault.Place.{Place}
use Rattle.stx_base.specs.declared.fault.RunCode.{RunCode}
use Rattle.stx_base.specs.declared.fault.RunCode.TheVariants.{NoDocument}
use Rattle.stx_base.specs.declared.fault.XmlFault.{XmlFault}
use Rattle.stx_base.specs.declared.limits.Limits.{Limits}
use Rattle.result_writer.specs.Target.{Target, fresh}
use Rattle.xml_tokens.specs.Reader.{fed}
use Rattle.xml_events.specs.Source.{Source, future, source_for}
use Rattle.xml_events.specs.Telling.{pulled}
use Rattle.xml_events.specs.declared.event.Pull.TheVariants as pull
use Rattle.sheet_model.specs.declared.sheet.Sheet.{Sheet}
use Rattle.template_machine.specs.Between.{IsOf}
use Rattle.template_machine.specs.Commands.{given_by}
use Rattle.template_machine.specs.Giving.{params_of}
use Rattle.template_machine.specs.declared.machine.Machine.{Machine}
use Rattle.template_machine.specs.declared.turn.Param.{Param}
use Rattle.fault_report.specs.declared.outcome.Outcome.{Outcome}
use Rattle.fault_report.specs.declared.outcome.Outcome.TheVariants as ended
use Rattle.run_engine.specs.declared.piece.Piece.{Piece}
use Rattle.run_engine.specs.declared.piece.Piece.TheVariants as piece
use Rattle.run_engine.specs.declared.piece.Pumped.{Pumped}
use Rattle.run_engine.specs.declared.piece.Pumped.TheVariants as pumped

-- How far a run is: it hasn't begun; it asks for bytes of the main document, or its end; for those of the newest other document; for a
-- document of a name; or it is over.
pub data Stage : Type 0 where
  New : Stage
  Main : Stage
  Document : Stage
  Wants : (name : List ℕ) → Stage
  Over : Outcome → Stage

-- an open document: its name, which the main one has not, and what its reader has before it
pub record Open : Type 0 where
  pub name : Option (List ℕ)
  pub source : Source

-- A run: how far it is, the names of the sheet's files, the limits, whether texts of white space alone are no nodes and whether CDATA
-- sections are, the documents that are open, the newest first, the fuel that is left until the main document's next event, the machine that
-- takes the nodes, and what the parts that it put leave of the output.
pub record Run : Type 0 where
  pub stage : Stage
  pub files : List (List ℕ)
  pub limits : Limits
  pub strip : Bool
  pub cdata : Bool
  pub documents : List Open
  pub fuel : ℕ
  pub machine : Machine
  pub output : Target

-- the same sheet is run under the same limits
pub record IsSameRun (old new : Run) : Type 0 where
  pub files : new.files ≡ old.files
  pub limits : new.limits ≡ old.limits
  pub strip : new.strip ≡ old.strip
  pub cdata : new.cdata ≡ old.cdata

-- a run that hasn't begun, with its machine
abbrev pub at_start : Sheet → Limits → Machine → Run
at_start sheet limits m = record {
  stage = New;
  files = sheet.files;
  limits = limits;
  strip = sheet.strip;
  cdata = sheet.cdata;
  documents = record { name = None; source = source_for limits sheet.strip sheet.cdata } ∷ [];
  fuel = limits.fuel;
  machine = m;
  output = fresh limits.elements;
}

-- one of this sheet, with these parameters of the command
pub record IsAtStart (sheet : Sheet) (params : List Param) (limits : Limits) (r : Run) : Type 0 where
  pub is : r ≡ at_start sheet limits r.machine
  pub of : IsOf sheet limits r.machine
  pub given : params_of r.machine ≡ map given_by params

-- which piece may come: the start once and first, and then what was asked for; none once the run is over
abbrev pub MayCome : Stage → Piece → Type 0
MayCome New piece.Start = Unit {0}
MayCome Main (piece.Bytes bytes) = Unit {0}
MayCome Main piece.End = Unit {0}
MayCome Document (piece.Bytes bytes) = Unit {0}
MayCome Document piece.End = Unit {0}
MayCome (Wants name) piece.Opened = Unit {0}
MayCome (Wants name) piece.Absent = Unit {0}
MayCome s p = ⊥

-- what stops a run
abbrev pub CanStop : Outcome → Type 0
CanStop (ended.Run file code offset) = Unit {0}
CanStop (ended.Xml file fault) = Unit {0}
CanStop (ended.Fuel file offset) = Unit {0}
CanStop ended.Memory = Unit {0}
CanStop other = ⊥

-- an answer says how far the run is
abbrev pub Says : Pumped → Stage → Type 0
Says pumped.Main stage = stage ≡ Main
Says pumped.Document stage = stage ≡ Document
Says (pumped.Open name) stage = stage ≡ Wants name
Says pumped.Done stage = stage ≡ Over ended.Done
Says pumped.Stopped stage = (o : Outcome) × ((stage ≡ Over o) × CanStop o)

abbrev pub outcome_in : Stage → Option Outcome
outcome_in (Over o) = Some o
outcome_in stage = None

-- a document goes on, all nodes that its bytes settle were taken, and it has no more bytes than it may have
pub record IsHungry (s : Source) : Type 0 where
  pub unended : s.lexer.ended ≡ false
  pub told : s.known ≡ []
  pub needs : pulled (future s [] false) ≡ pull.Need
  pub within : fed s.lexer ≤ s.lexer.limits.input

abbrev pub MainIsHungry : List Open → Type 0
MainIsHungry [] = ⊥
MainIsHungry (d ∷ ds) = (d.name ≡ None) × IsHungry d.source

abbrev pub OtherIsHungry : List Open → Type 0
OtherIsHungry [] = ⊥
OtherIsHungry (d ∷ ds) = IsSome d.name × IsHungry d.source

-- the name of a document, where its fault is told
abbrev pub file_of : Option (List ℕ) → List ℕ
file_of None = codes "-"
file_of (Some name) = name

-- the newest document has this name and this fault, whatever bytes follow
abbrev pub IsFaulty : (file : List ℕ) → XmlFault → List Open → Type 0
IsFaulty file fault [] = ⊥
IsFaulty file fault (d ∷ ds) =
    (file ≡ file_of d.name) × ((more : List ℕ) (last : Bool) → pulled (future d.source more last) ≡ pull.Bad fault)

-- the file of a place in a sheet
abbrev pub file_at : (files : List (List ℕ)) → Place → List ℕ
file_at files at = option_map_or (λ name. name) (slice_get files at.file) []

-- a place in a sheet by its file's name
abbrev pub IsAt : (files : List (List ℕ)) → (file : List ℕ) → (offset : ℕ) → Type 0
IsAt files file offset = (at : Place) × ((file ≡ file_at files at) × (offset ≡ at.offset))

-- What holds of a run that is over: where it is done no document is left to read; an instruction's fault stands in the sheet, and a
-- document's fault is that of the newest one.
abbrev pub EndsBy : Outcome → List (List ℕ) → List Open → Type 0
EndsBy ended.Done files documents = documents ≡ []
EndsBy (ended.Run file code offset) files documents = IsAt files file offset
EndsBy (ended.Fuel file offset) files documents = IsAt files file offset
EndsBy (ended.Xml file fault) files documents = IsFaulty file fault documents
EndsBy other files documents = Unit {0}

-- What holds of a run at each stage.
abbrev pub StandsAt : Stage → List (List ℕ) → List Open → Type 0
StandsAt Main files documents = MainIsHungry documents
StandsAt Document files documents = OtherIsHungry documents
StandsAt (Over o) files documents = EndsBy o files documents
StandsAt stage files documents = Unit {0}

abbrev pub Stands : Run → Type 0
Stands r = StandsAt r.stage r.files r.documents

-- a run stopped by an instruction's fault of this code, or for want of memory
abbrev pub StopsWith : RunCode → Stage → Type 0
StopsWith code (Over (ended.Run file own offset)) = own ≡ code
StopsWith code (Over ended.Memory) = Unit {0}
StopsWith code stage = ⊥

-- the word that there is no wanted document stops a run
abbrev pub Absents : Piece → Stage → Type 0
Absents piece.Absent stage = StopsWith NoDocument stage
Absents other stage = Unit {0}

-- what a result begins with
abbrev pub head : List ℕ
head = codes "<?xml version=\"1.0\" encoding=\"UTF-8\"?>\n"

-- the start puts it behind what stands there
abbrev pub begun_with : Piece → (before : List ℕ) → List ℕ
begun_with piece.Start before = before ++ head
begun_with other before = before

-- so it stands there before all else, unless memory was wanting
abbrev pub HasHead : Piece → (before : List ℕ) → Stage → (after : List ℕ) → Type 0
HasHead p before (Over ended.Memory) after = Unit {0}
HasHead p before stage after = Begins (begun_with p before) after

-- so it stands there alone behind a step, unless memory was wanting
abbrev pub HasBegun : Piece → (before : List ℕ) → Stage → (after : List ℕ) → Type 0
HasBegun p before (Over ended.Memory) after = Begins before after
HasBegun p before stage after = after ≡ begun_with p before
