-- What holds of a run and its open documents.
use Rattle.std.specs.Prelude.{◌≡◌, ◌≤◌, ◌<◌, ◌+◌, ◌*◌, ℕ, suc, cond, true, false, Bool, List, [], ◌∷◌, ◌++◌, map, reverse, length, Option, Some, None, is_none}
use Rattle.stx_base.specs.declared.fault.XmlFault.{XmlFault}
use Rattle.stx_base.specs.declared.limits.Limits.{Limits}
use Rattle.result_writer.specs.Target.{Left}
use Rattle.xml_tokens.specs.Reader.{fed}
use Rattle.xml_events.specs.Answering.{Counts, EndsWhole, Goes}
use Rattle.xml_events.specs.Source.{IsAnswer, Leaves, Shrinks, Source, events_left, future}
use Rattle.xml_events.specs.Telling.{pulled}
use Rattle.xml_events.specs.Tree.{Future}
use Rattle.xml_events.specs.declared.event.Event.{Event}
use Rattle.xml_events.specs.declared.event.Event.TheVariants as event
use Rattle.xml_events.specs.declared.event.Pull.{Pull}
use Rattle.xml_events.specs.declared.event.Pull.TheVariants as pull
use Rattle.sheet_model.specs.declared.sheet.Sheet.{Sheet}
use Rattle.template_machine.specs.Between.{Continues, IsAsking, IsAskingForDocument, IsNew, IsOf, behind, depth_of, documents_of, fuel_at, fuel_limit_of, fuel_of, mains_behind, mains_of}
use Rattle.template_machine.specs.Giving.{RunsInOrder, params_of, rest}
use Rattle.template_machine.specs.Job.{Given}
use Rattle.template_machine.specs.Written.{bytes_of, notes_of, target_of}
use Rattle.template_machine.specs.declared.turn.Param.{Param}
use Rattle.template_machine.specs.declared.turn.Turn.{Turn}
use Rattle.template_machine.specs.declared.turn.Turn.TheVariants as turn
use Rattle.run_engine.specs.Asks.{AsksFewer, asks_left, main_events}
use Rattle.run_engine.specs.Fitting.{Fits}
use Rattle.run_engine.specs.Run as spec
use Rattle.run_engine.specs.Run.{IsAtStart, IsHungry, MayCome, Open, Run, Says, Stands}
use Rattle.run_engine.specs.Taking.{AreEnded, Takes, Took, opened_first}
use Rattle.run_engine.specs.declared.run.Core.{Core}
use Rattle.run_engine.specs.declared.run.Stage.{Stage}
use Rattle.run_engine.specs.declared.run.Stage.TheVariants as stage
use Rattle.run_engine.specs.declared.document.Document.{Document}
use Rattle.run_engine.specs.declared.piece.Piece.{Piece}
use Rattle.run_engine.specs.declared.piece.Pumped.{Pumped}

abbrev pub stage_of : Stage → spec.Stage
stage_of stage.New = spec.New
stage_of stage.Main = spec.Main
stage_of stage.Document = spec.Document
stage_of (stage.Wants name) = spec.Wants name
stage_of (stage.Over outcome) = spec.Over outcome

abbrev pub open_of : Document → Open
open_of d = record { name = d.name; source = d.reader }

abbrev pub opened : Option Document → List Document
opened None = []
opened (Some d) = d ∷ []

-- the open documents, the newest first
abbrev pub documents_in : Core → List Document
documents_in c = opened c.newest ++ reverse c.outer.items

abbrev pub opens_of : Core → List Open
opens_of c = map open_of (documents_in c)

abbrev pub run_of : Core → Run
run_of c = record {
  stage = stage_of c.stage;
  files = c.files;
  limits = c.limits;
  strip = c.strip;
  cdata = c.cdata;
  documents = opens_of c;
  fuel = fuel_of c.machine;
  machine = c.machine;
  output = target_of c.out;
}

-- the same sheet is run under the same limits
pub record IsSame (old new : Core) : Type 0 where
  pub files : new.files ≡ old.files
  pub limits : new.limits ≡ old.limits
  pub strip : new.strip ≡ old.strip
  pub cdata : new.cdata ≡ old.cdata

-- how many lists are open in a document
abbrev pub lists_open : Source → ℕ
lists_open s = length (future s [] false)

-- and in each of these
abbrev pub lists_of : List Document → List ℕ
lists_of ds = map (λ (d : Document). lists_open d.reader) ds

-- which of these is the main document
abbrev pub mains_in : List Document → List Bool
mains_in ds = map (λ (d : Document). is_none d.name) ds

-- a document that goes on: as many lists are open whatever bytes follow, and a run can take what is to come
pub record IsReadable (depth : ℕ) (s : Source) : Type 0 where
  pub going : s.over ≡ None
  pub lists : (more : List ℕ) (last : Bool) → length (future s more last) ≡ lists_open s
  pub fits : (more : List ℕ) (last : Bool) → Fits depth (future s more last)

abbrev pub AreReadable : (depth : ℕ) → List Document → Type 0
AreReadable depth [] = Unit {0}
AreReadable depth (d ∷ ds) = IsReadable depth d.reader × AreReadable depth ds

-- the machine knows of these documents how many lists are open in each, and which is the main one
pub record AreTied (ds : List Document) (c : Core) : Type 0 where
  pub lists : documents_of c.machine ≡ lists_of ds
  pub mains : mains_of c.machine ≡ mains_in ds
  pub readable : AreReadable c.limits.depth ds

-- what holds of each run: no document waits where none is read, at most as many elements are open as the limit says, and there is as
-- much fuel
pub record IsSteady (c : Core) : Type 0 where
  pub bare : c.newest ≡ None → c.outer.items ≡ []
  pub depth : depth_of c.machine ≡ c.limits.depth
  pub fuel : fuel_limit_of c.machine ≡ c.limits.fuel

-- the machine asks for the next event
pub record Reads (c : Core) : Type 0 where
  pub steady : IsSteady c
  pub asking : IsAsking c.machine
  pub tied : AreTied (documents_in c) c

-- the machine asks for a document
pub record Waits (c : Core) : Type 0 where
  pub steady : IsSteady c
  pub asking : IsAskingForDocument c.machine
  pub tied : AreTied (documents_in c) c

-- nothing is done yet
pub record IsFresh (c : Core) : Type 0 where
  pub steady : IsSteady c
  pub machine : IsNew c.machine
  pub lists : lists_of (documents_in c) ≡ 1 ∷ []
  pub mains : mains_in (documents_in c) ≡ true ∷ []
  pub readable : AreReadable c.limits.depth (documents_in c)

abbrev pub IsSoundAt : Stage → Core → Type 0
IsSoundAt stage.New c = IsFresh c
IsSoundAt stage.Main c = Reads c
IsSoundAt stage.Document c = Reads c
IsSoundAt (stage.Wants name) c = Waits c
IsSoundAt (stage.Over outcome) c = Unit {0}

pub record IsKept (c : Core) : Type 0 where
  pub sound : IsSoundAt c.stage c
  pub stands : Stands (run_of c)

-- a run of a sheet that hasn't begun, and has put nothing
pub record IsBegun (sheet : Sheet) (params : List Param) (limits : Limits) (c : Core) : Type 0 where
  pub sound : IsKept c
  pub run : IsAtStart sheet params limits (run_of c)
  pub bytes : bytes_of c.out ≡ []
  pub notes : notes_of c.out ≡ []

pub record MayTake (c : Core) (p : Piece) : Type 0 where
  pub sound : IsKept c
  pub may : MayCome (stage_of c.stage) p

-- how many documents a run may still ask for
abbrev pub asks_of : Core → ℕ
asks_of c = asks_left (run_of c)

-- so it is once an event of the newest document, which was read, has come to the machine
abbrev pub asks_told : Core → ℕ
asks_told c = main_events (opens_of c) * (c.limits.fuel + 1) + fuel_at (mains_in (opened c.newest)) c.limits.fuel (fuel_of c.machine)

-- an answer to a piece, where so many documents may be asked for
pub record Answers (most : ℕ) (old : Core) (p : Pumped) (new : Core) : Type 0 where
  pub says : Says p (stage_of new.stage)
  pub sound : IsKept new
  pub same : IsSame old new
  pub took : Takes (stage_of new.stage) (opens_of old) (opens_of new)
  pub asks : AsksFewer (stage_of new.stage) most (asks_of new)

-- how many events come at most of what was fed
abbrev pub work_in : List Document → ℕ
work_in [] = 0
work_in (d ∷ ds) = events_left d.reader + work_in ds

abbrev pub work : Core → ℕ
work c = work_in (documents_in c)

-- a run goes on by itself, or answers
abbrev pub Advances : (old : Core) → Option Pumped → (new : Core) → Type 0
Advances old None new = Reads new × (work new < work old) × IsSame old new × Took (opens_of old) (opens_of new) × (asks_of new ≤ asks_of old)
Advances old (Some p) new = Answers (asks_of old) old p new

-- what the machine answered, and how the documents stand then
abbrev pub IsTurned : Turn → Core → Type 0
IsTurned turn.More c = Reads c
IsTurned (turn.WantDocument name) c = Waits c
IsTurned turn.Ended c = documents_in c ≡ []
IsTurned other c = Unit {0}

-- where a document is wanted it is one of those that may be asked for
abbrev pub most_at : Turn → ℕ → ℕ
most_at turn.More n = n
most_at (turn.WantDocument name) n = suc n
most_at other n = 0

-- a run goes on as it is, or answers
abbrev pub Settles : Turn → (old : Core) → Option Pumped → (new : Core) → Type 0
Settles t old None new = (new ≡ old) × Reads new × (t ≡ turn.More)
Settles t old (Some p) new = Answers (most_at t (asks_of old)) old p new

-- The newest document goes on.
abbrev pub NewestIs : (Document → Type 0) → Core → Type 0
NewestIs P c = (d : Document) × ((c.newest ≡ Some d) × P d)

abbrev pub IsUnended : Core → Type 0
IsUnended c = NewestIs (λ d. d.reader.lexer.ended ≡ false) c

-- the newest document answered
pub record Pulls (old : Core) (p : Pull) (new : Core) : Type 0 where
  pub before : Document
  pub after : Document
  pub was : old.newest ≡ Some before
  pub is : new.newest ≡ Some after
  pub name : after.name ≡ before.name
  pub answer : IsAnswer before.reader p
  pub leaves : Leaves before.reader p after.reader
  pub shrinks : Shrinks before.reader p after.reader
  pub goes : Goes before.reader p after.reader
  pub counts : Counts before.reader p after.reader
  pub whole : EndsWhole before.reader p
  pub wants : p ≡ pull.Need → fed before.reader.lexer ≤ before.reader.lexer.limits.input
  pub ended : after.reader.lexer.ended ≡ before.reader.lexer.ended
  pub fed_is : fed after.reader.lexer ≡ fed before.reader.lexer
  pub limits : after.reader.lexer.limits ≡ before.reader.lexer.limits
  pub asking : IsAsking new.machine
  pub documents : documents_of new.machine ≡ documents_of old.machine
  pub depth : depth_of new.machine ≡ depth_of old.machine
  pub mains : mains_of new.machine ≡ mains_of old.machine
  pub fuel : fuel_of new.machine ≡ fuel_of old.machine
  pub fuel_limit : fuel_limit_of new.machine ≡ fuel_limit_of old.machine
  pub outer : new.outer.items ≡ old.outer.items
  pub own : IsSame old new
  pub out : new.out ≡ old.out
  -- the machine does what it did
  pub of : (sheet : Sheet) (limits : Limits) → IsOf sheet limits old.machine → IsOf sheet limits new.machine
  pub params : params_of new.machine ≡ params_of old.machine
  pub order : RunsInOrder old.machine → RunsInOrder new.machine
  pub gives : (given : Given) (left : Left) (f : Future) → rest given old.machine left f ≡ rest given new.machine left f

-- the documents that are open behind an event of the newest
abbrev pub documents_behind : Event → Core → List Document
documents_behind (event.DocumentEnd offset) c = reverse c.outer.items
documents_behind e c = documents_in c

-- where the newest document's end is told it has ended
abbrev pub EndsBefore : Event → Core → Type 0
EndsBefore (event.DocumentEnd offset) c = AreEnded (map open_of (opened c.newest))
EndsBefore e c = Unit {0}

-- the newest document told an event
pub record HasTold (e : Event) (c : Core) : Type 0 where
  pub bare : c.newest ≡ None → c.outer.items ≡ []
  pub depth : depth_of c.machine ≡ c.limits.depth
  pub fuel : fuel_limit_of c.machine ≡ c.limits.fuel
  pub asking : IsAsking c.machine
  pub continues : Continues c.machine e
  pub whole : EndsBefore e c
  pub lists : behind e (documents_of c.machine) ≡ lists_of (documents_behind e c)
  pub mains : mains_behind e (mains_of c.machine) ≡ mains_in (documents_behind e c)
  pub renews : fuel_at (mains_of c.machine) c.limits.fuel (fuel_of c.machine) ≡ fuel_at (mains_in (opened c.newest)) c.limits.fuel (fuel_of c.machine)
  pub readable : AreReadable c.limits.depth (documents_behind e c)

-- a document that has ended is gone
pub record Closes (e : Event) (old new : Core) : Type 0 where
  pub documents : documents_in new ≡ documents_behind e old
  pub bare : new.newest ≡ None → new.outer.items ≡ []
  pub others : new ≡ record old { newest = new.newest; outer = new.outer }

-- an event was handed on
abbrev pub Hands : (old : Core) → Option Pumped → (new : Core) → Type 0
Hands old None new = Reads new × (work new ≤ work old) × IsSame old new × Took (opens_of old) (opens_of new) × (asks_of new ≤ asks_told old)
Hands old (Some p) new = Answers (asks_told old) old p new

-- a document of the wanted name is the newest
pub record Opens (old new : Core) : Type 0 where
  pub document : Document
  pub given : opens_of new ≡ opened_first (run_of old) (stage_of old.stage)
  pub readable : IsReadable old.limits.depth document.reader
  pub lists : lists_open document.reader ≡ 1
  pub named : is_none document.name ≡ false
  pub documents : documents_in new ≡ document ∷ documents_in old
  pub bare : new.newest ≡ None → new.outer.items ≡ []
  pub others : new ≡ record old { newest = new.newest; outer = new.outer; stage = new.stage }

-- a document became the newest
pub record Adds (document : Document) (old new : Core) : Type 0 where
  pub documents : documents_in new ≡ document ∷ documents_in old
  pub bare : new.newest ≡ None → new.outer.items ≡ []
  pub others : new ≡ record old { newest = new.newest; outer = new.outer }

-- the newest document has a fault
abbrev pub HasFault : XmlFault → Core → Type 0
HasFault fault c = NewestIs (λ d. (more : List ℕ) (last : Bool) → pulled (future d.reader more last) ≡ pull.Bad fault) c

-- all nodes of the newest document that its bytes settle were taken
abbrev pub IsFed : Core → Type 0
IsFed c = NewestIs (λ d. IsHungry d.reader) c

-- a document is wanted
abbrev pub IsWanting : Core → Type 0
IsWanting c = (name : List ℕ) × (stage_of c.stage ≡ spec.Wants name)

-- it is the main document
abbrev pub is_main : Option Document → Bool
is_main None = false
is_main (Some d) = is_none d.name

-- where the main document needs more, nothing is said of what may be asked for
abbrev pub asks_asked : Core → ℕ
asks_asked c = cond (is_main c.newest) 0 (asks_of c)
