-- What methods of a run's core do of what is still to come, where the sheet takes the nodes of the main document alone.
use Rattle.std.specs.Prelude.{◌≡◌, ℕ, List, [], ◌∷◌, Option, Some, None, map}
use Rattle.fault_report.specs.declared.outcome.Outcome.TheVariants as outcome
use Rattle.template_machine.specs.Between.{IsOf}
use Rattle.template_machine.specs.Ending.{Done, Ending, Faulted, Said, Spent}
use Rattle.template_machine.specs.Giving.{RunsInOrder, params_of, rest}
use Rattle.template_machine.specs.Job.{Given}
use Rattle.template_machine.specs.Outcome.{AreNew}
use Rattle.template_machine.specs.Stepwise.{Flat_does}
use Rattle.template_machine.specs.Written.{Wrote, bytes_of, notes_of, target_of}
use Rattle.template_machine.specs.declared.turn.Turn.{Turn}
use Rattle.template_machine.specs.declared.turn.Turn.TheVariants as turn
use Rattle.xml_events.specs.Telling.{followed}
use Rattle.xml_events.specs.declared.event.Event.{Event}
use Rattle.run_engine.specs.Does.{EndsAs, IsMainAlone, IsRunOf, told_as}
use Rattle.run_engine.specs.More.{Coming, more, to_come, with_piece}
use Rattle.run_engine.specs.Run.{Main, Open, Over, Stage}
use Rattle.run_engine.specs.declared.engine.Engine.TheInside.{Inside}
use Rattle.run_engine.specs.declared.piece.Piece.{Piece}
use Rattle.run_engine.specs.declared.piece.Pumped.{Pumped}
use Rattle.run_engine.specs.declared.run.Core.{Core}
use Rattle.run_engine.specs.declared.run.Stage as own
use Rattle.run_engine.specs.declared.run.Stage.TheVariants as stage
use Rattle.run_engine.specs.inside.Cores.{documents_behind, open_of, opens_of, run_of}

-- a core reads the main document alone, in order
pub record ReadsInOrder (c : Core) : Type 0 where
  pub machine : RunsInOrder c.machine
  pub documents : IsMainAlone (opens_of c)

-- a core runs this
pub record Runs (given : Given) (c : Core) : Type 0 where
  pub documents : AreNew given
  pub of : IsOf given.sheet given.limits c.machine
  pub params : given.params ≡ params_of c.machine
  pub limit : (target_of c.out).limit ≡ given.limits.elements

-- what it still gives on what is still to come of its documents, and of others
abbrev pub on_lists : Given → Core → List Open → Coming → Flat_does
on_lists given c ds x = rest given c.machine (target_of c.out).left (to_come ds x)

abbrev pub gives : Core → Given → Coming → Flat_does
gives c given x = on_lists given c (opens_of c) x

-- the same where an event comes before it
abbrev pub gives_on : Event → Core → Given → Coming → Flat_does
gives_on e c given x = rest given c.machine (target_of c.out).left (followed e (to_come (map open_of (documents_behind e c)) x))

-- a core that reads on, does so in order
abbrev pub OrderAt : Stage → Core → Type 0
OrderAt Main c = ReadsInOrder c
OrderAt (Over o) c = Unit {0}
OrderAt s c = ⊥

-- So much of what was to come was said, and then it goes on, or ends.
pub record GivesFrom (May : Given → Type 0) (was : Given → Coming → Flat_does) (s : Stage) (old new : Core) : Type 0 where
  pub said : List Said
  pub wrote : Wrote old.out new.out said
  pub order : OrderAt s new
  pub runs : (given : Given) → May given → Runs given new
  pub does : (given : Given) → May given → (x : Coming) → EndsAs given old.files s (was given x) said (gives new given x)

abbrev pub Gives : Stage → (old new : Core) → Type 0
Gives s old new = GivesFrom (λ given. Runs given old) (gives old) s old new

-- where there is no answer yet, a core reads on
abbrev pub stage_after : Option Pumped → Stage → Stage
stage_after None s = Main
stage_after (Some p) s = s

-- a piece is handed in
abbrev pub MayRun : Core → Given → Type 0
MayRun c given = AreNew given × IsRunOf given (run_of c)

abbrev pub GivesPiece : Piece → Stage → (old new : Core) → Type 0
GivesPiece p s old new = GivesFrom (MayRun old) (λ given x. more given (run_of old) (with_piece p x)) s old new

-- an end is told, if memory suffices
abbrev pub TellsEnd : (files : List (List ℕ)) → Ending → Stage → Type 0
TellsEnd files e (Over outcome.Memory) = Unit {0}
TellsEnd files e (Over o) = o ≡ told_as files e
TellsEnd files e s = ⊥

-- so the answers of a machine are told
abbrev pub TellsTurn : (files : List (List ℕ)) → Turn → Stage → Type 0
TellsTurn files turn.Ended s = TellsEnd files Done s
TellsTurn files (turn.Stopped fault) s = TellsEnd files (Faulted fault) s
TellsTurn files (turn.Spent at) s = TellsEnd files (Spent at) s
TellsTurn files turn.Memory s = s ≡ Over outcome.Memory
TellsTurn files turn.More s = ⊥
TellsTurn files (turn.WantDocument name) s = Unit {0}

abbrev pub TellsIn : (files : List (List ℕ)) → Turn → Option Pumped → Stage → Type 0
TellsIn files t None s = t ≡ turn.More
TellsIn files t (Some p) s = TellsTurn files t s

-- behind an answer of a machine a core reads on, or tells it
abbrev pub GivesAfter : Turn → Stage → (old new : Core) → Type 0
GivesAfter turn.More s old new = ReadsInOrder old → Gives s old new
GivesAfter t s old new = TellsTurn old.files t s × (new.machine ≡ old.machine) × (new.out ≡ old.out)

-- between pieces nothing is settled that wasn't handed out
abbrev pub AreEmptyAt : own.Stage → Inside → Type 0
AreEmptyAt (stage.Over o) x = Unit {0}
AreEmptyAt s x = (x.bytes.items ≡ []) × (x.notes.items ≡ []) × (bytes_of x.core.out ≡ []) × (notes_of x.core.out ≡ [])
