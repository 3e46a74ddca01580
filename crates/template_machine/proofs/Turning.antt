-- How a run goes on behind an event.
use Rattle.std.proofs.Common.{◌≡◌, ◌≢◌, ℕ, List, refl, sym, subst}
use Rattle.template_machine.specs.Giving.{AsksForNone}
use Rattle.template_machine.specs.Stops.{turn_of}
use Rattle.template_machine.specs.Well.{IsWaiting}
use Rattle.template_machine.specs.declared.program.Program.{Program}
use Rattle.template_machine.specs.declared.run.Run.{Run}
use Rattle.template_machine.specs.declared.stop.Stop.{Stop}
use Rattle.template_machine.specs.declared.stop.Stop.TheVariants as stop
use Rattle.template_machine.specs.declared.turn.Turn.{Turn}
use Rattle.template_machine.specs.declared.turn.Turn.TheVariants as turn
use Rattle.template_machine.proofs.Fueled.{wanting}
use Rattle.template_machine.specs.Between.{GoesOn}

-- a run that stops wants nothing
pub stop_more : (s : Stop) → turn_of s ≢ turn.More
stop_more (stop.Fault f) = λ e. cc
stop_more (stop.Spent at) = λ e. cc
stop_more stop.Memory = λ e. cc

pub stop_wants : (s : Stop) (name : List ℕ) → turn_of s ≢ turn.WantDocument name
stop_wants (stop.Fault f) name = λ e. cc
stop_wants (stop.Spent at) name = λ e. cc
stop_wants stop.Memory name = λ e. cc

-- nor does one that ended
pub ended_more : turn.Ended ≢ turn.More
ended_more = λ e. cc

pub ended_wants : (name : List ℕ) → turn.Ended ≢ turn.WantDocument name
ended_wants name = λ e. cc

-- what is wanted is an event or a document
pub more_wants : (name : List ℕ) → turn.More ≢ turn.WantDocument name
more_wants name = λ e. cc

pub wants_more : (name : List ℕ) → turn.WantDocument name ≢ turn.More
wants_more name = λ e. cc

-- nor has one ended that goes on, or stops
pub more_ended : turn.More ≢ turn.Ended
more_ended = λ e. cc

pub wants_ended : (name : List ℕ) → turn.WantDocument name ≢ turn.Ended
wants_ended name = λ e. cc

pub stop_ended : (s : Stop) → turn_of s ≢ turn.Ended
stop_ended (stop.Fault f) = λ e. cc
stop_ended (stop.Spent at) = λ e. cc
stop_ended stop.Memory = λ e. cc

pub stop_goes : (s : Stop) → GoesOn (turn_of s) → ⊥
stop_goes (stop.Fault f) = λ h. h
stop_goes (stop.Spent at) = λ h. h
stop_goes stop.Memory = λ h. h

-- the name of the document that is wanted is told
pub wanted_waits : (p : Program) (r t : Run) (name : List ℕ) → t ≡ record r { wanted = name } → IsWaiting p r → IsWaiting p t
wanted_waits p r t name is w = subst (IsWaiting p) (sym is) (wanting p r name w)

-- what asks for no document by any name asks for none
pub asks_for_none : (t : Turn) → ((name : List ℕ) → t ≢ turn.WantDocument name) → AsksForNone t
asks_for_none turn.More none = tt
asks_for_none (turn.WantDocument name) none = none name refl
asks_for_none turn.Ended none = tt
asks_for_none (turn.Stopped fault) none = tt
asks_for_none (turn.Spent at) none = tt
asks_for_none turn.Memory none = tt
