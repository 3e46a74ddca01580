-- What holds of a run at single moments of its steps, and behind them.
use Rattle.std.specs.Prelude.{map, ◌≡◌, ◌≢◌, ℕ, ◌+◌, ◌-◌, ◌<◌, Bool, true, false, List, [], ◌∷◌, ◌&&◌, not, reverse, Some, None, IsSome, MatchBool, slice_get}
use Rattle.event_buffers.specs.Sections.{tells_text}
use Rattle.frame_stack.specs.declared.frame.Frame.{Frame}
use Rattle.frame_stack.specs.declared.frame.Frame.TheVariants.{Pass}
use Rattle.instr_code.specs.declared.code.Code.{Code}
use Rattle.instr_code.specs.declared.code.Op.{Op}
use Rattle.node_stack.specs.Path.{Node, Document, can_end, can_have_children, is_attribute}
use Rattle.xml_events.specs.declared.event.Event.{Event}
use Rattle.node_stack.specs.Stack.{path}
use Rattle.template_machine.specs.Bodies.{body_in, pc_in, skipped_in, takes_events}
use Rattle.template_machine.specs.Contexts.{Choice, Choices, Form, HasForm, HasStations, Station}
use Rattle.template_machine.specs.Documents.{documents}
use Rattle.template_machine.specs.Lists.{rest_of}
use Rattle.template_machine.specs.Ordinary.{IsOrdinary}
use Rattle.template_machine.specs.Sections.{HoldStill, HoldsSection}
use Rattle.template_machine.specs.Standing.{shelf_of, Over, Unknown, known_now, node_over, standing_of, waits_from_here, with_way}
use Rattle.template_machine.specs.Ways.{entered, first_in, here, left, way_of, lists_on}
use Rattle.template_machine.specs.declared.program.Program.{Program}
use Rattle.template_machine.specs.declared.run.Doing.TheVariants as doing
use Rattle.template_machine.specs.declared.run.Run.{Run}
use Rattle.template_machine.specs.declared.run.Running.{Running}
use Rattle.template_machine.specs.declared.run.Step.{Step}
use Rattle.template_machine.specs.declared.run.Step.TheVariants as step
use Rattle.template_machine.specs.declared.source.Ahead.TheVariants as ahead
use Rattle.template_machine.specs.declared.source.Origin.{Origin}
use Rattle.template_machine.specs.declared.source.Origin.TheVariants as origin
use Rattle.template_machine.specs.Well.{AreWell, AreWritten, HeadIsThere, ListGoesOn, NodeIsThere, is_again, over, HasList, IsFrontFor, IsOpen, IsSettled, CanTake, ListFits, StandOnRegion, begun_behind, IsSteady, IsWell, IsWaiting}
use Rattle.template_machine.specs.declared.putting.Putting.{Putting}

-- parts can be put: the buffers to which they go are written
abbrev pub CanPut : Putting → Type 0
CanPut p = AreWritten (reverse p.targets) (map shelf_of p.buffers.buffers)

-- parts go where they went, and the buffers are used as they were and hold what they may
pub record StandsAsBefore (old new : Putting) : Type 0 where
  pub targets : new.targets ≡ old.targets
  pub shelves : map shelf_of new.buffers.buffers ≡ map shelf_of old.buffers.buffers
  pub holds : HoldStill old.buffers new.buffers

-- What holds of a run whose current node is over: its list goes on, where it isn't the document node, and else no document is open.
pub record NodeIsOver (p : Program) (r : Run) : Type 0 where
  pub steady : IsSteady p r
  pub stations : List Station
  pub stand : HasStations p.code stations p.sheet
  pub apart : r.source.ahead ≢ ahead.Here
  pub list : here (way_of (path r.source.stack)) ≢ Some Document → ListGoesOn p stations (reverse r.frames.frames) (node_over (standing_of r)) (known_now r)
  pub ended : here (way_of (path r.source.stack)) ≡ Some Document → documents r ≡ []

-- What holds of a run whose current node is a head that is taken.
pub record HasHead (p : Program) (r : Run) : Type 0 where
  pub steady : IsSteady p r
  pub stations : List Station
  pub stand : HasStations p.code stations p.sheet
  pub apart : r.source.ahead ≢ ahead.Here
  pub head : HeadIsThere p stations (reverse r.frames.frames) (standing_of r) (known_now r)

-- What holds of a run whose innermost list is over.
pub record ListIsOver (p : Program) (r : Run) : Type 0 where
  pub steady : IsSteady p r
  pub stations : List Station
  pub stand : HasStations p.code stations p.sheet
  pub ahead : r.source.ahead ≡ ahead.Nothing
  pub list : takes_events (reverse r.frames.frames) ≡ true
  pub well : AreWell p stations 0 true (reverse r.frames.frames) (standing_of r)
  pub fits : ListFits (reverse r.frames.frames) (standing_of r).source.way r.source.begun Over

-- What holds of a run whose current node a body of this level has left, for which the node's children are gone or not.
pub record BodyIsOver (p : Program) (level : ℕ) (spent : Bool) (r : Run) : Type 0 where
  pub steady : IsSteady p r
  pub stations : List Station
  pub stand : HasStations p.code stations p.sheet
  pub apart : r.source.ahead ≢ ahead.Here
  pub take : is_again level (reverse r.frames.frames) ≡ false → CanTake (reverse r.frames.frames) (standing_of r).source.way
  pub well : AreWell p stations 0 true (reverse r.frames.frames) (over level (reverse r.frames.frames) (standing_of r))
  pub fits :
      MatchBool (is_again level (reverse r.frames.frames))
      (IsSettled (reverse r.frames.frames) (standing_of r).source.way r.source.begun (known_now r).front)
      (MatchBool (is_attribute (here (standing_of r).source.way))
      (IsSettled (reverse r.frames.frames) (left (standing_of r).source.way) r.source.begun (known_now r).front)
      (MatchBool (can_have_children (here (standing_of r).source.way) && not spent)
      (IsOpen (standing_of r).source.way r.source.begun (known_now r).front)
      (IsFrontFor (left (standing_of r).source.way) r.source.begun (known_now r).front)))

-- the innermost list is of the children of a node of this level, which a base group passes through
abbrev pub IsPass : (base level : ℕ) → List Frame → Type 0
IsPass base level fs = (spent : Bool) × ((gs : List Frame) × (fs ≡ Pass base level spent ∷ gs))

-- What holds of a run whose innermost region is over, of which more is known than that.
pub record RegionIsOver (p : Program) (r : Run) : Type 0 where
  pub steady : IsSteady p r
  pub stations : List Station
  pub stand : HasStations p.code stations p.sheet
  pub apart : r.source.ahead ≢ ahead.Here
  pub region : StandOnRegion (reverse r.frames.frames)
  pub well : AreWell p stations 0 true (reverse r.frames.frames) (standing_of r)
  pub list : HasList (standing_of r).source.way
  pub fits : IsFrontFor (standing_of r).source.way r.source.begun (known_now r).front

-- What holds of a run whose current node waits from here on until its region is over.
pub record PutsAside (p : Program) (r : Run) : Type 0 where
  pub steady : IsSteady p r
  pub stations : List Station
  pub stand : HasStations p.code stations p.sheet
  pub apart : r.source.ahead ≢ ahead.Here
  pub slot : first_in (standing_of r).aside ≡ Some None
  pub end : can_end (here (standing_of r).source.way) ≡ true
  pub list :
      ListGoesOn p stations (reverse r.frames.frames)
      (waits_from_here (standing_of r).source.way.nodes (rest_of (standing_of r).aside) (standing_of r)) (known_now r)

-- What holds of a run to whose innermost list this event is told, which is counted already. The text of a CDATA section may be one.
pub record HasTold (p : Program) (e : Event) (r : Run) : Type 0 where
  pub steady : IsSteady p r
  pub stations : List Station
  pub stand : HasStations p.code stations p.sheet
  pub doing : r.doing ≡ doing.List
  pub ahead : r.source.ahead ≡ ahead.Nothing
  pub list : takes_events (reverse r.frames.frames) ≡ true
  pub well : AreWell p stations 0 true (reverse r.frames.frames) (standing_of r)
  pub before : ℕ
  pub counted : r.source.begun ≡ begun_behind e before
  pub text : tells_text e ≡ true
  pub fits : ListFits (reverse r.frames.frames) (standing_of r).source.way before Unknown

-- What holds of a run whose innermost list is skipped, where so many elements are open in it from here on.
pub record SkipsOn (p : Program) (depth : ℕ) (r : Run) : Type 0 where
  pub steady : IsSteady p r
  pub stations : List Station
  pub stand : HasStations p.code stations p.sheet
  pub doing : r.doing ≡ doing.List
  pub ahead : r.source.ahead ≡ ahead.Nothing
  pub skipped : IsSome (skipped_in (reverse r.frames.frames))
  pub well : AreWell p stations 0 true (reverse r.frames.frames) (standing_of r)
  pub begun : lists_on (standing_of r).source.way + depth ≡ r.source.begun

-- What holds of a run in whose innermost list, which is skipped, an element or the list itself ends.
pub record SkipEnds (p : Program) (depth : ℕ) (r : Run) : Type 0 where
  pub steady : IsSteady p r
  pub stations : List Station
  pub stand : HasStations p.code stations p.sheet
  pub doing : r.doing ≡ doing.List
  pub ahead : r.source.ahead ≡ ahead.Nothing
  pub skipped : skipped_in (reverse r.frames.frames) ≡ Some depth
  pub well : AreWell p stations 0 true (reverse r.frames.frames) (standing_of r)
  pub deep : 0 < depth → lists_on (standing_of r).source.way + (depth - 1) ≡ r.source.begun
  pub over : depth ≡ 0 → lists_on (left (standing_of r).source.way) ≡ r.source.begun

-- What holds of a run whose innermost list has this head next.
pub record TakesHead (p : Program) (x : Node) (r : Run) : Type 0 where
  pub steady : IsSteady p r
  pub stations : List Station
  pub stand : HasStations p.code stations p.sheet
  pub doing : r.doing ≡ doing.List
  pub list : HasList (standing_of r).source.way
  pub section : HoldsSection x
  pub head :
      NodeIsThere p stations (reverse r.frames.frames) (with_way (entered x (standing_of r).source.way) (standing_of r))
      (record { front = Unknown; begun = r.source.begun })

-- What holds of a run whose current node is the head of its innermost list, which is looked at now.
pub record HeadIsLooked (p : Program) (r : Run) : Type 0 where
  pub steady : IsSteady p r
  pub stations : List Station
  pub stand : HasStations p.code stations p.sheet
  pub ahead : r.source.ahead ≡ ahead.Nothing
  pub head : NodeIsThere p stations (reverse r.frames.frames) (standing_of r) (known_now r)

-- a source whose events are those of a buffer
abbrev pub IsBuffer : (id : ℕ) → Origin → Type 0
IsBuffer id (origin.Buffer own at) = own ≡ id
IsBuffer id o = ⊥

-- a source whose events come from outside

abbrev pub IsDocument : Origin → Type 0
IsDocument (origin.Buffer id at) = ⊥
IsDocument o = Unit {0}

-- What holds of a run that wants the next event of its newest document.
pub record WantsEvent (p : Program) (r : Run) : Type 0 where
  pub well : IsWell p r
  pub doing : r.doing ≡ doing.List
  pub ahead : r.source.ahead ≡ ahead.Nothing
  pub list : takes_events (reverse r.frames.frames) ≡ true
  pub document : IsDocument r.source.origin

-- a list goes on, with the next event where one is wanted
abbrev pub GoesOrWaits : Step → Run → Type 0
GoesOrWaits step.More r = Unit {0}
GoesOrWaits step.Wait r = (r.source.ahead ≡ ahead.Nothing) × (takes_events (reverse r.frames.frames) ≡ true) × IsDocument r.source.origin
GoesOrWaits step.Want r = ⊥
GoesOrWaits step.Over r = ⊥

-- What holds behind a step. A sheet that takes the nodes of the main document alone wants no other.
abbrev pub Follows : Program → Step → Run → Type 0
Follows p step.More r = IsWell p r
Follows p step.Wait r = WantsEvent p r
Follows p step.Want r = IsWaiting p r × (IsOrdinary p.code → ⊥)
Follows p step.Over r = documents r ≡ []

-- A run whose innermost body is at an operation.
pub record IsAtOp (p : Program) (r : Run) (at : Running) (o : Op) : Type 0 where
  pub well : IsWell p r
  pub doing : r.doing ≡ doing.Body
  pub body : body_in (reverse r.frames.frames) ≡ Some at.body
  pub pc : pc_in (reverse r.frames.frames) ≡ Some at.pc
  pub is : slice_get p.code.ops at.pc ≡ Some o

-- an instruction that asks which of its lists is run
abbrev pub Branches : Form → Type 0
Branches Choice = Unit {0}
Branches (Choices branches) = Unit {0}
Branches f = ⊥

abbrev pub IsBranch : Code → (number : ℕ) → Type 0
IsBranch code n = (f : Form) × (HasForm code n f × Branches f)
