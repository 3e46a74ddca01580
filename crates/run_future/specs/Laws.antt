-- Laws of what a run still does.
use Rattle.std.specs.Prelude.{◌≡◌, ◌≢◌, ℕ, ◌+◌, nat_lt, true, List, [], ◌∷◌, ◌++◌, Option, Some, None, Ok, drop, reverse}
use Rattle.std.specs.Option.{option_map_or}
use Rattle.stx_base.specs.Course.{Halt, Ret, Same}
use Rattle.stx_base.specs.declared.fault.Place.{Place}
use Rattle.stx_base.specs.declared.fault.RunCode.TheVariants.{NoDocument}
use Rattle.event_buffers.specs.Buffers.{busy_at, on_buffer, on_newest, read_at}
use Rattle.event_buffers.specs.Forest.{forest}
use Rattle.event_buffers.specs.Layer.{opened_read}
use Rattle.event_buffers.specs.declared.kept.Kept.{Kept}
use Rattle.frame_stack.specs.declared.frame.Frame.{Frame}
use Rattle.frame_stack.specs.declared.frame.Frame.TheVariants.{Source as Source_frame}
use Rattle.node_stack.specs.Path as paths
use Rattle.result_writer.specs.Target.{Left}
use Rattle.sheet_model.specs.declared.instr.Instr.{Instr}
use Rattle.sheet_model.specs.declared.instr.Instr.TheOpen.{Instr-F}
use Rattle.sheet_model.specs.declared.instr.Instr.TheViews.{out-Instr}
use Rattle.sheet_model.specs.declared.instr.When.{When}
use Rattle.xml_events.specs.Document.{inner}
use Rattle.xml_events.specs.Tree.{Begun, End, Forest, Future, Mark, Why}
use Rattle.template_machine.specs.Acting.{begins_reading, buffer_nodes, document_nodes, ends_reading}
use Rattle.template_machine.specs.Between.{IsAsking}
use Rattle.template_machine.specs.Bodies.{takes_events}
use Rattle.template_machine.specs.Ending.{fault_at}
use Rattle.template_machine.specs.Fuel.{unready}
use Rattle.template_machine.specs.Giving as giving
use Rattle.template_machine.specs.Giving.{RunsInOrder, StopsAt}
use Rattle.template_machine.specs.Job.{Given, Main, Opened, Source, State, single, sources_open}
use Rattle.template_machine.specs.Listed.{AreInOrder}
use Rattle.template_machine.specs.Ordinary.{IsAlone}
use Rattle.template_machine.specs.Programs.{instr_at}
use Rattle.template_machine.specs.Seen.{named_of}
use Rattle.template_machine.specs.Still as still
use Rattle.template_machine.specs.Still.{nodes_of}
use Rattle.template_machine.specs.Stepwise.{flat_code}
use Rattle.template_machine.specs.Values.{setting, template_text}
use Rattle.template_machine.specs.declared.machine.Machine.{Machine}
use Rattle.template_machine.specs.declared.program.Program.{Program}
use Rattle.template_machine.specs.declared.run.Doing.TheVariants as doing
use Rattle.template_machine.specs.declared.run.Run.{Run}
use Rattle.template_machine.specs.declared.source.Ahead.TheVariants as ahead
use Rattle.template_machine.specs.declared.source.Origin.{Origin}
use Rattle.template_machine.specs.declared.source.Origin.TheVariants as origin
use Rattle.run_future.specs.Remaining.{Ground, Reading, ToCome, asked_at, asked_in, asks, buffers_around, goes_on, ground_of, lists_left, remaining, remaining_in, waiter, waits_for, wanted}

-- Where the main document alone is read.

-- It does what is said of that, on what is to come of the document.
abbrev pub DoesAsAlone : Type 0
DoesAsAlone =
    (given : Given) (m : Machine) → IsAsking m → RunsInOrder m → (left : Left) (d : ToCome)
    → remaining given m left (d ∷ []) ≡ giving.rest given m left d.lists

-- a head that is the current node is looked at in its list
abbrev pub HeadIsInList : Run → Type 0
HeadIsInList r = r.source.ahead ≡ ahead.Here → (r.doing ≡ doing.List) × (takes_events (reverse r.frames.frames) ≡ true)

-- A run in any state, of which no source is open but the main document, and no region.
pub record IsOfMain (p : Program) (r : Run) : Type 0 where
  pub alone : IsAlone p r
  pub order : AreInOrder (reverse r.frames.frames)
  pub looked : HeadIsInList r

-- So it does what is said of that, while the document is open, and once its end was told.
abbrev pub DoesAsAloneAnywhere : Type 0
DoesAsAloneAnywhere =
    (given : Given) (p : Program) (r : Run) → IsOfMain p r → (left : Left) (d : ToCome)
    → (r.source.begun ≢ 0 → remaining_in given p r left (d ∷ []) ≡ still.still given p r left d.lists)
    × (r.source.begun ≡ 0 → remaining_in given p r left [] ≡ still.still given p r left (End Begun 0 ∷ []))

-- Sources that begin.

-- What is left of a buffer at its beginning are its nodes.
abbrev pub BuffersHoldNodes : Type 0
BuffersHoldNodes = (ks : List Kept) → inner (lists_left ks) ≡ forest ks

-- within a source that begins, of which these lists are to come, at its document node
abbrev pub within : Source → Future → Ground → Ground
within source lists g = record {
  here = record { source = source; nodes = paths.first_node paths.Document ∷ []; head = None; lists = lists };
  around = g.here ∷ g.around;
  aside = g.aside;
}

module _ (given : Given) (p : Program) where
  -- What a process-buffer instruction does, and then all that waits, is what goes on once its buffer is read.
  abbrev pub BufferBegins : (fs : List Frame) → Ground → State → (id : ℕ) → Type 0
  BufferBegins fs g st id =
      busy_at st.buffers id ≡ None → nat_lt (sources_open g.here.source) given.limits.sources ≡ true
      → waits_for given p (λ self. buffer_nodes given (asked_at given p fs) (asks given p fs self).base (asks given p fs self).params (Some id) self) fs g st
      ≡ goes_on given p doing.List (Source_frame (Some id) 0 (asked_in given p fs) ∷ fs)
      (within (Opened None (asked_at given p fs) (sources_open g.here.source + 1)) (lists_left (read_at (begins_reading id st).buffers id)) g) (begins_reading id st)

  -- So it is with another document, whatever its nodes are.
  abbrev pub DocumentBegins : (fs : List Frame) → Ground → State → (name : List ℕ) → (tree : Forest) → Type 0
  DocumentBegins fs g st name tree =
      waits_for given p (λ self a. document_nodes given (asked_at given p fs) (asks given p fs self).base (asks given p fs self).params name self a (Some tree)) fs g st
      ≡ goes_on given p doing.List (Source_frame None 0 (asked_in given p fs) ∷ fs) (within (Opened (Some name) (asked_at given p fs) (sources_open g.here.source + 1)) (tree ∷ []) g) st

  -- a process-document instruction that gives this name, where the innermost body stands
  abbrev pub Gives : (fs : List Frame) → Ground → State → (name : List ℕ) → Instr-F Instr When → Type 0
  Gives fs g st name (Instr-F.ProcessDocument href group params at) =
      template_text href (setting given (waiter given p fs g) (record (single st) { locals = named_of (still.locals_in given p fs) })) ≡ Ok name
  Gives fs g st name x = ⊥

  -- the innermost body waits for such a one
  pub record WaitsForDocument (fs : List Frame) (g : Ground) (st : State) (name : List ℕ) : Type 0 where
    pub instr : Instr
    pub is : instr_at p.code (asked_in given p fs) ≡ Some instr
    pub gives : Gives fs g st name (out-Instr instr)

-- What a process-buffer instruction does, and one of another document that is there, and then all that waits, is what goes on once the
-- source has begun.
abbrev pub SourcesBegin : Type 0
SourcesBegin =
    (given : Given) (p : Program) (fs : List Frame) (g : Ground) (st : State)
    → ((id : ℕ) → BufferBegins given p fs g st id) × ((name : List ℕ) (tree : Forest) → DocumentBegins given p fs g st name tree)

-- So a run does that waits for a document, if there is one: else it stops where its instruction stands.
abbrev pub WaitsForNodes : Type 0
WaitsForNodes =
    (given : Given) (p : Program) (fs : List Frame) (g : Ground) (st : State) (name : List ℕ) → WaitsForDocument given p fs g st name
    → ((tree : Forest) → given.documents name ≡ Some tree
    → waits_for given p (wanted given p fs) fs g st
    ≡ goes_on given p doing.List (Source_frame None 0 (asked_in given p fs) ∷ fs) (within (Opened (Some name) (asked_at given p fs) (sources_open g.here.source + 1)) (tree ∷ []) g) st)
    × (given.documents name ≡ None → waits_for given p (wanted given p fs) fs g st ≡ Halt (fault_at NoDocument (asked_at given p fs)))

-- What runs stand on that have opened a source: its frame's place in the sheet is known by its origin.

-- a run goes on in a source of this origin that begins within the one that was the innermost
pub record Enters (o : Origin) (old new : Run) : Type 0 where
  pub nodes : nodes_of new.source ≡ paths.first_node paths.Document ∷ []
  pub ahead : new.source.ahead ≡ ahead.Nothing
  pub origin : new.source.origin ≡ o
  pub begun : new.source.begun ≡ 1
  pub next : new.source.next ≡ 0
  pub outer : new.outer.items ≡ old.outer.items ++ old.source ∷ []
  pub aside : new.aside.items ≡ old.aside.items

-- Its frame is the innermost, and in all else it is as it was.
pub record Waits (frame : Frame) (old new : Run) : Type 0 where
  pub doing : new.doing ≡ doing.List
  pub frames : reverse new.frames.frames ≡ frame ∷ reverse old.frames.frames
  pub fuel : new.fuel ≡ old.fuel
  pub store : new.store ≡ old.store
  pub putting : new.putting ≡ old.putting

-- It stands within that source: a buffer holds what the copy holds that is read now, and of a document the newest future is told.
abbrev pub StandsInBuffer : Type 0
StandsInBuffer =
    (given : Given) (p : Program) (old new : Run) (id : ℕ) (at : Place) → Enters (origin.Buffer id at) old new → busy_at old.putting.buffers id ≡ None
    → new.putting.buffers ≡ on_buffer (on_newest opened_read) id old.putting.buffers → (ds : List ToCome)
    → ground_of given p new ds
    ≡ within (Opened None at (sources_open (ground_of given p old ds).here.source + 1)) (lists_left (read_at new.putting.buffers id)) (ground_of given p old ds)

abbrev pub StandsInDocument : Type 0
StandsInDocument =
    (given : Given) (p : Program) (old new : Run) (at : Place) → Enters (origin.Document at) old new → new.putting.buffers ≡ old.putting.buffers
    → (d : ToCome) (ds : List ToCome)
    → ground_of given p new (d ∷ ds) ≡ within (Opened d.name at (sources_open (ground_of given p old ds).here.source + 1)) d.lists (ground_of given p old ds)

-- Sources that end.

-- another source than the main document
abbrev pub IsOther : Source → Type 0
IsOther Main = ⊥
IsOther source = Unit {0}

-- the state behind a buffer, which isn't read any more, or another document
abbrev pub behind_source : (buffer : Option ℕ) → State → State
behind_source buffer st = option_map_or (λ id. ends_reading id st) buffer st

-- A source of which nothing is left goes on as the instruction that asked for it, which is over, in the source around it.
abbrev pub SourcesEnd : Type 0
SourcesEnd =
    (given : Given) (p : Program) (buffer : Option ℕ) (next asked : ℕ) (fs : List Frame) (g : Ground) (x : Reading) (xs : List Reading) (st : State)
    (m : Mark) (offset : ℕ)
    → IsOther g.here.source → inner g.here.lists ≡ End m offset
    → Same (flat_code given) (goes_on given p doing.List (Source_frame buffer next asked ∷ fs) (record g { around = x ∷ xs }) st)
    (waits_for given p (λ self a. Ret a) fs (record g { here = x; around = xs }) (behind_source buffer st))

-- A run leaves its innermost source, which is a buffer that is read by this number or another document.
pub record Leaves (buffer : Option ℕ) (next asked : ℕ) (old new : Run) : Type 0 where
  pub doing : old.doing ≡ doing.List
  pub frames : reverse old.frames.frames ≡ Source_frame buffer next asked ∷ reverse new.frames.frames
  pub outer : old.outer.items ≡ new.outer.items ++ new.source ∷ []
  pub aside : new.aside.items ≡ old.aside.items
  pub fuel : new.fuel ≡ old.fuel
  pub store : new.store ≡ old.store
  pub targets : new.putting.targets ≡ old.putting.targets
  pub buffers : new.putting.buffers ≡ buffers_around old.source.origin old.putting.buffers

-- So a buffer that is read to its end is over, and another document of which nothing is left, and one whose end was told already.
abbrev pub BuffersEnd : Type 0
BuffersEnd =
    (given : Given) (p : Program) (old new : Run) (id next asked : ℕ) (at : Place) → Leaves (Some id) next asked old new
    → old.source.origin ≡ origin.Buffer id at → old.source.ahead ≡ ahead.Nothing → old.source.begun ≡ 1
    → drop old.source.next (read_at old.putting.buffers id) ≡ [] → (left : Left) (ds : List ToCome)
    → Same (flat_code given) (remaining_in given p old left ds)
    (waits_for given p (λ self a. Ret a) (reverse new.frames.frames) (ground_of given p new ds) (still.state_of given p new left))

abbrev pub DocumentsEnd : Type 0
DocumentsEnd =
    (given : Given) (p : Program) (old new : Run) (next asked : ℕ) (at : Place) → Leaves None next asked old new
    → old.source.origin ≡ origin.Document at → old.source.ahead ≡ ahead.Nothing → old.source.begun ≡ 1
    → (left : Left) (d : ToCome) (ds : List ToCome) (m : Mark) (offset : ℕ) → inner d.lists ≡ End m offset
    → Same (flat_code given) (remaining_in given p old left (d ∷ ds))
    (waits_for given p (λ self a. Ret a) (reverse new.frames.frames) (ground_of given p new ds) (still.state_of given p new left))

abbrev pub EndsAreTold : Type 0
EndsAreTold =
    (given : Given) (p : Program) (old new : Run) (next asked : ℕ) (at : Place) → Leaves None next asked old new
    → old.source.origin ≡ origin.Document at → old.source.ahead ≡ ahead.Ended → old.source.begun ≡ 0 → (left : Left) (ds : List ToCome)
    → Same (flat_code given) (remaining_in given p old left ds)
    (waits_for given p (λ self a. Ret a) (reverse new.frames.frames) (ground_of given p new ds) (still.state_of given p new left))

-- Runs that wait.

-- A run that waits for an event ends where no node of the newest document is ready, for the cause of that.
abbrev pub GoesNoFurther : Type 0
GoesNoFurther =
    (given : Given) (m : Machine) → IsAsking m → (left : Left) (d : ToCome) (ds : List ToCome) (why : Why) → StopsAt why (inner d.lists)
    → Same (flat_code given) (remaining given m left (d ∷ ds)) (Halt (unready (ground_of given m.program m.run (d ∷ ds)).here.source why))
