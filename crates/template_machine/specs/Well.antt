-- What holds of a run between its steps: what each frame stands on, once all above it is over.
use Rattle.std.specs.Prelude.{◌≡◌, ◌≢◌, ℕ, zero, suc, ◌+◌, ◌-◌, ◌<◌, ◌≤◌, ◌^◌, ◌==◌, Bool, true, false, if◌then◌else◌, List, [], ◌∷◌, ◌++◌, ◌&&◌, not, length, map, reverse, Option, Some, None, All, IsSome, MatchBool, drop, slice_get, unwrap_or}
use Rattle.std.specs.List.{Contains}
use Rattle.std.specs.Option.{option_map_or}
use Rattle.stxpath_values.specs.declared.value.Atom.{Atom}
use Rattle.stxpath_values.specs.declared.value.Atom.TheVariants as atom
use Rattle.event_buffers.specs.Told.{told}
use Rattle.event_buffers.specs.declared.kept.Kept.{Kept}
use Rattle.frame_stack.specs.declared.frame.Frame.{Frame}
use Rattle.frame_stack.specs.declared.frame.Frame.TheVariants.{Body, Call, Attributes, Loop, Region, Source, Skip, Pass}
use Rattle.frame_stack.specs.declared.locals.Local.{Local}
use Rattle.match_patterns.specs.Fits.{test_of}
use Rattle.node_stack.specs.Path.{Node, Document, attributes, can_end, can_have_children, is_attribute, is_element, kind_of}
use Rattle.node_stack.specs.Test.{passes}
use Rattle.sheet_model.specs.Parts.{handed}
use Rattle.sheet_model.specs.Sound.{IsSound}
use Rattle.sheet_model.specs.declared.instr.Instr.{Instr}
use Rattle.sheet_model.specs.declared.instr.Instr.TheViews.{out-Instr}
use Rattle.sheet_model.specs.declared.sheet.Procedure.{Procedure}
use Rattle.sheet_model.specs.declared.sheet.Sheet.{Sheet}
use Rattle.sheet_model.specs.declared.sheet.Template.{Template}
use Rattle.stx_base.specs.declared.limits.Limits.{Limits}
use Rattle.stxpath_syntax.specs.declared.expr.Alternative.{Alternative}
use Rattle.xml_events.specs.declared.event.Event.{Event}
use Rattle.xml_events.specs.declared.event.Event.TheVariants as event
use Rattle.node_stack.specs.Stack.{path}
use Rattle.template_machine.specs.Bodies.{level_in, spent_in}
use Rattle.template_machine.specs.Contexts.{Context, Goes, HasStations, Items, Kind, Named, Station, Tag}
use Rattle.template_machine.specs.Deep.{AreAllDeep}
use Rattle.template_machine.specs.Programs.{IsProgramOf, instr_at}
use Rattle.template_machine.specs.Sections.{AllHoldSections, HoldsSection, IsHeldWell, WaitsWell}
use Rattle.template_machine.specs.Sources.{scopes_on}
use Rattle.template_machine.specs.Standing.{Free, Front, Known, Outer, Over, Read, Room, Shelf, Standing, Unknown, Usage, Waits, Written, known_now, node_over, on_shelf, read_closed, region_over, rooms_of, scope_over, shelf_at, skip_over, source_over, standing_of, writing_over, written_closed}
use Rattle.template_machine.specs.Ways.{Way, entered, first_in, here, left, lists_on, number_of, open_on, way_of}
use Rattle.template_machine.specs.declared.program.Link.{Link}
use Rattle.template_machine.specs.declared.program.Program.{Program}
use Rattle.template_machine.specs.declared.run.Doing.{Doing}
use Rattle.template_machine.specs.declared.run.Doing.TheVariants as doing
use Rattle.template_machine.specs.declared.run.Run.{Run}
use Rattle.template_machine.specs.declared.source.Ahead.{Ahead}
use Rattle.template_machine.specs.declared.source.Ahead.TheVariants as ahead
use Rattle.template_machine.specs.declared.source.Origin.{Origin}
use Rattle.template_machine.specs.declared.source.Origin.TheVariants as origin
use Rattle.template_machine.specs.declared.source.Source as sources

-- Locals by their kinds.

-- the three texts of a name that waits, in a local that has no name
abbrev pub AreTexts : List Atom → Type 0
AreTexts (atom.Chars uri ∷ atom.Chars local ∷ atom.Chars prefix ∷ []) = Unit {0}
AreTexts atoms = ⊥

abbrev pub IsOf : Local → Kind → Type 0
IsOf x (Named name) = x.name ≡ name
IsOf x Items = x.name.local ≡ []
IsOf x Tag = (x.name.local ≡ []) × AreTexts x.value

abbrev pub AreOf : List Local → List Kind → Type 0
AreOf [] [] = Unit {0}
AreOf [] (k ∷ ks) = ⊥
AreOf (x ∷ xs) [] = ⊥
AreOf (x ∷ xs) (k ∷ ks) = IsOf x k × AreOf xs ks

-- so many values wait behind the others
abbrev pub WaitBehind : (waiting : ℕ) → List Local → List Kind → Type 0
WaitBehind n locals kinds =
    (own : List Local) × ((waiting : List Local) × ((locals ≡ own ++ waiting) × (length waiting ≡ n) × AreOf own kinds))

-- Frames, the innermost first.

-- a frame of a node of this level stands on a body of the same node, which asked for the node again
abbrev pub is_again : (level : ℕ) → List Frame → Bool
is_again level fs = option_map_or (λ l. l == level) (level_in fs) false

-- a node's frame is over: its body goes on with it, or the node is over
abbrev pub over : (level : ℕ) → List Frame → Standing → Standing
over level fs s = if is_again level fs then s else node_over s

-- the operation before the one at which the innermost body goes on asked for the list of a frame
abbrev pub AsksBefore : List Frame → (asked : ℕ) → Type 0
AsksBefore [] asked = ⊥
AsksBefore (Loop turn ∷ fs) asked = AsksBefore fs asked
AsksBefore (Body template alternative pc locals level spent ∷ fs) asked = pc ≡ suc asked
AsksBefore (Call procedure pc locals level ∷ fs) asked = pc ≡ suc asked
AsksBefore (f ∷ fs) asked = ⊥

-- Nodes and lists.

-- a list of nodes is open within the current node
abbrev pub HasList : Way → Type 0
HasList w = can_have_children (here w) ≡ true

-- a node that waits can be the current one again, and finds room
pub record CanReturn (x : Node) (w : Way) : Type 0 where
  pub children : HasList w
  pub room : is_element x ≡ true → open_on w < w.limit
  pub end : can_end (Some x) ≡ true

-- What is known of the front of a list that goes on, in a source in which so many lists have begun and not ended: those that are open on the
-- path around the front.
abbrev pub IsFrontFor : Way → (begun : ℕ) → Front → Type 0
IsFrontFor w n Unknown = lists_on w ≡ n
IsFrontFor w n Over = lists_on (left w) ≡ n
IsFrontFor w n (Waits x) = CanReturn x w × (lists_on (entered x w) ≡ n)

-- the children of a body's node aren't gone: nothing is known yet of what follows
abbrev pub IsOpen : Way → (begun : ℕ) → Front → Type 0
IsOpen w n front = (front ≡ Unknown) × (lists_on w ≡ n)

-- What is known of a front is of the list around a body's node, in which nothing more is opened, or around an attribute's element.
abbrev pub IsSettled : List Frame → Way → (begun : ℕ) → Front → Type 0
IsSettled [] w n front = ⊥
IsSettled (Loop turn ∷ fs) w n front = IsSettled fs w n front
IsSettled (Call procedure pc locals level ∷ fs) w n front = IsSettled fs w n front
IsSettled (Attributes next asked ∷ fs) w n front = IsSettled fs w n front
IsSettled (Body template alternative pc locals level spent ∷ fs) w n front =
    MatchBool (is_again level fs)
    (IsSettled fs w n front)
    (MatchBool (is_attribute (here w))
    (IsSettled fs (left w) n front)
    (MatchBool (can_have_children (here w) && not spent)
    (IsOpen w n front)
    (IsFrontFor (left w) n front)))
IsSettled (f ∷ fs) w n front = ⊥

-- so of a head: nothing is known behind it, where it is no attribute
abbrev pub HeadFront : List Frame → Way → (begun : ℕ) → Front → Type 0
HeadFront fs w n front = MatchBool (is_attribute (here w)) (IsSettled fs (left w) n front) (IsOpen w n front)

-- the children of a body's node are gone for it
abbrev pub AreGone : List Frame → Type 0
AreGone fs = IsSome (level_in fs) → spent_in fs ≡ Some true

-- frames that may have asked for the current node: attributes are taken from their list alone, and nodes that are skipped by nobody
abbrev pub CanTake : List Frame → Way → Type 0
CanTake [] w = Unit {0}
CanTake (Attributes next asked ∷ fs) w = is_attribute (here w) ≡ true
CanTake (Skip depth ∷ fs) w = ⊥
CanTake (f ∷ fs) w = (is_attribute (here w) ≡ false) × AreGone (f ∷ fs)

-- where children are skipped, in which so many elements are open
abbrev pub SkipFront : (depth : ℕ) → Way → (begun : ℕ) → Front → Type 0
SkipFront depth w n Unknown = lists_on w + depth ≡ n
SkipFront depth w n Over = lists_on (left w) ≡ n
SkipFront depth w n (Waits x) = ⊥

-- what a list that goes on knows of its front: a list of attributes, which an attribute hasn't, of nodes that are skipped, or of nodes
-- that are taken; those of a body's node are gone for it
abbrev pub ListFits : List Frame → Way → (begun : ℕ) → Front → Type 0
ListFits [] w n front = ⊥
ListFits (Attributes next asked ∷ fs) w n front = (is_attribute (here w) ≡ false) × IsSettled fs w n front
ListFits (Skip depth ∷ fs) w n front = SkipFront depth w n front
ListFits (f ∷ fs) w n front = HasList w × AreGone (f ∷ fs) × IsFrontFor w n front

-- frames whose nodes are taken; the document node has none
abbrev pub TakeNodes : List Frame → Way → Type 0
TakeNodes [] w = Unit {0}
TakeNodes (Attributes next asked ∷ fs) w = ⊥
TakeNodes (Skip depth ∷ fs) w = ⊥
TakeNodes (f ∷ fs) w = HasList w

-- frames of which a region is the innermost
abbrev pub StandOnRegion : List Frame → Type 0
StandOnRegion (Region asked level ∷ fs) = Unit {0}
StandOnRegion fs = ⊥

-- the first that waits beside the path, and the first source around
abbrev pub OnFirst : {A : Type 0} → List (Option A) → (A → List (Option A) → Type 0) → Type 0
OnFirst [] P = ⊥
OnFirst (None ∷ xs) P = ⊥
OnFirst (Some x ∷ xs) P = P x xs

abbrev pub OnOuter : List Outer → (Outer → List Outer → Type 0) → Type 0
OnOuter [] P = ⊥
OnOuter (x ∷ xs) P = P x xs

-- Buffers.

-- each of these buffers has a copy that is written, once those before it are written no more
abbrev pub AreWritten : List ℕ → List Shelf → Type 0
AreWritten [] shelves = Unit {0}
AreWritten (id ∷ ids) shelves =
    (id < length shelves) × Contains (shelf_at shelves id).copies Written × AreWritten ids (on_shelf written_closed id shelves)

-- what the newest copy holds that is read
abbrev pub read_from : List Usage → Option (List Kept)
read_from [] = None
read_from (Read held ∷ us) = Some held
read_from (u ∷ us) = read_from us

-- the innermost source is this buffer, of which a copy is read; or it is another document
abbrev pub IsStream : (buffer : Option ℕ) → Origin → List Shelf → Type 0
IsStream None (origin.Document at) shelves = Unit {0}
IsStream (Some id) (origin.Buffer own at) shelves = (own ≡ id) × (id < length shelves) × IsSome (read_from (shelf_at shelves id).copies)
IsStream buffer o shelves = ⊥

-- the newest copy is laid over another, and open for nothing
abbrev pub IsLaidOver : List Usage → Type 0
IsLaidOver (Free ∷ u ∷ us) = Unit {0}
IsLaidOver us = ⊥

-- so of each buffer of a group, and of its variables
abbrev pub CanTakeOff : (group : ℕ) → Standing → Type 0
CanTakeOff group s =
    (1 < unwrap_or (slice_get s.copies group) 0) × All (λ (x : Shelf). x.group ≡ group → IsLaidOver x.copies) s.shelves

-- how many lists have begun and not ended behind an event
abbrev pub begun_behind : Event → ℕ → ℕ
begun_behind (event.Start offset name attrs decls first) n = n + 1
begun_behind (event.End offset) n = n - 1
begun_behind (event.DocumentEnd offset) n = n - 1
begun_behind e n = n

-- at most so many have behind each of these events
abbrev pub AreWithin : (limit begun : ℕ) → List Event → Type 0
AreWithin limit n [] = Unit {0}
AreWithin limit n (e ∷ es) = (begun_behind e n ≤ limit) × AreWithin limit (begun_behind e n) es

-- each buffer that is read tells no more elements than its path has room for
abbrev pub TellWithin : List Frame → List Room → List Shelf → Type 0
TellWithin [] rooms shelves = Unit {0}
TellWithin (Source (Some id) next asked ∷ fs) [] shelves = ⊥
TellWithin (Source (Some id) next asked ∷ fs) (r ∷ rs) shelves =
    AreWithin r.limit r.begun (option_map_or (λ held. told (drop r.next held)) (read_from (shelf_at shelves id).copies) [])
    × TellWithin fs rs (on_shelf read_closed id shelves)
TellWithin (Source None next asked ∷ fs) [] shelves = ⊥
TellWithin (Source None next asked ∷ fs) (r ∷ rs) shelves = TellWithin fs rs shelves
TellWithin (f ∷ fs) rooms shelves = TellWithin fs rooms shelves

-- Frames.

module _ (p : Program) where
  -- the instruction of the operation before a place
  abbrev pub instr_before : (pc : ℕ) → Option Instr
  instr_before zero = None
  instr_before (suc place) = instr_at p.code place

  -- how many values wait for it
  abbrev pub waiting_at : (waits : Bool) → (pc : ℕ) → ℕ
  waiting_at false pc = 0
  waiting_at true pc = option_map_or (λ i. length (handed (out-Instr i))) (instr_before pc) 0

  -- the buffers that the instructions of these numbers write
  abbrev pub buffers_of : (numbers : List ℕ) → List ℕ
  buffers_of numbers = map (λ n. option_map_or (λ (l : Link). l.named) (slice_get p.links n) 0) numbers

  -- the node passes the test by which its template was chosen
  abbrev pub PassesBy : (t : Template) → (alternative : ℕ) → Option Node → Type 0
  PassesBy t alternative None = ⊥
  PassesBy t alternative (Some n) =
      (a : Alternative) × ((slice_get t.pattern.alternatives alternative ≡ Some a) × (passes (test_of a) (kind_of n) ≡ true))

  pub record IsTemplate (template alternative : ℕ) (t : Template) (s : Standing) : Type 0 where
    pub template_is : slice_get p.sheet.templates template ≡ Some t
    pub passes_by : PassesBy t alternative (here s.source.way)
    -- a new scope has its copies, which can be taken off
    pub own_copies : t.new_scope ≡ true → CanTakeOff t.group s

module _ (p : Program) (stations : List Station) where
  -- The body of a number at a place of its code, of which so many loops are open; it waits for an instruction, or goes on.
  pub record IsBody (body loops : ℕ) (waits : Bool) (pc : ℕ) (locals : List Local) (level : ℕ) (c : Context) (s : Standing) : Type 0 where
    pub there : Goes stations pc c
    pub own : c.body ≡ body
    pub in_loops : c.loops ≡ loops
    pub locals_fit : WaitBehind (waiting_at p waits pc) locals c.locals
    pub asked : waits ≡ true → IsSome (instr_before p pc)
    -- its node is the current one
    pub level_is : level ≡ number_of s.source.way
    -- parts go to the buffers that it writes, as long as it does
    pub writes : (outer : List ℕ) × (s.targets ≡ buffers_of p c.writing ++ outer)

  -- Frames, the innermost first: what is above them is over, so many loops of the innermost body are open, and it waits for an
  -- instruction or goes on. What stands there is what each of them finds, and what the next finds once it is over.
  abbrev pub AreWell : (loops : ℕ) → (waits : Bool) → List Frame → Standing → Type 0
  AreWell loops waits [] s =
      (loops ≡ 0) × (s.source.way.nodes ≡ []) × (s.around ≡ []) × (s.aside ≡ []) × (s.targets ≡ []) × (s.source.origin ≡ origin.Main)
  AreWell loops waits (Loop turn ∷ fs) s = AreWell (suc loops) waits fs s
  AreWell loops waits (Body template alternative pc locals level spent ∷ fs) s =
      (c : Context) × ((t : Template)
      × (IsBody template loops waits pc locals level c s
      × IsTemplate p template alternative t (writing_over (buffers_of p c.writing) s)
      × (is_again level fs ≡ false → CanTake fs (writing_over (buffers_of p c.writing) s).source.way)
      × (is_again level fs ≡ true → spent_in fs ≡ Some spent)
      × AreWell 0 true fs (over level fs (scope_over t.new_scope t.group (writing_over (buffers_of p c.writing) s)))))
  AreWell loops waits (Call procedure pc locals level ∷ fs) s =
      (c : Context) × ((q : Procedure)
      × (IsBody (length p.sheet.templates + procedure) loops waits pc locals level c s
      × (slice_get p.sheet.procedures procedure ≡ Some q)
      × (level_in fs ≡ Some level)
      × AreWell 0 false fs (writing_over (buffers_of p c.writing) s)))
  AreWell loops waits (Region asked level ∷ fs) s =
      (loops ≡ 0) × (level_in fs ≡ Some level) × AsksBefore fs asked
      × OnFirst s.aside (λ x others.
      CanReturn x s.source.way × (can_have_children (Some x) ≡ true → spent_in fs ≡ Some true) × AreWell 0 true fs (region_over x others s))
  AreWell loops waits (Attributes next asked ∷ fs) s =
      (loops ≡ 0) × AsksBefore fs asked × (next ≤ length (attributes (here s.source.way))) × AreWell 0 true fs s
  AreWell loops waits (Source buffer next asked ∷ fs) s =
      (loops ≡ 0) × IsSome (level_in fs) × AsksBefore fs asked × IsStream buffer s.source.origin s.shelves
      × (here s.source.way ≡ Some Document)
      × OnOuter s.around (λ outer others.
      IsSettled fs outer.source.way outer.known.begun outer.known.front × AreWell 0 true fs (source_over buffer outer.source others s))
  AreWell loops waits (Skip depth ∷ fs) s =
      (loops ≡ 0) × HasList s.source.way × (first_in s.aside ≡ Some None → (can_end (here s.source.way) ≡ true) × StandOnRegion fs)
      × (first_in s.aside ≢ Some None → CanTake fs s.source.way) × AreWell 0 true fs (skip_over s)
  AreWell loops waits (Pass base level spent ∷ fs) s =
      (loops ≡ 0) × (base < length p.sheet.groups) × (is_again level fs ≡ false → CanTake fs s.source.way) × HasList s.source.way × (level ≡ number_of s.source.way)
      × (is_again level fs ≡ true → spent_in fs ≡ Some true) × AreWell 0 true fs (over level fs s)

  -- A body goes on with its current node, where this is known of a front.
  pub record BodyGoesOn (fs : List Frame) (s : Standing) (known : Known) : Type 0 where
    pub body : IsSome (level_in fs)
    pub well : AreWell 0 false fs s
    pub fits : IsSettled fs s.source.way known.begun known.front

  -- A body waits for its instruction.
  pub record BodyWaits (fs : List Frame) (s : Standing) (known : Known) : Type 0 where
    pub body : IsSome (level_in fs)
    pub well : AreWell 0 true fs s
    pub fits : IsSettled fs s.source.way known.begun known.front

  -- A list goes on.
  pub record ListGoesOn (fs : List Frame) (s : Standing) (known : Known) : Type 0 where
    pub well : AreWell 0 true fs s
    pub fits : ListFits fs s.source.way known.begun known.front

  -- A head is the current node, and somebody asked for it: its list goes on once it is over.
  pub record HeadIsThere (fs : List Frame) (s : Standing) (known : Known) : Type 0 where
    pub well : AreWell 0 true fs (node_over s)
    pub head : IsSome (here s.source.way)
    pub apart : is_again (number_of s.source.way) fs ≡ false
    pub take : CanTake fs s.source.way
    pub fits : HeadFront fs s.source.way known.begun known.front

  -- The head of a list of nodes.
  pub record NodeIsThere (fs : List Frame) (s : Standing) (known : Known) : Type 0 where
    pub there : HeadIsThere fs s known
    pub list : TakeNodes fs (left s.source.way)
    pub unknown : known.front ≡ Unknown
    pub end : can_end (here s.source.way) ≡ true

-- A source: a head that is held is there, no more elements are open than may be, and in each its bindings are in force; the texts of CDATA
-- sections may be ones.
pub record IsSourceWell (s : sources.Source) : Type 0 where
  pub held : s.ahead ≡ ahead.Held → IsHeldWell s.held
  pub room : open_on (way_of (path s.stack)) ≤ (way_of (path s.stack)).limit
  pub small : (way_of (path s.stack)).limit + 1 < 2 ^ 32
  pub counted : s.begun ≤ (way_of (path s.stack)).limit + 1
  pub scopes : s.bindings ≡ scopes_on (way_of (path s.stack)).nodes
  pub sections : All HoldsSection (way_of (path s.stack)).nodes

-- so of one around the innermost, in which no head is the current node
pub record IsOuterWell (s : sources.Source) : Type 0 where
  pub well : IsSourceWell s
  pub apart : s.ahead ≢ ahead.Here

-- What a run stands on, whatever goes on in it.
pub record IsSteady (p : Program) (r : Run) : Type 0 where
  pub sheet : Sheet
  pub limits : Limits
  pub sound : IsSound sheet
  pub program : IsProgramOf sheet limits p
  pub places : length p.code.ops < 2 ^ 32
  pub groups : length r.store ≡ length p.sheet.groups
  pub buffers : length r.putting.buffers.buffers ≡ length p.sheet.buffers
  pub source : IsSourceWell r.source
  pub outer : All IsOuterWell r.outer.items
  pub written : AreWritten (standing_of r).targets (standing_of r).shelves
  -- places on paths fit 32 bits
  pub shallow : (p.limits.depth + 1 < 2 ^ 32) × (p.buffer_depth + 1 < 2 ^ 32)
  -- each group has a copy of its variables, and each buffer one
  pub copied : All (λ n. 0 < n) (standing_of r).copies
  pub shelved : All (λ (x : Shelf). 0 < length x.copies) (standing_of r).shelves
  pub within : TellWithin (reverse r.frames.frames) (rooms_of r) (standing_of r).shelves
  -- what buffers hold nests no deeper than their paths have room for
  pub deep : AreAllDeep p.buffer_depth r.putting.buffers
  -- the texts of CDATA sections may be ones, in buffers and in nodes that wait
  pub sections : AllHoldSections r.putting.buffers
  pub aside : All WaitsWell (standing_of r).aside

-- what goes on
abbrev pub GoesOn : Program → List Station → Doing → Ahead → List Frame → Standing → Known → Type 0
GoesOn p stations doing.Body at fs s known = BodyGoesOn p stations fs s known
GoesOn p stations doing.List ahead.Here fs s known = NodeIsThere p stations fs s known
GoesOn p stations doing.List at fs s known = ListGoesOn p stations fs s known

-- What holds of a run between its steps. No head is the current node while a body goes on.
pub record IsWell (p : Program) (r : Run) : Type 0 where
  pub steady : IsSteady p r
  pub stations : List Station
  pub stand : HasStations p.code stations p.sheet
  pub apart : r.doing ≡ doing.Body → r.source.ahead ≢ ahead.Here
  pub goes_on : GoesOn p stations r.doing r.source.ahead (reverse r.frames.frames) (standing_of r) (known_now r)

-- What holds of a run whose innermost body waits for an instruction that is over, or that wants a document.
pub record IsWaiting (p : Program) (r : Run) : Type 0 where
  pub steady : IsSteady p r
  pub stations : List Station
  pub stand : HasStations p.code stations p.sheet
  pub apart : r.source.ahead ≢ ahead.Here
  pub waits : BodyWaits p stations (reverse r.frames.frames) (standing_of r) (known_now r)
