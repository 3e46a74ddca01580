-- What a run still does in every state, whatever is still to come of the documents that are open: a function of its frames, and of what they
-- stand on.
use Rattle.std.specs.Prelude.{ℕ, zero, suc, ◌+◌, ◌-◌, ◌==◌, Bool, true, false, if◌then◌else◌, ◌||◌, not, List, [], ◌∷◌, ◌++◌, Option, Some, None, drop, map, reverse, take, unwrap_or}
use Rattle.std.specs.Option.{option_map, option_map_or}
use Rattle.stx_base.specs.Course.{Ask, Halt, Ret}
use Rattle.stx_base.specs.declared.fault.Place.{Place}
use Rattle.stx_base.specs.declared.node.NodeTest.TheVariants as test
use Rattle.event_buffers.specs.Buffers.{Buffers, on_buffer, on_first, is_read, read_at}
use Rattle.event_buffers.specs.Forest.{kept_before}
use Rattle.event_buffers.specs.Layer.{closed}
use Rattle.event_buffers.specs.declared.kept.Kept.{Kept}
use Rattle.frame_stack.specs.declared.frame.Frame.{Frame}
use Rattle.frame_stack.specs.declared.frame.Frame.TheVariants.{Attributes, Body, Call, Loop, Pass, Region, Skip, Source as Source_frame}
use Rattle.frame_stack.specs.declared.locals.Local.{Local}
use Rattle.instr_code.specs.Running.{At}
use Rattle.instr_code.specs.Running as running
use Rattle.node_stack.specs.Path.{PathNode, attributes, is_attribute}
use Rattle.node_stack.specs.Stack.{path_node}
use Rattle.result_writer.specs.Target.{Left}
use Rattle.sheet_model.specs.Parts.{place}
use Rattle.sheet_model.specs.declared.instr.Instr.{Instr}
use Rattle.sheet_model.specs.declared.instr.Instr.TheOpen.{Instr-F}
use Rattle.sheet_model.specs.declared.instr.Instr.TheViews.{out-Instr}
use Rattle.sheet_model.specs.declared.instr.When.{When}
use Rattle.xml_events.specs.Document.{inner, outer}
use Rattle.xml_events.specs.Tree.{Begun, End, Fresh, Future}
use Rattle.template_machine.specs.Acting.{document_nodes, ends_reading}
use Rattle.template_machine.specs.Bodies.{active_in, level_of, pc_in, spent_in, takes_events}
use Rattle.template_machine.specs.Job.{Asked, Condition, Does, Given, Here, Level, Main, Nodes, Opened, Self, Source, State, fresh, remains, single, sources_open}
use Rattle.template_machine.specs.Lists.{rest_of}
use Rattle.template_machine.specs.Meaning.{at_document, ending_of}
use Rattle.template_machine.specs.Passing as passing
use Rattle.template_machine.specs.Programs.{instr_at}
use Rattle.template_machine.specs.Putting.{puts}
use Rattle.template_machine.specs.Seen.{named_of}
use Rattle.template_machine.specs.Sources.{held_node}
use Rattle.template_machine.specs.Steps.{group_of, test_in}
use Rattle.template_machine.specs.Still as still
use Rattle.template_machine.specs.Still.{Lists, Mode, Returns, Runs, Scene, aside_of, counts_of, first_node, has_kids, nodes_of, trail_of}
use Rattle.template_machine.specs.Stepwise.{Flat_does, Working, lifted}
use Rattle.template_machine.specs.Trail.{document}
use Rattle.template_machine.specs.Values.{got, setting, template_text}
use Rattle.template_machine.specs.Ways.{first_in}
use Rattle.template_machine.specs.Well.{is_again}
use Rattle.template_machine.specs.declared.machine.Machine.{Machine}
use Rattle.template_machine.specs.declared.program.Program.{Program}
use Rattle.template_machine.specs.declared.run.Doing.{Doing}
use Rattle.template_machine.specs.declared.run.Doing.TheVariants as doing
use Rattle.template_machine.specs.declared.run.Run.{Run}
use Rattle.template_machine.specs.declared.source.Ahead.{Ahead}
use Rattle.template_machine.specs.declared.source.Ahead.TheVariants as ahead
use Rattle.template_machine.specs.declared.source.Origin.{Origin}
use Rattle.template_machine.specs.declared.source.Origin.TheVariants as origin
use Rattle.template_machine.specs.declared.source.Source as sources

-- What is still to come.

-- An open document: its name, which the main one has not, and for each list that is open in it, from the innermost outwards, the nodes that are
-- still to come. Behind the main document's own list that is the one in which its document node stands.
pub record ToCome : Type 0 where
  pub name : Option (List ℕ)
  pub lists : Future

-- The open lists of a buffer in which this is left: behind all of it the buffer's own list is over.
abbrev pub lists_left : List Kept → Future
lists_left [] = End Fresh 0 ∷ []
lists_left (k ∷ ks) = kept_before k (lists_left ks)

-- What frames stand on.

-- A source that is read: where its nodes come from, the nodes of its path, the innermost first, the head that was begun and that no one has
-- taken, if there is one, and what is still to come of its lists, that head first.
pub record Reading : Type 0 where
  pub source : Source
  pub nodes : List PathNode
  pub head : Option PathNode
  pub lists : Future

-- The innermost source and those around it, the innermost first, and the nodes of bodies that wait beside their paths, None for one that is
-- still on its path.
pub record Ground : Type 0 where
  pub here : Reading
  pub around : List Reading
  pub aside : List (Option PathNode)

abbrev pub with_nodes : List PathNode → Ground → Ground
with_nodes nodes g = record g { here = record g.here { nodes = nodes } }

abbrev pub with_lists : Future → Ground → Ground
with_lists f g = record g { here = record g.here { lists = f } }

-- the innermost list is taken up, with the head in front of it: the lists around it are to come
abbrev pub list_taken : Ground → Ground
list_taken g = record g { here = record g.here { head = None; lists = outer g.here.lists } }

-- the innermost source alone
abbrev pub scene_of : Ground → Scene
scene_of g = record { nodes = g.here.nodes; source = g.here.source; around = []; aside = g.aside }

-- the current node is over
abbrev pub node_over : Ground → Ground
node_over g = with_nodes (rest_of g.here.nodes) g

-- it waits for its siblings where a place is kept for it, and else it is over
abbrev pub leaves_to : List (Option PathNode) → Ground → Ground
leaves_to (None ∷ others) g = record (node_over g) { aside = first_in g.here.nodes ∷ others }
leaves_to aside g = node_over g

abbrev pub node_leaves : Ground → Ground
node_leaves g = leaves_to g.aside g

-- a node that waited for its siblings is the current one again
abbrev pub returns_from : List (Option PathNode) → Ground → Ground
returns_from [] g = g
returns_from (None ∷ others) g = record g { aside = others }
returns_from (Some x ∷ others) g = record (with_nodes (x ∷ g.here.nodes) g) { aside = others }

abbrev pub node_returns : Ground → Ground
node_returns g = returns_from g.aside g

-- the innermost source is over
abbrev pub goes_to : List Reading → Ground → Ground
goes_to [] g = g
goes_to (x ∷ others) g = record g { here = x; around = others }

abbrev pub source_over : Ground → Ground
source_over g = goes_to g.around g

-- The sources of a run.

-- as many sources are open at once
abbrev pub sources_in : List Reading → ℕ
sources_in [] = 0
sources_in (x ∷ others) = sources_open x.source

-- the document that a source is, if it is open: a buffer is none, and one whose own list has ended isn't open
abbrev pub document_of : Origin → (begun : ℕ) → List ToCome → Option ToCome
document_of (origin.Buffer id at) n ds = None
document_of o zero ds = None
document_of o (suc n) ds = first_in ds

-- those of the sources around it
abbrev pub documents_around : Origin → (begun : ℕ) → List ToCome → List ToCome
documents_around (origin.Buffer id at) n ds = ds
documents_around o zero ds = ds
documents_around o (suc n) ds = rest_of ds

-- and the buffers, of which it is read no more where it is one
abbrev pub buffers_around : Origin → Buffers → Buffers
buffers_around (origin.Buffer id at) b = on_buffer (on_first is_read closed) id b
buffers_around o b = b

-- where its nodes come from
abbrev pub source_of : Origin → Option ToCome → (around : List Reading) → Source
source_of origin.Main d around = Main
source_of (origin.Buffer id at) d around = Opened None at (sources_in around + 1)
source_of (origin.Document at) d around = Opened (option_map_or (λ (x : ToCome). x.name) d None) at (sources_in around + 1)

-- What is still to come of it: of a buffer, from its next event on, of what the copy holds that is read, and of a document, what is told of it.
-- Behind the main document stands the list of its document node.
abbrev pub lists_of : Origin → (begun next : ℕ) → Buffers → Option ToCome → Future
lists_of (origin.Buffer id at) zero next b d = []
lists_of (origin.Buffer id at) (suc n) next b d = lists_left (drop next (read_at b id))
lists_of origin.Main zero next b d = End Begun 0 ∷ []
lists_of o n next b d = option_map_or (λ (x : ToCome). x.lists) d []

-- the head that was begun and that no one has taken: the current node of the path, or one that is held beside it
abbrev pub head_of : Ahead → List PathNode → Option PathNode → Option PathNode
head_of ahead.Here nodes held = first_in nodes
head_of ahead.Held nodes held = held
head_of h nodes held = None

module _ (given : Given) (p : Program) where
  abbrev pub reading_of : Buffers → sources.Source → List ToCome → (around : List Reading) → Reading
  reading_of b s ds around =
      let d = document_of s.origin s.begun ds in
      record {
        source = source_of s.origin d around;
        nodes = still.path_before given p s.ahead (nodes_of s);
        head = head_of s.ahead (nodes_of s) (held_node s);
        lists = still.known_before given p s.ahead (nodes_of s) (held_node s) (lists_of s.origin s.begun s.next b d);
      }

  -- of sources, the innermost first
  abbrev pub readings : Buffers → List sources.Source → List ToCome → List Reading
  readings b [] ds = []
  readings b (s ∷ ss) ds =
      reading_of b s ds (readings (buffers_around s.origin b) ss (documents_around s.origin s.begun ds))
      ∷ readings (buffers_around s.origin b) ss (documents_around s.origin s.begun ds)

  abbrev pub around_of : Run → List ToCome → List Reading
  around_of r ds =
      readings (buffers_around r.source.origin r.putting.buffers) (reverse r.outer.items) (documents_around r.source.origin r.source.begun ds)

  abbrev pub ground_of : Run → List ToCome → Ground
  ground_of r ds = record {
    here = reading_of r.putting.buffers r.source ds (around_of r ds);
    around = around_of r ds;
    aside = map (option_map path_node) (reverse r.aside.items);
  }

  -- Whose body a frame is, with the frames below it: above a list of attributes, or of a source, no region of another list goes on.

  abbrev pub conditions_in : (level : ℕ) → List Frame → List Condition
  conditions_in level [] = []
  conditions_in level (Attributes next asked ∷ fs) = []
  conditions_in level (Source_frame buffer next asked ∷ fs) = []
  conditions_in level (Region asked own ∷ fs) =
      (if own == level then still.condition_of given p (still.group_in given p fs) (instr_at p.code asked) else []) ++ conditions_in level fs
  conditions_in level (f ∷ fs) = conditions_in level fs

  abbrev pub level_at : (level : ℕ) → Source → List Frame → Level
  level_at level source fs =
      record { conditions = conditions_in level fs; instances = still.instances_in given p level fs; source = source }

  -- of the frames with this one
  abbrev pub self_of : (level : ℕ) → Frame → List Frame → Ground → Self
  self_of level f fs g = record {
    group = unwrap_or (group_of p.sheet f) 0;
    test = unwrap_or (test_in p.sheet (f ∷ fs)) test.Document;
    active = active_in level (f ∷ fs);
    level = level_at level g.here.source (f ∷ fs);
    trail = trail_of g.here.nodes;
  }

  -- How frames go on.

  -- Where the node of a body goes on: its children, if they aren't gone, and the siblings that remain, of lists that are to come. An
  -- attribute has neither.
  abbrev pub goes_on_at : (spent : Bool) → Ground → (Ground → Here → Flat_does) → State → Flat_does
  goes_on_at spent g k st =
      let n = first_node g.here.nodes in
      let counts = counts_of (rest_of g.here.nodes) in
      let f = g.here.lists in
      if is_attribute (Some n)
      then k g (single st)
      else if spent || not (has_kids n)
      then k (list_taken g) (remains (record { earlier = still.before_held given p g.here.head counts; coming = inner f }) st)
      else k (list_taken (list_taken g)) (record (remains (record { earlier = counts; coming = inner (outer f) }) st) { kids = Some (inner f) })

  -- so where the innermost body waited for an instruction that is over
  abbrev pub instr_over : List Frame → (Ground → Here → Flat_does) → Ground → State → Flat_does
  instr_over fs k g st = goes_on_at (unwrap_or (spent_in fs) true) g k st

  abbrev pub body_goes :
      (turns : List ℕ) → Frame → (pc : ℕ) → List Local → (level : ℕ) → List Frame → Ground → (Here → Flat_does) → Here → Flat_does
  body_goes turns b pc locals level fs g k a =
      Ask (At pc (record { self = self_of level b fs g; here = record a { locals = named_of locals }; aside = aside_of locals; turns = turns })) (λ (w : Working). k w.here)

  -- the siblings that remain of the list around the current node, of lists that are to come
  abbrev pub siblings_of : Ground → State → Here
  siblings_of g st = still.siblings_of given p (rest_of g.here.nodes) g.here.lists st

  -- What is left to do, from the frames, the innermost first, what they stand on, of which the lists are those around the one that goes on,
  -- and where that goes on. It is done by the frames from the innermost outwards: a body goes on with its code, an open list with its
  -- nodes, and a source that is over gives way to the one around it.
  abbrev pub rest : Mode → (turns : List ℕ) → List Frame → Ground → Here → Flat_does
  rest mode turns [] g a = Halt (ending_of given a.state.result)
  rest mode turns (Loop turn ∷ fs) g a = rest mode (turns ++ turn ∷ []) fs g a
  rest Runs turns (Body template alternative pc locals level spent ∷ fs) g a =
      body_goes turns (Body template alternative pc locals level spent) pc locals level fs g
      (still.template_over given p template (is_again level fs) (scene_of g) (rest Returns [] fs g) (rest Lists [] fs (node_over g))) a
  rest Returns turns (Body template alternative pc locals level spent ∷ fs) g a =
      body_goes turns (Body template alternative pc locals level spent) pc (still.without_handed given p (instr_at p.code (pc - 1)) locals) level fs g
      (still.template_over given p template (is_again level fs) (scene_of g) (rest Returns [] fs g) (rest Lists [] fs (node_over g))) a
  rest Lists turns (Body template alternative pc locals level spent ∷ fs) g a =
      still.children_go given p pc locals (scene_of g) g.here.lists (λ f.
      body_goes turns (Body template alternative pc locals level spent) pc (still.without_handed given p (instr_at p.code (pc - 1)) locals) level fs (with_lists f g)
      (still.template_over given p template (is_again level fs) (scene_of g) (rest Returns [] fs (with_lists f g)) (rest Lists [] fs (node_over (with_lists f g))))) a
  rest Runs turns (Call procedure pc locals level ∷ fs) g a =
      body_goes turns (Call procedure pc locals level) pc locals level fs g (rest Runs [] fs g) a
  rest Returns turns (Call procedure pc locals level ∷ fs) g a =
      body_goes turns (Call procedure pc locals level) pc (still.without_handed given p (instr_at p.code (pc - 1)) locals) level fs g (rest Runs [] fs g) a
  rest Lists turns (Call procedure pc locals level ∷ fs) g a =
      still.children_go given p pc locals (scene_of g) g.here.lists (λ f.
      body_goes turns (Call procedure pc locals level) pc (still.without_handed given p (instr_at p.code (pc - 1)) locals) level fs (with_lists f g) (rest Runs [] fs (with_lists f g))) a
  -- a region goes on in the list around it, and gives back what remains of it
  rest mode turns (Region asked level ∷ fs) g a =
      Ask (running.Given (Nodes a.left (still.asked_by given p asked (still.locals_in given p fs) (level_at level g.here.source (Region asked level ∷ fs)) (trail_of g.here.nodes)) a.state)) (λ (w : Working).
      rest Returns [] fs (node_returns g) (remains w.here.left w.here.state))
  rest mode turns (Attributes next asked ∷ fs) g a =
      let attrs = attributes (Some (first_node g.here.nodes)) in
      lifted
      (passing.attributes given (take next attrs) (drop next attrs) (still.asked_by given p asked (still.locals_in given p fs) (fresh g.here.source) (trail_of g.here.nodes)) a.state (λ st. Ret (single st)))
      (λ b. instr_over fs (rest Returns [] fs) g b.state)
  -- behind the nodes of a buffer or of another document the instruction is over that asked for them
  rest mode turns (Source_frame buffer next asked ∷ fs) g a =
      Ask (running.Given (Nodes a.left (still.asked_by given p asked (still.locals_in given p fs) (fresh g.here.source) (document ∷ [])) a.state)) (λ (w : Working).
      instr_over fs (rest Returns [] fs) (source_over g) (option_map_or (λ id. ends_reading id w.here.state) buffer w.here.state))
  rest mode turns (Skip depth ∷ fs) g a =
      still.skips given p depth g.here.source a.left.coming g.here.lists a.state (λ f st.
      rest Lists [] fs (node_leaves (with_lists (outer f) g)) (siblings_of (with_lists f g) st))
  rest mode turns (Pass base level spent ∷ fs) g a =
      Ask (running.Given (Nodes a.left (passing.passed_on given base g.here.source (trail_of g.here.nodes)) a.state)) (λ (w : Working).
      lifted (puts given (passing.group_at given base) (passing.parts_behind (passing.kinds_in given base) (first_node g.here.nodes)) w.here.state (λ st. Ret (single st))) (λ b.
      if is_again level fs
      then rest Returns [] fs (list_taken g) (siblings_of g b.state)
      else rest Lists [] fs (node_over (list_taken g)) (siblings_of g b.state)))

  -- Runs.

  -- A list goes on: of nodes, by what is to come of it, or of attributes, of which none is to come.
  abbrev pub list_goes : (events : Bool) → List Frame → Ground → State → Flat_does
  list_goes false fs g st = rest Lists [] fs g (single st)
  list_goes true fs g st =
      rest Lists [] fs (list_taken g) (remains (record { earlier = still.before_held given p g.here.head (counts_of g.here.nodes); coming = inner g.here.lists }) st)

  -- a body goes on, or a list
  abbrev pub goes_on : Doing → List Frame → Ground → State → Flat_does
  goes_on doing.Body fs g st = instr_over fs (rest Runs [] fs) g st
  goes_on doing.List fs g st = list_goes (takes_events fs) fs g st

  abbrev pub remaining_in : Run → Left → List ToCome → Flat_does
  remaining_in r left ds = goes_on r.doing (reverse r.frames.frames) (ground_of r ds) (still.state_of given p r left)

  -- Runs that wait for a document.

  -- who waits for an instruction: the innermost body
  abbrev pub waiter : List Frame → Ground → Self
  waiter [] g = record (at_document given) { level = fresh g.here.source }
  waiter (Loop turn ∷ fs) g = waiter fs g
  waiter (f ∷ fs) g = self_of (unwrap_or (level_of f) 0) f fs g

  -- what it waits for goes on so, and then the instruction is over
  abbrev pub waits_for : (Self → Here → Does) → List Frame → Ground → State → Flat_does
  waits_for does fs g st =
      instr_over fs (λ g a.
      lifted (does (waiter fs g) (record a { locals = named_of (still.locals_in given p fs) })) (rest Returns [] fs g)) g st

  -- the place of the instruction for which it waits, in its body's code and in the sheet, and what it asks
  abbrev pub asked_in : List Frame → ℕ
  asked_in fs = unwrap_or (pc_in fs) 0 - 1

  abbrev pub asks : List Frame → Self → Asked
  asks fs self = still.asked_by given p (asked_in fs) (still.locals_in given p fs) self.level self.trail

  abbrev pub asked_at : List Frame → Place
  asked_at fs = option_map_or (λ i. place (out-Instr i)) (instr_at p.code (asked_in fs)) (record { file = 0; offset = 0 })

  -- a process-document instruction that has asked: by the name that it gives, its document's nodes, or no document
  abbrev pub opens : Asked → Instr-F Instr When → Self → Here → Does
  opens q (Instr-F.ProcessDocument href group params at) self a =
      got at (template_text href (setting given self a)) (λ name. document_nodes given q.at q.base q.params name self a (given.documents name))
  opens q x self a = Ret a

  abbrev pub wanted : List Frame → Self → Here → Does
  wanted fs self a = option_map_or (λ i. opens (asks fs self) (out-Instr i) self a) (instr_at p.code (asked_in fs)) (Ret a)

  abbrev pub wanting_in : Run → Left → List ToCome → Flat_does
  wanting_in r left ds = waits_for (wanted (reverse r.frames.frames)) (reverse r.frames.frames) (ground_of r ds) (still.state_of given p r left)

-- Machines.

-- What a machine's run still does, where this is left of the output, and this is to come of the open documents, the newest first.
abbrev pub remaining : Given → Machine → Left → List ToCome → Flat_does
remaining given m = remaining_in given m.program m.run

-- What it still does where it waits for a document: by what documents there are, and what is to come of the open ones.
abbrev pub wanting : Given → Machine → Left → List ToCome → Flat_does
wanting given m = wanting_in given m.program m.run
