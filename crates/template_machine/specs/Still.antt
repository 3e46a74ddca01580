-- What a run still does on what is still to come: a function of its frames, of what they stand on, and of a future.
use Rattle.std.specs.Prelude.{ℕ, zero, suc, ◌+◌, ◌-◌, ◌==◌, Bool, true, false, if◌then◌else◌, ◌||◌, not, List, [], ◌∷◌, ◌++◌, Option, Some, None, filter, length, map, take, drop, reverse, slice_get, unwrap_or}
use Rattle.std.specs.Option.{option_map, option_map_or}
use Rattle.stx_base.specs.Course.{Ret, Halt, Ask, Same, says}
use Rattle.stx_base.specs.declared.node.NodeTest.{NodeTest}
use Rattle.stx_base.specs.declared.node.NodeTest.TheVariants as test
use Rattle.frame_stack.specs.declared.frame.Frame.{Frame}
use Rattle.frame_stack.specs.declared.frame.Frame.TheVariants.{Body, Call, Attributes, Loop, Region, Source as Source_frame, Skip, Pass}
use Rattle.frame_stack.specs.declared.locals.Local.{Local}
use Rattle.frame_stack.specs.Change.{locals_of}
use Rattle.instr_code.specs.Code.{code_of}
use Rattle.instr_code.specs.Running.{At, as_flat, go_on, operated, start_of}
use Rattle.instr_code.specs.Running as running
use Rattle.node_stack.specs.Path.{Node, Document, Element, Chars, CData, Comment, Pi, PathNode, attributes, can_have_children, is_attribute, kind_of}
use Rattle.node_stack.specs.Test.{passes}
use Rattle.node_stack.specs.Stack.{path, path_node}
use Rattle.result_writer.specs.Allowed.{is_empty}
use Rattle.result_writer.specs.Target.{Left}
use Rattle.instr_code.specs.declared.code.Op.{Op}
use Rattle.sheet_model.specs.Parts.{handed, place}
use Rattle.sheet_model.specs.declared.instr.Instr.{Instr}
use Rattle.sheet_model.specs.declared.instr.Instr.TheOpen.{Instr-F}
use Rattle.sheet_model.specs.declared.instr.Instr.TheViews.{out-Instr}
use Rattle.sheet_model.specs.declared.instr.WithParam.{WithParam}
use Rattle.sheet_model.specs.declared.sheet.Template.{Template}
use Rattle.var_store.specs.Variables.{bound}
use Rattle.stxpath_values.specs.declared.value.Atom.{Atom}
use Rattle.var_store.specs.declared.bound.Bound.{Bound}
use Rattle.xml_events.specs.Document.{inner, outer}
use Rattle.xml_events.specs.Tree as tree
use Rattle.xml_events.specs.Tree.{Forest, Future, End, Begun, Entered}
use Rattle.template_machine.specs.Acting.{condition, ends_reading}
use Rattle.template_machine.specs.Bodies.{active_in, level_of, spent_in, takes_events}
use Rattle.template_machine.specs.Declaring.{ends_scope}
use Rattle.template_machine.specs.Ending.{Said}
use Rattle.template_machine.specs.Fuel as fuel
use Rattle.template_machine.specs.Job.{Asked, Condition, Given, Here, Level, Nodes, Main, Self, Source, State, remains, single}
use Rattle.template_machine.specs.Job as job
use Rattle.template_machine.specs.Lists.{rest_of}
use Rattle.template_machine.specs.Meaning.{ending_of}
use Rattle.template_machine.specs.Passing as passing
use Rattle.template_machine.specs.Programs.{instr_at, link_at}
use Rattle.template_machine.specs.Putting.{puts}
use Rattle.template_machine.specs.Seen.{named_of}
use Rattle.template_machine.specs.Steps.{group_of, test_in}
use Rattle.template_machine.specs.Stepwise.{Flat_does, Working, flat_code, lifted, steps_of}
use Rattle.template_machine.specs.Trail.{Trail, stand}
use Rattle.template_machine.specs.Well.{is_again}
use Rattle.template_machine.specs.declared.program.Link.{Link}
use Rattle.template_machine.specs.declared.program.Program.{Program}
use Rattle.template_machine.specs.declared.run.Doing.{Doing}
use Rattle.template_machine.specs.declared.run.Doing.TheVariants as doing
use Rattle.template_machine.specs.declared.run.Run.{Run}
use Rattle.template_machine.specs.declared.source.Ahead.{Ahead}
use Rattle.template_machine.specs.declared.source.Ahead.TheVariants as ahead
use Rattle.template_machine.specs.declared.source.Source as sources

-- What frames stand on, the innermost first: the path of the innermost source and those of the sources around it, and the nodes of
-- bodies that wait beside it, None for one that is still on the path.
pub record Scene : Type 0 where
  pub nodes : List PathNode
  pub source : Source
  pub around : List (Source × List PathNode)
  pub aside : List (Option PathNode)

abbrev pub nodes_of : sources.Source → List PathNode
nodes_of s = reverse (path s.stack).nodes

abbrev pub Main_source : Source
Main_source = Main

-- the values of locals without a name, the innermost first
abbrev pub aside_of : List Local → List (List Atom)
aside_of locals = reverse (map (λ (l : Local). l.value) (filter (λ (l : Local). is_empty l.name.local) locals))

-- a node that was begun, once more at the front of its list
abbrev pub again_ahead : Node → (kids next : Forest) → Forest
again_ahead (Element name attrs decls first) kids next =
    tree.Nested (Entered first) (record { offset = 0; name = name; attrs = attrs; decls = decls }) kids next
again_ahead (Chars text) kids next = tree.Single Begun (tree.Chars 0 text) next
again_ahead (CData text) kids next = tree.Single Begun (tree.CData 0 text) next
again_ahead (Comment text) kids next = tree.Single Begun (tree.Comment 0 text) next
again_ahead (Pi target text) kids next = tree.Single Begun (tree.Pi 0 target text) next
again_ahead n kids next = next

-- the node that ends is the first
abbrev pub node_over : Scene → Scene
node_over c = record c { nodes = rest_of c.nodes }

abbrev pub first_node : List PathNode → Node
first_node [] = Document
first_node (x ∷ xs) = x.node

-- how many nodes of a list there were before those still to come
abbrev pub counts_of : List PathNode → NodeTest → ℕ
counts_of [] = λ t. 0
counts_of (x ∷ xs) = x.children.passing

abbrev pub trail_of : List PathNode → Trail
trail_of nodes = map (λ (x : PathNode). stand x.node x.earlier) nodes

abbrev pub has_kids : Node → Bool
has_kids n = can_have_children (Some n)

-- a body's node waits beside the path no more
abbrev pub node_returns : Scene → Scene
node_returns c = elim c.aside [
  | [] ↦ c
  | (None ∷ others) ↦ record c { aside = others }
  | (Some x ∷ others) ↦ record c { nodes = x ∷ c.nodes; aside = others }
]

abbrev pub source_over : Scene → Scene
source_over c = elim c.around [
  | [] ↦ c
  | (s ∷ others) ↦ record c { source = s.0; nodes = s.1; around = others }
]

-- a body's frame below its loops, with how many items each has had, the innermost first
abbrev pub below_loops : (turns : List ℕ) → List Frame → List Frame
below_loops [] fs = fs
below_loops (n ∷ ns) fs = Loop n ∷ below_loops ns fs

-- How a body's frame is found: it goes on, the list of its node's children does, or the instruction that it waits for is over.
pub data Mode : Type 0 where
  Runs : Mode
  Lists : Mode
  Returns : Mode

module _ (given : Given) (p : Program) where
  -- Whose body a frame is, with the frames below it.

  -- the regions of a level, the innermost first
  abbrev pub condition_of : (group : ℕ) → Option Instr → List Condition
  condition_of group None = []
  condition_of group (Some i) = elim (out-Instr i) [
    | (Instr-F.ProcessSiblings going until base params at) ↦ condition group going until ∷ []
    | x ↦ []
  ]

  abbrev pub group_in : List Frame → ℕ
  group_in [] = 0
  group_in (Loop turn ∷ fs) = group_in fs
  group_in (f ∷ fs) = unwrap_or (group_of p.sheet f) 0

  abbrev pub conditions_of : (level : ℕ) → List Frame → List Condition
  conditions_of level [] = []
  conditions_of level (Region asked own ∷ fs) =
      (if own == level then condition_of (group_in fs) (instr_at p.code asked) else []) ++ conditions_of level fs
  conditions_of level (f ∷ fs) = conditions_of level fs

  -- the instances of a level, up to the innermost list that has levels of its own
  abbrev pub instances_in : (level : ℕ) → List Frame → ℕ
  instances_in level [] = 0
  instances_in level (Attributes next asked ∷ fs) = 0
  instances_in level (Source_frame buffer next asked ∷ fs) = 0
  instances_in level (Body template alternative pc locals own spent ∷ fs) = (if own == level then 1 else 0) + instances_in level fs
  instances_in level (Call procedure pc locals own ∷ fs) = (if own == level then 1 else 0) + instances_in level fs
  instances_in level (f ∷ fs) = instances_in level fs

  abbrev pub level_at : (level : ℕ) → Source → List Frame → Level
  level_at level source fs =
      record { conditions = conditions_of level fs; instances = instances_in level fs; source = source }

  -- of the frames with this one
  abbrev pub self_of : (level : ℕ) → Frame → List Frame → Scene → Self
  self_of level f fs c = record {
    group = unwrap_or (group_of p.sheet f) 0;
    test = unwrap_or (test_in p.sheet (f ∷ fs)) test.Document;
    active = active_in level (f ∷ fs);
    level = level_at level c.source (f ∷ fs);
    trail = trail_of c.nodes;
  }

  -- where the code of a body's frame runs, with the loops that are open in it
  abbrev pub working_in : (turns : List ℕ) → Frame → List Frame → Scene → Here → Working
  working_in turns b fs c a = record {
    self = self_of (unwrap_or (level_of b) 0) b fs c;
    here = record a { locals = named_of (locals_of b) };
    aside = aside_of (locals_of b);
    turns = turns;
  }

  -- what an operation at a place of the code does
  abbrev pub operates : Op → (place : ℕ) → Working → Flat_does
  operates o place w =
      operated (steps_of given) (code_of given.sheet).instrs (as_flat (steps_of given) (start_of (steps_of given) given.sheet)) (go_on (steps_of given)) o place w

  -- What a list asks, of the instruction at a place, whose body has these locals and stands on this node.

  abbrev pub handed_bounds : List WithParam → List Local → List Bound
  handed_bounds [] locals = []
  handed_bounds (w ∷ ws) [] = []
  handed_bounds (w ∷ ws) (x ∷ xs) = bound w.name x.value ∷ handed_bounds ws xs

  abbrev pub values_handed : Option Instr → List Local → List Bound
  values_handed None locals = []
  values_handed (Some i) locals =
      handed_bounds (handed (out-Instr i)) (drop (length locals - length (handed (out-Instr i))) locals)

  abbrev pub without_handed : Option Instr → List Local → List Local
  without_handed None locals = locals
  without_handed (Some i) locals = take (length locals - length (handed (out-Instr i))) locals

  abbrev pub asked_by : (asked : ℕ) → List Local → Level → Trail → Asked
  asked_by asked locals level within = record {
    at = option_map_or (λ i. place (out-Instr i)) (instr_at p.code asked) (record { file = 0; offset = 0 });
    base = option_map_or (λ (l : Link). l.base) (link_at p asked) 0;
    params = values_handed (instr_at p.code asked) locals;
    level = level;
    within = within;
  }

  -- the locals of the innermost body
  abbrev pub locals_in : List Frame → List Local
  locals_in [] = []
  locals_in (Loop turn ∷ fs) = locals_in fs
  locals_in (Body template alternative pc locals level spent ∷ fs) = locals
  locals_in (Call procedure pc locals level ∷ fs) = locals
  locals_in (f ∷ fs) = []

  -- Where the node of a body goes on: its children, if they aren't gone, and the siblings that remain, of lists that are to come. An
  -- attribute has neither.
  abbrev pub goes_on_at : (spent : Bool) → Node → (above : List PathNode) → Future → (Future → Here → Flat_does) → State → Flat_does
  goes_on_at spent n above f k st =
      if is_attribute (Some n)
      then k f (single st)
      else if spent || not (has_kids n)
      then k (outer f) (record { kids = None; left = record { earlier = counts_of above; coming = inner f }; locals = []; state = st })
      else k (outer (outer f)) (record { kids = Some (inner f); left = record { earlier = counts_of above; coming = inner (outer f) }; locals = []; state = st })

  -- a node is over in the list around it
  abbrev pub skips : (depth : ℕ) → Source → Forest → Future → State → (Future → State → Flat_does) → Flat_does
  skips zero source list f st k = lifted (fuel.skip given source list st (λ st. Ret (single st))) (λ b. k f b.state)
  skips (suc n) source list f st k =
      lifted (fuel.skip given source list st (λ st. Ret (single st))) (λ b. skips n source (inner f) (outer f) b.state k)

  abbrev pub template_of : (template : ℕ) → Option Template
  template_of n = slice_get given.sheet.templates n

  abbrev pub scope_ends : Option Template → State → State
  scope_ends None st = st
  scope_ends (Some t) st = ends_scope given t.new_scope t.group st

  -- the siblings that remain of the list around a node, of lists that are to come
  abbrev pub siblings_of : (above : List PathNode) → Future → State → Here
  siblings_of above f st = remains (record { earlier = counts_of above; coming = inner f }) st

  -- A body goes on at its place. Behind a template's its node's children are skipped unless they are gone, and the node is over, unless
  -- the body below goes on with it.
  abbrev pub body_goes :
      (turns : List ℕ) → Frame → (pc : ℕ) → List Local → (level : ℕ) → List Frame → Scene → (Here → Flat_does) → Here → Flat_does
  body_goes turns b pc locals level fs c k a =
      Ask (At pc (record { self = self_of level b fs c; here = record a { locals = named_of locals }; aside = aside_of locals; turns = turns })) (λ (w : Working). k w.here)

  abbrev pub template_over : (template : ℕ) → (again : Bool) → Scene → (back behind : Here → Flat_does) → Here → Flat_does
  template_over template again c back behind a =
      let b = record a { locals = []; state = scope_ends (template_of template) a.state } in
      if again then back b else lifted (passing.finish given c.source b) behind

  -- a body's list of children goes on
  abbrev pub children_go : (pc : ℕ) → List Local → Scene → Future → (Future → Here → Flat_does) → Here → Flat_does
  children_go pc locals c f k a =
      Ask (running.Given (Nodes a.left (asked_by (pc - 1) locals (job.fresh c.source) (trail_of c.nodes)) a.state)) (λ (w : Working).
      k (outer f) (siblings_of (rest_of c.nodes) f w.here.state))

  -- What is left to do, from the frames, the innermost first, what they stand on, the lists around the one that goes on, and where
  -- that goes on.
  abbrev pub rest : Mode → (turns : List ℕ) → List Frame → Scene → Future → Here → Flat_does
  rest mode turns [] c f a = Halt (ending_of given a.state.result)
  rest mode turns (Loop turn ∷ fs) c f a = rest mode (turns ++ turn ∷ []) fs c f a
  rest Runs turns (Body template alternative pc locals level spent ∷ fs) c f a =
      body_goes turns (Body template alternative pc locals level spent) pc locals level fs c
      (template_over template (is_again level fs) c (rest Returns [] fs c f) (rest Lists [] fs (node_over c) f)) a
  rest Returns turns (Body template alternative pc locals level spent ∷ fs) c f a =
      body_goes turns (Body template alternative pc locals level spent) pc (without_handed (instr_at p.code (pc - 1)) locals) level fs c
      (template_over template (is_again level fs) c (rest Returns [] fs c f) (rest Lists [] fs (node_over c) f)) a
  rest Lists turns (Body template alternative pc locals level spent ∷ fs) c f a =
      children_go pc locals c f (λ f.
      body_goes turns (Body template alternative pc locals level spent) pc (without_handed (instr_at p.code (pc - 1)) locals) level fs c
      (template_over template (is_again level fs) c (rest Returns [] fs c f) (rest Lists [] fs (node_over c) f))) a
  rest Runs turns (Call procedure pc locals level ∷ fs) c f a =
      body_goes turns (Call procedure pc locals level) pc locals level fs c (rest Runs [] fs c f) a
  rest Returns turns (Call procedure pc locals level ∷ fs) c f a =
      body_goes turns (Call procedure pc locals level) pc (without_handed (instr_at p.code (pc - 1)) locals) level fs c (rest Runs [] fs c f) a
  rest Lists turns (Call procedure pc locals level ∷ fs) c f a =
      children_go pc locals c f (λ f.
      body_goes turns (Call procedure pc locals level) pc (without_handed (instr_at p.code (pc - 1)) locals) level fs c (rest Runs [] fs c f)) a
  -- a region goes on in the list around it, and gives back what remains of it
  rest mode turns (Region asked level ∷ fs) c f a =
      Ask (running.Given (Nodes a.left (asked_by asked (locals_in fs) (level_at level c.source (Region asked level ∷ fs)) (trail_of c.nodes)) a.state)) (λ (w : Working).
      rest Returns [] fs (node_returns c) f (remains w.here.left w.here.state))
  rest mode turns (Attributes next asked ∷ fs) c f a =
      let attrs = attributes (Some (first_node c.nodes)) in
      lifted
      (passing.attributes given (take next attrs) (drop next attrs) (asked_by asked (locals_in fs) (job.fresh c.source) (trail_of c.nodes)) a.state (λ st. Ret (single st)))
      (λ b. goes_on_at (unwrap_or (spent_in fs) true) (first_node c.nodes) (rest_of c.nodes) f (λ f. rest Returns [] fs c f) b.state)
  rest mode turns (Source_frame buffer next asked ∷ fs) c f a =
      Ask (running.Given (Nodes a.left (asked_by asked (locals_in fs) (job.fresh c.source) (trail_of c.nodes)) a.state)) (λ (w : Working).
      goes_on_at (unwrap_or (spent_in fs) true) (first_node (source_over c).nodes) (rest_of (source_over c).nodes) f (λ f. rest Returns [] fs (source_over c) f)
      (option_map_or (λ id. ends_reading id w.here.state) buffer w.here.state))
  rest mode turns (Skip depth ∷ fs) c f a =
      skips depth c.source a.left.coming f a.state (λ f st. rest Lists [] fs (node_over c) (outer f) (siblings_of (rest_of c.nodes) f st))
  rest mode turns (Pass base level spent ∷ fs) c f a =
      Ask (running.Given (Nodes a.left (passing.passed_on given base c.source (trail_of c.nodes)) a.state)) (λ (w : Working).
      lifted (puts given (passing.group_at given base) (passing.parts_behind (passing.kinds_in given base) (first_node c.nodes)) w.here.state (λ st. Ret (single st))) (λ b.
      if is_again level fs
      then rest Returns [] fs c (outer f) (siblings_of (rest_of c.nodes) f b.state)
      else rest Lists [] fs (node_over c) (outer f) (siblings_of (rest_of c.nodes) f b.state)))

  -- Runs.

  -- a head that was begun stands at the front of its list
  abbrev pub in_front : Node → Future → Future
  in_front n f =
      if has_kids n
      then again_ahead n (inner f) (inner (outer f)) ∷ outer (outer f)
      else again_ahead n (End Begun 0) (inner f) ∷ outer f

  abbrev pub held_in_front : Option PathNode → Future → Future
  held_in_front None f = f
  held_in_front (Some x) f = in_front x.node f

  -- what is known of a source's front, and what is still to come of its lists
  abbrev pub known_before : Ahead → List PathNode → Option PathNode → Future → Future
  known_before ahead.Nothing nodes held f = f
  known_before ahead.Here nodes held f = in_front (first_node nodes) f
  known_before ahead.Held nodes held f = held_in_front held f
  known_before ahead.Ended nodes held f = End Begun 0 ∷ f

  -- the path without a head that no one has taken
  abbrev pub path_before : Ahead → List PathNode → List PathNode
  path_before ahead.Here nodes = rest_of nodes
  path_before h nodes = nodes

  -- how many nodes of the innermost list were before its front
  abbrev pub before_head : PathNode → (NodeTest → ℕ) → NodeTest → ℕ
  before_head x counts t = if passes t (kind_of x.node) then x.earlier t else counts t

  abbrev pub before_held : Option PathNode → (NodeTest → ℕ) → NodeTest → ℕ
  before_held None counts = counts
  before_held (Some x) counts = before_head x counts

  abbrev pub before_front : Ahead → List PathNode → Option PathNode → NodeTest → ℕ
  before_front ahead.Here [] held = λ t. 0
  before_front ahead.Here (x ∷ xs) held = before_head x (counts_of xs)
  before_front ahead.Held nodes held = before_held held (counts_of nodes)
  before_front h nodes held = counts_of nodes

  abbrev pub scene_by : Ahead → Run → Scene
  scene_by h r = record {
    nodes = path_before h (nodes_of r.source);
    source = Main;
    around = [];
    aside = map (option_map path_node) (reverse r.aside.items);
  }

  -- with what the parts that were put leave of the output
  abbrev pub state_of : Run → Left → State
  state_of r left = record {
    fuel = r.fuel;
    variables = r.store;
    buffers = r.putting.buffers;
    result = left;
    targets = reverse r.putting.targets;
  }

  abbrev pub held_of : Run → Option PathNode
  held_of r = option_map path_node r.source.held

  abbrev pub lists_ahead : Ahead → Run → Future → Future
  lists_ahead h r = known_before h (nodes_of r.source) (held_of r)

  -- A list goes on: of nodes, by what is known of its front, or of attributes, of which none is to come.
  abbrev pub list_goes : (events : Bool) → Ahead → List Frame → Run → Left → Future → Flat_does
  list_goes false h fs r left f = rest Lists [] fs (scene_by h r) (lists_ahead h r f) (single (state_of r left))
  list_goes true h fs r left f =
      rest Lists [] fs (scene_by h r) (outer (lists_ahead h r f))
      (remains (record { earlier = before_front h (nodes_of r.source) (held_of r); coming = inner (lists_ahead h r f) }) (state_of r left))

  -- a body goes on, or a list
  abbrev pub doing_now : Doing → Ahead → List Frame → Run → Left → Future → Flat_does
  doing_now doing.Body h fs r left f =
      goes_on_at (unwrap_or (spent_in fs) true) (first_node (scene_by h r).nodes) (rest_of (scene_by h r).nodes) (lists_ahead h r f) (λ f. rest Runs [] fs (scene_by h r) f)
      (state_of r left)
  doing_now doing.List h fs r left f = list_goes (takes_events fs) h fs r left f

  abbrev pub still : Run → Left → Future → Flat_does
  still r = doing_now r.doing r.source.ahead (reverse r.frames.frames) r

  -- What a method does, where it goes on: what was said before, and then what the run did still, is what has been said, and then what it does.
  pub record Goes (old : Run) (left : Left) (before : List Said) (new : Run) (left_now : Left) (after : List Said) : Type 0 where
    pub law : (f : Future) → Same (flat_code given) (says before (still old left f)) (says after (still new left_now f))
