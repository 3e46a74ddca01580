-- What is done with a node: its children, its template's body, or, without one, what its base group passes through.
use Rattle.sheet_model.specs.Passing.{kinds, no_kind}
use Rattle.std.specs.Prelude.{ℕ, ◌+◌, nat_lt, Bool, true, false, ◌||◌, if◌then◌else◌, List, [], ◌∷◌, ◌++◌, map, Option, Some, None, slice_get}
use Rattle.std.specs.Option.{option_map_or}
use Rattle.stx_base.specs.Course.{Ret, Halt, Ask, and_then}
use Rattle.stx_base.specs.declared.fault.Place.{Place}
use Rattle.stx_base.specs.declared.fault.RunCode.TheVariants as code
use Rattle.stx_base.specs.declared.name.Attr.{Attr}
use Rattle.stx_base.specs.declared.name.Name.{Name}
use Rattle.stx_base.specs.declared.node.NodeTest.{NodeTest}
use Rattle.stx_base.specs.declared.node.NodeTest.TheVariants as test
use Rattle.stx_base.specs.declared.part.Part.{Part}
use Rattle.stx_base.specs.declared.part.Part.TheVariants as part
use Rattle.node_stack.specs.Path.{Node, Document, Element, Chars, CData, Comment, Pi, Attribute}
use Rattle.sheet_model.specs.declared.pass.Kinds.{Kinds}
use Rattle.sheet_model.specs.declared.sheet.Group.{Group}
use Rattle.sheet_model.specs.declared.sheet.Template.{Template}
use Rattle.group_scope.specs.Choice.{chosen}
use Rattle.group_scope.specs.declared.rank.Rank.{Rank}
use Rattle.template_machine.specs.Declaring.{binds, ends_scope, makes_scope}
use Rattle.template_machine.specs.Ending.{fault_at}
use Rattle.match_patterns.specs.Fits.{test_of}
use Rattle.template_machine.specs.Fuel.{skip}
use Rattle.template_machine.specs.Job.{Asked, Body, Does, Given, Here, Level, Nodes, Self, Source, State, all_of, fresh, single, with_state}
use Rattle.template_machine.specs.Putting.{attribute_part, puts}
use Rattle.template_machine.specs.Trail.{Trail, current, passing_among, scope_of, stands}
use Rattle.template_machine.specs.Values.{pattern_setting}
use Rattle.var_store.specs.declared.bound.Bound.{Bound}

abbrev pub parts_if : Bool → List Part → List Part
parts_if false parts = []
parts_if true parts = parts

-- The parts of a node that has no children, where its kind is passed through: text stands for CDATA too.
abbrev pub leaf_parts : Kinds → Node → List Part
leaf_parts k (Chars text) = parts_if k.text (part.Chars text ∷ [])
leaf_parts k (CData text) = parts_if (k.text || k.cdata) (part.CData text ∷ [])
leaf_parts k (Comment text) = parts_if k.comments (part.Comment text ∷ [])
leaf_parts k (Pi target text) = parts_if k.instructions (part.Pi target text ∷ [])
leaf_parts k (Attribute a) = parts_if k.attributes (attribute_part a ∷ [])
leaf_parts k Document = []
leaf_parts k (Element name attrs decls first) = []

-- an element's start with all bindings in force at it and some of its attributes
abbrev pub start_parts : Trail → Name → List Attr → List Part
start_parts trail name attrs = part.Start name (scope_of trail) ∷ map attribute_part attrs

-- the parts before a node's children, where it is passed through, and behind them
abbrev pub parts_before : Kinds → Trail → Node → List Part
parts_before k trail (Element name attrs decls first) = parts_if k.elements (start_parts trail name (if k.attributes then attrs else []))
parts_before k trail n = []

abbrev pub parts_behind : Kinds → Node → List Part
parts_behind k (Element name attrs decls first) = parts_if k.elements (part.End name ∷ [])
parts_behind k n = []

-- the children are gone
abbrev pub gone : Here → State → Here
gone a st = record a { kids = None; state = st }

-- The children are processed, unless they are gone already: that is a fault at a place.
abbrev pub children : (twice : Place) → Asked → Here → (Here → Does) → Does
children twice asked a go = elim a.kids [
  | None ↦ Halt (fault_at code.ChildrenTwice twice)
  | Some kids ↦ Ask (Nodes (all_of kids) asked a.state) (λ b. go (gone a b.state))
]

abbrev pub place_of : Option Group → Place
place_of None = record { file = 0; offset = 0 }
place_of (Some g) = g.at

-- the test of an alternative of a template
abbrev pub test_at : Template → (alternative : ℕ) → NodeTest
test_at t n = option_map_or test_of (slice_get t.pattern.alternatives n) test.Document

-- who runs as a template that was chosen
abbrev pub run_as : Rank → Template → (active : List ℕ) → Level → Trail → Self
run_as c t active level trail =
    record { group = t.group; test = test_at t c.alternative; active = c.template ∷ active; level = level; trail = trail }

-- where a body goes on after one that it called
abbrev pub back : Here → State → Here → Here
back caller st b = record b { locals = caller.locals; state = st }

module _ (given : Given) where
  -- the start tag of a group
  abbrev pub group_at : (group : ℕ) → Place
  group_at group = place_of (slice_get given.sheet.groups group)

  abbrev pub pass_of : Option Group → Kinds
  pass_of None = no_kind
  pass_of (Some g) = kinds g.pass

  -- what a base group passes through
  abbrev pub kinds_in : (base : ℕ) → Kinds
  kinds_in base = pass_of (slice_get given.sheet.groups base)

  -- the children of a node without a template keep the base group, and no values are handed to them
  abbrev pub passed_on : (base : ℕ) → Source → Trail → Asked
  passed_on base source trail = record { at = group_at base; base = base; params = []; level = fresh source; within = trail }

  -- children between parts before and behind them
  abbrev pub pass_around : (twice : Place) → (base : ℕ) → Kinds → Source → Trail → Here → Does
  pass_around twice base k source trail a =
      puts given (group_at base) (parts_before k trail (current trail)) a.state (λ st.
      children twice (passed_on base source trail) (with_state a st) (λ b.
      puts given (group_at base) (parts_behind k (current trail)) b.state (λ st. Ret (with_state b st))))

  abbrev pub pass_leaf : (base : ℕ) → Kinds → Node → Here → Does
  pass_leaf base k n a = puts given (group_at base) (leaf_parts k n) a.state (λ st. Ret (with_state a st))

  -- The current node without a template: its children are processed, between its start and its end where elements are passed through;
  -- another node is copied where its kind is.
  abbrev pub pass_node : (twice : Place) → (base : ℕ) → Source → Trail → Node → Here → Does
  pass_node twice base source trail Document a = pass_around twice base (kinds_in base) source trail a
  pass_node twice base source trail (Element name attrs decls first) a = pass_around twice base (kinds_in base) source trail a
  pass_node twice base source trail n a = pass_leaf base (kinds_in base) n a

  -- one more instance on a level, unless there are as many as may be
  abbrev pub instance : Place → Level → (Level → Does) → Does
  instance at level go =
      if nat_lt level.instances given.limits.instances
      then go (record level { instances = level.instances + 1 })
      else Halt (fault_at code.Instances at)

  -- where the caller goes on after a template's body: without its copies
  abbrev pub returns : Template → (caller : Here) → (Here → Does) → Here → Does
  returns t caller go b = go (back caller (ends_scope given t.new_scope t.group b.state) b)

  -- A template's body with its parameters, in a state with its copies.
  abbrev pub enters : (handed : List Bound) → Template → Self → Here → (Here → Does) → State → Does
  enters handed t self a go st =
      binds given t.params handed self (record a { locals = []; state = st }) (λ b. Ask (Body t.body self b) (returns t a go))

  -- A template's body on the current node: one more instance, new copies if the template wants them, and its parameters, which last as
  -- long as the body.
  abbrev pub runs : Place → (handed : List Bound) → Rank → Option Template → (active : List ℕ) → Level → Trail → Here → (Here → Does) → Does
  runs at handed c None active level trail a go = go a
  runs at handed c (Some t) active level trail a go =
      instance at level (λ more.
      let self = run_as c t active more trail in
      makes_scope given t.new_scope t.group self a.state (enters handed t self a go))

  -- the template that is chosen for the current node, for a base group, of those that aren't active
  abbrev pub choice : (base : ℕ) → (active : List ℕ) → Trail → State → Option Rank
  choice base active trail st = chosen given.sheet base active (pattern_setting given trail st)

  abbrev pub template_at : Rank → Option Template
  template_at c = slice_get given.sheet.templates c.template

  -- children that aren't gone are skipped
  abbrev pub finish : Source → Here → Does
  finish source a = elim a.kids [
    | None ↦ Ret a
    | Some kids ↦ skip given source kids a.state (λ st. Ret (gone a st))
  ]

  -- A node that was begun: the body of its template, after which its children are skipped unless they are gone; or else it is passed
  -- through.
  abbrev pub node : Asked → Trail → Here → Does
  node asked trail a = elim (choice asked.base [] trail a.state) [
    | None ↦ pass_node asked.at asked.base asked.level.source trail (current trail) a
    | Some c ↦ runs asked.at asked.params c (template_at c) [] asked.level trail a (finish asked.level.source)
  ]

  -- Attributes, behind earlier ones of their element, one after another: they have no siblings, and cost and renew no fuel.
  abbrev pub attributes : (earlier coming : List Attr) → Asked → State → (State → Does) → Does
  attributes earlier [] asked st go = go st
  attributes earlier (x ∷ xs) asked st go =
      and_then (node asked (stands (Attribute x) (passing_among earlier) asked.within) (single st))
      (λ b. attributes (earlier ++ x ∷ []) xs asked b.state go)

  -- The current node again: the next template for it, and nothing is skipped; or else it is passed through.
  abbrev pub again : Place → (base : ℕ) → (handed : List Bound) → Self → Here → Does
  again at base handed self a = elim (choice base self.active self.trail a.state) [
    | None ↦ pass_node at base self.level.source self.trail (current self.trail) a
    | Some c ↦ runs at handed c (template_at c) self.active self.level self.trail a (λ b. Ret b)
  ]
