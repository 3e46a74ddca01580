-- What becomes of a source.
use Rattle.std.specs.Prelude.{◌≡◌, ◌<◌, Bool, true, false, List, [], ◌∷◌, Option, Some, None, length, option_map}
use Rattle.std.specs.Option.{option_map_or}
use Rattle.stx_base.specs.declared.name.Binding.{Binding}
use Rattle.node_stack.specs.Path.{Node, Element, Path, PathNode, current, depth, is_element, last_of, parked, resumed}
use Rattle.node_stack.specs.Stack.{path, path_node}
use Rattle.template_machine.specs.Lists.{rest_of}
use Rattle.template_machine.specs.Scopes.{Scopes, in_force}
use Rattle.template_machine.specs.Trail.{scope_within}
use Rattle.template_machine.specs.declared.source.Ahead.{Ahead}
use Rattle.template_machine.specs.declared.source.Origin.{Origin}
use Rattle.template_machine.specs.declared.source.Source.{Source}

-- the current node is an element
abbrev pub is_in_element : Path → Bool
is_in_element p = option_map_or is_element (current p) false

-- what an element declares
abbrev pub declared_in : Node → Option (List Binding)
declared_in (Element name attrs decls first) = Some decls
declared_in n = None

-- the bindings within a node
abbrev pub within_declared : Option (List Binding) → Scopes → Scopes
within_declared None scopes = scopes
within_declared (Some decls) scopes = scope_within (in_force scopes) decls ∷ scopes

abbrev pub within_node : Node → Scopes → Scopes
within_node n = within_declared (declared_in n)

-- the bindings around a node
abbrev pub around_node : Option Node → Scopes → Scopes
around_node (Some (Element name attrs decls first)) scopes = rest_of scopes
around_node n scopes = scopes

-- those of each open element of nodes from the current one outwards, the innermost first, and last of the document node, where none are
abbrev pub scopes_on : List Node → Scopes
scopes_on [] = [] ∷ []
scopes_on (n ∷ nodes) = within_node n (scopes_on nodes)

-- each open element has its bindings
abbrev pub HasScope : Source → Type 0
HasScope s = is_in_element (path s.stack) ≡ true → 1 < length s.bindings

-- the node that is held aside
abbrev pub held_node : Source → Option PathNode
held_node s = option_map path_node s.held

-- A source with another path, and what is known of it.
pub record Stands (s : Source) (p : Path) (scopes : Scopes) (ahead : Ahead) (held : Option PathNode) (origin : Origin) : Type 0 where
  pub path_is : path s.stack ≡ p
  pub scopes_are : s.bindings ≡ scopes
  pub ahead_is : s.ahead ≡ ahead
  pub held_is : held_node s ≡ held
  pub origin_is : s.origin ≡ origin

-- the current node as it waits beside the path
abbrev pub waiting : Path → Option PathNode
waiting p = option_map parked (last_of p.nodes)

-- a node that waits finds room on the path
abbrev pub FindsRoom : Option PathNode → Path → Type 0
FindsRoom None p = Unit {0}
FindsRoom (Some x) p = is_element x.node ≡ true → depth p < p.limit

-- the path and the bindings with a node that waited, if there is one
abbrev pub resumed_by : Option PathNode → Path → Path
resumed_by None p = p
resumed_by (Some x) p = resumed x p

abbrev pub within_held : Option PathNode → Scopes → Scopes
within_held None scopes = scopes
within_held (Some x) scopes = within_node x.node scopes
