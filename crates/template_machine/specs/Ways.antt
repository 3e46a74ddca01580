-- Paths, without what is counted on them.
use Rattle.std.specs.Prelude.{◌≡◌, ◌≢◌, ℕ, ◌-◌, true, if◌then◌else◌, List, [], ◌∷◌, Option, Some, None, length, filter, map, reverse, Bool}
use Rattle.node_stack.specs.Path.{Node, Document, Path, PathNode, can_have_children, is_attribute, is_element}
use Rattle.template_machine.specs.Lists.{rest_of}

-- a node of a path
abbrev pub stood : PathNode → Node
stood x = x.node

-- how many elements may be open, and the nodes from the current node to the document node
pub record Way : Type 0 where
  pub limit : ℕ
  pub nodes : List Node

abbrev pub way_of : Path → Way
way_of p = record { limit = p.limit; nodes = reverse (map stood p.nodes) }

abbrev pub first_in : {A : Type 0} → List A → Option A
first_in [] = None
first_in (x ∷ xs) = Some x

-- the current node
abbrev pub here : Way → Option Node
here w = first_in w.nodes

-- the number of its place, which an attribute has from its element
abbrev pub number_of : Way → ℕ
number_of w = length w.nodes - (if is_attribute (here w) then 2 else 1)

-- how many elements are open
abbrev pub open_on : Way → ℕ
open_on w = length (filter is_element w.nodes)

-- how many nodes have a list of nodes, the document node among them
abbrev pub has_list : Node → Bool
has_list x = can_have_children (Some x)

abbrev pub lists_on : Way → ℕ
lists_on w = length (filter has_list w.nodes)

-- a node more, and one fewer
abbrev pub entered : Node → Way → Way
entered x w = record w { nodes = x ∷ w.nodes }

abbrev pub left : Way → Way
left w = record w { nodes = rest_of w.nodes }

-- a document node, and other nodes in it, of which all but the current one can have children
abbrev pub IsWay : List Node → Type 0
IsWay [] = ⊥
IsWay (x ∷ []) = x ≡ Document
IsWay (x ∷ y ∷ ys) = (x ≢ Document) × (can_have_children (Some y) ≡ true) × IsWay (y ∷ ys)
