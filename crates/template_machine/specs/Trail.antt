-- Where a body stands: the nodes from its current node up to the document node, each with what positions need of the earlier ones of
-- its list.
use Rattle.std.specs.Prelude.{ℕ, ◌-◌, false, not, if◌then◌else◌, List, [], ◌∷◌, count_by, filter, length, map, reverse}
use Rattle.stx_base.specs.declared.name.Attr.{Attr}
use Rattle.stx_base.specs.declared.name.Binding.{Binding}
use Rattle.stx_base.specs.declared.node.First.{First}
use Rattle.stx_base.specs.declared.node.NodeTest.{NodeTest}
use Rattle.node_stack.specs.Counts.{capped, none, raised}
use Rattle.node_stack.specs.Path.{Node, Document, Element, Chars, CData, Comment, Pi, Path, PathNode, kind_of}
use Rattle.node_stack.specs.Test as kind
use Rattle.node_stack.specs.Test.{passes}
use Rattle.result_writer.specs.Allowed.{is_empty}
use Rattle.result_writer.specs.Table.{has_prefix, in_order}
use Rattle.xml_events.specs.Tree as tree
use Rattle.xml_events.specs.Tree.{Stage, Waiting, Ready, Entered, Leaf, Forest, first_of}

-- a node, and how many earlier ones of its list pass each test that it passes
pub record Stand : Type 0 where
  pub node : Node
  pub earlier : NodeTest → ℕ

-- the current node first, and the document node last
abbrev pub Trail : Type 0
Trail = List Stand

-- a document node, before which there is nothing
abbrev pub document : Stand
document = record { node = Document; earlier = λ t. 0 }

-- A node behind earlier ones, of which so many pass each test. A node is asked for its position only by a test that it passes: by that of
-- the step that it fits, or of the alternative by which its template was chosen. So nothing is kept of the other tests.
abbrev pub stand : Node → (earlier : NodeTest → ℕ) → Stand
stand n earlier = record { node = n; earlier = λ t. if passes t (kind_of n) then earlier t else 0 }

-- the same within the current node of a trail
abbrev pub stands : Node → (earlier : NodeTest → ℕ) → Trail → Trail
stands n earlier within = stand n earlier ∷ within

-- one earlier node more, as far as positions tell
abbrev pub one_more : Node → (earlier : NodeTest → ℕ) → NodeTest → ℕ
one_more n earlier t = if passes t (kind_of n) then raised (earlier t) else earlier t

-- how many attributes pass a test, as far as positions tell
abbrev pub passing_among : List Attr → NodeTest → ℕ
passing_among attrs t = capped (count_by (λ (a : Attr). passes t (kind.Attribute a.name)) attrs)

abbrev pub path_node : Stand → PathNode
path_node s = record { node = s.node; earlier = s.earlier; children = none; waited = false }

-- the path that expressions and patterns see
abbrev pub path_of : Trail → Path
path_of trail = record { limit = 0; nodes = map path_node (reverse trail) }

-- the number of the current node's place, the document node's being 0
abbrev pub place_of : Trail → ℕ
place_of trail = length trail - 1

abbrev pub current : Trail → Node
current [] = Document
current (s ∷ trail) = s.node

-- all but the current node
abbrev pub above : Trail → Trail
above [] = []
above (s ∷ trail) = trail

-- What is in force around an element, but for the prefixes that it declares, and what it declares, unless it takes the default
-- namespace away: by their prefixes, the empty one first (Namespaces in XML 1.0, 3 and 6).
abbrev pub scope_within : (scope decls : List Binding) → List Binding
scope_within scope decls =
    in_order (filter (λ b. not (has_prefix decls b.prefix)) scope) (filter (λ b. not (is_empty b.uri)) decls)

abbrev pub scope_at : Node → List Binding → List Binding
scope_at (Element name attrs decls first) scope = scope_within scope decls
scope_at n scope = scope

-- all bindings in force at the current node, by the elements of its own document
abbrev pub scope_of : Trail → List Binding
scope_of [] = []
scope_of (s ∷ trail) = scope_at s.node (scope_of trail)

-- a leaf as a node of a path
abbrev pub leaf_node : Leaf → Node
leaf_node (tree.Chars offset text) = Chars text
leaf_node (tree.CData offset text) = CData text
leaf_node (tree.Comment offset text) = Comment text
leaf_node (tree.Pi offset target text) = Pi target text

-- a leaf that was begun: where it stood in its document isn't needed any more
abbrev pub without_place : Leaf → Leaf
without_place (tree.Chars offset text) = tree.Chars 0 text
without_place (tree.CData offset text) = tree.CData 0 text
without_place (tree.Comment offset text) = tree.Comment 0 text
without_place (tree.Pi offset target text) = tree.Pi 0 target text

-- the first child that was told of an element, or that its list has
abbrev pub first_by : Stage → (kids : Forest) → First
first_by Waiting kids = first_of kids
first_by (Ready first) kids = first
first_by (Entered first) kids = first

-- an element as a node of a path
abbrev pub element_node : Stage → tree.Element → (kids : Forest) → Node
element_node stage e kids = Element e.name e.attrs e.decls (first_by stage kids)
