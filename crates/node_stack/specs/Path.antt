-- The path to the current node.
use Rattle.std.specs.Prelude.{ℕ, ◌+◌, ◌-◌, Bool, true, false, not, ◌||◌, if◌then◌else◌, List, [], ◌∷◌, ◌++◌, Option, Some, None, length, take, count_by, filter, slice_get, option_map}
use Rattle.stx_base.specs.declared.name.Attr.{Attr}
use Rattle.stx_base.specs.declared.name.Binding.{Binding}
use Rattle.stx_base.specs.declared.name.Name.{Name}
use Rattle.stx_base.specs.declared.node.First.{First}
use Rattle.stx_base.specs.declared.node.First.TheVariants as first
use Rattle.stx_base.specs.declared.node.NodeTest.{NodeTest}
use Rattle.node_stack.specs.Counts.{Counts, capped, counted, none}
use Rattle.node_stack.specs.Test as kind
use Rattle.node_stack.specs.Test.{Kind, passes}

pub data Node : Type 0 where
  Document : Node
  Element : Name → List Attr → List Binding → First → Node
  Chars : List ℕ → Node
  CData : List ℕ → Node
  Comment : List ℕ → Node
  Pi : (target text : List ℕ) → Node
  Attribute : Attr → Node

abbrev pub kind_of : Node → Kind
kind_of Document = kind.Document
kind_of (Element name attrs decls first) = kind.Element name
kind_of (Chars text) = kind.Chars
kind_of (CData text) = kind.CData
kind_of (Comment text) = kind.Comment
kind_of (Pi target text) = kind.Pi target
kind_of (Attribute a) = kind.Attribute a.name

-- a node of the path, how many earlier nodes of its list pass each test, the counts of its own list so far, in which a
-- child that is on the path is counted too, and whether it waited beside the path
pub record PathNode : Type 0 where
  pub node : Node
  pub earlier : NodeTest → ℕ
  pub children : Counts
  pub waited : Bool

-- the nodes from the document node, at place 0, to the current node, and how many elements may be open
pub record Path : Type 0 where
  pub limit : ℕ
  pub nodes : List PathNode

-- a node before which its list has nothing
abbrev pub first_node : Node → PathNode
first_node x = record { node = x; earlier = λ t. 0; children = none; waited = false }

abbrev pub document_alone : (limit : ℕ) → Path
document_alone limit = record { limit = limit; nodes = first_node Document ∷ [] }

abbrev pub last_of : List PathNode → Option PathNode
last_of [] = None
last_of (x ∷ []) = Some x
last_of (x ∷ y ∷ xs) = last_of (y ∷ xs)

abbrev pub current : Path → Option Node
current p = option_map (λ x. x.node) (last_of p.nodes)

-- a node in the list of the last node
abbrev pub with_child : Node → List PathNode → List PathNode
with_child n [] = []
with_child n (x ∷ []) =
    record x { children = counted (kind_of n) x.children }
    ∷ record { node = n; earlier = x.children.passing; children = none; waited = false } ∷ []
with_child n (x ∷ y ∷ xs) = x ∷ with_child n (y ∷ xs)

-- a child of the current node becomes the current node
abbrev pub entered : Node → Path → Path
entered n p = record p { nodes = with_child n p.nodes }

-- the current node ends
abbrev pub left : Path → Path
left p = record p { nodes = take (length p.nodes - 1) p.nodes }

abbrev pub attributes : Option Node → List Attr
attributes (Some (Element name attrs decls first)) = attrs
attributes x = []

-- an attribute, behind the earlier ones of its element
abbrev pub attribute_at : List Attr → ℕ → Option Attr → List PathNode
attribute_at attrs index None = []
attribute_at attrs index (Some a) =
    record { node = Attribute a; earlier = λ t. capped (count_by (λ b. passes t (kind.Attribute b.name)) (take index attrs)); children = none; waited = false } ∷ []

-- an attribute of the current element becomes the current node
abbrev pub at_attribute : (index : ℕ) → Path → Path
at_attribute index p =
    let attrs = attributes (current p) in
    record p { nodes = p.nodes ++ attribute_at attrs index (slice_get attrs index) }

-- a node that waits keeps the counts for the tests that it passes
abbrev pub parked : PathNode → PathNode
parked x = record x { earlier = λ t. if passes t (kind_of x.node) then x.earlier t else 0; waited = true }

-- a node that waited is the current node again, and isn't counted once more
abbrev pub resumed : PathNode → Path → Path
resumed x p = record p { nodes = p.nodes ++ x ∷ [] }

abbrev pub can_have_children : Option Node → Bool
can_have_children (Some Document) = true
can_have_children (Some (Element name attrs decls first)) = true
can_have_children x = false

abbrev pub is_attribute : Option Node → Bool
is_attribute (Some (Attribute a)) = true
is_attribute x = false

-- a node that can end: neither the document node nor an attribute
abbrev pub can_end : Option Node → Bool
can_end None = false
can_end (Some Document) = false
can_end (Some (Attribute a)) = false
can_end x = true

abbrev pub is_element : Node → Bool
is_element (Element name attrs decls first) = true
is_element x = false

-- how many elements are open
abbrev pub depth : Path → ℕ
depth p = length (filter (λ x. is_element x.node) p.nodes)

-- the number of the current node's place; an attribute has its element's
abbrev pub level : Path → ℕ
level p = length p.nodes - (if is_attribute (current p) then 2 else 1)

abbrev pub node_at : Path → ℕ → Option Node
node_at p place = option_map (λ x. x.node) (slice_get p.nodes place)

-- one plus the number of earlier nodes of the list that pass
abbrev pub position_at : NodeTest → Option PathNode → ℕ
position_at t None = 1
position_at t (Some x) = x.earlier t + 1

-- whether a node has the counts for a test; one that waited has them for the tests that it passes
abbrev pub told_at : NodeTest → Option PathNode → Bool
told_at t None = true
told_at t (Some x) = not x.waited || passes t (kind_of x.node)

abbrev pub is_told : Path → ℕ → NodeTest → Bool
is_told p place t = told_at t (slice_get p.nodes place)

abbrev pub position : Path → ℕ → NodeTest → ℕ
position p place t = position_at t (slice_get p.nodes place)

-- the text that is an element's first child
abbrev pub first_text : First → List ℕ
first_text (first.Chars text) = text
first_text f = []

-- an element has that of its first child, where that is a text
abbrev pub string_value : Node → List ℕ
string_value Document = []
string_value (Element name attrs decls f) = first_text f
string_value (Chars text) = text
string_value (CData text) = text
string_value (Comment text) = text
string_value (Pi target text) = text
string_value (Attribute a) = a.value

abbrev pub text_of : Option Node → List ℕ
text_of None = []
text_of (Some n) = string_value n
