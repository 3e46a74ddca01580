-- What open elements mean.
use Rattle.std.specs.Prelude.{ℕ, Bool, true, false, not, ◌||◌, List, [], ◌∷◌, ◌≡◌, ◌++◌, Option, Some, None, option_map, slice_get, is_some, if◌then◌else◌}
use Rattle.stx_base.specs.declared.name.Attr.{Attr}
use Rattle.stx_base.specs.declared.node.NodeTest.{NodeTest}
use Rattle.stx_base.specs.declared.node.NodeTest.TheVariants as test
use Rattle.node_stack.specs.Counts.{Counts, none}
use Rattle.node_stack.specs.Path.{Node, CData, Document, Element, Chars, Comment, Pi, Attribute, PathNode, attribute_at, kind_of, with_child}
use Rattle.node_stack.specs.Tally.{before, counts}
use Rattle.node_stack.specs.Test.{Kind, passes}
use Rattle.node_stack.specs.declared.node.Closed.{Closed}
use Rattle.node_stack.specs.declared.node.Closed.TheVariants as closed
use Rattle.node_stack.specs.declared.node.Leaf.{Leaf}
use Rattle.node_stack.specs.declared.node.Leaf.TheVariants as leaf
use Rattle.node_stack.specs.declared.node.NodeView.{NodeView}
use Rattle.node_stack.specs.declared.node.NodeView.TheVariants as view
use Rattle.node_stack.specs.declared.open.OpenElement.{OpenElement}
use Rattle.node_stack.specs.declared.open.Ended.{Ended}
use Rattle.node_stack.specs.declared.open.Ended.TheVariants as ended
use Rattle.node_stack.specs.declared.open.Tip.{Tip}
use Rattle.node_stack.specs.declared.open.Tip.TheVariants as tip
use Rattle.node_stack.specs.declared.own.Own.{Own}
use Rattle.node_stack.specs.declared.tally.Tally.{Tally}

-- what a view shows
abbrev pub node_of : NodeView → Node
node_of view.Document = Document
node_of (view.Element name attrs decls first) = Element name.now attrs.now decls.now first.now
node_of (view.Chars text) = Chars text.now
node_of (view.CData text) = CData text.now
node_of (view.Comment text) = Comment text.now
node_of (view.Pi target text) = Pi target.now text.now
node_of (view.Attribute a) = Attribute a.now

abbrev pub leaf_of : Leaf → Node
leaf_of (leaf.Chars text) = Chars text
leaf_of (leaf.CData text) = CData text
leaf_of (leaf.Comment text) = Comment text
leaf_of (leaf.Pi target text) = Pi target text

abbrev pub element_of : OpenElement → Node
element_of e = Element e.name e.attrs e.decls e.first

abbrev pub closed_node : Closed → Node
closed_node (closed.Element name attrs decls first) = Element name attrs decls first
closed_node (closed.Leaf l) = leaf_of l

-- what a node's own counts tell by a test that it passes
abbrev pub own_count : Own → NodeTest → ℕ
own_count o (test.Name n) = o.alike
own_count o (test.Prefix b) = o.of_namespace
own_count o test.AnyElement = o.of_kind
own_count o test.AnyNode = o.nodes
own_count o test.Chars = o.of_kind
own_count o test.CData = o.alike
own_count o test.Comment = o.of_kind
own_count o test.AnyPi = o.of_kind
own_count o (test.Pi target) = o.alike
own_count o t = 0

abbrev pub own_counts : Own → Node → NodeTest → ℕ
own_counts o x t = if passes t (kind_of x) then own_count o t else 0

-- how many earlier nodes pass: by the counters of the list, or by the node's own counts
abbrev pub earlier_of : Tally → Option Own → Node → NodeTest → ℕ
earlier_of t None x = before t (kind_of x)
earlier_of t (Some own) x = own_counts own x

-- by each test that a node passes, its own counts tell what is told of it
abbrev pub KeepsOwn : Tally → Option Own → Node → Own → Type 0
KeepsOwn t own x kept = (q : NodeTest) → own_counts kept x q ≡ (if passes q (kind_of x) then earlier_of t own x q else 0)

-- whether it has the counts for a test
abbrev pub has_told : Option Own → Node → NodeTest → Bool
has_told own x t = not (is_some own) || passes t (kind_of x)

-- a node of the list that the counters count, which has counts of its own if it waited
abbrev pub placed : Tally → Option Own → Node → Counts → PathNode
placed t own x children = record { node = x; earlier = earlier_of t own x; children = children; waited = is_some own }

abbrev pub in_list : Tally → Node → Counts → PathNode
in_list t x children = placed t None x children

abbrev pub open_in : Tally → OpenElement → PathNode
open_in t e = placed t e.own (element_of e) (counts e.children)

-- what stands on the innermost element, which has these attributes
abbrev pub at_tip : Tally → List Attr → Option Tip → List PathNode
at_tip t attrs None = []
at_tip t attrs (Some (tip.Leaf l own)) = placed t own (leaf_of l) none ∷ []
at_tip t attrs (Some (tip.Attribute index)) = attribute_at attrs index (slice_get attrs index)

-- what stands in a node, outermost first: its open elements, and what stands on the innermost
abbrev pub inside : Tally → List Attr → List OpenElement → Option Tip → List PathNode
inside t attrs [] top = at_tip t attrs top
inside t attrs (e ∷ es) top = open_in t e ∷ inside e.children e.attrs es top

abbrev pub nodes_of : Tally → List OpenElement → Option Tip → List PathNode
nodes_of document elements top =
    record { node = Document; earlier = λ t. 0; children = counts document; waited = false } ∷ inside document [] elements top

abbrev pub has_leaf : Option Tip → Bool
has_leaf (Some (tip.Leaf l own)) = true
has_leaf top = false

-- the counters of the innermost list
abbrev pub tally_in : Tally → List OpenElement → Tally
tally_in t [] = t
tally_in t (e ∷ es) = tally_in e.children es

-- the attributes of the innermost element
abbrev pub attributes_in : List Attr → List OpenElement → List Attr
attributes_in attrs [] = attrs
attributes_in attrs (e ∷ es) = attributes_in e.attrs es

abbrev pub tip_told : Option Tip → NodeTest → Bool
tip_told (Some (tip.Leaf l own)) t = has_told own (leaf_of l) t
tip_told top t = true

abbrev pub tip_node : List Attr → Option Tip → Option Node
tip_node attrs None = None
tip_node attrs (Some (tip.Leaf l own)) = Some (leaf_of l)
tip_node attrs (Some (tip.Attribute index)) = option_map (λ a. Attribute a) (slice_get attrs index)

-- the innermost list has one more node of this kind
abbrev pub HasChild : Tally → List OpenElement → Tally → List OpenElement → Kind → Type 0
HasChild old before new after k =
    (x : Node) → kind_of x ≡ k
    → nodes_of new after None ++ in_list (tally_in new after) x none ∷ [] ≡ with_child x (nodes_of old before None)

-- a node that was the current one, in the list that the counters count
abbrev pub ended_in : Tally → Ended → PathNode
ended_in t (ended.Element e) = open_in t e
ended_in t (ended.Leaf l own) = placed t own (leaf_of l) none
