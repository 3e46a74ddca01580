-- The path with all earlier nodes of each list, and lists of calls.
use Rattle.std.specs.Prelude.{ℕ, ◌+◌, ◌-◌, Bool, true, false, not, ◌&&◌, if◌then◌else◌, min, List, [], ◌∷◌, ◌++◌, Option, Some, None, length, map, take, count_by, slice_get, option_map, option_to_list}
use Rattle.stx_base.specs.declared.name.Attr.{Attr}
use Rattle.stx_base.specs.declared.node.NodeTest.{NodeTest}
use Rattle.node_stack.specs.Counts.{capped, counted_all, none}
use Rattle.node_stack.specs.Path.{Node, Document, Attribute, Path, PathNode, at_attribute, attributes, document_alone, entered, kind_of, last_of, left, parked, resumed}
use Rattle.node_stack.specs.Test.{passes}

-- a node of the path, the nodes before it in its list, the nodes of its own list so far, and whether it waited
pub record ListedNode : Type 0 where
  pub node : Node
  pub earlier : List Node
  pub children : List Node
  pub waited : Bool

abbrev pub passing : NodeTest → List Node → ℕ
passing t xs = count_by (passes t) (map kind_of xs)

-- one plus the number of earlier nodes that pass, but never more than 2^63 - 1
abbrev pub listed_position : NodeTest → Option ListedNode → ℕ
listed_position t None = 1
listed_position t (Some x) = min 9223372036854775807 (passing t x.earlier + 1)

abbrev pub earlier_counts : ListedNode → NodeTest → ℕ
earlier_counts x t = if x.waited && not (passes t (kind_of x.node)) then 0 else capped (passing t x.earlier)

-- what is counted of the lists
abbrev pub counted_node : ListedNode → PathNode
counted_node x = record { node = x.node; earlier = earlier_counts x; children = counted_all none (map kind_of x.children); waited = x.waited }

abbrev pub with_listed_child : Node → List ListedNode → List ListedNode
with_listed_child n [] = []
with_listed_child n (x ∷ []) =
    record x { children = x.children ++ n ∷ [] } ∷ record { node = n; earlier = x.children; children = []; waited = false } ∷ []
with_listed_child n (x ∷ y ∷ xs) = x ∷ with_listed_child n (y ∷ xs)

abbrev pub last_listed : List ListedNode → Option ListedNode
last_listed [] = None
last_listed (x ∷ []) = Some x
last_listed (x ∷ y ∷ xs) = last_listed (y ∷ xs)

-- an attribute, behind the earlier ones of its element
abbrev pub listed_attribute : List Attr → ℕ → Option Attr → List ListedNode
listed_attribute attrs index None = []
listed_attribute attrs index (Some a) =
    record { node = Attribute a; earlier = map (λ b. Attribute b) (take index attrs); children = []; waited = false } ∷ []

-- calls that change the path: a child begins, a node ends, an attribute begins, a node is put aside to wait, and the
-- node that waits with this number, the last one first, is the current node again
pub data Call : Type 0 where
  Enter : Node → Call
  Leave : Call
  EnterAttribute : (index : ℕ) → Call
  Park : Call
  Resume : (number : ℕ) → Call

-- the path and the nodes that wait
pub record Standing : Type 0 where
  pub path : Path
  pub waiting : List PathNode

abbrev pub resumed_at : Option PathNode → Path → Path
resumed_at None p = p
resumed_at (Some x) p = resumed x p

abbrev pub done : Call → Standing → Standing
done (Enter n) s = record s { path = entered n s.path }
done Leave s = record s { path = left s.path }
done (EnterAttribute index) s = record s { path = at_attribute index s.path }
done Park s = record { path = left s.path; waiting = option_to_list (option_map parked (last_of s.path.nodes)) ++ s.waiting }
done (Resume number) s = record s { path = resumed_at (slice_get s.waiting number) s.path }

abbrev pub all_done : List Call → Standing → Standing
all_done [] s = s
all_done (c ∷ cs) s = all_done cs (done c s)

abbrev pub start : (limit : ℕ) → Standing
start limit = record { path = document_alone limit; waiting = [] }

-- a node that waits
abbrev pub aside : ListedNode → ListedNode
aside x = record x { waited = true }

-- the same with lists
pub record Listed : Type 0 where
  pub nodes : List ListedNode
  pub waiting : List ListedNode

abbrev pub listed_current : Listed → Option Node
listed_current s = option_map (λ x. x.node) (last_listed s.nodes)

abbrev pub done_listed : Call → Listed → Listed
done_listed (Enter n) s = record s { nodes = with_listed_child n s.nodes }
done_listed Leave s = record s { nodes = take (length s.nodes - 1) s.nodes }
done_listed (EnterAttribute index) s =
    let attrs = attributes (listed_current s) in
    record s { nodes = s.nodes ++ listed_attribute attrs index (slice_get attrs index) }
done_listed Park s = record {
  nodes = take (length s.nodes - 1) s.nodes;
  waiting = option_to_list (option_map aside (last_listed s.nodes)) ++ s.waiting;
}
done_listed (Resume number) s = record s { nodes = s.nodes ++ option_to_list (slice_get s.waiting number) }

abbrev pub all_done_listed : List Call → Listed → Listed
all_done_listed [] s = s
all_done_listed (c ∷ cs) s = all_done_listed cs (done_listed c s)

abbrev pub listed_start : Listed
listed_start = record { nodes = record { node = Document; earlier = []; children = []; waited = false } ∷ []; waiting = [] }

-- what is counted of all of them
abbrev pub counted_listed : (limit : ℕ) → Listed → Standing
counted_listed limit s = record { path = record { limit = limit; nodes = map counted_node s.nodes }; waiting = map counted_node s.waiting }
