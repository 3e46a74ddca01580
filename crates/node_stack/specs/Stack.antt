-- What the fields of a stack and of a waiting node mean.
use Rattle.std.specs.Prelude.{true}
use Rattle.node_stack.specs.Counts.{none}
use Rattle.node_stack.specs.Open.{element_of, leaf_of, nodes_of, own_counts, tally_in}
use Rattle.node_stack.specs.Path.{Path, PathNode}
use Rattle.node_stack.specs.Tally.{counts}
use Rattle.node_stack.specs.declared.parked.Parked.{Parked}
use Rattle.node_stack.specs.declared.parked.Waiting.{Waiting}
use Rattle.node_stack.specs.declared.parked.Waiting.TheVariants.{Element, Leaf}
use Rattle.node_stack.specs.declared.stack.NodeStack.{NodeStack}
use Rattle.node_stack.specs.declared.tally.Tally.{Tally}

unfoldable pub path : NodeStack → Path
path s = record { limit = s.limit; nodes = nodes_of s.document s.elements.items s.tip }

-- the counters of the list in which a child of the innermost element stands
abbrev pub innermost : NodeStack → Tally
innermost s = tally_in s.document s.elements.items

abbrev pub waiting : Waiting → PathNode
waiting (Element e own) = record { node = element_of e; earlier = own_counts own (element_of e); children = counts e.children; waited = true }
waiting (Leaf l own) = record { node = leaf_of l; earlier = own_counts own (leaf_of l); children = none; waited = true }

-- the node that waits
unfoldable pub path_node : Parked → PathNode
path_node p = waiting p.node
