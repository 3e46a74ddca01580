-- The last node of a path.
use Rattle.std.proofs.Common.{◌≡◌, ◌≤◌, List, [], ◌∷◌, ◌++◌, Some, length, refl, sym, ap, ◌∙◌, arith}
use Rattle.std.specs.Prelude.{option_map}
use Rattle.node_stack.specs.Open.{node_of}
use Rattle.node_stack.specs.declared.node.NodeView.{NodeView}
use Rattle.node_stack.specs.Path.{Path, PathNode, current, last_of, resumed}
use Rattle.node_stack.specs.Stack.{path}
use Rattle.node_stack.specs.declared.stack.NodeStack.{NodeStack}

pub some_node : (s : NodeStack) → 1 ≤ length (path s).nodes
unfolding path
some_node s = omega arith

last_behind : (xs : List PathNode) (x : PathNode) → last_of (xs ++ x ∷ []) ≡ Some x
last_behind [] x = refl
last_behind (y ∷ []) x = refl
last_behind (y ∷ z ∷ xs) x = last_behind (z ∷ xs) x

-- a node that waited is the current one once it is resumed
pub current_resumed : (x : PathNode) (p : Path) → current (resumed x p) ≡ Some x.node
current_resumed x p = ap (option_map (λ (y : PathNode). y.node)) (last_behind p.nodes x)

-- the node that is shown then
pub resumed_node : (x : PathNode) (p q : Path) (v : NodeView) → q ≡ resumed x p → current q ≡ Some (node_of v) → x.node ≡ node_of v
resumed_node x p q v is shown = some_is (sym (current_resumed x p) ∙ sym (ap current is) ∙ shown) where
  some_is : Some x.node ≡ Some (node_of v) → x.node ≡ node_of v
  some_is e = cc
