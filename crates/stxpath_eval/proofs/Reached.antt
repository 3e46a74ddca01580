-- Where a step ends, the position by its test is known.
use Rattle.std.proofs.Common.{◌≡◌, ℕ, Bool, true, false, not, ◌&&◌, ◌||◌, Option, Some, None, option_map, slice_get, refl}
use Rattle.stx_base.specs.declared.node.NodeTest.{NodeTest}
use Rattle.node_stack.specs.Path.{Node, Document, Element, Chars, CData, Comment, Pi, Attribute, Path, PathNode, is_told, kind_of, node_at, told_at}
use Rattle.node_stack.specs.Test.{passes}
use Rattle.stxpath_eval.specs.Steps.{is_reached}

pub reaches : (a b : Bool) → (a && b) ≡ true → b ≡ true
reaches true b h = h
reaches false b h = cc

or_true : (a b : Bool) → b ≡ true → (a || b) ≡ true
or_true true b h = refl
or_true false b h = h

reached_passes : (t : NodeTest) (n : Node) → is_reached t (Some n) ≡ true → passes t (kind_of n) ≡ true
reached_passes t Document h = h
reached_passes t (Element name attrs decls first) h = h
reached_passes t (Chars text) h = h
reached_passes t (CData text) h = h
reached_passes t (Comment text) h = h
reached_passes t (Pi target text) h = h
reached_passes t (Attribute a) h = cc

reached_at : (t : NodeTest) (o : Option PathNode) → is_reached t (option_map (λ x. x.node) o) ≡ true → told_at t o ≡ true
reached_at t None h = refl
reached_at t (Some x) h = or_true (not x.waited) _ (reached_passes t x.node h)

pub reached_told : (t : NodeTest) (p : Path) (place : ℕ) → is_reached t (node_at p place) ≡ true → is_told p place t ≡ true
reached_told t p place h = reached_at t (slice_get p.nodes place) h
