-- What expressions see of a path: its nodes, and positions by tests that a node passes.
use Rattle.std.specs.Prelude.{◌≡◌, ℕ, true, List, Option, Some, map, reverse, slice_get}
use Rattle.stx_base.specs.declared.node.NodeTest.{NodeTest}
use Rattle.node_stack.specs.Path.{Path, PathNode, kind_of, node_at, position}
use Rattle.node_stack.specs.Test.{passes}
use Rattle.sheet_model.specs.declared.instr.Content.{Content}
use Rattle.stxpath_eval.specs.Setting.{Setting}
use Rattle.stxpath_eval.specs.Steps.{is_reached}
use Rattle.stxpath_eval.specs.Value.{value}
use Rattle.stxpath_syntax.specs.declared.expr.Avt.{Avt}
use Rattle.stxpath_syntax.specs.declared.expr.Expr.{Expr}
use Rattle.stxpath_values.specs.declared.value.Item.{Item}
use Rattle.template_machine.specs.Trail.{path_of, stand}
use Rattle.template_machine.specs.Values.{atoms_of, content_text, items_text, namespace_text, selected, template_text, text_of, truth_of}

-- another path with the same nodes, and with the same positions where they are asked
pub record LooksLike (g : Setting) (p : Path) : Type 0 where
  pub nodes : (place : ℕ) → node_at g.path place ≡ node_at p place
  pub positions : (place : ℕ) (t : NodeTest) → is_reached t (node_at g.path place) ≡ true → position g.path place t ≡ position p place t
  pub own : position g.path g.place g.test ≡ position p g.place g.test

abbrev pub along_path : Path → Setting → Setting
along_path p g = record g { path = p }

-- An expression gives the same on a path that looks alike.
abbrev pub ExpressionsSeeNodes : Type 0
ExpressionsSeeNodes = (e : Expr) (g : Setting) (p : Path) → LooksLike g p → value e g ≡ value e (along_path p g)

-- And so do what instructions make of expressions: texts, values that are kept, and tests.
pub record TextsSeeNodes : Type 0 where
  pub items : (separator : List ℕ) (items : List Item) (g : Setting) (p : Path) → LooksLike g p → items_text g separator items ≡ items_text (along_path p g) separator items
  pub texts : (e : Expr) (g : Setting) (p : Path) → LooksLike g p → text_of e g ≡ text_of e (along_path p g)
  pub templates : (t : Avt) (g : Setting) (p : Path) → LooksLike g p → template_text t g ≡ template_text t (along_path p g)
  pub contents : (c : Content) (g : Setting) (p : Path) → LooksLike g p → content_text c g ≡ content_text c (along_path p g)
  pub namespaces : (t : Option Avt) (g : Setting) (p : Path) → LooksLike g p → namespace_text t g ≡ namespace_text t (along_path p g)
  pub kept : (e : Expr) (g : Setting) (p : Path) → LooksLike g p → atoms_of e g ≡ atoms_of e (along_path p g)
  pub selects : (e : Option Expr) (g : Setting) (p : Path) → LooksLike g p → selected e g ≡ selected e (along_path p g)
  pub tests : (e : Expr) (g : Setting) (p : Path) → LooksLike g p → truth_of e g ≡ truth_of e (along_path p g)

-- The path by the trail of its nodes looks like it, where the current node passes the test by which positions count.
abbrev pub TrailsLookAlike : Type 0
TrailsLookAlike =
    (g : Setting) → ((x : PathNode) → slice_get g.path.nodes g.place ≡ Some x → passes g.test (kind_of x.node) ≡ true)
    → LooksLike g (path_of (map (λ (x : PathNode). stand x.node x.earlier) (reverse g.path.nodes)))
