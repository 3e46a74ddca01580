-- What patterns see of a path: its nodes, and positions by tests that a node passes.
use Rattle.std.specs.Prelude.{◌≡◌, ℕ, true, List, map, reverse}
use Rattle.group_scope.specs.Choice.{chosen}
use Rattle.match_patterns.specs.Fits.{fits, node_passes}
use Rattle.node_stack.specs.Path.{Path, PathNode, node_at, position}
use Rattle.sheet_model.specs.declared.sheet.Sheet.{Sheet}
use Rattle.stx_base.specs.declared.node.NodeTest.{NodeTest}
use Rattle.stxpath_eval.specs.Setting.{Setting}
use Rattle.stxpath_syntax.specs.declared.expr.Alternative.{Alternative}
use Rattle.template_machine.specs.Alike.{along_path}
use Rattle.template_machine.specs.Trail.{path_of, stand}

-- another path with the same nodes, and with the same positions by tests that they pass
pub record PassesLike (g : Setting) (p : Path) : Type 0 where
  pub nodes : (place : ℕ) → node_at g.path place ≡ node_at p place
  pub positions : (place : ℕ) (t : NodeTest) → node_passes t (node_at g.path place) ≡ true → position g.path place t ≡ position p place t

-- A pattern fits alike.
abbrev pub PatternsSeeNodes : Type 0
PatternsSeeNodes = (a : Alternative) (g : Setting) (p : Path) → PassesLike g p → fits a g ≡ fits a (along_path p g)

-- So the same template is chosen.
abbrev pub ChoicesSeeNodes : Type 0
ChoicesSeeNodes =
    (s : Sheet) (base : ℕ) (active : List ℕ) (settings : (group : ℕ) → Setting) (p : Path) → ((group : ℕ) → PassesLike (settings group) p)
    → chosen s base active settings ≡ chosen s base active (λ group. along_path p (settings group))

-- The path by the trail of its nodes is such a one.
abbrev pub TrailsPassAlike : Type 0
TrailsPassAlike = (g : Setting) → PassesLike g (path_of (map (λ (x : PathNode). stand x.node x.earlier) (reverse g.path.nodes)))
