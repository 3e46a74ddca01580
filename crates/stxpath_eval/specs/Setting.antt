-- What an expression sees.
use Rattle.std.specs.Prelude.{ℕ, List, Option}
use Rattle.stx_base.specs.declared.limits.Limits.{Limits}
use Rattle.stx_base.specs.declared.name.Name.{Name}
use Rattle.stx_base.specs.declared.node.NodeTest.{NodeTest}
use Rattle.node_stack.specs.Path.{Node, Path, node_at}
use Rattle.stxpath_values.specs.declared.value.Atom.{Atom}

-- the variables in sight, the limits, the path, the place of the current node, behind which nothing is seen, and the test
-- for which `position()` counts
pub record Setting : Type 0 where
  pub vars : Name → Option (List Atom)
  pub limits : Limits
  pub path : Path
  pub place : ℕ
  pub test : NodeTest

abbrev pub current : Setting → Option Node
current g = node_at g.path g.place

-- a predicate's: the node at the step's place is the current node, and the step's test counts
abbrev pub at_step : (place : ℕ) → NodeTest → Setting → Setting
at_step place t g = record g { place = place; test = t }
