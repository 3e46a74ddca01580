-- Which patterns fit a node.
use Rattle.std.specs.Prelude.{ℕ, ◌+◌, ◌-◌, ◌==◌, nat_lt, Bool, true, false, ◌&&◌, List, [], ◌∷◌, Option, Some, None, Result, Ok, Err, length}
use Rattle.std.specs.List.{list_all, list_any, range_with_len}
use Rattle.stx_base.specs.declared.limits.Limits.{Limits}
use Rattle.stx_base.specs.declared.name.Name.{Name}
use Rattle.stx_base.specs.declared.node.NodeTest.{NodeTest}
use Rattle.stx_base.specs.declared.node.NodeTest.TheVariants as test
use Rattle.node_stack.specs.Path.{Node, Path, kind_of, node_at}
use Rattle.node_stack.specs.Test.{passes}
use Rattle.stxpath_eval.specs.Setting.{Setting, at_step}
use Rattle.stxpath_eval.specs.Steps.{holds}
use Rattle.stxpath_eval.specs.Value.{value}
use Rattle.stxpath_syntax.specs.declared.expr.Alternative.{Alternative}
use Rattle.stxpath_syntax.specs.declared.expr.Alternative.TheVariants as alternative
use Rattle.stxpath_syntax.specs.declared.expr.Link.{Link}
use Rattle.stxpath_syntax.specs.declared.expr.Link.TheVariants as link
use Rattle.stxpath_syntax.specs.declared.expr.PathStep.{PathStep}
use Rattle.stxpath_syntax.specs.declared.expr.Pattern.{Pattern}
use Rattle.stxpath_values.specs.declared.fault.EvalFault.{EvalFault}
use Rattle.stxpath_values.specs.declared.value.Atom.{Atom}

-- what patterns see: variables, limits, and a path whose last node is the current one
abbrev pub at_current : (Name → Option (List Atom)) → Limits → Path → Setting
at_current vars limits path = record { vars = vars; limits = limits; path = path; place = length path.nodes - 1; test = test.AnyNode }

-- a predicate that faults is false
abbrev pub surely : Result Bool EvalFault → Bool
surely (Ok b) = b
surely (Err fault) = false

abbrev pub node_passes : NodeTest → Option Node → Bool
node_passes t None = false
node_passes t (Some n) = passes t (kind_of n)

-- the node at a place passes the test of a step, and each of the step's predicates holds there
abbrev pub step_fits : PathStep → Setting → (place : ℕ) → Bool
step_fits s g place =
    node_passes s.test (node_at g.path place)
    && list_all (λ predicate. surely (holds (value predicate) (at_step place s.test g))) s.predicates

-- where a step may stand behind one at a place, and where the first one may: behind `/` at the document node's children, behind
-- `//` anywhere within it, and else anywhere
abbrev pub may_follow : Link → (before : Option ℕ) → (place : ℕ) → Bool
may_follow link.Start None place = true
may_follow link.Slash None place = place == 1
may_follow link.Deep None place = nat_lt 0 place
may_follow link.Start (Some before) place = false
may_follow link.Slash (Some before) place = place == before + 1
may_follow link.Deep (Some before) place = nat_lt before place

-- the steps can be given rising places behind one, the last at the current node's, each of which they fit
abbrev pub steps_fit : List PathStep → Setting → (before : Option ℕ) → Bool
steps_fit [] g None = false
steps_fit [] g (Some place) = place == g.place
steps_fit (s ∷ steps) g before =
    list_any (λ place. may_follow s.link before place && step_fits s g place && steps_fit steps g (Some place)) (range_with_len 0 (g.place + 1))

-- `/` fits the document node alone
abbrev pub fits : Alternative → Setting → Bool
fits alternative.Root g = node_passes test.Document (node_at g.path g.place)
fits (alternative.Steps steps) g = steps_fit steps g None

-- some alternative fits
abbrev pub pattern_fits : Pattern → Setting → Bool
pattern_fits p g = list_any (λ a. fits a g) p.alternatives

-- the test of the last step
abbrev pub last_test : List PathStep → NodeTest
last_test [] = test.Document
last_test (s ∷ []) = s.test
last_test (s ∷ t ∷ steps) = last_test (t ∷ steps)

-- the test by which positions count at a node that was chosen by the alternative
abbrev pub test_of : Alternative → NodeTest
test_of alternative.Root = test.Document
test_of (alternative.Steps steps) = last_test steps

-- no step has a predicate
abbrev pub is_bare : PathStep → Bool
is_bare s = length s.predicates == 0

abbrev pub is_plain : Alternative → Bool
is_plain alternative.Root = true
is_plain (alternative.Steps steps) = list_all is_bare steps
