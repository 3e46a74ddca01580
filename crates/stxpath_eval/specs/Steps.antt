-- Steps along a path.
use Rattle.std.specs.Prelude.{ℕ, pos, ◌+◌, ◌==◌, nat_lt, Bool, true, false, ◌&&◌, if◌then◌else◌, List, [], ◌∷◌, Option, Some, None, Result, Ok}
use Rattle.std.specs.List.{list_any, range_with_len}
use Rattle.std.specs.Ordering.{int_eq}
use Rattle.stx_base.specs.declared.node.NodeTest.{NodeTest}
use Rattle.node_stack.specs.Path.{Node, Attribute, Path, kind_of, node_at, position}
use Rattle.node_stack.specs.Test.{passes}
use Rattle.stxpath_eval.specs.Setting.{Setting, at_step}
use Rattle.stxpath_syntax.specs.declared.expr.Expr.TheOpen.{PathStep-F}
use Rattle.stxpath_syntax.specs.declared.expr.Link.{Link}
use Rattle.stxpath_syntax.specs.declared.expr.Link.TheVariants.{Start, Slash, Deep}
use Rattle.stxpath_values.specs.Conversion.{as_truth}
use Rattle.stxpath_values.specs.Outcome.{and_then}
use Rattle.stxpath_values.specs.declared.value.Atom.TheVariants as atom
use Rattle.stxpath_values.specs.declared.value.Item.{Item}
use Rattle.stxpath_values.specs.declared.value.Item.TheVariants as item
use Rattle.stxpath_values.specs.declared.fault.EvalFault.{EvalFault}

-- what an expression gives
abbrev pub Meaning : Type 0
Meaning = Setting → Result (List Item) EvalFault

-- from one place a step reaches the next, or any later one; without a link it stays
abbrev pub leads : Link → (from to : ℕ) → Bool
leads Start from to = to == from
leads Slash from to = to == from + 1
leads Deep from to = nat_lt from to

-- a step's test is asked of all but attributes
abbrev pub is_reached : NodeTest → Option Node → Bool
is_reached t None = false
is_reached t (Some (Attribute a)) = false
is_reached t (Some n) = passes t (kind_of n)

-- a predicate's value: one whole number is a position, any other value is asked for its truth
abbrev pub holds_by : (position : ℕ) → List Item → Result Bool EvalFault
holds_by n (item.Atom (atom.Whole z) ∷ []) = Ok (int_eq z (pos n))
holds_by n items = as_truth items

-- whether a predicate holds of the current node
abbrev pub holds : Meaning → Setting → Result Bool EvalFault
holds predicate g = and_then (predicate g) (holds_by (position g.path g.place g.test))

-- each predicate is asked only where the one before holds
abbrev pub all_hold : List Meaning → Setting → Result Bool EvalFault
all_hold [] g = Ok true
all_hold (p ∷ ps) g = and_then (holds p g) (λ one. if one then all_hold ps g else Ok false)

-- the places at which a test holds, which is asked of one after the other
abbrev pub kept : (ℕ → Result Bool EvalFault) → List ℕ → Result (List ℕ) EvalFault
kept ask [] = Ok []
kept ask (p ∷ ps) = and_then (ask p) (λ one. and_then (kept ask ps) (λ others. Ok (if one then p ∷ others else others)))

-- a step from the places that were reached to those that it reaches, each once and in rising order
abbrev pub Reaching : Type 0
Reaching = Setting → List ℕ → Result (List ℕ) EvalFault

-- whether it leads from one of the places to a place that passes
abbrev pub leads_to : Link → NodeTest → Path → (places : List ℕ) → (place : ℕ) → Bool
leads_to link t p places place = list_any (λ from. leads link from place) places && is_reached t (node_at p place)

-- predicates are asked only where a step leads, with the node there as the current one
abbrev pub ends_at : PathStep-F Meaning Reaching → Setting → (places : List ℕ) → (place : ℕ) → Result Bool EvalFault
ends_at s g places place = if leads_to s.link s.test g.path places place then all_hold s.predicates (at_step place s.test g) else Ok false

abbrev pub step_layer : PathStep-F Meaning Reaching → Reaching
step_layer s g places = kept (ends_at s g places) (range_with_len 0 (g.place + 1))

abbrev pub along : List Reaching → Setting → List ℕ → Result (List ℕ) EvalFault
along [] g places = Ok places
along (s ∷ steps) g places = and_then (s g places) (along steps g)
