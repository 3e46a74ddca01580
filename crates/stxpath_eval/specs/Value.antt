-- The value of an expression.
use Rattle.std.specs.Prelude.{ℕ, pos, ◌-◌, nat_le, Bool, true, false, not, if◌then◌else◌, List, [], ◌∷◌, ◌++◌, map, Option, Some, None, Result, Ok, Err, flat_map}
use Rattle.stx_base.specs.declared.expression.Cmp.{Cmp}
use Rattle.stx_base.specs.declared.expression.Fun.{Fun}
use Rattle.stx_base.specs.declared.expression.Fun.TheVariants as fun
use Rattle.stx_base.specs.declared.expression.Op.{Op}
use Rattle.stx_base.specs.declared.expression.Op.TheVariants.{Sub}
use Rattle.stx_base.specs.declared.node.NodeTest.{NodeTest}
use Rattle.node_stack.specs.Path.{Node, Path, is_attribute, node_at, position, text_of}
use Rattle.stxpath_syntax.specs.declared.expr.Bin.{Bin}
use Rattle.stxpath_syntax.specs.declared.expr.Bin.TheVariants as bin
use Rattle.stxpath_syntax.specs.declared.expr.Expr.{Expr}
use Rattle.stxpath_syntax.specs.declared.expr.Expr.TheFolds.{fold-Expr, fold-PathStep}
use Rattle.stxpath_syntax.specs.declared.expr.Expr.TheOpen.{Expr-F, PathStep-F}
use Rattle.stxpath_syntax.specs.declared.expr.PathStep.{PathStep}
use Rattle.stxpath_values.specs.Arithmetic.{arithmetic}
use Rattle.stxpath_values.specs.Comparison.{comparison}
use Rattle.stxpath_values.specs.Conversion.{as_truth}
use Rattle.stxpath_values.specs.Functions.{called, limited_list}
use Rattle.stxpath_values.specs.Outcome.{and_then, each}
use Rattle.stxpath_values.specs.declared.value.Atom.{Atom}
use Rattle.stxpath_values.specs.declared.value.Atom.TheVariants as atom
use Rattle.stxpath_values.specs.declared.value.Item.{Item}
use Rattle.stxpath_values.specs.declared.value.Item.TheVariants as item
use Rattle.stxpath_values.specs.declared.fault.EvalFault.{EvalFault}
use Rattle.stxpath_values.specs.declared.fault.EvalFault.TheVariants.{NotNode, NotOne, NoVariable}
use Rattle.stxpath_eval.specs.Nodes.{atoms, attributes_at, has_child, local_name_of, name_of, node, referred, uri_of}
use Rattle.stxpath_eval.specs.Setting.{Setting, current}
use Rattle.stxpath_eval.specs.Steps.{Meaning, Reaching, along, step_layer}

abbrev pub Value : Type 0
Value = Result (List Item) EvalFault

abbrev pub one : Atom → Value
one a = Ok (item.Atom a ∷ [])

abbrev pub truth_item : Bool → Value
truth_item b = one (atom.Truth b)

abbrev pub text_item : List ℕ → Value
text_item text = one (atom.Chars text)

abbrev pub whole_item : ℕ → Value
whole_item n = one (atom.Whole (pos n))

abbrev pub atom_items : List Atom → List Item
atom_items xs = map (λ a. item.Atom a) xs

abbrev pub variable : Option (List Atom) → Value
variable None = Err NoVariable
variable (Some xs) = Ok (atom_items xs)

-- values one after another; the list is measured after each of them
abbrev pub in_a_row : Setting → List Item → List Meaning → Value
in_a_row g before [] = Ok before
in_a_row g before (m ∷ ms) = and_then (m g) (λ items. and_then (limited_list g.limits (before ++ items)) (λ all. in_a_row g all ms))

-- the node so many places up, or its attributes that pass
abbrev pub at_or_attributes : Setting → (place : ℕ) → Option NodeTest → Value
at_or_attributes g place None = Ok (node place ∷ [])
at_or_attributes g place (Some t) = limited_list g.limits (attributes_at g.path t place)

abbrev pub up : Setting → ℕ → Option NodeTest → Value
up g n t = if nat_le n g.place then at_or_attributes g (g.place - n) t else Ok []

-- nodes at places, or their attributes that pass
abbrev pub nodes_at : Path → Option NodeTest → List ℕ → List Item
nodes_at p None places = map node places
nodes_at p (Some t) places = flat_map (attributes_at p t) places

abbrev pub absolute : Setting → List Reaching → Option NodeTest → Value
absolute g steps t = and_then (along steps g (0 ∷ [])) (λ places. limited_list g.limits (nodes_at g.path t places))

abbrev pub compared : Cmp → List Atom → List Atom → Value
compared cmp left right = and_then (comparison cmp left right) truth_item

abbrev pub computed : Op → List Atom → List Atom → Value
computed op left right = and_then (arithmetic op left right) one

-- the truth of the left operand of `or` and `and`, where it decides
abbrev pub decided : Bin → List Item → Result (Option Bool) EvalFault
decided bin.Or left = and_then (as_truth left) (λ b. Ok (if b then Some true else None))
decided bin.And left = and_then (as_truth left) (λ b. Ok (if b then None else Some false))
decided b left = Ok None

-- both operands' values, where the left one doesn't decide
abbrev pub operated : Path → Bin → (left right : List Item) → Value
operated p bin.Or left right = and_then (as_truth right) truth_item
operated p bin.And left right = and_then (as_truth right) truth_item
operated p (bin.Compare cmp) left right = compared cmp (atoms p left) (atoms p right)
operated p (bin.Arith op) left right = computed op (atoms p left) (atoms p right)

-- the right operand is evaluated only where the left one doesn't decide
abbrev pub decided_or : Setting → Bin → List Item → Meaning → Option Bool → Value
decided_or g b left y (Some truth) = truth_item truth
decided_or g b left y None = and_then (y g) (operated g.path b left)

abbrev pub binary : Setting → Bin → Meaning → Meaning → Value
binary g b x y = and_then (x g) (λ left. and_then (decided b left) (decided_or g b left y))

-- a value taken from 0
abbrev pub negated : List Atom → Value
negated xs = and_then (arithmetic Sub (atom.Whole (pos 0) ∷ []) xs) one

-- the one node of an argument, or none where it is empty
abbrev pub one_node : Path → List Item → Result (Option Node) EvalFault
one_node p [] = Ok None
one_node p (item.Node r ∷ []) = Ok (referred p r)
one_node p (item.Atom a ∷ []) = Err NotNode
one_node p (x ∷ y ∷ more) = Err NotOne

-- the current node is meant where the argument is left out
abbrev pub node_meant : Path → (place : ℕ) → List (List Item) → Result (Option Node) EvalFault
node_meant p place [] = Ok (node_at p place)
node_meant p place (arg ∷ args) = one_node p arg

-- what is told of a node that is meant
abbrev pub told : (Option Node → List ℕ) → Result (Option Node) EvalFault → Value
told tell n = and_then n (λ n. text_item (tell n))

abbrev pub first_of : List (List Item) → List Item
first_of [] = []
first_of (x ∷ xs) = x

abbrev pub or_current : Setting → List (List Atom) → List (List Atom)
or_current g [] = (atom.Chars (text_of (current g)) ∷ []) ∷ []
or_current g args = args

-- the current node's string value stands for an argument that is left out
abbrev pub handed : Setting → Fun → List (List Atom) → List (List Atom)
handed g fun.Str args = or_current g args
handed g fun.StringLength args = or_current g args
handed g fun.NormalizeSpace args = or_current g args
handed g f args = args

abbrev pub atom_value : Result (List Atom) EvalFault → Value
atom_value xs = and_then xs (λ list. Ok (atom_items list))

-- the number of the current node's place; an attribute has its element's
abbrev pub level_at : Path → (place : ℕ) → ℕ
level_at p place = if is_attribute (node_at p place) then place - 1 else place

-- the functions that see nodes, and those that don't
abbrev pub applied : Setting → Fun → List (List Item) → Value
applied g fun.Name args = told name_of (node_meant g.path g.place args)
applied g fun.LocalName args = told local_name_of (node_meant g.path g.place args)
applied g fun.NamespaceUri args = told uri_of (node_meant g.path g.place args)
applied g fun.Position args = whole_item (position g.path g.place g.test)
applied g fun.Level args = whole_item (level_at g.path g.place)
applied g fun.HasChildNodes args = truth_item (has_child (current g))
applied g fun.Boolean args = and_then (as_truth (first_of args)) truth_item
applied g fun.Not args = and_then (as_truth (first_of args)) (λ b. truth_item (not b))
applied g f args = atom_value (called g.limits f (handed g f (map (atoms g.path) args)))

-- an expression, by what its parts give
abbrev pub layer : Expr-F Meaning Reaching → Meaning
layer (Expr-F.Whole z) g = one (atom.Whole z)
layer (Expr-F.Literal text) g = text_item text
layer (Expr-F.Var name) g = variable (g.vars name)
layer (Expr-F.Call f args) g = and_then (each (λ (m : Meaning). m g) args) (applied g f)
layer (Expr-F.Seq parts) g = in_a_row g [] parts
layer (Expr-F.Neg x) g = and_then (x g) (λ items. negated (atoms g.path items))
layer (Expr-F.Binary b x y) g = binary g b x y
layer Expr-F.Root g = Ok (node 0 ∷ [])
layer (Expr-F.Abs steps t) g = absolute g steps t
layer (Expr-F.Up n t) g = up g n t
layer (Expr-F.Attr t) g = at_or_attributes g g.place (Some t)

unfoldable pub value : Expr → Meaning
value = fold-Expr Meaning Reaching layer step_layer

unfoldable pub reaching : PathStep → Reaching
reaching = fold-PathStep Meaning Reaching layer step_layer

-- a step, by what its predicates give
abbrev pub meant : PathStep → PathStep-F Meaning Reaching
meant s = record { link = s.link; test = s.test; predicates = map value s.predicates }
