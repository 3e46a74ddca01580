-- Expressions as trees: how many arguments each call has, and how high a tree is.
use Rattle.std.specs.Prelude.{◌≡◌, ℕ, ◌+◌, ◌≤◌, All, max, Bool, true, ◌&&◌, List, [], ◌∷◌, length, map, ⊤}
use Rattle.std.specs.List.{list_all}
pub use Rattle.stx_base.specs.Functions.{permits}
use Rattle.stxpath_syntax.specs.declared.expr.Alternative.{Alternative}
use Rattle.stxpath_syntax.specs.declared.expr.Alternative.TheVariants as alternative
use Rattle.stxpath_syntax.specs.declared.expr.AvtPart.{AvtPart}
use Rattle.stxpath_syntax.specs.declared.expr.AvtPart.TheVariants as part
use Rattle.stxpath_syntax.specs.declared.expr.Expr.{Expr}
use Rattle.stxpath_syntax.specs.declared.expr.Expr.TheFolds.{fold-Expr, fold-PathStep}
use Rattle.stxpath_syntax.specs.declared.expr.Expr.TheOpen.{Expr-F, PathStep-F}
use Rattle.stxpath_syntax.specs.declared.expr.PathStep.{PathStep}

abbrev pub all_true : List Bool → Bool
all_true bs = list_all (λ b. b) bs

abbrev pub step_called_well : PathStep-F Bool Bool → Bool
step_called_well s = all_true s.predicates

abbrev pub layer_called_well : Expr-F Bool Bool → Bool
layer_called_well (Expr-F.Call f args) = permits f (length args) && all_true args
layer_called_well (Expr-F.Seq parts) = all_true parts
layer_called_well (Expr-F.Neg x) = x
layer_called_well (Expr-F.Binary b x y) = x && y
layer_called_well (Expr-F.Abs steps t) = all_true steps
layer_called_well x = true

-- each function has as many arguments as it may have
unfoldable pub is_called_well : Expr → Bool
is_called_well = fold-Expr Bool Bool layer_called_well step_called_well

unfoldable pub is_step_called_well : PathStep → Bool
is_step_called_well = fold-PathStep Bool Bool layer_called_well step_called_well

abbrev pub are_called_well : List Expr → Bool
are_called_well es = list_all is_called_well es

abbrev pub are_steps_called_well : List PathStep → Bool
are_steps_called_well steps = list_all is_step_called_well steps

abbrev pub is_alternative_called_well : Alternative → Bool
is_alternative_called_well alternative.Root = true
is_alternative_called_well (alternative.Steps steps) = are_steps_called_well steps

abbrev pub is_part_called_well : AvtPart → Bool
is_part_called_well (part.Chars text) = true
is_part_called_well (part.Value x) = is_called_well x

-- the greatest of numbers, 0 for none
abbrev pub greatest : List ℕ → ℕ
greatest [] = 0
greatest (n ∷ ns) = max n (greatest ns)

abbrev pub step_height : PathStep-F ℕ ℕ → ℕ
step_height s = greatest s.predicates

abbrev pub layer_height : Expr-F ℕ ℕ → ℕ
layer_height (Expr-F.Call f args) = greatest args + 1
layer_height (Expr-F.Seq parts) = greatest parts + 1
layer_height (Expr-F.Neg x) = x + 1
layer_height (Expr-F.Binary b x y) = max x y + 1
layer_height (Expr-F.Abs steps t) = greatest steps + 1
layer_height x = 1

-- how high the tree of an expression is, a leaf being 1
unfoldable pub height : Expr → ℕ
height = fold-Expr ℕ ℕ layer_height step_height

-- how high the highest predicate of a step is
unfoldable pub height_of_step : PathStep → ℕ
height_of_step = fold-PathStep ℕ ℕ layer_height step_height

-- how high the highest predicate of an alternative is
abbrev pub alternative_height : Alternative → ℕ
alternative_height alternative.Root = 0
alternative_height (alternative.Steps steps) = greatest (map height_of_step steps)

-- how high the expression of a part is
abbrev pub part_height : AvtPart → ℕ
part_height (part.Chars text) = 0
part_height (part.Value x) = height x

-- what evaluation asks of an expression: permitted numbers of arguments, and at most 64 levels
abbrev pub CanBeEvaluated : Expr → Type 0
CanBeEvaluated x = (is_called_well x ≡ true) × (height x ≤ 64)

-- the same of each predicate of an alternative
abbrev pub PredicatesCanBeEvaluated : Alternative → Type 0
PredicatesCanBeEvaluated alternative.Root = ⊤
PredicatesCanBeEvaluated (alternative.Steps steps) = All (λ step. All CanBeEvaluated step.predicates) steps
