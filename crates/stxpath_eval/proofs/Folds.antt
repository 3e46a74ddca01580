-- What each form of an expression means, by what its parts mean.
use Rattle.std.proofs.Common.{◌≡◌, ℕ, ℤ, Bool, List, Option, map, sym, ◌∙◌, ap}
use Rattle.stx_base.specs.declared.expression.Fun.{Fun}
use Rattle.stx_base.specs.declared.name.Name.{Name}
use Rattle.stx_base.specs.declared.node.NodeTest.{NodeTest}
use Rattle.stxpath_syntax.specs.Shape.{is_called_well, is_step_called_well, layer_called_well, step_called_well}
use Rattle.stxpath_eval.specs.Steps.{Meaning, Reaching, step_layer}
use Rattle.stxpath_eval.specs.Value.{layer, reaching, value}
use Rattle.stxpath_syntax.specs.declared.expr.Bin.{Bin}
use Rattle.stxpath_syntax.specs.declared.expr.Expr.{Expr}
use Rattle.stxpath_syntax.specs.declared.expr.Expr.TheFolds.{fold-roll-Expr, fold-roll-PathStep}
use Rattle.stxpath_syntax.specs.declared.expr.Expr.TheOpen.{Expr-F}
use Rattle.stxpath_syntax.specs.declared.expr.Expr.TheVariants as e
use Rattle.stxpath_syntax.specs.declared.expr.Expr.TheViews.{rolls-Whole, rolls-Literal, rolls-Var, rolls-Call, rolls-Seq, rolls-Neg, rolls-Binary, rolls-Root, rolls-Abs, rolls-Up, rolls-Attr}
use Rattle.stxpath_syntax.specs.declared.expr.PathStep.{PathStep}

pub value_whole : (z : ℤ) → value (e.Whole z) ≡ layer (Expr-F.Whole z)
unfolding value
value_whole z = ap value (sym (rolls-Whole z)) ∙ fold-roll-Expr Meaning Reaching layer step_layer (Expr-F.Whole z)

pub value_literal : (text : List ℕ) → value (e.Literal text) ≡ layer (Expr-F.Literal text)
unfolding value
value_literal text = ap value (sym (rolls-Literal text)) ∙ fold-roll-Expr Meaning Reaching layer step_layer (Expr-F.Literal text)

pub value_var : (name : Name) → value (e.Var name) ≡ layer (Expr-F.Var name)
unfolding value
value_var name = ap value (sym (rolls-Var name)) ∙ fold-roll-Expr Meaning Reaching layer step_layer (Expr-F.Var name)

pub value_call : (f : Fun) (es : List Expr) → value (e.Call f es) ≡ layer (Expr-F.Call f (map value es))
unfolding value
value_call f es = ap value (sym (rolls-Call f es)) ∙ fold-roll-Expr Meaning Reaching layer step_layer (Expr-F.Call f es)

pub value_seq : (es : List Expr) → value (e.Seq es) ≡ layer (Expr-F.Seq (map value es))
unfolding value
value_seq es = ap value (sym (rolls-Seq es)) ∙ fold-roll-Expr Meaning Reaching layer step_layer (Expr-F.Seq es)

pub value_neg : (x : Expr) → value (e.Neg x) ≡ layer (Expr-F.Neg (value x))
unfolding value
value_neg x = ap value (sym (rolls-Neg x)) ∙ fold-roll-Expr Meaning Reaching layer step_layer (Expr-F.Neg x)

pub value_binary : (b : Bin) (x y : Expr) → value (e.Binary b x y) ≡ layer (Expr-F.Binary b (value x) (value y))
unfolding value
value_binary b x y = ap value (sym (rolls-Binary b x y)) ∙ fold-roll-Expr Meaning Reaching layer step_layer (Expr-F.Binary b x y)

pub value_root : value e.Root ≡ layer Expr-F.Root
unfolding value
value_root = ap value (sym rolls-Root) ∙ fold-roll-Expr Meaning Reaching layer step_layer Expr-F.Root

pub value_abs : (steps : List PathStep) (t : Option NodeTest) → value (e.Abs steps t) ≡ layer (Expr-F.Abs (map reaching steps) t)
unfolding value reaching
value_abs steps t = ap value (sym (rolls-Abs steps t)) ∙ fold-roll-Expr Meaning Reaching layer step_layer (Expr-F.Abs steps t)

pub value_up : (n : ℕ) (t : Option NodeTest) → value (e.Up n t) ≡ layer (Expr-F.Up n t)
unfolding value
value_up n t = ap value (sym (rolls-Up n t)) ∙ fold-roll-Expr Meaning Reaching layer step_layer (Expr-F.Up n t)

pub value_attr : (t : NodeTest) → value (e.Attr t) ≡ layer (Expr-F.Attr t)
unfolding value
value_attr t = ap value (sym (rolls-Attr t)) ∙ fold-roll-Expr Meaning Reaching layer step_layer (Expr-F.Attr t)

-- a step means what its layer says of its predicates
pub reaching_step : (s : PathStep) → reaching s ≡ step_layer (record { link = s.link; test = s.test; predicates = map value s.predicates })
unfolding value reaching
reaching_step s = fold-roll-PathStep Meaning Reaching layer step_layer (record { link = s.link; test = s.test; predicates = s.predicates })

pub well_call : (f : Fun) (es : List Expr) → is_called_well (e.Call f es) ≡ layer_called_well (Expr-F.Call f (map is_called_well es))
unfolding is_called_well
well_call f es = ap is_called_well (sym (rolls-Call f es)) ∙ fold-roll-Expr Bool Bool layer_called_well step_called_well (Expr-F.Call f es)

pub well_seq : (es : List Expr) → is_called_well (e.Seq es) ≡ layer_called_well (Expr-F.Seq (map is_called_well es))
unfolding is_called_well
well_seq es = ap is_called_well (sym (rolls-Seq es)) ∙ fold-roll-Expr Bool Bool layer_called_well step_called_well (Expr-F.Seq es)

pub well_neg : (x : Expr) → is_called_well (e.Neg x) ≡ layer_called_well (Expr-F.Neg (is_called_well x))
unfolding is_called_well
well_neg x = ap is_called_well (sym (rolls-Neg x)) ∙ fold-roll-Expr Bool Bool layer_called_well step_called_well (Expr-F.Neg x)

pub well_binary : (b : Bin) (x y : Expr) → is_called_well (e.Binary b x y) ≡ layer_called_well (Expr-F.Binary b (is_called_well x) (is_called_well y))
unfolding is_called_well
well_binary b x y = ap is_called_well (sym (rolls-Binary b x y)) ∙ fold-roll-Expr Bool Bool layer_called_well step_called_well (Expr-F.Binary b x y)

pub well_abs : (steps : List PathStep) (t : Option NodeTest) → is_called_well (e.Abs steps t) ≡ layer_called_well (Expr-F.Abs (map is_step_called_well steps) t)
unfolding is_called_well is_step_called_well
well_abs steps t = ap is_called_well (sym (rolls-Abs steps t)) ∙ fold-roll-Expr Bool Bool layer_called_well step_called_well (Expr-F.Abs steps t)

pub well_step : (s : PathStep) → is_step_called_well s ≡ step_called_well (record { link = s.link; test = s.test; predicates = map is_called_well s.predicates })
unfolding is_called_well is_step_called_well
well_step s = fold-roll-PathStep Bool Bool layer_called_well step_called_well (record { link = s.link; test = s.test; predicates = s.predicates })
