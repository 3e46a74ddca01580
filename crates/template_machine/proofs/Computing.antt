-- What expressions give, by their forms.
use Rattle.std.proofs.Common.{◌≡◌, sym, ap, ◌∙◌, ℕ, ℤ, Option}
use Rattle.stx_base.specs.declared.name.Name.{Name}
use Rattle.stx_base.specs.declared.node.NodeTest.{NodeTest}
use Rattle.stxpath_eval.specs.Steps.{Meaning, Reaching, step_layer}
use Rattle.stxpath_eval.specs.Value.{layer, value}
use Rattle.stxpath_syntax.specs.declared.expr.Expr.TheFolds.{fold-roll-Expr}
use Rattle.stxpath_syntax.specs.declared.expr.Expr.TheOpen.{Expr-F}
use Rattle.stxpath_syntax.specs.declared.expr.Expr.TheVariants as e
use Rattle.stxpath_syntax.specs.declared.expr.Expr.TheViews.{rolls-Up, rolls-Var, rolls-Whole}

pub value_whole : (n : ℤ) → value (e.Whole n) ≡ layer (Expr-F.Whole n)
unfolding value
value_whole n = ap value (sym (rolls-Whole n)) ∙ fold-roll-Expr Meaning Reaching layer step_layer (Expr-F.Whole n)

pub value_var : (n : Name) → value (e.Var n) ≡ layer (Expr-F.Var n)
unfolding value
value_var n = ap value (sym (rolls-Var n)) ∙ fold-roll-Expr Meaning Reaching layer step_layer (Expr-F.Var n)

pub value_up : (n : ℕ) (t : Option NodeTest) → value (e.Up n t) ≡ layer (Expr-F.Up n t)
unfolding value
value_up n t = ap value (sym (rolls-Up n t)) ∙ fold-roll-Expr Meaning Reaching layer step_layer (Expr-F.Up n t)
