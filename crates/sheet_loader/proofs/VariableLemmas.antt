-- The variables of expressions, as their names are gathered.
use Rattle.std.proofs.Common.{◌≡◌, ℕ, ℤ, List, [], ◌∷◌, ◌++◌, map, Option, refl, ap, sym, ◌∙◌, append_assoc}
use Rattle.std.proofs.lemmas.List.{append-nil, map-append}
use Rattle.std.specs.List.{flat_map}
use Rattle.stx_base.specs.declared.expression.Fun.{Fun}
use Rattle.stx_base.specs.declared.name.Name.{Name}
use Rattle.stx_base.specs.declared.node.NodeTest.{NodeTest}
use Rattle.stxpath_syntax.specs.declared.expr.Bin.{Bin}
use Rattle.stxpath_syntax.specs.declared.expr.Expr.{Expr}
use Rattle.stxpath_syntax.specs.declared.expr.Expr.TheFolds.{fold-PathStep, fold-roll-Expr, fold_out-PathStep}
use Rattle.stxpath_syntax.specs.declared.expr.Expr.TheOpen.{Expr-F}
use Rattle.stxpath_syntax.specs.declared.expr.Expr.TheVariants as e
use Rattle.stxpath_syntax.specs.declared.expr.Expr.TheViews.{rolls-Whole, rolls-Literal, rolls-Var, rolls-Call, rolls-Seq, rolls-Neg, rolls-Binary, rolls-Root, rolls-Abs, rolls-Up, rolls-Attr}
use Rattle.stxpath_syntax.specs.declared.expr.PathStep.{PathStep}
use Rattle.sheet_model.specs.Names.{joined, layer_variables, step_variables, variables}

joined-map : {A : Type 0} (f : A → List Name) (xs : List A) → joined (map f xs) ≡ flat_map f xs
joined-map f [] = refl
joined-map f (x ∷ xs) = ap (λ l. f x ++ l) (joined-map f xs)

flat_same : {A : Type 0} (f g : A → List Name) → ((a : A) → f a ≡ g a) → (xs : List A) → flat_map f xs ≡ flat_map g xs
flat_same f g h [] = refl
flat_same f g h (x ∷ xs) = ap (λ l. l ++ flat_map f xs) (h x) ∙ ap (λ l. g x ++ l) (flat_same f g h xs)

-- the variables of steps
abbrev pub of_steps : List PathStep → List Name
of_steps steps = flat_map (λ (s : PathStep). flat_map variables s.predicates) steps

pub variables_whole : (i : ℤ) → variables (e.Whole i) ≡ []
unfolding variables
variables_whole i = ap variables (sym (rolls-Whole i)) ∙ fold-roll-Expr (List Name) (List Name) layer_variables step_variables (Expr-F.Whole i)

pub variables_literal : (text : List ℕ) → variables (e.Literal text) ≡ []
unfolding variables
variables_literal text = ap variables (sym (rolls-Literal text)) ∙ fold-roll-Expr (List Name) (List Name) layer_variables step_variables (Expr-F.Literal text)

pub variables_var : (name : Name) → variables (e.Var name) ≡ name ∷ []
unfolding variables
variables_var name = ap variables (sym (rolls-Var name)) ∙ fold-roll-Expr (List Name) (List Name) layer_variables step_variables (Expr-F.Var name)

pub variables_call : (f : Fun) (es : List Expr) → variables (e.Call f es) ≡ flat_map variables es
unfolding variables
variables_call f es =
    ap variables (sym (rolls-Call f es)) ∙ fold-roll-Expr (List Name) (List Name) layer_variables step_variables (Expr-F.Call f es)
    ∙ joined-map variables es

pub variables_seq : (es : List Expr) → variables (e.Seq es) ≡ flat_map variables es
unfolding variables
variables_seq es =
    ap variables (sym (rolls-Seq es)) ∙ fold-roll-Expr (List Name) (List Name) layer_variables step_variables (Expr-F.Seq es)
    ∙ joined-map variables es

pub variables_neg : (x : Expr) → variables (e.Neg x) ≡ variables x
unfolding variables
variables_neg x = ap variables (sym (rolls-Neg x)) ∙ fold-roll-Expr (List Name) (List Name) layer_variables step_variables (Expr-F.Neg x)

pub variables_binary : (b : Bin) (x y : Expr) → variables (e.Binary b x y) ≡ variables x ++ variables y
unfolding variables
variables_binary b x y = ap variables (sym (rolls-Binary b x y)) ∙ fold-roll-Expr (List Name) (List Name) layer_variables step_variables (Expr-F.Binary b x y)

pub variables_root : variables e.Root ≡ []
unfolding variables
variables_root = ap variables (sym rolls-Root) ∙ fold-roll-Expr (List Name) (List Name) layer_variables step_variables Expr-F.Root

pub variables_abs : (steps : List PathStep) (t : Option NodeTest) → variables (e.Abs steps t) ≡ of_steps steps
unfolding variables
variables_abs steps t =
    ap variables (sym (rolls-Abs steps t)) ∙ fold-roll-Expr (List Name) (List Name) layer_variables step_variables (Expr-F.Abs steps t)
    ∙ joined-map (fold-PathStep (List Name) (List Name) layer_variables step_variables) steps
    ∙ flat_same (fold-PathStep (List Name) (List Name) layer_variables step_variables) (λ (s : PathStep). flat_map variables s.predicates) (λ s.
    fold_out-PathStep (List Name) (List Name) layer_variables step_variables s ∙ joined-map variables s.predicates) steps

pub variables_up : (n : ℕ) (t : Option NodeTest) → variables (e.Up n t) ≡ []
unfolding variables
variables_up n t = ap variables (sym (rolls-Up n t)) ∙ fold-roll-Expr (List Name) (List Name) layer_variables step_variables (Expr-F.Up n t)

pub variables_attr : (t : NodeTest) → variables (e.Attr t) ≡ []
unfolding variables
variables_attr t = ap variables (sym (rolls-Attr t)) ∙ fold-roll-Expr (List Name) (List Name) layer_variables step_variables (Expr-F.Attr t)

pub ruleset variables_forms = (variables_whole, variables_literal, variables_var, variables_call, variables_seq, variables_neg, variables_binary, variables_root, variables_abs, variables_up, variables_attr, map-append, append-nil, append_assoc)
