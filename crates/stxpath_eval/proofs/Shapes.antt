-- What may be evaluated has parts that may be.
use Rattle.std.proofs.Common.{◌≡◌, ℕ, zero, suc, ◌<◌, Bool, true, false, ◌&&◌, List, [], ◌∷◌, Option, map, length, get_or, refl, ap, sym, ◌∙◌, arith}
use Rattle.std.specs.List.{list_all}
use Rattle.std.proofs.lemmas.List.{length-map}
use Rattle.stx_base.specs.declared.expression.Fun.{Fun}
use Rattle.stx_base.specs.declared.node.NodeTest.{NodeTest}
use Rattle.stxpath_syntax.specs.Shape.{all_true, are_called_well, are_steps_called_well, is_called_well, is_step_called_well}
use Rattle.stx_base.specs.Functions.{permits}
use Rattle.stxpath_eval.proofs.Folds.{well_abs, well_binary, well_call, well_neg, well_seq, well_step}
use Rattle.stxpath_syntax.specs.declared.expr.Bin.{Bin}
use Rattle.stxpath_syntax.specs.declared.expr.Expr.{Expr}
use Rattle.stxpath_syntax.specs.declared.expr.Expr.TheVariants as e
use Rattle.stxpath_syntax.specs.declared.expr.PathStep.{PathStep}

pub left_true : (a b : Bool) → (a && b) ≡ true → a ≡ true
left_true true b h = refl
left_true false b h = cc

pub right_true : (a b : Bool) → (a && b) ≡ true → b ≡ true
right_true true b h = h
right_true false b h = cc

all_map : {A : Type 0} (p : A → Bool) (xs : List A) → all_true (map p xs) ≡ list_all p xs
all_map p [] = refl
all_map p (x ∷ xs) = ap (λ b. p x && b) (all_map p xs)

-- what holds of all holds of each
pub all_at : {A : Type 0} (p : A → Bool) (xs : List A) (i : ℕ) (d : A) → list_all p xs ≡ true → i < length xs → p (get_or xs i d) ≡ true
all_at p [] i d h within = absurd (omega arith)
all_at p (x ∷ xs) zero d h within = left_true (p x) (list_all p xs) h
all_at p (x ∷ xs) (suc i) d h within = all_at p xs i d (right_true (p x) (list_all p xs) h) (omega arith)

pub called_well : (f : Fun) (es : List Expr) → is_called_well (e.Call f es) ≡ true → (permits f (length es) ≡ true) × (are_called_well es ≡ true)
called_well f es h =
    let both : (permits f (length (map is_called_well es)) && all_true (map is_called_well es)) ≡ true = sym (well_call f es) ∙ h in (
      ap (permits f) (sym (length-map es is_called_well)) ∙ left_true (permits f (length (map is_called_well es))) (all_true (map is_called_well es)) both,
      sym (all_map is_called_well es) ∙ right_true (permits f (length (map is_called_well es))) (all_true (map is_called_well es)) both,
    )

pub parts_called_well : (es : List Expr) → is_called_well (e.Seq es) ≡ true → are_called_well es ≡ true
parts_called_well es h = sym (well_seq es ∙ all_map is_called_well es) ∙ h

pub operand_called_well : (x : Expr) → is_called_well (e.Neg x) ≡ true → is_called_well x ≡ true
operand_called_well x h = sym (well_neg x) ∙ h

pub left_called_well : (b : Bin) (x y : Expr) → is_called_well (e.Binary b x y) ≡ true → is_called_well x ≡ true
left_called_well b x y h = left_true (is_called_well x) (is_called_well y) (sym (well_binary b x y) ∙ h)

pub right_called_well : (b : Bin) (x y : Expr) → is_called_well (e.Binary b x y) ≡ true → is_called_well y ≡ true
right_called_well b x y h = right_true (is_called_well x) (is_called_well y) (sym (well_binary b x y) ∙ h)

pub steps_called_well : (steps : List PathStep) (t : Option NodeTest) → is_called_well (e.Abs steps t) ≡ true → are_steps_called_well steps ≡ true
steps_called_well steps t h = sym (well_abs steps t ∙ all_map is_step_called_well steps) ∙ h

pub predicates_called_well : (s : PathStep) → is_step_called_well s ≡ true → are_called_well s.predicates ≡ true
predicates_called_well s h = sym (well_step s ∙ all_map is_called_well s.predicates) ∙ h
