-- The test of the last step.
use Rattle.std.proofs.Common.{◌≡◌, ◌<◌, ◌-◌, ℕ, zero, suc, List, [], ◌∷◌, Option, Some, None, length, get_or, refl, ap, sym, subst, ◌∙◌, arith}
use Rattle.std.specs.Option.{option_map_or}
use Rattle.std.specs.Prelude.{slice_get}
use Rattle.sheet_model.specs.declared.sheet.Sheet.{Sheet}
use Rattle.sheet_model.specs.declared.sheet.Template.{Template}
use Rattle.stxpath_syntax.specs.declared.expr.Alternative.{Alternative}
use Rattle.template_machine.specs.Programs.{alternatives_of}
use Rattle.stx_base.specs.declared.node.NodeTest.TheVariants as test
use Rattle.stxpath_syntax.specs.declared.expr.PathStep.{PathStep}
use Rattle.match_patterns.specs.Fits.{last_test}

inner_last : (x y : PathStep) (steps : List PathStep) (o : Option PathStep)
    → slice_get (x ∷ y ∷ steps) (length (x ∷ y ∷ steps) - 1) ≡ o → slice_get (y ∷ steps) (length (y ∷ steps) - 1) ≡ o
inner_last x y steps o is =
    let next : length (x ∷ y ∷ steps) - 1 ≡ suc (length (y ∷ steps) - 1) = omega arith in
    subst (λ n. slice_get (x ∷ y ∷ steps) n ≡ o) next is

pub last_is : (steps : List PathStep) (s : PathStep) → slice_get steps (length steps - 1) ≡ Some s → last_test steps ≡ s.test
last_is [] s is = absurd (cc)
last_is (x ∷ []) s is = let same : x ≡ s = cc in ap (λ (y : PathStep). y.test) same
last_is (x ∷ y ∷ steps) s is = last_is (y ∷ steps) s (inner_last x y steps (Some s) is)

pub last_none : (steps : List PathStep) → slice_get steps (length steps - 1) ≡ None → last_test steps ≡ test.Document
last_none [] is = refl
last_none (x ∷ []) is = absurd (cc)
last_none (x ∷ y ∷ steps) is = last_none (y ∷ steps) (inner_last x y steps None is)

-- an item at a place
pub at_index : {A : Type 0} (xs : List A) (i : ℕ) (x : A) → i < length xs → x ≡ get_or xs i x → slice_get xs i ≡ Some x
at_index [] i x l is = absurd (omega arith)
at_index (y ∷ ys) zero x l is = ap (λ z. Some z) (sym is)
at_index (y ∷ ys) (suc i) x l is = at_index ys i x (omega arith) is

-- an alternative of a template
pub alternative_is : (s : Sheet) (template alternative : ℕ) (ts : List Template) (t : Template) (alts : List Alternative) (a : Alternative) → ts ≡ s.templates
    → template < length s.templates → t ≡ get_or ts template t → alts ≡ t.pattern.alternatives → alternative < length (alternatives_of s template)
    → a ≡ get_or alts alternative a → slice_get (alternatives_of s template) alternative ≡ Some a
alternative_is s template alternative ts t alts a all less is own within here =
    let at : slice_get s.templates template ≡ Some t =
    subst (λ l. slice_get l template ≡ Some t) all (at_index ts template t (subst (λ l. template < length l) (sym all) less) is) in
    let same : alternatives_of s template ≡ alts = ap (λ o. option_map_or (λ (x : Template). x.pattern.alternatives) o []) at ∙ sym own in
    subst (λ l. slice_get l alternative ≡ Some a) (sym same) (at_index alts alternative a (subst (λ l. alternative < length l) same within) here)
