-- The test of a last step.
use Rattle.std.proofs.Common.{◌≡◌, ℕ, suc, ◌-◌, List, [], ◌∷◌, Some, None, length, slice_get, refl, ap, subst, arith}
use Rattle.stx_base.specs.declared.node.NodeTest.TheVariants.{Document}
use Rattle.stxpath_syntax.specs.declared.expr.PathStep.{PathStep}
use Rattle.match_patterns.specs.Fits.{last_test}

pub last_is : (steps : List PathStep) (s : PathStep) → slice_get steps (length steps - 1) ≡ Some s → last_test steps ≡ s.test
last_is [] s h = cc
last_is (x ∷ []) s h = let same : x ≡ s = cc in ap (λ (y : PathStep). y.test) same
last_is (x ∷ y ∷ steps) s h = last_is (y ∷ steps) s (subst (λ n. slice_get (x ∷ y ∷ steps) n ≡ Some s) (before_last (length steps)) h)
  where
    before_last : (n : ℕ) → suc (suc n) - 1 ≡ suc (suc n - 1)
    before_last n = omega arith

pub none_last : (steps : List PathStep) → None ≡ slice_get steps (length steps - 1) → last_test steps ≡ Document
none_last [] h = refl
none_last (x ∷ []) h = cc
none_last (x ∷ y ∷ steps) h = none_last (y ∷ steps) (subst (λ n. None ≡ slice_get (x ∷ y ∷ steps) n) (before_last (length steps)) h)
  where
    before_last : (n : ℕ) → suc (suc n) - 1 ≡ suc (suc n - 1)
    before_last n = omega arith
