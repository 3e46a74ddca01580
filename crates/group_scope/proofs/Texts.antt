-- A text that isn't marked has no number.
use Rattle.std.proofs.Common.{◌≡◌, ℕ, ◌+◌, ◌<◌, Bool, true, false, not, ◌&&◌, ◌||◌, if◌then◌else◌, cond, nat_lt, List, [], ◌∷◌, ◌++◌, Some, None, length, get_or, refl, ap, sym, ◌∙◌, arith}
use Rattle.std.proofs.Math.ListN.{set}
use Rattle.std.proofs.lemmas.Bool.{ltb-true}
use Rattle.std.proofs.lemmas.Grind.{common_steps}
use Rattle.std.proofs.lemmas.List.{get_or-set_same}
use Rattle.std.proofs.lemmas.List.Folds.{list_all-append}
use Rattle.std.proofs.lemmas.Slice.Eq.{bytes_eq-Decides}
use Rattle.std.specs.Bool.{OnFalse}
use Rattle.std.specs.List.{list_all, list_any, position, position_or_len}
use Rattle.std.specs.Str.{bytes_eq}
use Rattle.group_scope.specs.Marked.{is_marked, mark_of}
use Rattle.group_scope.proofs.Numbering.{all_kept}
use Rattle.group_scope.proofs.Ordering.{and_both, both, not_true}

-- where none passes, the first that passes is past the end
first_past : {K : Type 0} (p : K → Bool) (ks : List K) → list_any p ks ≡ false → position_or_len p ks ≡ length ks
first_past p [] e = refl
first_past p (k ∷ ks) e = by (p k) (first_past p ks) e
  where
    by : (b : Bool) → (list_any p ks ≡ false → position_or_len p ks ≡ length ks) → (b || list_any p ks) ≡ false → cond (not b) (1 + position_or_len p ks) 0 ≡ length (k ∷ ks)
    by true rest e = cc
    by false rest e = omega (arith, rest e)

no_place : {K : Type 0} (p : K → Bool) (ks : List K) → list_any p ks ≡ false → position p ks ≡ None
no_place p ks e =
    ap (λ (b : Bool). cond b (Some (position_or_len p ks)) None)
    (not_true (nat_lt (position_or_len p ks) (length ks)) (λ h. omega (arith, first_past p ks e, ltb-true (position_or_len p ks) (length ks) h)))

-- where all are marked, none is one that isn't
none_same : {K : Type 0} (f : K → List ℕ) (marks : List Bool) (bytes : List ℕ) (ks : List K) → list_all (λ k. is_marked marks (f k)) ks ≡ true → is_marked marks bytes ≡ false
    → list_any (λ k. bytes_eq bytes (f k)) ks ≡ false
none_same f marks bytes [] all unset = refl
none_same f marks bytes (k ∷ ks) all unset =
    let parts = both (is_marked marks (f k)) (list_all (λ k. is_marked marks (f k)) ks) all in
    by (bytes_eq bytes (f k)) refl parts.0 (none_same f marks bytes ks parts.1 unset)
  where
    by : (b : Bool) → bytes_eq bytes (f k) ≡ b → is_marked marks (f k) ≡ true → list_any (λ k. bytes_eq bytes (f k)) ks ≡ false → (b || list_any (λ k. bytes_eq bytes (f k)) ks) ≡ false
    by true e is rest = let here = ap (is_marked marks) ((bytes_eq-Decides bytes (f k)).0 e) in cc
    by false e is rest = rest

pub not_found : {K : Type 0} (f : K → List ℕ) (marks : List Bool) (bytes : List ℕ) (ks : List K) (b : Bool) → b ≡ is_marked marks bytes → list_all (λ k. is_marked marks (f k)) ks ≡ true
    → OnFalse b (list_any (λ k. bytes_eq bytes (f k)) ks ≡ false)
not_found f marks bytes ks true e all = tt
not_found f marks bytes ks false e all = none_same f marks bytes ks all (sym e)

pub no_number : {K : Type 0} (f : K → List ℕ) (marks : List Bool) (bytes : List ℕ) (ks : List K) (b : Bool) → b ≡ is_marked marks bytes → list_all (λ k. is_marked marks (f k)) ks ≡ true
    → OnFalse b (position (λ k. bytes_eq bytes (f k)) ks ≡ None)
no_number f marks bytes ks true e all = tt
no_number f marks bytes ks false e all = no_place (λ k. bytes_eq bytes (f k)) ks (none_same f marks bytes ks all (sym e))

kept_at : (marks : List Bool) (i j : ℕ) → i < length marks → get_or marks j false ≡ true → get_or (set marks i true) j false ≡ true
kept_at marks i j within is = grind (arith, common_steps)

-- all are marked, with one more
pub one_more : {K : Type 0} (f : K → List ℕ) (marks : List Bool) (i : ℕ) (b : Bool) (ks : List K) (k : K) → i < length marks → i ≡ mark_of (f k) → list_all (λ k. is_marked marks (f k)) ks ≡ true
    → list_all (λ k. is_marked (set marks i true) (f k)) (if b then ks else ks ++ k ∷ []) ≡ true
one_more {K = K} f marks i true ks k within at all = all_kept _ _ (λ (k : K). kept_at marks i (mark_of (f k)) within) ks all
one_more {K = K} f marks i false ks k within at all =
    let p : K → Bool = λ k. is_marked (set marks i true) (f k) in
    let now : p k ≡ true = ap (λ j. get_or (set marks i true) j false) (sym at) ∙ get_or-set_same marks i true false within in
    list_all-append p ks (k ∷ [])
    ∙ and_both (list_all p ks) (p k && true) (all_kept _ p (λ (k : K). kept_at marks i (mark_of (f k)) within) ks all) (and_both (p k) true now refl)
