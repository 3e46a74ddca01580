-- Truth values, and tests of lists.
use Rattle.std.proofs.Common.{◌≡◌, ℕ, zero, suc, ◌+◌, ◌<◌, Bool, true, false, ◌&&◌, ◌||◌, List, [], ◌∷◌, ◌++◌, All, length, refl, ap, sym, subst, arith, length-append}
use Rattle.std.proofs.lemmas.List.{get_or_append_left}
use Rattle.std.proofs.Math.Seq.{get_or-append_seam}
use Rattle.std.specs.List.{list_any, range_with_len}

pub both : (a b : Bool) → (a && b) ≡ true → (a ≡ true) × (b ≡ true)
both true true h = (refl, refl)
both true false h = cc
both false b h = cc

pub and_both : (a b : Bool) → a ≡ true → b ≡ true → (a && b) ≡ true
and_both a b p q = rw p q

pub not_true : (b : Bool) → ¬ (b ≡ true) → b ≡ false
not_true true h = absurd (h refl)
not_true false h = refl

-- two truth values are the same where each holds with the other
pub same_truth : (a b : Bool) → (a ≡ true → b ≡ true) → (b ≡ true → a ≡ true) → a ≡ b
same_truth true b f h = sym (f refl)
same_truth false true f h = h refl
same_truth false false f h = refl

-- some item passes
pub any_some : {A : Type 0} (p : A → Bool) (xs : List A) → list_any p xs ≡ true → (x : A) × (p x ≡ true)
any_some p [] h = cc
any_some p (x ∷ xs) h =
    elim (p x) as (λ b. p x ≡ b → (b || list_any p xs) ≡ true → (y : _) × (p y ≡ true)) [
      | true ↦ λ is rest. (x, is)
      | false ↦ λ is rest. any_some p xs rest
    ] refl h

or_right : (a b : Bool) → b ≡ true → (a || b) ≡ true
or_right true b h = refl
or_right false b h = h

-- a number of a range passes
pub any_in_range : (p : ℕ → Bool) (a n i : ℕ) → i < n → p (a + i) ≡ true → list_any p (range_with_len a n) ≡ true
any_in_range p a zero i h is = absurd (omega arith)
any_in_range p a (suc n) zero h is =
    let here : p a ≡ true = subst (λ k. p k ≡ true) (omega arith) is in
    ap (λ b. b || list_any p (range_with_len (a + 1) n)) here
any_in_range p a (suc n) (suc i) h is =
    or_right (p a) _ (any_in_range p (a + 1) n i (omega arith) (subst (λ k. p k ≡ true) (omega arith) is))

-- what holds of all items holds of the last one, and of those before it
pub All_last : {A : Type 0} (P : A → Type 0) (xs : List A) (x : A) → All P (xs ++ x ∷ []) → P x
All_last P xs x all = subst P (get_or-append_seam xs x [] x) (all (length xs) x (omega (arith, length-append xs (x ∷ []))))

pub All_front : {A : Type 0} (P : A → Type 0) (xs : List A) (x : A) → All P (xs ++ x ∷ []) → All P xs
All_front P xs x all = λ k d h. subst P (get_or_append_left xs (x ∷ []) d k h) (all k d (omega (arith, length-append xs (x ∷ []))))
