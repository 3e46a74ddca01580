-- Lists that are cut where a test passes first.
use Rattle.std.proofs.Common.{◌≡◌, ℕ, zero, suc, ◌+◌, ◌<◌, ◌≤◌, Bool, true, false, cond, ◌||◌, List, [], ◌∷◌, ◌++◌, length, take, drop, get_or, Some, None, refl, sym, ap, ◌∙◌, arith}
use Rattle.std.specs.Prelude.{nat_lt}
use Rattle.std.specs.List.{list_any, position, position_or_len}
use Rattle.std.proofs.lemmas.Bool.{or_right, ltb-false}
use Rattle.std.proofs.Math.Seq.{drop-cons}
use Rattle.std.proofs.lemmas.List.{take-append-drop}
use Rattle.std.proofs.lemmas.List.Quantifiers.{position-Some}
use Rattle.std.proofs.lemmas.List.Sums.{fails_before_first}

any-at : (p : ℕ → Bool) (xs : List ℕ) (k : ℕ) → k < length xs → p (get_or xs k 0) ≡ true → list_any p xs ≡ true
any-at p [] k less h = absurd (omega arith)
any-at p (x ∷ xs) zero less h = ap (λ t. t || list_any p xs) h
any-at p (x ∷ xs) (suc k) less h = or_right (p x) (list_any p xs) (any-at p xs k (omega arith) h)

none-at : (p : ℕ → Bool) (xs : List ℕ) → ((j : ℕ) → j < length xs → p (get_or xs j 0) ≡ false) → list_any p xs ≡ false
none-at p [] h = refl
none-at p (x ∷ xs) h = ap (λ t. t || list_any p xs) (h 0 (omega arith)) ∙ none-at p xs (λ j less. h (suc j) (omega arith))

none-before : (p : ℕ → Bool) (xs : List ℕ) (k : ℕ) → ((j : ℕ) → j < k → p (get_or xs j 0) ≡ false) → list_any p (take k xs) ≡ false
none-before p xs zero h = refl
none-before p [] (suc k) h = refl
none-before p (x ∷ xs) (suc k) h = ap (λ t. t || list_any p (take k xs)) (h 0 (omega arith)) ∙ none-before p xs k (λ j less. h (suc j) (omega arith))

module _ (p : ℕ → Bool) (xs : List ℕ) where
  -- nothing passes where no place is found
  pub nowhere : None ≡ position p xs → list_any p xs ≡ false
  nowhere e = none-at p xs (λ j less. fails_before_first p xs j 0 (omega (arith, less, behind))) where
    by_test : (t : Bool) (k : ℕ) → None ≡ cond t (Some k) None → t ≡ false
    by_test true k h = absurd (cc)
    by_test false k h = refl

    behind : length xs ≤ position_or_len p xs
    behind = ltb-false (position_or_len p xs) (length xs) (by_test (nat_lt (position_or_len p xs) (length xs)) (position_or_len p xs) e)

  module _ (k : ℕ) (e : Some k ≡ position p xs) where
    found : (k < length xs) × (p (get_or xs k 0) ≡ true) × ((j : ℕ) → j < k → p (get_or xs j 0) ≡ false)
    found = position-Some p xs k 0 (sym e)

    pub within : k < length xs
    within = found.0

    pub passes : p (get_or xs k 0) ≡ true
    passes = found.1

    pub some : list_any p xs ≡ true
    some = any-at p xs k found.0 found.1

    pub none : list_any p (take k xs) ≡ false
    none = none-before p xs k found.2

    pub place : position_or_len p xs ≡ k
    place = by_test (nat_lt (position_or_len p xs) (length xs)) (position_or_len p xs) e where
      by_test : (t : Bool) (n : ℕ) → Some k ≡ cond t (Some n) None → n ≡ k
      by_test true n h = cc
      by_test false n h = absurd (cc)

    pub cut : xs ≡ take k xs ++ get_or xs k 0 ∷ drop (k + 1) xs
    cut =
        let n : suc k ≡ k + 1 = omega arith in
        sym (take-append-drop k xs) ∙ ap (λ l. take k xs ++ l) (drop-cons xs k 0 found.0) ∙ ap (λ m. take k xs ++ get_or xs k 0 ∷ drop m xs) n
