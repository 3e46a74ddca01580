-- The first item of which a test holds.
use Rattle.std.proofs.Common.{◌≡◌, ◌<◌, ℕ, zero, suc, ◌+◌, Bool, true, false, not, cond, List, [], ◌∷◌, Some, None, length, nat_lt, refl, ap, ◌∙◌, arith}
use Rattle.std.specs.Prelude.{position, slice_get}
use Rattle.std.specs.List.{position_or_len}
use Rattle.std.proofs.lemmas.Option.{slice_get_within}
use borrow.Author.Tests.{ltb-true, lt-ltb}

module _ {A : Type 0} (t : A → Bool) where
  before_is : (xs : List A) (i : ℕ) (x : A) → slice_get xs i ≡ Some x → t x ≡ true
      → ((k : ℕ) (y : A) → k < i → slice_get xs k ≡ Some y → t y ≡ false) → position_or_len t xs ≡ i
  before_is [] i x is holds others = absurd (cc)
  before_is (y ∷ xs) zero x is holds others =
      let same : t y ≡ true = cc in ap (λ b. cond (not b) (1 + position_or_len t xs) 0) same
  before_is (y ∷ xs) (suc i) x is holds others =
      let no : t y ≡ false = others 0 y (omega arith) refl in
      ap (λ b. cond (not b) (1 + position_or_len t xs) 0) no
      ∙ ap (λ n. 1 + n) (before_is xs i x is holds (λ k z l e. others (suc k) z (omega arith) e))
      ∙ omega arith

  -- it is at this place
  pub first_is : (xs : List A) (i : ℕ) (x : A) → slice_get xs i ≡ Some x → t x ≡ true
      → ((k : ℕ) (y : A) → k < i → slice_get xs k ≡ Some y → t y ≡ false) → position t xs ≡ Some i
  first_is xs i x is holds others =
      let e = before_is xs i x is holds others in
      let l = slice_get_within xs i x is in
      ap (λ n. cond (nat_lt n (length xs)) (Some n) None) e ∙ ap (λ b. cond b (Some i) None) (lt-ltb i (length xs) l)

  none_before : (xs : List A) → ((k : ℕ) (y : A) → slice_get xs k ≡ Some y → t y ≡ false) → position_or_len t xs ≡ length xs
  none_before [] others = refl
  none_before (y ∷ xs) others =
      ap (λ b. cond (not b) (1 + position_or_len t xs) 0) (others 0 y refl)
      ∙ ap (λ n. 1 + n) (none_before xs (λ k z e. others (suc k) z e))
      ∙ omega arith

  -- it is nowhere
  pub none_is : (xs : List A) → ((k : ℕ) (y : A) → slice_get xs k ≡ Some y → t y ≡ false) → position t xs ≡ None
  none_is xs others = ap (λ n. cond (nat_lt n (length xs)) (Some n) None) (none_before xs others) ∙ not_less (length xs)
    where
      not_less : (n : ℕ) → cond (nat_lt n n) (Some n) None ≡ None
      not_less n = by (nat_lt n n) refl where
        by : (b : Bool) → nat_lt n n ≡ b → cond b (Some n) None ≡ None
        by true e = let l : n < n = ltb-true n n e in absurd (omega arith)
        by false e = refl
