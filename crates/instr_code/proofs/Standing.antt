-- Where a part of a list stands in the whole.
use Rattle.std.proofs.Common.{◌≡◌, ℕ, ◌+◌, List, [], ◌∷◌, ◌++◌, length, Some, refl, ap, sym, subst, ◌∙◌, arith, append_assoc, append-nil, length-append}
use Rattle.std.specs.List.{slice_get}
use Rattle.sheet_model.proofs.Lists.{got_behind}

pub record Stands {A : Type 0} (all part : List A) (p : ℕ) : Type 0 where
  pub before : List A
  pub rest : List A
  pub whole : all ≡ before ++ (part ++ rest)
  pub place : length before ≡ p

got_at : {A : Type 0} (before rest : List A) (x : A) (p : ℕ) → length before ≡ p → slice_get (before ++ x ∷ rest) p ≡ Some x
got_at before rest x p place =
    let here : length before + 0 ≡ p = omega (arith, place) in
    subst (λ n. slice_get (before ++ x ∷ rest) n ≡ Some x) here (got_behind before (x ∷ rest) 0 x refl)

module _ {A : Type 0} {all : List A} where
  pub stands_first : (xs ys : List A) {p : ℕ} → Stands all (xs ++ ys) p → Stands all xs p
  stands_first xs ys s = record {
    before = s.before;
    rest = ys ++ s.rest;
    whole = s.whole ∙ ap (λ l. s.before ++ l) (append_assoc xs ys s.rest);
    place = s.place;
  }

  pub stands_second : (xs ys : List A) (n : ℕ) {p : ℕ} → length xs ≡ n → Stands all (xs ++ ys) p → Stands all ys (p + n)
  stands_second xs ys n long s = record {
    before = s.before ++ xs;
    rest = s.rest;
    whole = s.whole ∙ ap (λ l. s.before ++ l) (append_assoc xs ys s.rest) ∙ sym (append_assoc s.before xs (ys ++ s.rest));
    place = omega (arith, length-append s.before xs, long, s.place);
  }

  pub stands_here : (x : A) (xs : List A) {p : ℕ} → Stands all (x ∷ xs) p → slice_get all p ≡ Some x
  stands_here x xs {p} s = ap (λ l. slice_get l p) s.whole ∙ got_at s.before (xs ++ s.rest) x p s.place

  pub stands_next : (x : A) (xs : List A) {p : ℕ} → Stands all (x ∷ xs) p → Stands all xs (p + 1)
  stands_next x xs s = stands_second (x ∷ []) xs 1 refl s

pub stands_whole : {A : Type 0} (all : List A) → Stands all all 0
stands_whole all = record { before = []; rest = []; whole = sym (append-nil all); place = refl }
