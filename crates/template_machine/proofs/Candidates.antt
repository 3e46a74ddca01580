-- What a base group sees, one alternative after another.
use Rattle.std.proofs.Common.{◌≡◌, ◌⊎◌, inl, inr, ℕ, zero, suc, ◌+◌, Bool, true, false, if◌then◌else◌, List, [], ◌∷◌, ◌++◌, All, Contains, map, filter, Option, Some, None, slice_get, refl, ap, sym, subst, ◌∙◌, arith}
use Rattle.stxpath_syntax.specs.declared.expr.Alternative.{Alternative}
use Rattle.sheet_model.specs.declared.sheet.Template.{Template}
use Rattle.group_scope.specs.Choice.{Candidate, all_from, alternatives_from, rank_of, seen_by}
use Rattle.group_scope.specs.declared.rank.Category.{Category}

-- an item of a list
abbrev pub Among : {A : Type 0} → List A → A → Type 0
Among [] x = ⊥
Among (y ∷ ys) x = (y ≡ x) ⊎ Among ys x

pub among_left : {A : Type 0} (xs ys : List A) (x : A) → Among xs x → Among (xs ++ ys) x
among_left [] ys x h = absurd h
among_left (y ∷ xs) ys x (inl p) = inl p
among_left (y ∷ xs) ys x (inr p) = inr (among_left xs ys x p)

pub among_right : {A : Type 0} (xs ys : List A) (x : A) → Among ys x → Among (xs ++ ys) x
among_right [] ys x h = h
among_right (y ∷ xs) ys x h = inr (among_right xs ys x h)

pub among_cases : {A : Type 0} (xs ys : List A) (x : A) → Among (xs ++ ys) x → Among xs x ⊎ Among ys x
among_cases [] ys x h = inr h
among_cases (y ∷ xs) ys x (inl p) = inl (inl p)
among_cases (y ∷ xs) ys x (inr p) = elim (among_cases xs ys x p) [ inl q ↦ inl (inr q) | inr q ↦ inr q ]

pub among_map : {A B : Type 0} (f : A → B) (xs : List A) (x : A) → Among xs x → Among (map f xs) (f x)
among_map f [] x h = absurd h
among_map f (y ∷ xs) x (inl p) = inl (ap f p)
among_map f (y ∷ xs) x (inr p) = inr (among_map f xs x p)

pub among_map_from : {A B : Type 0} (f : A → B) (xs : List A) (y : B) → Among (map f xs) y → (x : A) × Among xs x × (f x ≡ y)
among_map_from f [] y h = absurd h
among_map_from f (x ∷ xs) y (inl p) = (x, inl refl, p)
among_map_from f (x ∷ xs) y (inr p) = let (z, among, is) = among_map_from f xs y p in (z, inr among, is)

pub among_filter : {A : Type 0} (p : A → Bool) (xs : List A) (x : A) → Among xs x → p x ≡ true → Among (filter p xs) x
among_filter p [] x h t = absurd h
among_filter p (y ∷ xs) x (inl e) t =
    subst (λ b. Among (if b then y ∷ filter p xs else filter p xs) x) (sym (ap p e ∙ t)) (inl e)
among_filter p (y ∷ xs) x (inr h) t =
    elim (p y) as (λ b. Among (if b then y ∷ filter p xs else filter p xs) x) [
      | true ↦ inr (among_filter p xs x h t)
      | false ↦ among_filter p xs x h t
    ]

pub among_filter_from : {A : Type 0} (p : A → Bool) (xs : List A) (x : A) → Among (filter p xs) x → Among xs x × (p x ≡ true)
among_filter_from p [] x h = absurd h
among_filter_from {A = A} p (y ∷ xs) x h =
    elim (p y) as (λ b. p y ≡ b → Among (if b then y ∷ filter p xs else filter p xs) x → Among (y ∷ xs) x × (p x ≡ true)) [
      | true ↦ λ t m. elim m [
        | inl e ↦ (inl e, ap p (sym e) ∙ t)
        | inr l ↦ let (among, is) = among_filter_from p xs x l in (inr among, is)
      ]
      | false ↦ λ t m. let (among, is) = among_filter_from p xs x m in (inr among, is)
    ] refl h

pub to_contains : {A : Type 0} (xs : List A) (x : A) → Among xs x → Contains xs x
to_contains [] x h = absurd h
to_contains (y ∷ xs) x (inl p) = (zero, omega arith, p)
to_contains (y ∷ xs) x (inr p) = let (k, l, is) = to_contains xs x p in (suc k, omega arith, is)

pub from_contains : {A : Type 0} (xs : List A) (x : A) → Contains xs x → Among xs x
from_contains [] x (k, l, is) = absurd (omega (arith, l))
from_contains (y ∷ xs) x (zero, l, is) = inl is
from_contains (y ∷ xs) x (suc k, l, is) = inr (from_contains xs x (k, omega (arith, l), is))

pub all_among : {A : Type 0} (P : A → Type 0) (xs : List A) (x : A) → All P xs → Among xs x → P x
all_among P [] x all h = absurd h
all_among P (y ∷ xs) x all (inl p) = subst P p (all zero y (omega arith))
all_among P (y ∷ xs) x all (inr p) = all_among P xs x (λ k d h. all (suc k) d (omega arith)) p

-- an alternative of a template at a place
abbrev pub candidate : (number : ℕ) → Template → Category → (place : ℕ) → Alternative → Candidate
candidate number t c place a = record { pattern = a; group = t.group; rank = rank_of t a c number place }

to_alternatives : (number : ℕ) (t : Template) (x : Category) (place : ℕ) (as_ : List Alternative) (j : ℕ) (a : Alternative)
    → slice_get as_ j ≡ Some a → Among (alternatives_from number t x place as_) (candidate number t x (place + j) a)
to_alternatives number t x place [] j a h = cc
to_alternatives number t x place (b ∷ as_) zero a h =
    let same : b ≡ a = cc in inl (ap (candidate number t x place) same ∙ ap (λ n. candidate number t x n a) (omega arith))
to_alternatives number t x place (b ∷ as_) (suc j) a h =
    inr (subst (λ n. Among (alternatives_from number t x (suc place) as_) (candidate number t x n a)) (omega arith) (to_alternatives number t x (suc place) as_ j a h))

from_alternatives : (number : ℕ) (t : Template) (x : Category) (place : ℕ) (as_ : List Alternative) (c : Candidate)
    → Among (alternatives_from number t x place as_) c → (j : ℕ) × (a : Alternative) × (slice_get as_ j ≡ Some a) × (candidate number t x (place + j) a ≡ c)
from_alternatives number t x place [] c h = absurd h
from_alternatives number t x place (a ∷ as_) c (inl p) = (0, a, refl, ap (λ n. candidate number t x n a) (omega arith) ∙ p)
from_alternatives number t x place (a ∷ as_) c (inr p) =
    let (j, b, at, is) = from_alternatives number t x (suc place) as_ c p in (suc j, b, at, ap (λ n. candidate number t x n b) (omega arith) ∙ is)

-- An alternative of a template that has a category is seen.
pub to_all : (category_of : Template → Option Category) (number : ℕ) (ts : List Template) (k : ℕ) (t : Template) (x : Category) (j : ℕ) (a : Alternative)
    → slice_get ts k ≡ Some t → category_of t ≡ Some x → slice_get t.pattern.alternatives j ≡ Some a
    → Among (all_from category_of number ts) (candidate (number + k) t x j a)
to_all category_of number [] k t x j a h is at = cc
to_all category_of number (u ∷ ts) zero t x j a h is at =
    let same : t ≡ u = cc in
    let seen = to_alternatives number t x 0 t.pattern.alternatives j a at in
    let placed = subst (λ n. Among (seen_by number t (Some x)) (candidate number t x n a)) (place_is j) seen in
    let numbered = subst (λ n. Among (seen_by number t (Some x)) (candidate n t x j a)) (number_is number) placed in
    among_left (seen_by number u (category_of u)) (all_from category_of (suc number) ts) _
    (subst (λ o. Among (seen_by number u o) (candidate (number + 0) t x j a)) (sym is ∙ ap category_of same)
    (subst (λ v. Among (seen_by number v (Some x)) (candidate (number + 0) t x j a)) same numbered))
  where
    place_is : (n : ℕ) → 0 + n ≡ n
    place_is n = omega arith

    number_is : (n : ℕ) → n ≡ n + 0
    number_is n = omega arith
to_all category_of number (u ∷ ts) (suc k) t x j a h is at =
    among_right (seen_by number u (category_of u)) (all_from category_of (suc number) ts) _
    (subst (λ n. Among (all_from category_of (suc number) ts) (candidate n t x j a)) (omega arith) (to_all category_of (suc number) ts k t x j a h is at))

-- And each that is seen is such a one.
pub from_all : (category_of : Template → Option Category) (number : ℕ) (ts : List Template) (c : Candidate) → Among (all_from category_of number ts) c
    → (k : ℕ) × (t : Template) × (x : Category) × (j : ℕ) × (a : Alternative)
    × (slice_get ts k ≡ Some t) × (category_of t ≡ Some x) × (slice_get t.pattern.alternatives j ≡ Some a) × (candidate (number + k) t x j a ≡ c)
from_all category_of number [] c h = absurd h
from_all category_of number (t ∷ ts) c h =
    elim (among_cases (seen_by number t (category_of t)) (all_from category_of (suc number) ts) c h) [
      | inl p ↦ here (category_of t) refl p
      | inr p ↦
          let (k, u, x, j, a, is_u, of_u, is_a, is) = from_all category_of (suc number) ts c p in
          (suc k, u, x, j, a, is_u, of_u, is_a, ap (λ n. candidate n u x j a) (next number k) ∙ is)
    ]
  where
    next : (n k : ℕ) → n + suc k ≡ suc n + k
    next n k = omega arith

    first : (n : ℕ) → n + 0 ≡ n
    first n = omega arith

    place : (n : ℕ) → n ≡ 0 + n
    place n = omega arith

    here : (o : Option Category) → category_of t ≡ o → Among (seen_by number t o) c
        → (k : ℕ) × (u : Template) × (x : Category) × (j : ℕ) × (a : Alternative)
        × (slice_get (t ∷ ts) k ≡ Some u) × (category_of u ≡ Some x) × (slice_get u.pattern.alternatives j ≡ Some a) × (candidate (number + k) u x j a ≡ c)
    here None of_t among = absurd among
    here (Some x) of_t among =
        let (j, a, is_a, is) = from_alternatives number t x 0 t.pattern.alternatives c among in
        (0, t, x, j, a, refl, of_t, is_a, ap (λ n. candidate n t x j a) (first number) ∙ ap (λ n. candidate number t x n a) (place j) ∙ is)
