-- Being among the items of a list, by recursion.
use Rattle.std.proofs.Common.{◌≡◌, ◌⊎◌, inl, inr, ℕ, zero, suc, ◌+◌, ◌<◌, Bool, true, false, ◌||◌, if◌then◌else◌, List, [], ◌∷◌, ◌++◌, Some, All, AllPairs, Contains, length, get_or, slice_get, map, filter, drop, refl, ap, sym, subst, ◌∙◌, arith}
use Rattle.std.proofs.lemmas.List.Kept.{AllPairs-cons}
use Rattle.std.specs.List.{list_any, flat_map}
use Rattle.group_scope.proofs.Ordering.{all_cons}

-- an item of a list
abbrev pub Among : {A : Type 0} → List A → A → Type 0
Among [] x = ⊥
Among (y ∷ ys) x = (y ≡ x) ⊎ Among ys x

pub among_left : {A : Type 0} (xs ys : List A) (x : A) → Among xs x → Among (xs ++ ys) x
among_left [] ys x h = absurd h
among_left (y ∷ xs) ys x (inl p) = inl p
among_left (y ∷ xs) ys x (inr p) = inr (among_left xs ys x p)

pub among_right : {A : Type 0} (xs ys : List A) (x : A) → Among ys x → Among (xs ++ ys) x
among_right [] ys x h = h
among_right (y ∷ xs) ys x h = inr (among_right xs ys x h)

pub among_cases : {A : Type 0} (xs ys : List A) (x : A) → Among (xs ++ ys) x → Among xs x ⊎ Among ys x
among_cases [] ys x h = inr h
among_cases (y ∷ xs) ys x (inl p) = inl (inl p)
among_cases (y ∷ xs) ys x (inr p) = elim (among_cases xs ys x p) [ inl q ↦ inl (inr q) | inr q ↦ inr q ]

pub among_map : {A B : Type 0} (f : A → B) (xs : List A) (x : A) → Among xs x → Among (map f xs) (f x)
among_map f [] x h = absurd h
among_map f (y ∷ xs) x (inl p) = inl (ap f p)
among_map f (y ∷ xs) x (inr p) = inr (among_map f xs x p)

pub among_map_from : {A B : Type 0} (f : A → B) (xs : List A) (y : B) → Among (map f xs) y → (x : A) × Among xs x × (f x ≡ y)
among_map_from f [] y h = absurd h
among_map_from f (x ∷ xs) y (inl p) = (x, inl refl, p)
among_map_from f (x ∷ xs) y (inr p) = let (z, among, is) = among_map_from f xs y p in (z, inr among, is)

pub among_filter : {A : Type 0} (p : A → Bool) (xs : List A) (x : A) → Among xs x → p x ≡ true → Among (filter p xs) x
among_filter p [] x h t = absurd h
among_filter p (y ∷ xs) x (inl e) t =
    subst (λ b. Among (if b then y ∷ filter p xs else filter p xs) x) (sym (ap p e ∙ t)) (inl e)
among_filter p (y ∷ xs) x (inr h) t =
    elim (p y) as (λ b. Among (if b then y ∷ filter p xs else filter p xs) x) [
      | true ↦ inr (among_filter p xs x h t)
      | false ↦ among_filter p xs x h t
    ]

pub among_filter_from : {A : Type 0} (p : A → Bool) (xs : List A) (x : A) → Among (filter p xs) x → Among xs x × (p x ≡ true)
among_filter_from p [] x h = absurd h
among_filter_from {A = A} p (y ∷ xs) x h =
    elim (p y) as (λ b. p y ≡ b → Among (if b then y ∷ filter p xs else filter p xs) x → Among (y ∷ xs) x × (p x ≡ true)) [
      | true ↦ λ t m. elim m [
        | inl e ↦ (inl e, ap p (sym e) ∙ t)
        | inr l ↦ let (among, is) = among_filter_from p xs x l in (inr among, is)
      ]
      | false ↦ λ t m. let (among, is) = among_filter_from p xs x m in (inr among, is)
    ] refl h

pub among_flat : {A B : Type 0} (f : A → List B) (xs : List A) (x : A) (y : B) → Among xs x → Among (f x) y → Among (flat_map f xs) y
among_flat f [] x y h k = absurd h
among_flat f (z ∷ xs) x y (inl p) k = among_left (f z) (flat_map f xs) y (subst (λ w. Among (f w) y) (sym p) k)
among_flat f (z ∷ xs) x y (inr p) k = among_right (f z) (flat_map f xs) y (among_flat f xs x y p k)

pub among_flat_from : {A B : Type 0} (f : A → List B) (xs : List A) (y : B) → Among (flat_map f xs) y → (x : A) × Among xs x × Among (f x) y
among_flat_from f [] y h = absurd h
among_flat_from f (x ∷ xs) y h =
    elim (among_cases (f x) (flat_map f xs) y h) [
      | inl p ↦ (x, inl refl, p)
      | inr p ↦ let (z, among, is) = among_flat_from f xs y p in (z, inr among, is)
    ]

pub among_any : {A : Type 0} (p : A → Bool) (xs : List A) (x : A) → Among xs x → p x ≡ true → list_any p xs ≡ true
among_any p [] x h t = absurd h
among_any p (y ∷ xs) x (inl e) t = ap (λ b. b || list_any p xs) (ap p e ∙ t)
among_any p (y ∷ xs) x (inr h) t =
    elim (p y) as (λ b. (b || list_any p xs) ≡ true) [ true ↦ refl | false ↦ among_any p xs x h t ]

pub any_among : {A : Type 0} (p : A → Bool) (xs : List A) → list_any p xs ≡ true → (x : A) × Among xs x × (p x ≡ true)
any_among p [] h = cc
any_among {A = A} p (y ∷ xs) h =
    elim (p y) as (λ b. p y ≡ b → (b || list_any p xs) ≡ true → (x : A) × Among (y ∷ xs) x × (p x ≡ true)) [
      | true ↦ λ t k. (y, inl refl, t)
      | false ↦ λ t k. let (x, among, is) = any_among p xs k in (x, inr among, is)
    ] refl h

pub from_contains : {A : Type 0} (xs : List A) (x : A) → Contains xs x → Among xs x
from_contains [] x (k, l, is) = absurd (omega arith)
from_contains (y ∷ xs) x (zero, l, is) = inl is
from_contains (y ∷ xs) x (suc k, l, is) = inr (from_contains xs x (k, omega arith, is))

pub to_contains : {A : Type 0} (xs : List A) (x : A) → Among xs x → Contains xs x
to_contains [] x h = absurd h
to_contains (y ∷ xs) x (inl p) = (zero, omega arith, p)
to_contains (y ∷ xs) x (inr p) = let (k, l, is) = to_contains xs x p in (suc k, omega arith, is)

pub all_among : {A : Type 0} (P : A → Type 0) (xs : List A) (x : A) → All P xs → Among xs x → P x
all_among P [] x all h = absurd h
all_among P (y ∷ xs) x all (inl p) = subst P p (all zero y (omega arith))
all_among P (y ∷ xs) x all (inr p) = all_among P xs x (λ k d h. all (suc k) d (omega arith)) p

pub to_all : {A : Type 0} (P : A → Type 0) (xs : List A) → ((x : A) → Among xs x → P x) → All P xs
to_all P [] h = λ k d l. absurd (omega arith)
to_all P (x ∷ xs) h = all_cons P x xs (h x (inl refl)) (to_all P xs (λ y among. h y (inr among)))

pub get_among : {A : Type 0} (xs : List A) (k : ℕ) (x : A) → slice_get xs k ≡ Some x → Among xs x
get_among [] k x h = cc
get_among (y ∷ xs) zero x h = let same : y ≡ x = cc in inl same
get_among (y ∷ xs) (suc k) x h = inr (get_among xs k x h)

-- an item doesn't depend on what stands for none
pub item_again : {A : Type 0} (xs : List A) (k : ℕ) (d : A) → k < length xs → get_or xs k d ≡ get_or xs k (get_or xs k d)
item_again [] k d h = absurd (omega arith)
item_again (x ∷ xs) zero d h = refl
item_again (x ∷ xs) (suc k) d h = item_again xs k d (omega arith)

-- each item stands so to each later one
abbrev pub InTurn : {A : Type 0} → (A → A → Type 0) → List A → Type 0
InTurn R [] = Unit {0}
InTurn R (x ∷ xs) = ((y : _) → Among xs y → R x y) × InTurn R xs

pub in_turn : {A : Type 0} (R : A → A → Type 0) (xs : List A) → AllPairs R xs → InTurn R xs
in_turn R [] all = tt
in_turn R (x ∷ xs) all = (
  (λ y among. all_among (R x) xs y (λ k d l. all zero (suc k) d (omega arith) (omega arith)) among),
  in_turn R xs (λ i j d h l. all (suc i) (suc j) d (omega arith) (omega arith)),
)

pub all_pairs : {A : Type 0} (R : A → A → Type 0) (xs : List A) → InTurn R xs → AllPairs R xs
all_pairs R [] h = λ i j d k l. absurd (omega arith)
all_pairs R (x ∷ xs) (first, others) = AllPairs-cons R x xs (to_all (R x) xs first) (all_pairs R xs others)

-- a list from one of its places on
pub drop_at : {A : Type 0} (xs : List A) (i : ℕ) (x : A) → i < length xs → x ≡ get_or xs i x → drop i xs ≡ x ∷ drop (i + 1) xs
drop_at [] i x h is = absurd (omega arith)
drop_at (y ∷ xs) zero x h is = ap (λ z. z ∷ xs) (sym is)
drop_at (y ∷ xs) (suc i) x h is = drop_at xs i x (omega arith) is ∙ ap (λ n. x ∷ drop n (y ∷ xs)) (further i)
  where
    further : (n : ℕ) → suc (n + 1) ≡ suc n + 1
    further n = omega arith

pub in_turn_drop : {A : Type 0} (R : A → A → Type 0) (xs : List A) (i : ℕ) → InTurn R xs → InTurn R (drop i xs)
in_turn_drop R xs zero h = h
in_turn_drop R [] (suc i) h = tt
in_turn_drop R (x ∷ xs) (suc i) h = in_turn_drop R xs i h.1

pub in_turn_append : {A : Type 0} (R : A → A → Type 0) (xs ys : List A) → InTurn R xs → InTurn R ys → ((x y : A) → Among xs x → Among ys y → R x y) → InTurn R (xs ++ ys)
in_turn_append R [] ys h k both = k
in_turn_append R (x ∷ xs) ys (first, others) k both = (
  (λ y among. elim (among_cases xs ys y among) [ inl p ↦ first y p | inr p ↦ both x y (inl refl) p ]),
  in_turn_append R xs ys others k (λ z y p q. both z y (inr p) q),
)

copies_in_turn : {A : Type 0} (R : A → A → Type 0) (e : A) (xs : List A) → R e e → ((x : A) → Among xs x → e ≡ x) → InTurn R xs
copies_in_turn R e [] self same = tt
copies_in_turn R e (x ∷ xs) self same = (
  (λ y among. subst (λ z. R z y) (same x (inl refl)) (subst (λ z. R e z) (same y (inr among)) self)),
  copies_in_turn R e xs self (λ y among. same y (inr among)),
)

-- copies of items stand as the items do
pub flat_in_turn : {A : Type 0} (R : A → A → Type 0) (f : A → List A) (xs : List A) → ((x : A) → R x x) → ((x y : A) → Among xs x → Among (f x) y → x ≡ y) → InTurn R xs → InTurn R (flat_map f xs)
flat_in_turn R f [] self same h = tt
flat_in_turn R f (x ∷ xs) self same (first, others) =
    in_turn_append R (f x) (flat_map f xs)
    (copies_in_turn R x (f x) (self x) (λ y among. same x y (inl refl) among))
    (flat_in_turn R f xs self (λ z y p q. same z y (inr p) q) others)
    (λ a b p q.
    let (z, among, is) = among_flat_from f xs b q in
    subst (λ w. R w b) (same x a (inl refl) p) (subst (λ w. R x w) (same z b (inr among) is) (first z among)))
