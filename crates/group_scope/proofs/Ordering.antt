-- Better is an order.
use Rattle.std.proofs.Common.{◌≡◌, ◌≢◌, ◌⊎◌, inl, inr, ℕ, zero, suc, ◌<◌, ℤ, Bool, true, false, ◌&&◌, ◌||◌, ◌==◌, if◌then◌else◌, List, [], ◌∷◌, Some, None, All, Contains, length, get_or, refl, ap, sym, subst, ◌∙◌, arith, nat_lt, int_lt}
use Rattle.std.proofs.lemmas.Bool.{eqb-true, eq-eqb, ltb-true, lt-ltb}
use Rattle.std.proofs.lemmas.Grind.{common_steps}
use Rattle.std.specs.Ordering.{int_eq}
use Rattle.group_scope.specs.Laws.{ChoosesTheBest, IsOrdered}
use Rattle.group_scope.specs.Rank.{better_of, best_of, improved, is_better, is_better_within, is_later, number_of}
use Rattle.group_scope.specs.declared.rank.Category.{Category}
use Rattle.group_scope.specs.declared.rank.Category.TheVariants.{Own, Around, Everywhere}
use Rattle.group_scope.specs.declared.rank.Rank.{Rank}

pub or_cases : (x y : Bool) → (x || y) ≡ true → (x ≡ true) ⊎ (y ≡ true)
or_cases true y h = inl refl
or_cases false y h = inr h

pub or_left : (x y : Bool) → x ≡ true → (x || y) ≡ true
or_left x y h = ap (λ b. b || y) h

pub or_right : (x y : Bool) → y ≡ true → (x || y) ≡ true
or_right true y h = refl
or_right false y h = h

pub both : (a b : Bool) → (a && b) ≡ true → (a ≡ true) × (b ≡ true)
both true true h = (refl, refl)
both true false h = cc
both false b h = cc

pub and_both : (a b : Bool) → a ≡ true → b ≡ true → (a && b) ≡ true
and_both a b p q = rw p q

pub asymmetric : (a b : Rank) → is_better a b ≡ true → is_better b a ≡ false
asymmetric a b h = grind (arith, common_steps, h)

same_place : (a b : Rank) → is_better a b ≡ false → is_better b a ≡ false → (a.template ≡ b.template) × (a.alternative ≡ b.alternative)
same_place a b h k = (grind (arith, common_steps, h, k), grind (arith, common_steps, h, k))

same_priority : (a b : Rank) → is_better a b ≡ false → is_better b a ≡ false → a.priority ≡ b.priority
same_priority a b h k = grind (arith, common_steps, h, k)

same_number : (a b : Rank) → is_better a b ≡ false → is_better b a ≡ false → number_of a.category ≡ number_of b.category
same_number a b h k = grind (arith, common_steps, h, k)

same_category : (a b : Category) → number_of a ≡ number_of b → a ≡ b
same_category Own Own h = refl
same_category Own Around h = absurd (omega (arith, h))
same_category Own Everywhere h = absurd (omega (arith, h))
same_category Around Own h = absurd (omega (arith, h))
same_category Around Around h = refl
same_category Around Everywhere h = absurd (omega (arith, h))
same_category Everywhere Own h = absurd (omega (arith, h))
same_category Everywhere Around h = absurd (omega (arith, h))
same_category Everywhere Everywhere h = refl

pub same : (a b : Rank) → is_better a b ≡ false → is_better b a ≡ false → a ≡ b
same a b h k =
    let place = same_place a b h k in
    ap (λ x. record { category = x; priority = a.priority; template = a.template; alternative = a.alternative }) (same_category a.category b.category (same_number a b h k))
    ∙ ap (λ x. record { category = b.category; priority = x; template = a.template; alternative = a.alternative }) (same_priority a b h k)
    ∙ ap (λ x. record { category = b.category; priority = b.priority; template = x; alternative = a.alternative }) place.0
    ∙ ap (λ x. record { category = b.category; priority = b.priority; template = b.template; alternative = x }) place.1

pub ordered : IsOrdered
ordered = λ a b. (asymmetric a b, same a b)

later_on : (a b c : Rank) → is_later a b ≡ true → is_later b c ≡ true → is_later a c ≡ true
later_on a b c h k = grind (arith, common_steps, h, k)

less_on : (x y z : ℤ) → int_lt x y ≡ true → int_lt y z ≡ true → int_lt x z ≡ true
less_on x y z h k = grind (arith, common_steps, h, k)

less_then_same : (x y z : ℤ) → int_lt y x ≡ true → int_eq y z ≡ true → int_lt z x ≡ true
less_then_same x y z h k = grind (arith, common_steps, h, k)

same_then_less : (x y z : ℤ) → int_eq x y ≡ true → int_lt z y ≡ true → int_lt z x ≡ true
same_then_less x y z h k = grind (arith, common_steps, h, k)

same_on : (x y z : ℤ) → int_eq x y ≡ true → int_eq y z ≡ true → int_eq x z ≡ true
same_on x y z h k = grind (arith, common_steps, h, k)

within_on : (a b c : Rank) → is_better_within a b ≡ true → is_better_within b c ≡ true → is_better_within a c ≡ true
within_on a b c h k =
    elim (or_cases (int_lt b.priority a.priority) (int_eq a.priority b.priority && is_later a b) h) [
      | inl p ↦ elim (or_cases (int_lt c.priority b.priority) (int_eq b.priority c.priority && is_later b c) k) [
        | inl q ↦ or_left (int_lt c.priority a.priority) _ (less_on c.priority b.priority a.priority q p)
        | inr q ↦ or_left (int_lt c.priority a.priority) _ (less_then_same a.priority b.priority c.priority p (both (int_eq b.priority c.priority) (is_later b c) q).0)
      ]
      | inr p ↦ elim (or_cases (int_lt c.priority b.priority) (int_eq b.priority c.priority && is_later b c) k) [
        | inl q ↦ or_left (int_lt c.priority a.priority) _ (same_then_less a.priority b.priority c.priority (both (int_eq a.priority b.priority) (is_later a b) p).0 q)
        | inr q ↦
            let l = both (int_eq a.priority b.priority) (is_later a b) p in
            let m = both (int_eq b.priority c.priority) (is_later b c) q in
            or_right (int_lt c.priority a.priority) _
            (and_both (int_eq a.priority c.priority) (is_later a c) (same_on a.priority b.priority c.priority l.0 m.0) (later_on a b c l.1 m.1))
      ]
    ]

abbrev category_less : Rank → Rank → Bool
category_less a b = nat_lt (number_of a.category) (number_of b.category)

abbrev category_same : Rank → Rank → Bool
category_same a b = number_of a.category == number_of b.category

pub better_on : (a b c : Rank) → is_better a b ≡ true → is_better b c ≡ true → is_better a c ≡ true
better_on a b c h k =
    elim (or_cases (category_less a b) (category_same a b && is_better_within a b) h) [
      | inl p ↦ elim (or_cases (category_less b c) (category_same b c && is_better_within b c) k) [
        | inl q ↦ or_left (category_less a c) _ (lt-ltb _ _ (omega (arith, ltb-true _ _ p, ltb-true _ _ q)))
        | inr q ↦ or_left (category_less a c) _ (lt-ltb _ _ (omega (arith, ltb-true _ _ p, eqb-true _ _ (both (category_same b c) (is_better_within b c) q).0)))
      ]
      | inr p ↦ elim (or_cases (category_less b c) (category_same b c && is_better_within b c) k) [
        | inl q ↦ or_left (category_less a c) _ (lt-ltb _ _ (omega (arith, eqb-true _ _ (both (category_same a b) (is_better_within a b) p).0, ltb-true _ _ q)))
        | inr q ↦
            let l = both (category_same a b) (is_better_within a b) p in
            let m = both (category_same b c) (is_better_within b c) q in
            or_right (category_less a c) _
            (and_both (category_same a c) (is_better_within a c) (eq-eqb _ _ (eqb-true _ _ l.0 ∙ eqb-true _ _ m.0)) (within_on a b c l.1 m.1))
      ]
    ]

pub not_true : (b : Bool) → ¬ (b ≡ true) → b ≡ false
not_true true h = absurd (h refl)
not_true false h = refl

pub never_itself : (a : Rank) → is_better a a ≡ false
never_itself a = not_true (is_better a a) (λ h. let other = asymmetric a a h in cc)

all_cons_at : {A : Type 0} (P : A → Type 0) (x : A) (xs : List A) → P x → All P xs → (k : ℕ) (d : A) → k < length (x ∷ xs) → P (get_or (x ∷ xs) k d)
all_cons_at P x xs p all zero d h = p
all_cons_at P x xs p all (suc k) d h = all k d (omega arith)

pub all_cons : {A : Type 0} (P : A → Type 0) (x : A) (xs : List A) → P x → All P xs → All P (x ∷ xs)
all_cons P x xs p all = λ k d h. all_cons_at P x xs p all k d h

contains_first : {A : Type 0} (x : A) (xs : List A) → Contains (x ∷ xs) x
contains_first x xs = (0, omega arith, refl)

contains_later : {A : Type 0} (x y : A) (xs : List A) → Contains xs y → Contains (x ∷ xs) y
contains_later x y xs (k, l, is) = (suc k, omega arith, is)

-- the best of one and of others
pub record IsBest (b : Rank) (rs : List Rank) (r : Rank) : Type 0 where
  pub among : (r ≡ b) ⊎ Contains rs r
  pub first : is_better b r ≡ false
  pub others : All (λ other. is_better other r ≡ false) rs

kept : (b x : Rank) (rs : List Rank) (r : Rank) → is_better b x ≡ true → IsBest b rs r → IsBest b (x ∷ rs) r
kept b x rs r better best = record {
  among = elim best.among [ inl p ↦ inl p | inr p ↦ inr (contains_later x r rs p) ];
  first = best.first;
  others = all_cons (λ other. is_better other r ≡ false) x rs (not_true (is_better x r) (λ h. let through = better_on b x r better h in let first = best.first in cc)) best.others;
}

replaced : (b x : Rank) (rs : List Rank) (r : Rank) → is_better b x ≡ false → IsBest x rs r → IsBest b (x ∷ rs) r
replaced b x rs r worse best = record {
  among = inr (elim best.among [ inl p ↦ subst (λ y. Contains (x ∷ rs) y) (sym p) (contains_first x rs) | inr p ↦ contains_later x r rs p ]);
  first = not_true (is_better b r) (λ h.
      let equal : is_better r x ≡ false = not_true (is_better r x) (λ k. let through = better_on b r x h k in cc) in
      let is = same x r best.first equal in
      let again = subst (λ y. is_better b y ≡ true) (sym is) h in cc);
  others = all_cons (λ other. is_better other r ≡ false) x rs best.first best.others;
}

best_is : (b : Rank) (rs : List Rank) (r : Rank) → improved (Some b) rs ≡ Some r → IsBest b rs r
best_is b [] r is =
    let equal : b ≡ r = cc in
    record {
      among = inl (sym equal);
      first = subst (λ y. is_better b y ≡ false) equal (never_itself b);
      others = λ k d h. absurd (omega arith);
    }
best_is b (x ∷ rs) r is =
    elim (is_better b x) as (λ t. is_better b x ≡ t → improved (Some (if t then b else x)) rs ≡ Some r → IsBest b (x ∷ rs) r) [
      | true ↦ λ better is. kept b x rs r better (best_is b rs r is)
      | false ↦ λ worse is. replaced b x rs r worse (best_is x rs r is)
    ] refl is

some_best : (b : Rank) (rs : List Rank) → improved (Some b) rs ≢ None
some_best b [] is = cc
some_best b (x ∷ rs) is = some_best (better_of (Some b) x) rs is

pub chosen_is : (rs : List Rank) (r : Rank) → best_of rs ≡ Some r → Contains rs r × All (λ other. is_better other r ≡ false) rs
chosen_is [] r is = cc
chosen_is (x ∷ rs) r is =
    let best = best_is x rs r is in (
      elim best.among [ inl p ↦ subst (λ y. Contains (x ∷ rs) y) (sym p) (contains_first x rs) | inr p ↦ contains_later x r rs p ],
      all_cons (λ other. is_better other r ≡ false) x rs best.first best.others,
    )

pub none_is : (rs : List Rank) → best_of rs ≡ None → rs ≡ []
none_is [] is = refl
none_is (x ∷ rs) is = absurd (some_best x rs is)

pub chosen : ChoosesTheBest
chosen = λ rs. (chosen_is rs, none_is rs)
