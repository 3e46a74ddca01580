-- Alternatives by their numbers.
use Rattle.std.proofs.Common.{◌≡◌, inl, inr, ℕ, zero, suc, ◌+◌, Bool, true, false, List, [], ◌∷◌, Option, Some, None, slice_get, refl, ap, sym, subst, ◌∙◌, arith}
use Rattle.stxpath_syntax.specs.declared.expr.Alternative.{Alternative}
use Rattle.sheet_model.specs.declared.sheet.Sheet.{Sheet}
use Rattle.sheet_model.specs.declared.sheet.Template.{Template}
use Rattle.group_scope.specs.Choice.{Candidate, all_from, alternatives_from, seen_by}
use Rattle.group_scope.specs.Entries.{at_alternative, at_entry, at_template}
use Rattle.group_scope.specs.declared.entry.Entry.{Entry}
use Rattle.group_scope.specs.declared.rank.Category.{Category}
use Rattle.group_scope.proofs.Among.{Among, among_cases, among_left, among_right}
use Rattle.group_scope.proofs.Turns.{candidate}

pub to_alternatives : (number : ℕ) (t : Template) (x : Category) (place : ℕ) (as_ : List Alternative) (j : ℕ) (a : Alternative)
    → slice_get as_ j ≡ Some a → Among (alternatives_from number t x place as_) (candidate number t x (place + j) a)
to_alternatives number t x place [] j a h = cc
to_alternatives number t x place (b ∷ as_) zero a h =
    let same : b ≡ a = cc in inl (ap (candidate number t x place) same ∙ ap (λ n. candidate number t x n a) (omega arith))
to_alternatives number t x place (b ∷ as_) (suc j) a h =
    inr (subst (λ n. Among (alternatives_from number t x (suc place) as_) (candidate number t x n a)) (omega arith) (to_alternatives number t x (suc place) as_ j a h))

pub from_alternatives : (number : ℕ) (t : Template) (x : Category) (place : ℕ) (as_ : List Alternative) (c : Candidate)
    → Among (alternatives_from number t x place as_) c → (j : ℕ) × (a : Alternative) × (slice_get as_ j ≡ Some a) × (candidate number t x (place + j) a ≡ c)
from_alternatives number t x place [] c h = absurd h
from_alternatives number t x place (a ∷ as_) c (inl p) = (0, a, refl, ap (λ n. candidate number t x n a) (omega arith) ∙ p)
from_alternatives number t x place (a ∷ as_) c (inr p) =
    let (j, b, at, is) = from_alternatives number t x (suc place) as_ c p in (suc j, b, at, ap (λ n. candidate number t x n b) (omega arith) ∙ is)

pub to_all : (category_of : Template → Option Category) (number : ℕ) (ts : List Template) (k : ℕ) (t : Template) (x : Category) (j : ℕ) (a : Alternative)
    → slice_get ts k ≡ Some t → category_of t ≡ Some x → slice_get t.pattern.alternatives j ≡ Some a
    → Among (all_from category_of number ts) (candidate (number + k) t x j a)
to_all category_of number [] k t x j a h is at = cc
to_all category_of number (u ∷ ts) zero t x j a h is at =
    let same : t ≡ u = cc in
    let seen = to_alternatives number t x 0 t.pattern.alternatives j a at in
    let placed = subst (λ n. Among (seen_by number t (Some x)) (candidate number t x n a)) (place_is j) seen in
    let numbered = subst (λ n. Among (seen_by number t (Some x)) (candidate n t x j a)) (number_is number) placed in
    among_left (seen_by number u (category_of u)) (all_from category_of (suc number) ts) _
    (subst (λ o. Among (seen_by number u o) (candidate (number + 0) t x j a)) (sym is ∙ ap category_of same)
    (subst (λ v. Among (seen_by number v (Some x)) (candidate (number + 0) t x j a)) same numbered))
  where
    place_is : (n : ℕ) → 0 + n ≡ n
    place_is n = omega arith

    number_is : (n : ℕ) → n ≡ n + 0
    number_is n = omega arith
to_all category_of number (u ∷ ts) (suc k) t x j a h is at =
    among_right (seen_by number u (category_of u)) (all_from category_of (suc number) ts) _
    (subst (λ n. Among (all_from category_of (suc number) ts) (candidate n t x j a)) (omega arith) (to_all category_of (suc number) ts k t x j a h is at))

-- A candidate is an alternative of a template of its category.
pub from_all : (category_of : Template → Option Category) (number : ℕ) (ts : List Template) (c : Candidate) → Among (all_from category_of number ts) c
    → (k : ℕ) × (t : Template) × (x : Category) × (j : ℕ) × (a : Alternative)
    × (slice_get ts k ≡ Some t) × (category_of t ≡ Some x) × (slice_get t.pattern.alternatives j ≡ Some a) × (candidate (number + k) t x j a ≡ c)
from_all category_of number [] c h = absurd h
from_all category_of number (t ∷ ts) c h =
    elim (among_cases (seen_by number t (category_of t)) (all_from category_of (suc number) ts) c h) [
      | inl p ↦ here (category_of t) refl p
      | inr p ↦
          let (k, u, x, j, a, is_u, of_u, is_a, is) = from_all category_of (suc number) ts c p in
          (suc k, u, x, j, a, is_u, of_u, is_a, ap (λ n. candidate n u x j a) (next number k) ∙ is)
    ]
  where
    next : (n k : ℕ) → n + suc k ≡ suc n + k
    next n k = omega arith

    first : (n : ℕ) → n + 0 ≡ n
    first n = omega arith

    place : (n : ℕ) → n ≡ 0 + n
    place n = omega arith

    here : (o : Option Category) → category_of t ≡ o → Among (seen_by number t o) c
        → (k : ℕ) × (u : Template) × (x : Category) × (j : ℕ) × (a : Alternative)
        × (slice_get (t ∷ ts) k ≡ Some u) × (category_of u ≡ Some x) × (slice_get u.pattern.alternatives j ≡ Some a) × (candidate (number + k) u x j a ≡ c)
    here None of_t among = absurd among
    here (Some x) of_t among =
        let (j, a, is_a, is) = from_alternatives number t x 0 t.pattern.alternatives c among in
        (0, t, x, j, a, refl, of_t, is_a, ap (λ n. candidate n t x j a) (first number) ∙ ap (λ n. candidate number t x n a) (place j) ∙ is)

-- what a function gives at an entry of a sheet
pub at_found : {A : Type 0} (none : A) (f : Template → Alternative → A) (s : Sheet) (e : Entry) (t : Template) (a : Alternative)
    → slice_get s.templates e.template ≡ Some t → slice_get t.pattern.alternatives e.alternative ≡ Some a → at_entry none f s e ≡ f t a
at_found none f s e t a is_t is_a = ap (λ o. at_template none f o e.alternative) is_t ∙ ap (at_alternative none f t) is_a

-- where a test holds of an entry, the sheet has it
pub found_at : (f : Template → Alternative → Bool) (s : Sheet) (e : Entry) → at_entry false f s e ≡ true
    → (t : Template) × (a : Alternative) × (slice_get s.templates e.template ≡ Some t) × (slice_get t.pattern.alternatives e.alternative ≡ Some a) × (f t a ≡ true)
found_at f s e h = template (slice_get s.templates e.template) refl h
  where
    alternative : (t : Template) → slice_get s.templates e.template ≡ Some t → (o : Option Alternative) → slice_get t.pattern.alternatives e.alternative ≡ o → at_alternative false f t o ≡ true
        → (t : Template) × (a : Alternative) × (slice_get s.templates e.template ≡ Some t) × (slice_get t.pattern.alternatives e.alternative ≡ Some a) × (f t a ≡ true)
    alternative t is_t None is_a h = cc
    alternative t is_t (Some a) is_a h = (t, a, is_t, is_a, h)

    template : (o : Option Template) → slice_get s.templates e.template ≡ o → at_template false f o e.alternative ≡ true
        → (t : Template) × (a : Alternative) × (slice_get s.templates e.template ≡ Some t) × (slice_get t.pattern.alternatives e.alternative ≡ Some a) × (f t a ≡ true)
    template None is_t h = cc
    template (Some t) is_t h = alternative t is_t (slice_get t.pattern.alternatives e.alternative) refl h
