-- The best of lists that have the same best ones.
use Rattle.std.proofs.Common.{◌≡◌, inl, inr, Bool, true, false, if◌then◌else◌, List, [], ◌∷◌, Option, Some, None, refl, ap, sym, subst, ◌∙◌}
use Rattle.group_scope.specs.Rank.{best_of, improved, is_better}
use Rattle.group_scope.specs.declared.rank.Rank.{Rank}
use Rattle.group_scope.proofs.Among.{Among, all_among, from_contains}
use Rattle.group_scope.proofs.Ordering.{asymmetric, better_on, chosen_is, none_is, not_true, same}

-- one that none is better than is the best
pub best_is_some : (rs : List Rank) (r : Rank) → Among rs r → ((other : Rank) → Among rs other → is_better other r ≡ false) → best_of rs ≡ Some r
best_is_some rs r among first =
    elim (best_of rs) as (λ o. best_of rs ≡ o → o ≡ Some r) [
      | None ↦ λ is. absurd (subst (λ l. Among l r) (none_is rs is) among)
      | Some s ↦ λ is.
          let s_best = chosen_is rs s is in
          ap (λ x. Some x) (same s r (first s (from_contains rs s s_best.0)) (all_among (λ other. is_better other s ≡ false) rs r s_best.1 among))
    ] refl

-- A list within another, where to each of the other one of it is as good, has the same best.
pub same_best : (inner outer : List Rank)
    → ((r : Rank) → Among inner r → Among outer r)
    → ((r : Rank) → Among outer r → (s : Rank) × Among inner s × (is_better r s ≡ false))
    → best_of outer ≡ best_of inner
same_best inner outer within as_good =
    elim (best_of outer) as (λ o. best_of outer ≡ o → o ≡ best_of inner) [
      | None ↦ λ is. none inner (λ r among. subst (λ l. Among l r) (none_is outer is) (within r among))
      | Some r ↦ λ is.
          let r_best = chosen_is outer r is in
          let r_first : (other : Rank) → Among outer other → is_better other r ≡ false = λ other among. all_among (λ x. is_better x r ≡ false) outer other r_best.1 among in
          let (s, among, good) = as_good r (from_contains outer r r_best.0) in
          let equal = same r s good (r_first s (within s among)) in
          sym (best_is_some inner r (subst (λ x. Among inner x) (sym equal) among) (λ other h. r_first other (within other h)))
    ] refl
  where
    none : (rs : List Rank) → ((r : Rank) → Among rs r → ⊥) → None ≡ best_of rs
    none [] h = refl
    none (x ∷ rs) h = absurd (h x (inl refl))

-- the best so far stays where none of the others is better
pub settled : (b : Rank) (rs : List Rank) → ((r : Rank) → Among rs r → is_better r b ≡ false) → improved (Some b) rs ≡ Some b
settled b [] h = refl
settled b (r ∷ rs) h =
    elim (is_better b r) as (λ t. is_better b r ≡ t → improved (Some (if t then b else r)) rs ≡ Some b) [
      | true ↦ λ t. settled b rs (λ x among. h x (inr among))
      | false ↦ λ t.
          ap (λ x. improved (Some x) rs) (same r b (h r (inl refl)) t) ∙ settled b rs (λ x among. h x (inr among))
    ] refl

-- what is not better than one that isn't better than a third isn't better than the third
pub not_better_on : (x y z : Rank) → is_better x y ≡ false → is_better y z ≡ false → is_better x z ≡ false
not_better_on x y z h k = not_true (is_better x z) (λ better.
    elim (is_better z y) as (λ t. is_better z y ≡ t → ⊥) [
      | true ↦ λ t. let through = better_on x z y better t in differ through h
      | false ↦ λ t. let through = subst (λ w. is_better x w ≡ true) (sym (same y z k t)) better in differ through h
    ] refl)
  where
    differ : {b : Bool} → b ≡ true → b ≡ false → ⊥
    differ t f = cc

-- a better one takes the place of the best so far
pub taken : (best : Option Rank) (r : Rank) (rs : List Rank)
    → ((b : Rank) → best ≡ Some b → is_better r b ≡ true)
    → ((s : Rank) → Among rs s → is_better s r ≡ false)
    → improved best (r ∷ rs) ≡ Some r
taken None r rs better others = settled r rs others
taken (Some b) r rs better others =
    ap (λ t. improved (Some (if t then b else r)) rs) (asymmetric r b (better b refl)) ∙ settled r rs others
