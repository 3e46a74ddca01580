-- Sorted entries the other way round have the best first.
use Rattle.std.proofs.Common.{◌≡◌, inl, inr, ℕ, suc, ◌+◌, ◌-◌, ◌<◌, Bool, true, false, List, [], ◌∷◌, length, get_or, take, drop, ◌++◌, ap, sym, subst, ◌∙◌, arith}
use Rattle.std.proofs.lemmas.Grind.{common_steps}
use Rattle.std.proofs.lemmas.List.{take-append-le, take_all}
use Rattle.std.specs.List.Sorted.{IsSorted}
use Rattle.std.specs.List.{ReversedBelow}
use Rattle.std.specs.Ordering.{is_lt}
use Rattle.std.specs.declared.cmp.Ordering.{Ordering}
use Rattle.group_scope.specs.Entries.{IsBestFirst, ranked}
use Rattle.group_scope.specs.Rank.{is_better_within}
use Rattle.group_scope.specs.contracts.entry.EntryOrd.TheImpl as entry_ord
use Rattle.group_scope.specs.declared.entry.Entry.{Entry}
use Rattle.group_scope.specs.declared.rank.Category.TheVariants.{Own}
use Rattle.group_scope.proofs.Among.{InTurn, all_pairs}
use Rattle.group_scope.proofs.Best.{not_better_on}
use Rattle.group_scope.proofs.Ordering.{not_true}

abbrev compared : Entry → Entry → Ordering
compared = (entry_ord.ghosts).cmp

-- the better one is greater
better_is_greater : (x y : Entry) → is_better_within (ranked y Own) (ranked x Own) ≡ true → is_lt (compared x y) ≡ true
better_is_greater x y h = grind (arith, common_steps, h)

no_less_is_no_worse : (x y : Entry) → is_lt (compared x y) ≡ false → is_better_within (ranked y Own) (ranked x Own) ≡ false
no_less_is_no_worse x y h = not_true (is_better_within (ranked y Own) (ranked x Own)) (λ better. let less = better_is_greater x y better in differ less h)
  where
    differ : {b : Bool} → b ≡ true → b ≡ false → ⊥
    differ t f = cc

abbrev NotBetter : Entry → Entry → Type 0
NotBetter x y = is_better_within (ranked x Own) (ranked y Own) ≡ false

next_to_each : (xs : List Entry) → ((k : ℕ) (d : Entry) → k + 1 < length xs → NotBetter (get_or xs k d) (get_or xs (k + 1) d)) → InTurn NotBetter xs
next_to_each [] h = tt
next_to_each (x ∷ []) h = ((λ y among. absurd among), tt)
next_to_each (x ∷ y ∷ xs) h =
    let others = next_to_each (y ∷ xs) (λ k d l. subst (λ n. NotBetter (get_or (y ∷ xs) k d) (get_or (x ∷ y ∷ xs) n d)) (further k) (h (suc k) d (omega arith))) in
    let first = h 0 x (omega arith) in (
      (λ z among. elim among [
        | inl p ↦ subst (NotBetter x) p first
        | inr p ↦ not_better_on (ranked x Own) (ranked y Own) (ranked z Own) first (others.0 z p)
      ]),
      others,
    )
  where
    further : (n : ℕ) → suc n + 1 ≡ suc (n + 1)
    further n = omega arith

pub reversed_best_first : (xs ys : List Entry) → IsSorted compared xs → length ys ≡ length xs → ReversedBelow xs ys (length xs) → IsBestFirst ys
reversed_best_first xs ys sorted same reversed = λ i j d h l.
    let pairs = all_pairs NotBetter xs (next_to_each xs (λ k d l. no_less_is_no_worse (get_or xs (k + 1) d) (get_or xs k d) (sorted k d (omega arith) (omega arith)))) in
    let there = pairs (length xs - 1 - j) (length xs - 1 - i) d (omega arith) (omega arith) in
    subst (λ e. is_better_within (ranked (get_or ys j d) Own) (ranked e Own) ≡ false) (sym (reversed i d (omega arith)))
    (subst (λ e. is_better_within (ranked e Own) (ranked (get_or xs (length xs - 1 - i) d) Own) ≡ false) (sym (reversed j d (omega arith))) there)

-- items that were put in the place of as many
pub whole : (xs ys : List Entry) (n : ℕ) → length ys ≡ length xs → n ≡ length xs → take n (ys ++ drop (length ys) xs) ≡ ys
whole xs ys n same all =
    ap (λ k. take k (ys ++ drop (length ys) xs)) (all ∙ sym same)
    ∙ take-append-le (length ys) ys (drop (length ys) xs) (omega arith)
    ∙ take_all (length ys) ys (omega arith)
