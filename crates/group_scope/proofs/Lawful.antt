-- Laws of the choice.
use Rattle.std.proofs.Common.{◌≡◌, Bool, true, false, not, filter, refl, subst}
use Rattle.std.proofs.lemmas.List.Sorted.{Contains-permutation, IsPermutation-sym}
use Rattle.group_scope.specs.Asking.{is_active}
use Rattle.group_scope.specs.Choice.{Candidate, does_fit, fitting, is_free, visible}
use Rattle.group_scope.specs.Laws.{IsBetterThanOthers, IsNeverActive, IsTheSameInAnyOrder}
use Rattle.group_scope.specs.Rank.{is_better}
use Rattle.group_scope.specs.declared.rank.Rank.{Rank}
use Rattle.group_scope.proofs.Among.{all_among, among_filter_from, among_map_from, from_contains, to_contains}
use Rattle.group_scope.proofs.Best.{same_best}
use Rattle.group_scope.proofs.Ordering.{chosen_is, never_itself}

pub same_in_any_order : IsTheSameInAnyOrder
same_in_any_order = λ rs others same.
    same_best others rs
    (λ r among. from_contains rs r (Contains-permutation others rs r (IsPermutation-sym rs others same) (to_contains others r among)))
    (λ r among. (r, from_contains others r (Contains-permutation rs others r same (to_contains rs r among)), never_itself r))

not_false : (b : Bool) → not b ≡ true → b ≡ false
not_false true h = cc
not_false false h = refl

pub never_active : IsNeverActive
never_active = λ s base active settings r is.
    let free = filter (is_free active) (visible s base) in
    let best = chosen_is (fitting settings free) r is in
    let (c, in_fitting, is_rank) = among_map_from (λ (c : Candidate). c.rank) (filter (does_fit settings) free) r (from_contains (fitting settings free) r best.0) in
    let (in_free, fits) = among_filter_from (does_fit settings) free c in_fitting in
    let (in_visible, c_free) = among_filter_from (is_free active) (visible s base) c in_free in
    subst (λ (x : Rank). is_active active x.template ≡ false) is_rank (not_false (is_active active c.rank.template) c_free)

pub better_than_others : IsBetterThanOthers
better_than_others = λ s base active settings r other is among.
    let all = fitting settings (filter (is_free active) (visible s base)) in
    all_among (λ x. is_better x r ≡ false) all other (chosen_is all r is).1 (from_contains all other among)
