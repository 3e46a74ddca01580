use Rattle.std.proofs.Common.{IsPermutation, length, ap, sym, subst, ◌∙◌}
use Rattle.std.proofs.lemmas.List.Sorted.{IsPermutation-trans}
use Rattle.std.specs.List.{ReversedBelow}
use Rattle.group_scope.specs.Entries.{IsBestFirst}
use Rattle.group_scope.proofs.Sorting.{reversed_best_first, whole}
use Rattle.group_scope.proofs.entry.best_first.Goals as goal

pub returns-clause-same : goal.returns-clause-same
returns-clause-same c =
    let sorted = c.sort.new.self in
    let reversed = c.reverse.new.self in
    let value = c.as_mut_slice.ensures.value in
    let as_long = c.reverse.ensures.len ∙ ap length value in
    let permuted = subst (λ l. IsPermutation l reversed) value c.reverse.ensures.permutation in
    subst (IsPermutation c.args.entries.items) (sym (whole sorted.items reversed sorted.len as_long sorted.ok.0))
    (IsPermutation-trans c.args.entries.items sorted.items reversed c.in_ok-sort.ensures.permutation permuted)

pub returns-clause-sorted : goal.returns-clause-sorted
returns-clause-sorted c =
    let sorted = c.sort.new.self in
    let reversed = c.reverse.new.self in
    let value = c.as_mut_slice.ensures.value in
    let as_long = c.reverse.ensures.len ∙ ap length value in
    let by_index = subst (λ l. ReversedBelow l reversed (length l)) value c.reverse.ensures.by_index in
    subst IsBestFirst (sym (whole sorted.items reversed sorted.len as_long sorted.ok.0))
    (reversed_best_first sorted.items reversed c.in_ok-sort.ensures.sorted as_long by_index)
