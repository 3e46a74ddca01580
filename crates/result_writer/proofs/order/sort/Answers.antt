use Rattle.std.proofs.Common.{◌≡◌, rules}
use Rattle.std.specs.Ordering.{is_lt}
use Rattle.std.proofs.lemmas.List.Sorted.{answers_always}
use Rattle.result_writer.proofs.Sorting.{before, ordered, sorted-once}
use Rattle.result_writer.proofs.order.sort.Goals as goal

pub returns : goal.returns
returns c =
    let compares = answers_always _ (λ a r. is_lt r ≡ before a.0.now a.1.0.now) _ (λ f a r q k. search rules) in
    sorted-once _ _ (c.in_ok-sort_by.ensures.sorted before ordered compares) (c.in_ok-sort_by.ensures.stable before ordered compares)
