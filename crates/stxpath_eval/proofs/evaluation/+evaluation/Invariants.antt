use Rattle.std.proofs.Common.{◌≡◌, ℕ, [], ◌∷◌, ◌+◌, drop, map}
use Rattle.stxpath_eval.specs.Env.{setting}
use Rattle.stxpath_eval.specs.Held.{held_items}
use Rattle.stxpath_eval.specs.Steps.{all_hold, along, ends_at}
use Rattle.stxpath_eval.specs.Value.{in_a_row, meant, reaching, value}
use Rattle.stxpath_values.specs.Outcome.{each}
use Rattle.stxpath_eval.proofs.Loops.{with_kept, with_rest}
use Rattle.stxpath_eval.proofs.evaluation.+evaluation.Given as goal

-- In each loop, what is left goes on from what there is.

abbrev pub invariant-all_hold-loop-predicate : goal.invariant-all_hold-loop-predicate
invariant-all_hold-loop-predicate g l =
    let s = setting g.V.Vars.value_of l.stack l.env in
    all_hold (map value l.predicate-items) s ≡ all_hold (map value (drop l.predicate-index l.predicate-items)) s

abbrev pub invariant-along-loop-step : goal.invariant-along-loop-step
invariant-along-loop-step g l =
    let s = setting g.V.Vars.value_of l.stack l.env in
    along (map reaching l.step-items) s (0 ∷ []) ≡ along (map reaching (drop l.step-index l.step-items)) s l.places.items

abbrev pub invariant-arguments-loop-arg : goal.invariant-arguments-loop-arg
invariant-arguments-loop-arg g l =
    let s = setting g.V.Vars.value_of l.stack l.env in
    each (λ e. value e s) l.arg-items ≡ with_rest (λ e. value e s) (drop l.arg-index l.arg-items) (map held_items l.values.items)

abbrev pub invariant-parts_joined-loop-part : goal.invariant-parts_joined-loop-part
invariant-parts_joined-loop-part g l =
    let s = setting g.V.Vars.value_of l.stack l.env in
    in_a_row s [] (map value l.part-items) ≡ in_a_row s l.all (map value (drop l.part-index l.part-items))

abbrev pub invariant-step_from-loop-place : goal.invariant-step_from-loop-place
invariant-step_from-loop-place g l =
    let s = setting g.V.Vars.value_of l.stack l.env in
    let ask = ends_at (meant l.step) s l.places in
    (n : ℕ) → n + l.place ≡ l.env.place + 1 → with_kept ask [] 0 (l.env.place + 1) ≡ with_kept ask l.reached.items l.place n
