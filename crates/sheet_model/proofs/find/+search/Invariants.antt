use Rattle.std.proofs.Common.{◌≡◌, ◌≤◌, ℕ, ◌+◌, ◌*◌, take, length}
use Rattle.std.specs.List.{flat_map}
use Rattle.sheet_model.specs.Body.{body_nesting, in_order, nesting}
use Rattle.sheet_model.specs.declared.instr.When.{When}
use Rattle.sheet_model.proofs.find.+search.Given as goal

-- As many instructions were passed as there are so far.

abbrev pub invariant-search-loop-instr : goal.invariant-search-loop-instr
invariant-search-loop-instr l =
    (n : ℕ) → body_nesting l.instr-items ≤ n → length (in_order n (take l.instr-index l.instr-items)) + l.left ≡ l.number

abbrev pub invariant-search_branches-loop-when : goal.invariant-search_branches-loop-when
invariant-search_branches-loop-when l =
    (n : ℕ) → body_nesting (flat_map (λ (w : When). w.body) l.when-items) ≤ n
    → length (flat_map (λ (w : When). in_order n w.body) (take l.when-index l.when-items)) + l.left ≡ l.number

-- Each call goes to what nests less deep, or from the whole to its parts.

abbrev pub decreases-search_within : goal.decreases-search_within
decreases-search_within l = 3 * nesting l.instr.now

abbrev pub decreases-search : goal.decreases-search
decreases-search l = 3 * body_nesting l.body.now + 1

abbrev pub decreases-search_branches : goal.decreases-search_branches
decreases-search_branches l = 3 * body_nesting (flat_map (λ (w : When). w.body) l.whens.now) + 2
