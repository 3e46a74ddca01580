-- As many instructions are counted as there are.
use Rattle.std.proofs.Common.{◌≡◌, ℕ, zero, suc, ◌+◌, ◌≤◌, List, [], ◌∷◌, ◌++◌, length, refl, ap, ◌∙◌, arith, length-append}
use Rattle.instr_code.specs.Layout.{list_piece, pieces}
use Rattle.instr_code.specs.Piece.{in_order}
use Rattle.instr_code.proofs.Counts.{piece-count, unnumbered}
use Rattle.instr_code.proofs.Turns.{count_of}
use Rattle.sheet_model.specs.Body.{all_of, body_nesting, children}
use Rattle.sheet_model.specs.declared.instr.Instr.{Instr}
use Rattle.sheet_model.proofs.Nests.{nesting_is}
use Rattle.sheet_model.proofs.Searches.{all_of-append, all_of-single}

abbrev CountsTo : ℕ → Type 0
CountsTo n = (list : List Instr) → body_nesting list ≤ n → count_of list ≡ length (all_of list)

counts_to : (n : ℕ) → CountsTo n
counts_to n [] deep = refl
counts_to zero (i ∷ list) deep = absurd (omega (arith, nesting_is i))
counts_to (suc n) (i ∷ list) deep =
    let all : all_of (i ∷ list) ≡ (i ∷ all_of (children i)) ++ all_of list = all_of-append (i ∷ []) list ∙ ap (λ l. l ++ all_of list) (all_of-single i) in
    omega (
      arith,
      ap length all,
      length-append (i ∷ all_of (children i)) (all_of list),
      piece-count i,
      counts_to n (children i) (omega (arith, nesting_is i)),
      counts_to (suc n) list (omega arith),
    )

pub count_is : (list : List Instr) → count_of list ≡ length (all_of list)
count_is list = counts_to (body_nesting list) list (omega arith)

-- with the end of a list inside an instruction
pub list_count : (own : ℕ) (list : List Instr) → length (all_of list) ≡ (list_piece own list).numbers
list_count own list = omega (arith, count_is list, unnumbered ((in_order (pieces list)).locals + own))
