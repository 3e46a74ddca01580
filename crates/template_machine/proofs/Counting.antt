-- How many instructions there are inside of others.
use Rattle.std.proofs.Common.{◌≡◌, ℕ, suc, ◌+◌, List, [], ◌∷◌, map, refl, arith}
use Rattle.instr_code.specs.Bodies.{joined}
use Rattle.instr_code.specs.Layout.{branches, list_piece}
use Rattle.instr_code.proofs.Counting.{count_is, list_count}
use Rattle.instr_code.proofs.Turns.{count-append, count_of}
use Rattle.sheet_model.specs.declared.instr.Instr.{Instr}

pub list-count : (own : ℕ) (list : List Instr) → (list_piece own list).numbers ≡ count_of list
list-count own list = omega (arith, list_count own list, count_is list)

pub branches-count : (i a o p : ℕ) (lists : List (List Instr)) → (branches i a o p (map (list_piece 0) lists)).numbers ≡ count_of (joined lists)
branches-count i a o p [] = refl
branches-count i a o p (l ∷ ls) =
    omega (arith, list-count 0 l, count-append l (joined ls), branches-count i (suc a) o (p + (list_piece 0 l).size + 2) ls)
