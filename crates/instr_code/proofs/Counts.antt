-- How many instructions a piece has, with those inside.
use Rattle.std.proofs.Common.{◌≡◌, ℕ, zero, suc, ◌+◌, List, [], ◌∷◌, map, refl, ap, arith}
use Rattle.instr_code.specs.Bodies.{joined}
use Rattle.instr_code.specs.Emitting.{inner_of, inner_ops, listed}
use Rattle.instr_code.specs.Layout.{branches, list_piece, piece_of, pieces}
use Rattle.instr_code.specs.Piece.{Piece, dropped, in_order}
use Rattle.instr_code.specs.declared.inner.Inner.{Inner}
use Rattle.instr_code.specs.declared.inner.Inner.TheVariants as inside
use Rattle.instr_code.proofs.Forms.{children_are, unrolled}
use Rattle.instr_code.proofs.Turns.{count-append, count_of}
use Rattle.sheet_model.specs.Body.{children}
use Rattle.sheet_model.specs.declared.instr.Instr.{Instr}

pub unnumbered : (n : ℕ) → (dropped n).numbers ≡ 0
unnumbered zero = refl
unnumbered (suc n) = refl

list-count : (own : ℕ) (list : List Instr) → (list_piece own list).numbers ≡ count_of list
list-count own list = omega (arith, unnumbered ((in_order (pieces list)).locals + own))

branches-count : (i a o p : ℕ) (lists : List (List Instr)) → (branches i a o p (map (list_piece 0) lists)).numbers ≡ count_of (joined lists)
branches-count i a o p [] = refl
branches-count i a o p (l ∷ ls) =
    omega (arith, list-count 0 l, count-append l (joined ls), branches-count i (suc a) o (p + (list_piece 0 l).size + 2) ls)

inner-count : (x : Inner) → (inner_ops x 0 0).numbers ≡ count_of (listed x)
inner-count inside.Nothing = refl
inner-count inside.Local = refl
inner-count (inside.Round body) = omega (arith, list-count 0 body)
inner-count (inside.Choice body other) = omega (arith, list-count 0 body, list-count 0 other, count-append body other)
inner-count (inside.Choices bodies other) = omega (arith, list-count 0 other, count-append (joined bodies) other, branches-count 0 0 2 3 bodies)
inner-count (inside.While body) = omega (arith, list-count 0 body)
inner-count (inside.ForEach body) = omega (arith, list-count 1 body)

pub piece-count : (i : Instr) → (piece_of i).numbers ≡ count_of (children i) + 1
piece-count i =
    let numbers : (piece_of i).numbers ≡ (inner_ops (inner_of i) 0 0).numbers + 1 = ap (λ (x : Piece). x.numbers) (unrolled i) in
    omega (arith, numbers, inner-count (inner_of i), ap count_of (children_are i))
