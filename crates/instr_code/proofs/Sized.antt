-- How many operations a piece has, wherever it is put.
use Rattle.std.proofs.Common.{◌≡◌, ℕ, zero, suc, ◌+◌, ◌≤◌, List, [], ◌∷◌, length, map, refl, ap, sym, subst, ◌∙◌, arith, length-append}
use Rattle.instr_code.specs.Bodies.{joined}
use Rattle.instr_code.specs.Emitting.{inner_of, inner_ops, listed}
use Rattle.instr_code.specs.Layout.{branches, list_piece, piece_of, pieces}
use Rattle.instr_code.specs.Piece.{Piece, alone, behind, dropped, in_order, nothing}
use Rattle.instr_code.specs.declared.code.Op.{Op}
use Rattle.instr_code.specs.declared.code.Op.TheVariants as op
use Rattle.instr_code.specs.declared.inner.Inner.{Inner}
use Rattle.instr_code.specs.declared.inner.Inner.TheVariants as inside
use Rattle.instr_code.proofs.Forms.{children_are, inner-size, unrolled}
use Rattle.sheet_model.specs.Body.{body_nesting, nesting}
use Rattle.sheet_model.specs.declared.instr.Instr.{Instr}
use Rattle.sheet_model.proofs.Nests.{body_nesting-append, nesting_is}

pub record IsSized (x : Piece) : Type 0 where
  pub long : (n p : ℕ) → length (x.ops n p) ≡ x.size

pub sized_nothing : IsSized nothing
sized_nothing = record { long = λ n p. refl }

pub sized_alone : (o : Op) → IsSized (alone o)
sized_alone o = record { long = λ n p. refl }

pub sized_behind : (a b : Piece) → IsSized a → IsSized b → IsSized (behind a b)
sized_behind a b x y = record {
  long = λ n p.
      length-append (a.ops n p) (b.ops (n + a.numbers) (p + a.size))
      ∙ ap (λ k. k + length (b.ops (n + a.numbers) (p + a.size))) (x.long n p)
      ∙ ap (λ k. a.size + k) (y.long (n + a.numbers) (p + a.size));
}

sized_dropped : (n : ℕ) → IsSized (dropped n)
sized_dropped zero = sized_nothing
sized_dropped (suc n) = sized_alone (op.Drop (suc n))

-- lists that nest so deep at most are sized
abbrev SizedTo : ℕ → Type 0
SizedTo n = (list : List Instr) → body_nesting list ≤ n → IsSized (in_order (pieces list))

sized_list : (n own : ℕ) (list : List Instr) → SizedTo n → body_nesting list ≤ n → IsSized (list_piece own list)
sized_list n own list to deep =
    sized_behind (in_order (pieces list)) (dropped ((in_order (pieces list)).locals + own)) (to list deep) (sized_dropped ((in_order (pieces list)).locals + own))

sized_branches : (n i a o p : ℕ) (lists : List (List Instr)) → SizedTo n → body_nesting (joined lists) ≤ n
    → IsSized (branches i a o p (map (list_piece 0) lists))
sized_branches n i a o p [] to deep = sized_nothing
sized_branches n i a o p (l ∷ ls) to deep =
    let b = list_piece 0 l in
    let rest = branches i (suc a) o (p + b.size + 2) (map (list_piece 0) ls) in
    let parted = body_nesting-append l (joined ls) in
    sized_behind (alone (op.Test i a (p + b.size + 2))) (behind b (behind (alone (op.Jump o)) rest)) (sized_alone (op.Test i a (p + b.size + 2)))
    (sized_behind b (behind (alone (op.Jump o)) rest) (sized_list n 0 l to (omega arith))
    (sized_behind (alone (op.Jump o)) rest (sized_alone (op.Jump o)) (sized_branches n i (suc a) o (p + b.size + 2) ls to (omega arith))))

sized_inner : (n : ℕ) (x : Inner) (m p : ℕ) → SizedTo n → body_nesting (listed x) ≤ n → IsSized (inner_ops x m p)
sized_inner n inside.Nothing m p to deep = sized_alone (op.Do m)
sized_inner n inside.Local m p to deep = sized_alone (op.Do m)
sized_inner n (inside.Round body) m p to deep =
    let b = list_piece 0 body in
    sized_behind (alone (op.Open m (p + b.size + 2))) (behind b (alone (op.Close m))) (sized_alone (op.Open m (p + b.size + 2)))
    (sized_behind b (alone (op.Close m)) (sized_list n 0 body to deep) (sized_alone (op.Close m)))
sized_inner n (inside.Choice body other) m p to deep =
    let b = list_piece 0 body in
    let o = list_piece 0 other in
    let parted = body_nesting-append body other in
    let jump = alone (op.Jump (p + b.size + 2 + o.size)) in
    sized_behind (alone (op.Test m 0 (p + b.size + 2))) (behind b (behind jump o)) (sized_alone (op.Test m 0 (p + b.size + 2)))
    (sized_behind b (behind jump o) (sized_list n 0 body to (omega arith))
    (sized_behind jump o (sized_alone (op.Jump (p + b.size + 2 + o.size))) (sized_list n 0 other to (omega arith))))
sized_inner n (inside.Choices bodies other) m p to deep =
    let all = branches m 0 (p + 2) (p + 3) (map (list_piece 0) bodies) in
    let o = list_piece 0 other in
    let parted = body_nesting-append (joined bodies) other in
    let rest = behind all o in
    let out = alone (op.Jump (p + 3 + all.size + o.size)) in
    sized_behind (alone (op.Begin m)) (behind (alone (op.Jump (p + 3))) (behind out rest)) (sized_alone (op.Begin m))
    (sized_behind (alone (op.Jump (p + 3))) (behind out rest) (sized_alone (op.Jump (p + 3)))
    (sized_behind out rest (sized_alone (op.Jump (p + 3 + all.size + o.size)))
    (sized_behind all o (sized_branches n m 0 (p + 2) (p + 3) bodies to (omega arith)) (sized_list n 0 other to (omega arith)))))
sized_inner n (inside.While body) m p to deep =
    let b = list_piece 0 body in
    let rest = behind b (alone (op.Jump (p + 1))) in
    sized_behind (alone (op.Begin m)) (behind (alone (op.Test m 0 (p + b.size + 3))) rest) (sized_alone (op.Begin m))
    (sized_behind (alone (op.Test m 0 (p + b.size + 3))) rest (sized_alone (op.Test m 0 (p + b.size + 3)))
    (sized_behind b (alone (op.Jump (p + 1))) (sized_list n 0 body to deep) (sized_alone (op.Jump (p + 1)))))
sized_inner n (inside.ForEach body) m p to deep =
    let b = list_piece 1 body in
    let rest = behind b (alone (op.Jump (p + 1))) in
    sized_behind (alone (op.Begin m)) (behind (alone (op.Turn m (p + b.size + 3))) rest) (sized_alone (op.Begin m))
    (sized_behind (alone (op.Turn m (p + b.size + 3))) rest (sized_alone (op.Turn m (p + b.size + 3)))
    (sized_behind b (alone (op.Jump (p + 1))) (sized_list n 1 body to deep) (sized_alone (op.Jump (p + 1)))))

sized_one : (n : ℕ) (i : Instr) → SizedTo n → nesting i ≤ n + 1 → IsSized (piece_of i)
sized_one n i to deep =
    let x = inner_of i in
    let within : body_nesting (listed x) ≤ n = omega (arith, nesting_is i, ap body_nesting (children_are i)) in
    subst IsSized (sym (unrolled i))
    (record { long = λ m p. (sized_inner n x m p to within).long (m + 1) p ∙ inner-size x m p })

sized_to : (n : ℕ) → SizedTo n
sized_to n [] deep = sized_nothing
sized_to zero (i ∷ list) deep = absurd (omega (arith, nesting_is i))
sized_to (suc n) (i ∷ list) deep =
    sized_behind (piece_of i) (in_order (pieces list)) (sized_one n i (sized_to n) (omega arith)) (sized_to (suc n) list (omega arith))

pub sized : (list : List Instr) → IsSized (in_order (pieces list))
sized list = sized_to (body_nesting list) list (omega arith)

pub list_sized : (own : ℕ) (list : List Instr) → IsSized (list_piece own list)
list_sized own list = sized_list (body_nesting list) own list (sized_to (body_nesting list)) (omega arith)

pub piece_sized : (i : Instr) → IsSized (piece_of i)
piece_sized i = sized_one (nesting i) i (sized_to (nesting i)) (omega arith)
