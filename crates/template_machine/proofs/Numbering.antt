-- The operations of a body are for the body's own instructions.
use Rattle.std.proofs.Common.{◌≡◌, ℕ, zero, suc, ◌+◌, ◌-◌, ◌<◌, ◌≤◌, ◌⊎◌, inl, inr, List, [], ◌∷◌, ◌++◌, length, map, Some, None, refl, ap, sym, subst, arith}
use Rattle.std.specs.List.{slice_get}
use Rattle.instr_code.specs.Bodies.{joined}
use Rattle.instr_code.specs.Emitting.{inner_of, inner_ops, listed}
use Rattle.instr_code.specs.Layout.{branches, list_piece, piece_of, pieces}
use Rattle.instr_code.specs.Piece.{Piece, alone, behind, dropped, in_order, nothing}
use Rattle.instr_code.specs.declared.code.Op.{Op}
use Rattle.instr_code.specs.declared.code.Op.TheVariants as op
use Rattle.instr_code.specs.declared.inner.Inner.{Inner}
use Rattle.instr_code.specs.declared.inner.Inner.TheVariants as inside
use Rattle.instr_code.proofs.Forms.{children_are, unrolled}
use Rattle.sheet_model.specs.Body.{body_nesting, nesting}
use Rattle.sheet_model.specs.declared.instr.Instr.{Instr}
use Rattle.sheet_model.proofs.Nests.{body_nesting-append, nesting_is}
use Rattle.template_machine.specs.Programs.{instr_of}
use Rattle.template_machine.proofs.Counting.{branches-count}

-- an item stands in the first of two lists, or in the second
pub in_either : {A : Type 0} (xs ys : List A) (i : ℕ) (x : A) → slice_get (xs ++ ys) i ≡ Some x
    → ((i < length xs) × (slice_get xs i ≡ Some x)) ⊎ ((length xs ≤ i) × (slice_get ys (i - length xs) ≡ Some x))
in_either [] ys i x is = inr (omega arith, subst (λ n. slice_get ys n ≡ Some x) (omega arith) is)
in_either (z ∷ xs) ys zero x is = inl (omega arith, is)
in_either (z ∷ xs) ys (suc i) x is =
    elim (in_either xs ys i x is) [
      | inl h ↦ inl (omega (arith, h.0), h.1)
      | inr h ↦ inr (omega (arith, h.0), subst (λ n. slice_get ys n ≡ Some x) (omega arith) h.1)
    ]

-- each operation is for none, or for one of the piece's own instructions
pub record IsNumbered (x : Piece) : Type 0 where
  pub each : (n p i k : ℕ) (o : Op) → slice_get (x.ops n p) i ≡ Some o → instr_of o ≡ Some k → (n ≤ k) × (k < n + x.numbers)

-- the same, or for an instruction before them, from this one on
record IsWithin (m : ℕ) (x : Piece) : Type 0 where
  each : (n p i k : ℕ) (o : Op) → m < n → slice_get (x.ops n p) i ≡ Some o → instr_of o ≡ Some k → (m ≤ k) × (k < n + x.numbers)

numbered_nothing : IsNumbered nothing
numbered_nothing = record { each = λ n p i k o is for. absurd (cc) }

numbered_alone : (o : Op) → instr_of o ≡ None → IsNumbered (alone o)
numbered_alone o none = record { each = λ n p i k q is for. absurd (at_none i k q is for) } where
  at_none : (i k : ℕ) (q : Op) → slice_get (o ∷ []) i ≡ Some q → instr_of q ≡ Some k → ⊥
  at_none zero k q is for = let same : o ≡ q = cc in cc (ap instr_of same)
  at_none (suc i) k q is for = cc

pub numbered_behind : (a b : Piece) → IsNumbered a → IsNumbered b → IsNumbered (behind a b)
numbered_behind a b x y = record {
  each = λ n p i k o is for.
      elim (in_either (a.ops n p) (b.ops (n + a.numbers) (p + a.size)) i o is) [
        | inl h ↦ let l = x.each n p i k o h.1 for in (l.0, omega (arith, l.1))
        | inr h ↦
            let l = y.each (n + a.numbers) (p + a.size) (i - length (a.ops n p)) k o h.1 for in (omega (arith, l.0), omega (arith, l.1))
      ];
}

within_numbered : (m : ℕ) (x : Piece) → IsNumbered x → IsWithin m x
within_numbered m x h = record { each = λ n p i k o before is for. let l = h.each n p i k o is for in (omega (arith, l.0), l.1) }

within_alone : (m : ℕ) (o : Op) → instr_of o ≡ Some m → IsWithin m (alone o)
within_alone m o own = record { each = λ n p i k q before is for. let e = at_own i k q is for in (omega (arith, e), omega (arith, e)) } where
  at_own : (i k : ℕ) (q : Op) → slice_get (o ∷ []) i ≡ Some q → instr_of q ≡ Some k → m ≡ k
  at_own zero k q is for = let same : o ≡ q = cc in cc (ap instr_of same)
  at_own (suc i) k q is for = absurd (cc)

within_behind : (m : ℕ) (a b : Piece) → IsWithin m a → IsWithin m b → IsWithin m (behind a b)
within_behind m a b x y = record {
  each = λ n p i k o before is for.
      elim (in_either (a.ops n p) (b.ops (n + a.numbers) (p + a.size)) i o is) [
        | inl h ↦ let l = x.each n p i k o before h.1 for in (l.0, omega (arith, l.1))
        | inr h ↦
            let l = y.each (n + a.numbers) (p + a.size) (i - length (a.ops n p)) k o (omega (arith, before)) h.1 for in (l.0, omega (arith, l.1))
      ];
}

numbered_dropped : (n : ℕ) → IsNumbered (dropped n)
numbered_dropped zero = numbered_nothing
numbered_dropped (suc n) = numbered_alone (op.Drop (suc n)) refl

-- lists that nest so deep at most are numbered
abbrev NumberedTo : ℕ → Type 0
NumberedTo n = (list : List Instr) → body_nesting list ≤ n → IsNumbered (in_order (pieces list))

numbered_list : (n own : ℕ) (list : List Instr) → NumberedTo n → body_nesting list ≤ n → IsNumbered (list_piece own list)
numbered_list n own list to deep =
    numbered_behind (in_order (pieces list)) (dropped ((in_order (pieces list)).locals + own)) (to list deep)
    (numbered_dropped ((in_order (pieces list)).locals + own))

within_list : (m n own : ℕ) (list : List Instr) → NumberedTo n → body_nesting list ≤ n → IsWithin m (list_piece own list)
within_list m n own list to deep = within_numbered m (list_piece own list) (numbered_list n own list to deep)

within_jump : (m to : ℕ) → IsWithin m (alone (op.Jump to))
within_jump m to = within_numbered m (alone (op.Jump to)) (numbered_alone (op.Jump to) refl)

within_branches : (m n a o p : ℕ) (lists : List (List Instr)) → NumberedTo n → body_nesting (joined lists) ≤ n
    → IsWithin m (branches m a o p (map (list_piece 0) lists))
within_branches m n a o p [] to deep = within_numbered m nothing numbered_nothing
within_branches m n a o p (l ∷ ls) to deep =
    let b = list_piece 0 l in
    let rest = branches m (suc a) o (p + b.size + 2) (map (list_piece 0) ls) in
    let parted = body_nesting-append l (joined ls) in
    within_behind m (alone (op.Test m a (p + b.size + 2))) (behind b (behind (alone (op.Jump o)) rest)) (within_alone m (op.Test m a (p + b.size + 2)) refl)
    (within_behind m b (behind (alone (op.Jump o)) rest) (within_list m n 0 l to (omega (arith, parted, deep)))
    (within_behind m (alone (op.Jump o)) rest (within_jump m o) (within_branches m n (suc a) o (p + b.size + 2) ls to (omega (arith, parted, deep)))))

within_inner : (n : ℕ) (x : Inner) (m p : ℕ) → NumberedTo n → body_nesting (listed x) ≤ n → IsWithin m (inner_ops x m p)
within_inner n inside.Nothing m p to deep = within_alone m (op.Do m) refl
within_inner n inside.Local m p to deep = within_alone m (op.Do m) refl
within_inner n (inside.Round body) m p to deep =
    let b = list_piece 0 body in
    within_behind m (alone (op.Open m (p + b.size + 2))) (behind b (alone (op.Close m))) (within_alone m (op.Open m (p + b.size + 2)) refl)
    (within_behind m b (alone (op.Close m)) (within_list m n 0 body to deep) (within_alone m (op.Close m) refl))
within_inner n (inside.Choice body other) m p to deep =
    let b = list_piece 0 body in
    let o = list_piece 0 other in
    let parted = body_nesting-append body other in
    let jump = alone (op.Jump (p + b.size + 2 + o.size)) in
    within_behind m (alone (op.Test m 0 (p + b.size + 2))) (behind b (behind jump o)) (within_alone m (op.Test m 0 (p + b.size + 2)) refl)
    (within_behind m b (behind jump o) (within_list m n 0 body to (omega (arith, parted, deep)))
    (within_behind m jump o (within_jump m (p + b.size + 2 + o.size)) (within_list m n 0 other to (omega (arith, parted, deep)))))
within_inner n (inside.Choices bodies other) m p to deep =
    let all = branches m 0 (p + 2) (p + 3) (map (list_piece 0) bodies) in
    let o = list_piece 0 other in
    let parted = body_nesting-append (joined bodies) other in
    let rest = behind all o in
    let out = alone (op.Jump (p + 3 + all.size + o.size)) in
    within_behind m (alone (op.Begin m)) (behind (alone (op.Jump (p + 3))) (behind out rest)) (within_alone m (op.Begin m) refl)
    (within_behind m (alone (op.Jump (p + 3))) (behind out rest) (within_jump m (p + 3))
    (within_behind m out rest (within_jump m (p + 3 + all.size + o.size))
    (within_behind m all o (within_branches m n 0 (p + 2) (p + 3) bodies to (omega (arith, parted, deep))) (within_list m n 0 other to (omega (arith, parted, deep))))))
within_inner n (inside.While body) m p to deep =
    let b = list_piece 0 body in
    let rest = behind b (alone (op.Jump (p + 1))) in
    within_behind m (alone (op.Begin m)) (behind (alone (op.Test m 0 (p + b.size + 3))) rest) (within_alone m (op.Begin m) refl)
    (within_behind m (alone (op.Test m 0 (p + b.size + 3))) rest (within_alone m (op.Test m 0 (p + b.size + 3)) refl)
    (within_behind m b (alone (op.Jump (p + 1))) (within_list m n 0 body to deep) (within_jump m (p + 1))))
within_inner n (inside.ForEach body) m p to deep =
    let b = list_piece 1 body in
    let rest = behind b (alone (op.Jump (p + 1))) in
    within_behind m (alone (op.Begin m)) (behind (alone (op.Turn m (p + b.size + 3))) rest) (within_alone m (op.Begin m) refl)
    (within_behind m (alone (op.Turn m (p + b.size + 3))) rest (within_alone m (op.Turn m (p + b.size + 3)) refl)
    (within_behind m b (alone (op.Jump (p + 1))) (within_list m n 1 body to deep) (within_jump m (p + 1))))

inner-numbers : (x : Inner) (m p : ℕ) → (inner_ops x m p).numbers ≡ (inner_ops x 0 0).numbers
inner-numbers inside.Nothing m p = refl
inner-numbers inside.Local m p = refl
inner-numbers (inside.Round body) m p = refl
inner-numbers (inside.Choice body other) m p = refl
inner-numbers (inside.Choices bodies other) m p = omega (arith, branches-count m 0 (p + 2) (p + 3) bodies, branches-count 0 0 2 3 bodies)
inner-numbers (inside.While body) m p = refl
inner-numbers (inside.ForEach body) m p = refl

numbered_one : (n : ℕ) (i : Instr) → NumberedTo n → nesting i ≤ n + 1 → IsNumbered (piece_of i)
numbered_one n i to deep =
    let x = inner_of i in
    let within : body_nesting (listed x) ≤ n = omega (arith, nesting_is i, ap body_nesting (children_are i)) in
    subst IsNumbered (sym (unrolled i))
    (record {
      each = λ m p j k o is for.
          let l = (within_inner n x m p to within).each (m + 1) p j k o (omega arith) is for in (l.0, omega (arith, l.1, inner-numbers x m p));
    })

numbered_to : (n : ℕ) → NumberedTo n
numbered_to n [] deep = numbered_nothing
numbered_to zero (i ∷ list) deep = absurd (omega (arith, nesting_is i))
numbered_to (suc n) (i ∷ list) deep =
    numbered_behind (piece_of i) (in_order (pieces list)) (numbered_one n i (numbered_to n) (omega arith)) (numbered_to (suc n) list (omega arith))

pub numbered : (list : List Instr) → IsNumbered (in_order (pieces list))
numbered list = numbered_to (body_nesting list) list (omega arith)

pub numbered_body : (list : List Instr) → IsNumbered (behind (in_order (pieces list)) (alone op.Return))
numbered_body list = numbered_behind (in_order (pieces list)) (alone op.Return) (numbered list) (numbered_alone op.Return refl)
