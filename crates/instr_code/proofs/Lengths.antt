-- As much is left as there are operations.
use Rattle.std.proofs.Common.{◌≡◌, ℕ, zero, suc, ◌+◌, ◌≤◌, List, [], ◌∷◌, length, map, refl, ap, sym, ◌∙◌, arith, length-append}
use Rattle.instr_code.specs.Acts.{Doing, act_by, act_of, acts_within, before, closing, left_of_branches, left_to_take_off, listed, taken_off, turns}
use Rattle.instr_code.specs.Bare.{bare}
use Rattle.instr_code.specs.Bodies.{joined}
use Rattle.instr_code.specs.Emitting.{inner_of, inner_ops, listed as lists_in}
use Rattle.instr_code.specs.Layout.{branches, list_piece, piece_of, pieces}
use Rattle.instr_code.specs.Piece.{Piece, dropped, in_order}
use Rattle.instr_code.specs.Steps.{Steps}
use Rattle.instr_code.specs.declared.inner.Inner.{Inner}
use Rattle.instr_code.specs.declared.inner.Inner.TheVariants as inside
use Rattle.instr_code.proofs.Acts.{acts-locals, within}
use Rattle.instr_code.proofs.Forms.{unrolled}
use Rattle.sheet_model.specs.Body.{body_nesting, nesting}
use Rattle.sheet_model.specs.declared.instr.Instr.{Instr}
use Rattle.sheet_model.proofs.Nests.{body_nesting-append, nesting_is}

module _ {Q S O E : Type 0} (steps : Steps Q S O E) where
  abbrev LongTo : ℕ → Type 0
  LongTo n = (list : List Instr) → body_nesting list ≤ n → (k : Doing Q S O E) → length ((acts_within steps n list).left k) ≡ (in_order (pieces list)).size

  taken-long : (c : ℕ) (k : Doing Q S O E) → length (left_to_take_off steps c k) ≡ (dropped c).size
  taken-long zero k = refl
  taken-long (suc c) k = refl

  list-long : (n own : ℕ) (list : List Instr) → LongTo n → body_nesting list ≤ n → (k : Doing Q S O E)
      → length ((listed steps own (acts_within steps n list)).left k) ≡ (list_piece own list).size
  list-long n own list to deep k =
      let a = acts_within steps n list in
      let c = a.locals + own in
      let h : Doing Q S O E = λ st. k (taken_off steps c st) in
      length-append (a.left h) (left_to_take_off steps c k)
      ∙ ap (λ l. l + length (left_to_take_off steps c k)) (to list deep h)
      ∙ ap (λ l. (in_order (pieces list)).size + l) (taken-long c k ∙ ap (λ l. (dropped (l + own)).size) (acts-locals steps n list deep))

  branches-long : (n j b o p : ℕ) (i : Instr) (lists : List (List Instr)) (other : List Instr) → LongTo n → body_nesting (joined lists) ≤ n → body_nesting other ≤ n
      → (arm : ℕ) (k : Doing Q S O E)
      → length (left_of_branches steps i arm (map (λ l. listed steps 0 (acts_within steps n l)) lists) (listed steps 0 (acts_within steps n other)) k)
      ≡ (branches j b o p (map (list_piece 0) lists)).size + (list_piece 0 other).size
  branches-long n j b o p i [] other to deep low arm k = list-long n 0 other to low k ∙ omega arith
  branches-long n j b o p i (l ∷ ls) other to deep low arm k =
      let parted = body_nesting-append l (joined ls) in
      let a = listed steps 0 (acts_within steps n l) in
      let rest = left_of_branches steps i (suc arm) (map (λ l. listed steps 0 (acts_within steps n l)) ls) (listed steps 0 (acts_within steps n other)) k in
      omega (
        arith,
        length-append (a.left k) (k ∷ rest),
        list-long n 0 l to (omega arith) k,
        branches-long n j (suc b) o (p + (list_piece 0 l).size + 2) i ls other to (omega arith) low (suc arm) k,
      )

  inner-long : (n : ℕ) (i : Instr) (x : Inner) → LongTo n → body_nesting (lists_in x) ≤ n → (k : Doing Q S O E)
      → length ((act_by steps (acts_within steps n) i x).left k) ≡ (inner_ops x 0 0).size
  inner-long n i inside.Nothing to deep k = refl
  inner-long n i inside.Local to deep k = refl
  inner-long n i (inside.Round body) to deep k =
      let h = before (closing steps (bare i)) k in
      omega (arith, length-append ((listed steps 0 (acts_within steps n body)).left h) (h ∷ []), list-long n 0 body to deep h)
  inner-long n i (inside.Choice body other) to deep k =
      let parted = body_nesting-append body other in
      omega (
        arith,
        length-append ((listed steps 0 (acts_within steps n body)).left k) (k ∷ (listed steps 0 (acts_within steps n other)).left k),
        list-long n 0 body to (omega arith) k,
        list-long n 0 other to (omega arith) k,
      )
  inner-long n i (inside.Choices bodies other) to deep k =
      let parted = body_nesting-append (joined bodies) other in
      omega (arith, branches-long n 0 0 2 3 (bare i) bodies other to (omega arith) (omega arith) 0 k)
  inner-long n i (inside.While body) to deep k =
      let h = before (turns steps i) k in
      omega (arith, length-append ((listed steps 0 (acts_within steps n body)).left h) (h ∷ []), list-long n 0 body to deep h)
  inner-long n i (inside.ForEach body) to deep k =
      let h = before (turns steps i) k in
      omega (arith, length-append ((listed steps 1 (acts_within steps n body)).left h) (h ∷ []), list-long n 1 body to deep h)

  one-long : (n : ℕ) (i : Instr) → LongTo n → nesting i ≤ n + 1 → (k : Doing Q S O E) → length ((act_of steps (acts_within steps n) i).left k) ≡ (piece_of i).size
  one-long n i to deep k = inner-long n i (inner_of i) to (within n i deep) k ∙ sym (ap (λ (y : Piece). y.size) (unrolled i))

  long_to : (n : ℕ) → LongTo n
  long_to zero [] deep k = refl
  long_to zero (i ∷ list) deep k = absurd (omega (arith, nesting_is i))
  long_to (suc n) [] deep k = refl
  long_to (suc n) (i ∷ list) deep k =
      let a = act_of steps (acts_within steps n) i in
      let r = acts_within steps (suc n) list in
      let h = before r.does k in
      omega (
        arith,
        length-append (a.left h) (r.left k),
        one-long n i (long_to n) (omega arith) h,
        long_to (suc n) list (omega arith) k,
      )

  -- of instructions in order, of a list inside an instruction, and of one instruction
  pub acts_long : (n : ℕ) (list : List Instr) → body_nesting list ≤ n → (k : Doing Q S O E) → length ((acts_within steps n list).left k) ≡ (in_order (pieces list)).size
  acts_long n list deep k = long_to n list deep k

  pub list_long : (n own : ℕ) (list : List Instr) → body_nesting list ≤ n → (k : Doing Q S O E)
      → length ((listed steps own (acts_within steps n list)).left k) ≡ (list_piece own list).size
  list_long n own list deep k = list-long n own list (long_to n) deep k

  pub act_long : (n : ℕ) (i : Instr) → nesting i ≤ n + 1 → (k : Doing Q S O E) → length ((act_of steps (acts_within steps n) i).left k) ≡ (piece_of i).size
  act_long n i deep k = one-long n i (long_to n) deep k
