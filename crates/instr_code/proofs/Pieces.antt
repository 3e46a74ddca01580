-- Pieces joined: their sizes and operations.
use Rattle.std.proofs.Common.{◌≡◌, ℕ, zero, suc, ◌+◌, ◌<◌, ◌≤◌, List, [], ◌∷◌, ◌++◌, length, refl, ap, sym, subst, ◌∙◌, arith, append_assoc}
use Rattle.instr_code.specs.declared.code.Op.TheVariants as op
use Rattle.instr_code.specs.Layout.{branches}
use Rattle.instr_code.specs.Piece.{Piece, alone, behind, dropped, in_order, nothing}

-- a piece is two pieces, one behind the other
pub record Joins (a b c : Piece) : Type 0 where
  pub numbers : c.numbers ≡ a.numbers + b.numbers
  pub size : c.size ≡ a.size + b.size
  pub locals : c.locals ≡ a.locals + b.locals
  pub ops : (n p : ℕ) → c.ops n p ≡ a.ops n p ++ b.ops (n + a.numbers) (p + a.size)

pub joins_behind : (a b : Piece) → Joins a b (behind a b)
joins_behind a b = record { numbers = refl; size = refl; locals = refl; ops = λ n p. refl }

-- what is joined to the second may be joined to both
pub joins_more : (x a b c : Piece) → Joins a b c → Joins (behind x a) b (behind x c)
joins_more x a b c j = record {
  numbers = omega (arith, j.numbers);
  size = omega (arith, j.size);
  locals = omega (arith, j.locals);
  ops = λ n p.
      ap (λ l. x.ops n p ++ l) (j.ops (n + x.numbers) (p + x.size))
      ∙ sym (append_assoc (x.ops n p) (a.ops (n + x.numbers) (p + x.size)) (b.ops (n + x.numbers + a.numbers) (p + x.size + a.size)))
      ∙ ap (λ m. (x.ops n p ++ a.ops (n + x.numbers) (p + x.size)) ++ b.ops m (p + x.size + a.size)) (omega arith)
      ∙ ap (λ q. (x.ops n p ++ a.ops (n + x.numbers) (p + x.size)) ++ b.ops (n + (x.numbers + a.numbers)) q) (omega arith);
}

joins_nothing : (b : Piece) → Joins nothing b b
joins_nothing b = record {
  numbers = omega arith;
  size = omega arith;
  locals = omega arith;
  ops = λ n p. ap (λ m. b.ops m p) (omega arith) ∙ ap (λ q. b.ops (n + 0) q) (omega arith);
}

pub in_order-append : (xs ys : List Piece) → Joins (in_order xs) (in_order ys) (in_order (xs ++ ys))
in_order-append [] ys = joins_nothing (in_order ys)
in_order-append (x ∷ xs) ys = joins_more x (in_order xs) (in_order ys) (in_order (xs ++ ys)) (in_order-append xs ys)

-- how many operations branches are, and how many instructions they have, doesn't go by where they stand
pub branches-size : (i j a b o q x y : ℕ) (bs : List Piece) → (branches i a o x bs).size ≡ (branches j b q y bs).size
branches-size i j a b o q x y [] = refl
branches-size i j a b o q x y (p ∷ ps) = omega (arith, branches-size i j (suc a) (suc b) o q (x + p.size + 2) (y + p.size + 2) ps)

pub branches-numbers : (i j a b o q x y : ℕ) (bs : List Piece) → (branches i a o x bs).numbers ≡ (branches j b q y bs).numbers
branches-numbers i j a b o q x y [] = refl
branches-numbers i j a b o q x y (p ∷ ps) = omega (arith, branches-numbers i j (suc a) (suc b) o q (x + p.size + 2) (y + p.size + 2) ps)

pub branches-append : (i a o p : ℕ) (bs cs : List Piece)
    → Joins (branches i a o p bs) (branches i (a + length bs) o (p + (branches i a o p bs).size) cs) (branches i a o p (bs ++ cs))
branches-append i a o p [] cs =
    let same : branches i a o p cs ≡ branches i (a + 0) o (p + 0) cs =
    ap (λ m. branches i m o p cs) (omega arith) ∙ ap (λ q. branches i (a + 0) o q cs) (omega arith) in
    subst (λ c. Joins nothing (branches i (a + 0) o (p + 0) cs) c) (sym same) (joins_nothing (branches i (a + 0) o (p + 0) cs))
branches-append i a o p (b ∷ bs) cs =
    let tail = branches i (suc a) o (p + b.size + 2) bs in
    let end = branches i (suc a + length bs) o (p + b.size + 2 + tail.size) cs in
    let whole = branches i (suc a) o (p + b.size + 2) (bs ++ cs) in
    let jump = alone (op.Jump o) in
    let test = alone (op.Test i a (p + b.size + 2)) in
    let far = joins_more test (behind b (behind jump tail)) end (behind b (behind jump whole))
    (joins_more b (behind jump tail) end (behind jump whole)
    (joins_more jump tail end whole (branches-append i (suc a) o (p + b.size + 2) bs cs))) in
    let same : end ≡ branches i (a + suc (length bs)) o (p + (1 + (b.size + (1 + tail.size)))) cs =
    ap (λ m. branches i m o (p + b.size + 2 + tail.size) cs) (omega arith) ∙ ap (λ q. branches i (a + suc (length bs)) o q cs) (omega arith) in
    subst (λ e. Joins (branches i a o p (b ∷ bs)) e (branches i a o p ((b ∷ bs) ++ cs))) same far

-- locals that are taken off
pub dropped_some : (n : ℕ) → 0 < n → dropped n ≡ alone (op.Drop n)
dropped_some zero h = absurd (omega arith)
dropped_some (suc n) h = refl

pub dropped_none : (n : ℕ) → n ≤ 0 → dropped n ≡ nothing
dropped_none zero h = refl
dropped_none (suc n) h = absurd (omega arith)

-- an end of a list is an operation where there is something to take off
pub dropped_size : (k n : ℕ) → k < 2 → k ≤ n → k ≤ (dropped n).size
dropped_size k zero few h = omega arith
dropped_size k (suc n) few h = omega arith

pub branches-length : (i a o p : ℕ) (bs : List Piece) → length bs ≤ (branches i a o p bs).size
branches-length i a o p [] = omega arith
branches-length i a o p (b ∷ bs) = omega (arith, branches-length i (suc a) o (p + b.size + 2) bs)
