-- Where pieces stand in the code, and instructions among all instructions.
use Rattle.std.proofs.Common.{◌≡◌, ℕ, zero, suc, ◌+◌, ◌≤◌, List, [], ◌∷◌, ◌++◌, length, Some, refl, ap, sym, subst, ◌∙◌, arith, append_assoc, length-append}
use Rattle.std.specs.List.{slice_get}
use Rattle.instr_code.specs.Piece.{Piece, alone, behind}
use Rattle.instr_code.specs.declared.code.Op.{Op}
use Rattle.instr_code.proofs.Counts.{piece-count}
use Rattle.instr_code.proofs.Sized.{IsSized}
use Rattle.instr_code.proofs.Turns.{count_of}
use Rattle.sheet_model.specs.Body.{all_of, body_nesting, children}
use Rattle.sheet_model.specs.declared.instr.Instr.{Instr}
use Rattle.sheet_model.proofs.Lists.{got_behind}
use Rattle.sheet_model.proofs.Nests.{nesting_is}
use Rattle.sheet_model.proofs.Searches.{all_of-append, all_of-single}

-- the operations of a piece stand at a place, by the number of its first instruction
pub record Stands (ops : List Op) (x : Piece) (m p : ℕ) : Type 0 where
  pub before : List Op
  pub rest : List Op
  pub whole : ops ≡ before ++ (x.ops m p ++ rest)
  pub place : length before ≡ p

pub got_at : {A : Type 0} (before rest : List A) (x : A) (p : ℕ) → length before ≡ p → slice_get (before ++ x ∷ rest) p ≡ Some x
got_at before rest x p place =
    let here : length before + 0 ≡ p = omega (arith, place) in
    subst (λ n. slice_get (before ++ x ∷ rest) n ≡ Some x) here (got_behind before (x ∷ rest) 0 x refl)

pub stands_op : (ops : List Op) (o : Op) (m p : ℕ) → Stands ops (alone o) m p → slice_get ops p ≡ Some o
stands_op ops o m p s = ap (λ l. slice_get l p) s.whole ∙ got_at s.before s.rest o p s.place

pub stands_first : (ops : List Op) (a b : Piece) (m p : ℕ) → Stands ops (behind a b) m p → Stands ops a m p
stands_first ops a b m p s = record {
  before = s.before;
  rest = b.ops (m + a.numbers) (p + a.size) ++ s.rest;
  whole = s.whole ∙ ap (λ l. s.before ++ l) (append_assoc (a.ops m p) (b.ops (m + a.numbers) (p + a.size)) s.rest);
  place = s.place;
}

pub stands_second : (ops : List Op) (a b : Piece) (m p : ℕ) → IsSized a → Stands ops (behind a b) m p → Stands ops b (m + a.numbers) (p + a.size)
stands_second ops a b m p long s =
    let x = a.ops m p in
    let y = b.ops (m + a.numbers) (p + a.size) in
    record {
      before = s.before ++ x;
      rest = s.rest;
      whole = s.whole ∙ ap (λ l. s.before ++ l) (append_assoc x y s.rest) ∙ sym (append_assoc s.before x (y ++ s.rest));
      place = omega (arith, length-append s.before x, long.long m p, s.place);
    }

-- instructions stand behind so many others, with those inside
pub record Numbered (all list : List Instr) (m : ℕ) : Type 0 where
  pub before : List Instr
  pub rest : List Instr
  pub whole : all ≡ before ++ (all_of list ++ rest)
  pub place : length before ≡ m

abbrev CountsTo : ℕ → Type 0
CountsTo n = (list : List Instr) → body_nesting list ≤ n → count_of list ≡ length (all_of list)

counts_to : (n : ℕ) → CountsTo n
counts_to n [] deep = refl
counts_to zero (i ∷ list) deep = absurd (omega (arith, nesting_is i))
counts_to (suc n) (i ∷ list) deep =
    let all : all_of (i ∷ list) ≡ (i ∷ all_of (children i)) ++ all_of list = all_of-append (i ∷ []) list ∙ ap (λ l. l ++ all_of list) (all_of-single i) in
    omega (
      arith,
      ap length all,
      length-append (i ∷ all_of (children i)) (all_of list),
      piece-count i,
      counts_to n (children i) (omega (arith, nesting_is i)),
      counts_to (suc n) list (omega arith),
    )

pub count_is : (list : List Instr) → count_of list ≡ length (all_of list)
count_is list = counts_to (body_nesting list) list (omega arith)

pub numbered_first : (all a b : List Instr) (m : ℕ) → Numbered all (a ++ b) m → Numbered all a m
numbered_first all a b m s = record {
  before = s.before;
  rest = all_of b ++ s.rest;
  whole = s.whole ∙ ap (λ l. s.before ++ (l ++ s.rest)) (all_of-append a b) ∙ ap (λ l. s.before ++ l) (append_assoc (all_of a) (all_of b) s.rest);
  place = s.place;
}

pub numbered_second : (all a b : List Instr) (m : ℕ) → Numbered all (a ++ b) m → Numbered all b (m + count_of a)
numbered_second all a b m s = record {
  before = s.before ++ all_of a;
  rest = s.rest;
  whole =
      s.whole ∙ ap (λ l. s.before ++ (l ++ s.rest)) (all_of-append a b) ∙ ap (λ l. s.before ++ l) (append_assoc (all_of a) (all_of b) s.rest)
      ∙ sym (append_assoc s.before (all_of a) (all_of b ++ s.rest));
  place = omega (arith, length-append s.before (all_of a), count_is a, s.place);
}

pub numbered_here : (all : List Instr) (i : Instr) (m : ℕ) → Numbered all (i ∷ []) m → slice_get all m ≡ Some i
numbered_here all i m s =
    ap (λ l. slice_get l m) (s.whole ∙ ap (λ l. s.before ++ (l ++ s.rest)) (all_of-single i)) ∙ got_at s.before (all_of (children i) ++ s.rest) i m s.place

pub numbered_inside : (all : List Instr) (i : Instr) (m : ℕ) → Numbered all (i ∷ []) m → Numbered all (children i) (m + 1)
numbered_inside all i m s = record {
  before = s.before ++ i ∷ [];
  rest = s.rest;
  whole =
      s.whole ∙ ap (λ l. s.before ++ (l ++ s.rest)) (all_of-single i) ∙ sym (append_assoc s.before (i ∷ []) (all_of (children i) ++ s.rest));
  place = omega (arith, length-append s.before (i ∷ []), s.place);
}
