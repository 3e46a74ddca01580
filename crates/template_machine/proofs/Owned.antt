-- Each operation of a sheet's code is of a body, and so is its instruction.
use Rattle.std.proofs.Common.{◌≡◌, ℕ, zero, suc, ◌+◌, ◌-◌, ◌<◌, ◌≤◌, inl, inr, List, [], ◌∷◌, ◌++◌, length, map, Some, refl, ap, subst, ◌∙◌, arith}
use Rattle.std.specs.List.{slice_get}
use Rattle.instr_code.specs.Bodies.{joined}
use Rattle.instr_code.specs.Code.{code_of, sheet_bodies, starts}
use Rattle.instr_code.specs.Layout.{body_piece, pieces}
use Rattle.instr_code.specs.Piece.{alone, in_order}
use Rattle.instr_code.specs.declared.code.Op.{Op}
use Rattle.instr_code.specs.declared.code.Op.TheVariants as op
use Rattle.instr_code.proofs.Sized.{sized, sized_alone, sized_behind}
use Rattle.sheet_model.specs.Body.{all_of, body_nesting}
use Rattle.sheet_model.specs.declared.instr.Instr.{Instr}
use Rattle.sheet_model.specs.declared.sheet.Sheet.{Sheet}
use Rattle.sheet_model.proofs.Searches.{all_of-append}
use Rattle.template_machine.specs.Programs.{IsOf, instr_of}
use Rattle.template_machine.proofs.LaidOut.{counted_to, end, end_here, end_later, ends}
use Rattle.template_machine.proofs.Numbering.{in_either, numbered_body}

-- an item of the first of two lists, and of the second

pub of_first : {A : Type 0} (xs ys : List A) (k : ℕ) → k < length xs → slice_get (xs ++ ys) k ≡ slice_get xs k
of_first [] ys k less = absurd (omega (arith, less))
of_first (x ∷ xs) ys zero less = refl
of_first (x ∷ xs) ys (suc k) less = of_first xs ys k (omega (arith, less))

pub of_second : {A : Type 0} (xs ys : List A) (k : ℕ) → length xs ≤ k → slice_get (xs ++ ys) k ≡ slice_get ys (k - length xs)
of_second [] ys k more = ap (slice_get ys) (omega arith)
of_second (x ∷ xs) ys zero more = absurd (omega (arith, more))
of_second (x ∷ xs) ys (suc k) more = of_second xs ys k (omega (arith, more)) ∙ ap (slice_get ys) (omega arith)

-- The operation at a place is of one of these bodies, the first of which begins at a place with a number.
pub record Owned (lists : List (List Instr)) (n p place k : ℕ) : Type 0 where
  pub body : ℕ
  pub start : ℕ
  pub list : List Instr
  pub starts_at : slice_get (starts p (map body_piece lists)) body ≡ Some start
  pub behind : start ≤ place
  pub before : place < end p (map body_piece lists) body
  pub is : slice_get lists body ≡ Some list
  -- its instruction stands in the body
  pub number : ℕ
  pub numbered : n ≤ k
  pub same : slice_get (all_of (joined lists)) (k - n) ≡ slice_get (all_of list) number

owned : (lists : List (List Instr)) (n p place k : ℕ) (o : Op) → p ≤ place → slice_get ((in_order (map body_piece lists)).ops n p) (place - p) ≡ Some o
    → instr_of o ≡ Some k → Owned lists n p place k
owned [] n p place k o behind is for = absurd (cc)
owned (l ∷ ls) n p place k o behind is for =
    let b = body_piece l in
    let bs = map body_piece ls in
    let long = (sized_behind (in_order (pieces l)) (alone op.Return) (sized l) (sized_alone op.Return)).long n p in
    let count = counted_to (body_nesting l) l (omega arith) in
    let parted = ap (λ m. slice_get m (k - n)) (all_of-append l (joined ls)) in
    elim (in_either (b.ops n p) ((in_order bs).ops (n + b.numbers) (p + b.size)) (place - p) o is) [
      | inl x ↦
          let own = (numbered_body l).each n p (place - p) k o x.1 for in
          record {
            body = 0;
            start = p;
            list = l;
            starts_at = refl;
            behind = behind;
            before = omega (arith, x.0, long, end_here p b bs);
            is = refl;
            number = k - n;
            numbered = own.0;
            same = parted ∙ of_first (all_of l) (all_of (joined ls)) (k - n) (omega (arith, own.0, own.1, count));
          }
      | inr x ↦
          let later : p + b.size ≤ place = omega (arith, x.0, long) in
          let rest : slice_get ((in_order bs).ops (n + b.numbers) (p + b.size)) (place - (p + b.size)) ≡ Some o =
          subst (λ m. slice_get ((in_order bs).ops (n + b.numbers) (p + b.size)) m ≡ Some o) (omega (arith, long)) x.1 in
          let r = owned ls (n + b.numbers) (p + b.size) place k o later rest for in
          record {
            body = suc r.body;
            start = r.start;
            list = r.list;
            starts_at = r.starts_at;
            behind = r.behind;
            before = omega (arith, r.before, end_later p b bs r.body);
            is = r.is;
            number = r.number;
            numbered = omega (arith, r.numbered);
            same =
                parted ∙ of_second (all_of l) (all_of (joined ls)) (k - n) (omega (arith, r.numbered, count))
                ∙ ap (slice_get (all_of (joined ls))) (omega (arith, count)) ∙ r.same;
          }
    ]

-- so of the code of a sheet
pub owned_at : (s : Sheet) (place k : ℕ) (o : Op) → slice_get (code_of s).ops place ≡ Some o → instr_of o ≡ Some k → Owned (sheet_bodies s) 0 0 place k
owned_at s place k o is for =
    owned (sheet_bodies s) 0 0 place k o (omega arith) (subst (λ m. slice_get (code_of s).ops m ≡ Some o) (omega arith) is) for

pub owner : (s : Sheet) (place k : ℕ) (o : Op) (w : Owned (sheet_bodies s) 0 0 place k) → slice_get (code_of s).ops place ≡ Some o → instr_of o ≡ Some k
    → IsOf (code_of s) w.body k
owner s place k o w is for = (
  place,
  o,
  record {
    start = w.start;
    starts = w.starts_at;
    behind = w.behind;
    before = omega (arith, w.before, ends s w.body);
    stands = is;
  },
  for,
)
