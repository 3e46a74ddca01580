-- Each body of a sheet has code of its own, and no instruction is of two bodies.
use Rattle.std.proofs.Common.{◌≡◌, ℕ, zero, suc, ◌+◌, ◌-◌, ◌<◌, ◌≤◌, Bool, true, false, inl, inr, List, [], ◌∷◌, length, map, Option, Some, None, nat_lt, refl, ap, sym, subst, ◌∙◌, arith, length-append}
use Rattle.std.proofs.lemmas.List.{length-map}
use Rattle.std.proofs.lemmas.Bool.{ltb-true, ltb-false}
use Rattle.std.specs.List.{slice_get}
use Rattle.std.specs.Prelude.{unwrap_or}
use Rattle.instr_code.specs.Bare.{bare, without_bodies}
use Rattle.instr_code.specs.Bodies.{joined}
use Rattle.instr_code.specs.Code.{code_of, sheet_bodies, starts}
use Rattle.instr_code.specs.Layout.{body_piece, pieces}
use Rattle.instr_code.specs.Piece.{Piece, alone, in_order}
use Rattle.instr_code.specs.declared.code.Op.{Op}
use Rattle.instr_code.specs.declared.code.Op.TheVariants as op
use Rattle.instr_code.proofs.Bounds.{all_bodies}
use Rattle.instr_code.proofs.Turns.{count_of}
use Rattle.sheet_model.specs.Body.{all_of, body_nesting, children, instructions}
use Rattle.sheet_model.specs.declared.instr.Instr.{Instr}
use Rattle.sheet_model.specs.declared.sheet.Procedure.{Procedure}
use Rattle.sheet_model.specs.declared.sheet.Sheet.{Sheet}
use Rattle.sheet_model.specs.declared.sheet.Template.{Template}
use Rattle.sheet_model.proofs.Nests.{nesting_is}
use Rattle.sheet_model.proofs.Searches.{all_of-append, all_of-single}
use Rattle.template_machine.specs.Programs.{IsLaidOut, IsOf, end_of, groups_of, instr_of}
use Rattle.instr_code.proofs.Counts.{piece-count}
use Rattle.template_machine.proofs.Numbering.{IsNumbered, in_either, numbered_behind, numbered_body}
use Rattle.instr_code.proofs.Sized.{IsSized, sized, sized_alone, sized_behind, sized_nothing}

-- Pieces one behind another from a place on, the first instruction of which has a number.

abbrev AllSized : List Piece → Type 0
AllSized [] = Unit {0}
AllSized (b ∷ bs) = IsSized b × AllSized bs

abbrev AllNumbered : List Piece → Type 0
AllNumbered [] = Unit {0}
AllNumbered (b ∷ bs) = IsNumbered b × AllNumbered bs

-- where a piece ends
abbrev pub end : (p : ℕ) → List Piece → (i : ℕ) → ℕ
end p bs i = unwrap_or (slice_get (starts p bs) (suc i)) (p + (in_order bs).size)

-- the first number of a piece
abbrev first : (n : ℕ) → List Piece → (i : ℕ) → ℕ
first n [] i = n
first n (b ∷ bs) zero = n
first n (b ∷ bs) (suc i) = first (n + b.numbers) bs i

first_here : (n : ℕ) (bs : List Piece) → first n bs 0 ≡ n
first_here n [] = refl
first_here n (b ∷ bs) = refl

first_more : (n : ℕ) (bs : List Piece) (i : ℕ) → n ≤ first n bs i
first_more n [] i = omega arith
first_more n (b ∷ bs) zero = omega arith
first_more n (b ∷ bs) (suc i) = omega (arith, first_more (n + b.numbers) bs i)

first_rises : (n : ℕ) (bs : List Piece) (i j : ℕ) → i ≤ j → first n bs i ≤ first n bs j
first_rises n [] i j le = omega arith
first_rises n (b ∷ bs) zero j le = first_more n (b ∷ bs) j
first_rises n (b ∷ bs) (suc i) zero le = absurd (omega arith)
first_rises n (b ∷ bs) (suc i) (suc j) le = first_rises (n + b.numbers) bs i j (omega arith)

pub end_here : (p : ℕ) (b : Piece) (bs : List Piece) → end p (b ∷ bs) 0 ≡ p + b.size
end_here p b [] = omega arith
end_here p b (c ∷ bs) = refl

pub end_later : (p : ℕ) (b : Piece) (bs : List Piece) (i : ℕ) → end p (b ∷ bs) (suc i) ≡ end (p + b.size) bs i
end_later p b bs i = by (slice_get (starts (p + b.size) bs) (suc i)) where
  by : (o : Option ℕ) → unwrap_or o (p + (b.size + (in_order bs).size)) ≡ unwrap_or o (p + b.size + (in_order bs).size)
  by None = omega arith
  by (Some x) = refl

starts_behind : (p : ℕ) (bs : List Piece) (i start : ℕ) → slice_get (starts p bs) i ≡ Some start → p ≤ start
starts_behind p [] i start is = absurd (cc)
starts_behind p (b ∷ bs) zero start is = let same : p ≡ start = cc in omega arith
starts_behind p (b ∷ bs) (suc i) start is = omega (arith, starts_behind (p + b.size) bs i start is)

-- a piece ends behind its beginning, and with the others
rises : (p : ℕ) (bs : List Piece) (i start : ℕ) → slice_get (starts p bs) i ≡ Some start → start ≤ end p bs i
rises p [] i start is = absurd (cc)
rises p (b ∷ bs) zero start is = let same : p ≡ start = cc in omega (arith, end_here p b bs)
rises p (b ∷ bs) (suc i) start is = omega (arith, end_later p b bs i, rises (p + b.size) bs i start is)

next_within : (p : ℕ) (bs : List Piece) (i start : ℕ) → slice_get (starts p bs) i ≡ Some start → start ≤ p + (in_order bs).size
next_within p [] i start is = absurd (cc)
next_within p (b ∷ bs) zero start is = let same : p ≡ start = cc in omega arith
next_within p (b ∷ bs) (suc i) start is = omega (arith, next_within (p + b.size) bs i start is)

ends_within : (p : ℕ) (bs : List Piece) (i : ℕ) → end p bs i ≤ p + (in_order bs).size
ends_within p bs i = by (slice_get (starts p bs) (suc i)) refl where
  by : (o : Option ℕ) → slice_get (starts p bs) (suc i) ≡ o → unwrap_or o (p + (in_order bs).size) ≤ p + (in_order bs).size
  by None is = omega arith
  by (Some x) is = next_within p bs (suc i) x is

-- the instruction of an operation in a piece is one of the piece's
is_own : (bs : List Piece) → AllSized bs → AllNumbered bs → (n p i start place k : ℕ) (o : Op) → slice_get (starts p bs) i ≡ Some start
    → start ≤ place → place < end p bs i → slice_get ((in_order bs).ops n p) (place - p) ≡ Some o → instr_of o ≡ Some k
    → (first n bs i ≤ k) × (k < first n bs (suc i))
is_own [] s h n p i start place k o is behind before at for = absurd (cc)
is_own (b ∷ bs) s h n p zero start place k o is behind before at for =
    let same : p ≡ start = cc in
    let long = s.0.long n p in
    elim (in_either (b.ops n p) ((in_order bs).ops (n + b.numbers) (p + b.size)) (place - p) o at) [
      | inl x ↦ let l = h.0.each n p (place - p) k o x.1 for in (l.0, omega (arith, l.1, first_here (n + b.numbers) bs))
      | inr x ↦ absurd (omega (arith, x.0, end_here p b bs))
    ]
is_own (b ∷ bs) s h n p (suc i) start place k o is behind before at for =
    let long = s.0.long n p in
    let later = starts_behind (p + b.size) bs i start is in
    elim (in_either (b.ops n p) ((in_order bs).ops (n + b.numbers) (p + b.size)) (place - p) o at) [
      | inl x ↦ absurd (omega (arith, x.0))
      | inr x ↦
          is_own bs s.1 h.1 (n + b.numbers) (p + b.size) i start place k o is behind (omega (arith, before, end_later p b bs i))
          (subst (λ m. slice_get ((in_order bs).ops (n + b.numbers) (p + b.size)) m ≡ Some o) (omega (arith, x.0, later)) x.1) for
    ]

sized_order : (bs : List Piece) → AllSized bs → IsSized (in_order bs)
sized_order [] s = sized_nothing
sized_order (b ∷ bs) s = sized_behind b (in_order bs) s.0 (sized_order bs s.1)

numbered_order : (bs : List Piece) → AllNumbered bs → IsNumbered (in_order bs)
numbered_order [] h = record { each = λ n p i k o is for. absurd (cc) }
numbered_order (b ∷ bs) h = numbered_behind b (in_order bs) h.0 (numbered_order bs h.1)

-- Bodies.

sized_bodies : (lists : List (List Instr)) → AllSized (map body_piece lists)
sized_bodies [] = tt
sized_bodies (l ∷ ls) = (sized_behind (in_order (pieces l)) (alone op.Return) (sized l) (sized_alone op.Return), sized_bodies ls)

numbered_bodies : (lists : List (List Instr)) → AllNumbered (map body_piece lists)
numbered_bodies [] = tt
numbered_bodies (l ∷ ls) = (numbered_body l, numbered_bodies ls)

length-starts : (p : ℕ) (bs : List Piece) → length (starts p bs) ≡ length bs
length-starts p [] = refl
length-starts p (b ∷ bs) = ap suc (length-starts (p + b.size) bs)

-- a list has as many instructions as its piece has numbers
pub counted_to : (n : ℕ) (list : List Instr) → body_nesting list ≤ n → length (all_of list) ≡ count_of list
counted_to n [] deep = refl
counted_to zero (i ∷ list) deep = absurd (omega (arith, nesting_is i))
counted_to (suc n) (i ∷ list) deep =
    let parted : length (all_of (i ∷ list)) ≡ length (all_of (i ∷ [])) + length (all_of list) =
    ap length (all_of-append (i ∷ []) list) ∙ length-append (all_of (i ∷ [])) (all_of list) in
    let one : length (all_of (i ∷ [])) ≡ length (all_of (children i)) + 1 = omega (arith, ap length (all_of-single i)) in
    omega (arith, parted, one, counted_to n (children i) (omega (arith, nesting_is i)), counted_to (suc n) list (omega arith), piece-count i)

bodies_count : (lists : List (List Instr)) → (in_order (map body_piece lists)).numbers ≡ length (all_of (joined lists))
bodies_count [] = refl
bodies_count (l ∷ ls) =
    let parted : length (all_of (joined (l ∷ ls))) ≡ length (all_of l) + length (all_of (joined ls)) =
    ap length (all_of-append l (joined ls)) ∙ length-append (all_of l) (all_of (joined ls)) in
    omega (arith, parted, counted_to (body_nesting l) l (omega arith), bodies_count ls)

same_unless : (a b : ℕ) → (a < b → ⊥) → (b < a → ⊥) → a ≡ b
same_unless a b less more = by (nat_lt a b) (nat_lt b a) refl refl where
  by : (x y : Bool) → nat_lt a b ≡ x → nat_lt b a ≡ y → a ≡ b
  by true y e f = absurd (less (ltb-true a b e))
  by false true e f = absurd (more (ltb-true b a f))
  by false false e f = omega (arith, ltb-false a b e, ltb-false b a f)

module _ (s : Sheet) where
  abbrev all : List Piece
  all = map body_piece (sheet_bodies s)

  pub all_ops : length (code_of s).ops ≡ (in_order all).size
  all_ops = (sized_order all (sized_bodies (sheet_bodies s))).long 0 0

  pub ends : (body : ℕ) → end_of (code_of s) body ≡ end 0 all body
  ends body = by (slice_get (starts 0 all) (suc body)) where
    by : (o : Option ℕ) → unwrap_or o (length (code_of s).ops) ≡ unwrap_or o (0 + (in_order all).size)
    by None = omega (arith, all_ops)
    by (Some x) = refl

  own : (body number : ℕ) → IsOf (code_of s) body number → (first 0 all body ≤ number) × (number < first 0 all (suc body))
  own body number h =
      let at = h.2 in
      is_own all (sized_bodies (sheet_bodies s)) (numbered_bodies (sheet_bodies s)) 0 0 body at.start h.0 number h.1 at.starts at.behind (omega (arith, at.before, ends body)) (subst (λ m. slice_get (code_of s).ops m ≡ Some h.1) (omega arith) at.stands) h.3

  all_groups : length (sheet_bodies s) ≡ length (groups_of (without_bodies s))
  all_groups =
      omega (
        arith,
        length-append (map (λ (t : Template). t.body) s.templates) (map (λ (q : Procedure). q.body) s.procedures),
        length-append (map (λ (t : Template). t.group) (without_bodies s).templates) (map (λ (q : Procedure). q.group) (without_bodies s).procedures),
        length-map s.templates (λ (t : Template). t.body),
        length-map s.procedures (λ (q : Procedure). q.body),
        length-map (without_bodies s).templates (λ (t : Template). t.group),
        length-map (without_bodies s).procedures (λ (q : Procedure). q.group),
        length-map s.templates (λ (t : Template). record t { body = [] }),
        length-map s.procedures (λ (q : Procedure). record q { body = [] }),
      )

  all_instrs : length (code_of s).instrs ≡ (in_order all).numbers
  all_instrs =
      length-map (instructions s) bare ∙ ap (λ l. length (all_of l)) (sym (all_bodies s)) ∙ sym (bodies_count (sheet_bodies s))

  pub laid_out : IsLaidOut (without_bodies s) (code_of s)
  laid_out = record {
    bodies = omega (arith, length-starts 0 all, length-map (sheet_bodies s) body_piece, all_groups);
    rising = λ body start is. omega (arith, ends body, rises 0 all body start is);
    within = λ body. omega (arith, ends body, all_ops, ends_within 0 all body);
    numbered = λ place number o at for.
        let l = (numbered_order all (numbered_bodies (sheet_bodies s))).each 0 0 place number o at for in omega (arith, l.1, all_instrs);
    apart = λ body other number x y.
        let a = own body number x in
        let b = own other number y in
        same_unless body other
        (λ l. let r = first_rises 0 all (suc body) other (omega arith) in omega (arith, a.1, b.0, r))
        (λ l. let r = first_rises 0 all (suc other) body (omega arith) in omega (arith, b.1, a.0, r));
  }
