-- Each place of a sheet's code, and where its bodies begin.
use Rattle.std.proofs.Common.{◌≡◌, inl, inr, ℕ, zero, suc, ◌+◌, ◌≤◌, List, [], ◌∷◌, ◌++◌, length, Some, None, refl, ap, sym, subst, ◌∙◌, arith, append_assoc, length-append}
use Rattle.std.proofs.lemmas.Bool.{cases_lt}
use Rattle.std.proofs.lemmas.Option.{slice_get_cases, slice_get_past}
use Rattle.std.specs.List.{slice_get}
use Rattle.std.specs.Option.{option_map_or}
use Rattle.instr_code.specs.Acts.{Again, Doing, Plain, acts, before, turn_of}
use Rattle.instr_code.specs.Bodies.{body_pieces, joined}
use Rattle.instr_code.specs.Code.{code_of, sheet_bodies, starts}
use Rattle.instr_code.specs.Layout.{body_piece, pieces}
use Rattle.instr_code.specs.Piece.{in_order}
use Rattle.instr_code.specs.Running.{At, body_of, left_at, left_of_bodies, nested, operated, start_of}
use Rattle.instr_code.specs.Steps.{Steps}
use Rattle.instr_code.specs.declared.code.Op.{Op}
use Rattle.instr_code.specs.declared.code.Op.TheVariants as op
use Rattle.instr_code.proofs.Counting.{count_is}
use Rattle.instr_code.proofs.Forward.{Starts}
use Rattle.instr_code.proofs.Bounds.{all_bodies}
use Rattle.instr_code.proofs.Lengths.{acts_long}
use Rattle.instr_code.proofs.Seats.{Runs, Steady, Stepped, at, found, here, instructions_run, onward, steady_both, steady_none, steady_then}
use Rattle.instr_code.proofs.Sized.{sized}
use Rattle.instr_code.proofs.Standing.{Stands, stands_first, stands_next, stands_second, stands_whole}
use Rattle.instr_code.proofs.Stepping.{Jumps, Nowhere, Onward, Step, Turns}
use Rattle.sheet_model.specs.Body.{all_of, body_nesting, instructions}
use Rattle.sheet_model.specs.declared.instr.Instr.{Instr}
use Rattle.sheet_model.specs.declared.sheet.Sheet.{Sheet}
use Rattle.sheet_model.proofs.Searches.{all_of-append}
use Rattle.stx_base.specs.Course.{Ret, Same, and_then}
use Rattle.stx_base.proofs.Course.{and_then_assoc, and_then_ret, funext, same_equal, unfolds}

module _ {Q S O E : Type 0} where
  abbrev over : Doing Q S O E
  over st = Ret st

abbrev laid : List (List Instr) → (m p : ℕ) → List Op
laid bs m p = (in_order (body_pieces bs)).ops m p

module _ {Q S O E : Type 0} (steps : Steps Q S O E) (instrs : List Instr) (ops : List Op) (lefts : List (Doing Q S O E)) where
  -- bodies in order stand at a place, and so do the instructions that are left, and their numbers
  record Seat (bs : List (List Instr)) (m p : ℕ) : Type 0 where
    os : Stands ops (laid bs m p) p
    ls : Stands lefts (left_of_bodies steps bs) p
    is : Stands instrs (all_of (joined bs)) m

  -- the first of them, and the others
  record Parts (b : List Instr) (bs : List (List Instr)) (m p : ℕ) : Type 0 where
    first : Runs steps instrs ops lefts (acts steps b).does over p (p + (in_order (pieces b)).size)
    return_op : Stepped steps instrs ops lefts (p + (in_order (pieces b)).size)
    others : Seat bs (m + (in_order (pieces b)).numbers) (p + (in_order (pieces b)).size + 1)

  parts : (b : List Instr) (bs : List (List Instr)) (m p : ℕ) → Seat (b ∷ bs) m p → Parts b bs m p
  parts b bs m p s =
      let x = in_order (pieces b) in
      let a = acts steps b in
      let q = p + x.size in
      let m2 = m + x.numbers in
      let r = op.Return in
      let rest = laid bs (m + (x.numbers + 0)) (p + (x.size + 1)) in
      let more = left_of_bodies steps bs in
      let os1 : Stands ops (x.ops m p ++ (r ∷ rest)) p = subst (λ l. Stands ops l p) (append_assoc (x.ops m p) (r ∷ []) rest) s.os in
      let ls1 : Stands lefts (a.left over ++ (over ∷ more)) p =
      subst (λ l. Stands lefts l p) (append_assoc (a.left over) (over ∷ []) more) s.ls in
      let os2 : Stands ops (r ∷ rest) q = stands_second (x.ops m p) (r ∷ rest) x.size ((sized b).long m p) os1 in
      let ls2 : Stands lefts (over ∷ more) q = stands_second (a.left over) (over ∷ more) x.size (acts_long steps (body_nesting b) b (omega arith) over) ls1 in
      let is1 : Stands instrs (all_of b ++ all_of (joined bs)) m = subst (λ l. Stands instrs l m) (all_of-append b (joined bs)) s.is in
      let ended : here steps instrs ops lefts q ≡ over = found steps instrs ops lefts over more ls2 in
      let same_m : m + (x.numbers + 0) ≡ m2 = omega arith in
      let same_p : p + (x.size + 1) ≡ q + 1 = omega arith in
      record {
        first = instructions_run steps instrs ops lefts b m p over (stands_first (x.ops m p) (r ∷ rest) os1) (stands_first (a.left over) (over ∷ more) ls1)
            (stands_first (all_of b) (all_of (joined bs)) is1) ended;
        return_op = onward steps instrs ops lefts q r rest over os2 ended (λ st. refl) tt;
        others = record {
          os = subst (λ m. Stands ops (laid bs m (q + 1)) (q + 1)) same_m
              (subst (λ v. Stands ops (laid bs (m + (x.numbers + 0)) v) (q + 1)) same_p (stands_next r rest os2));
          ls = stands_next over more ls2;
          is = stands_second (all_of b) (all_of (joined bs)) x.numbers (sym (count_is b)) is1;
        };
      }

  bodies_steady : (bs : List (List Instr)) (m p : ℕ) → Seat bs m p → Steady steps instrs ops lefts p (p + (in_order (body_pieces bs)).size)
  bodies_steady [] m p s = steady_none steps instrs ops lefts p (p + 0) (omega arith)
  bodies_steady (b ∷ bs) m p s =
      let x = in_order (pieces b) in
      let t = parts b bs m p s in
      let q = p + x.size in
      let end = p + (x.size + 1 + (in_order (body_pieces bs)).size) in
      let same : q + 1 + (in_order (body_pieces bs)).size ≡ end = omega arith in
      let rest = bodies_steady bs (m + x.numbers) (q + 1) t.others in
      steady_both steps instrs ops lefts p q end t.first.steady (steady_then steps instrs ops lefts q end t.return_op (subst (λ e. Steady steps instrs ops lefts (q + 1) e) same rest))

  -- a body by its place
  record Begins (bs : List (List Instr)) (b p : ℕ) : Type 0 where
    body : List Instr
    is : slice_get bs b ≡ Some body
    whole : here steps instrs ops lefts p ≡ (acts steps body).does

  begins : (bs : List (List Instr)) (m p : ℕ) → Seat bs m p → (b q : ℕ) → slice_get (starts p (body_pieces bs)) b ≡ Some q → Begins bs b q
  begins [] m p s b q h = cc
  begins (x ∷ bs) m p s zero q h =
      let t = parts x bs m p s in
      let same : p ≡ q = cc in
      record {
        body = x;
        is = refl;
        whole = ap (here steps instrs ops lefts) (sym same) ∙ t.first.enters ∙ funext (λ st. and_then_ret ((acts steps x).does st));
      }
  begins (x ∷ bs) m p s (suc b) q h =
      let t = parts x bs m p s in
      let y = in_order (pieces x) in
      let same : p + (y.size + 1) ≡ p + y.size + 1 = omega arith in
      let rest = begins bs (m + y.numbers) (p + y.size + 1) t.others b q (subst (λ p. slice_get (starts p (body_pieces bs)) b ≡ Some q) same h) in
      record { body = rest.body; is = rest.is; whole = rest.whole }

module _ {Q S O E : Type 0} (steps : Steps Q S O E) (sheet : Sheet) where
  abbrev ops : List Op
  ops = (code_of sheet).ops

  abbrev lefts : List (Doing Q S O E)
  lefts = left_of_bodies steps (sheet_bodies sheet)

  -- as long as the code
  laid_long : (bs : List (List Instr)) (m p : ℕ) → length (laid bs m p) ≡ (in_order (body_pieces bs)).size
  laid_long [] m p = refl
  laid_long (b ∷ bs) m p =
      let x = in_order (pieces b) in
      let rest = laid bs (m + (x.numbers + 0)) (p + (x.size + 1)) in
      omega (
        arith,
        length-append (x.ops m p ++ op.Return ∷ []) rest,
        length-append (x.ops m p) (op.Return ∷ []),
        (sized b).long m p,
        laid_long bs (m + (x.numbers + 0)) (p + (x.size + 1)),
      )

  left_long : (bs : List (List Instr)) → length (left_of_bodies steps bs) ≡ (in_order (body_pieces bs)).size
  left_long [] = refl
  left_long (b ∷ bs) =
      let a = acts steps b in
      omega (
        arith,
        length-append (a.left over ++ over ∷ []) (left_of_bodies steps bs),
        length-append (a.left over) (over ∷ []),
        acts_long steps (body_nesting b) b (omega arith) over,
        left_long bs,
      )

  starts_long : (p : ℕ) (bs : List (List Instr)) → length (starts p (body_pieces bs)) ≡ length bs
  starts_long p [] = refl
  starts_long p (b ∷ bs) = ap suc (starts_long (p + (body_piece b).size) bs)

  seated : Seat steps (instructions sheet) ops lefts (sheet_bodies sheet) 0 0
  seated = record {
    os = stands_whole ops;
    ls = stands_whole lefts;
    is = subst (λ l. Stands (instructions sheet) l 0) (sym (ap all_of (all_bodies sheet))) (stands_whole (instructions sheet));
  }

  nothing_left : (p : ℕ) → length ops ≤ p → (st : S) → left_at steps sheet p st ≡ Ret st
  nothing_left p past st =
      let none : slice_get lefts p ≡ None =
      slice_get_past lefts p (omega (arith, laid_long (sheet_bodies sheet) 0 0, left_long (sheet_bodies sheet))) in
      ap (λ c. option_map_or (λ (x : Doing Q S O E). x) c (λ st. Ret st) st) none

  pub stepping : (p : ℕ) → Step steps (code_of sheet).instrs ops (left_at steps sheet) p
  stepping p = elim (cases_lt p (length ops)) [
    | inl lt ↦ bodies_steady steps (instructions sheet) ops lefts (sheet_bodies sheet) 0 0 seated p (omega arith) (omega (arith, laid_long (sheet_bodies sheet) 0 0))
    | inr le ↦ Nowhere (slice_get_past ops p le) (nothing_left p le)
  ]

  -- where a body begins, all of it is left
  pub begun : (b p : ℕ) (st : S) → slice_get (code_of sheet).starts b ≡ Some p → left_at steps sheet p st ≡ body_of steps sheet b st
  begun b p st is =
      let t = begins steps (instructions sheet) ops lefts (sheet_bodies sheet) 0 0 seated b p is in
      at t.whole st ∙ sym (ap (λ c. option_map_or (λ body. (acts steps body).does st) c (Ret st)) t.is)

  pub starting : (b : ℕ) → Starts (body_of steps sheet) (left_at steps sheet) (start_of steps sheet) b
  starting b = elim (slice_get_cases (code_of sheet).starts b).1 [
    | inl found ↦ record {
      place = found.0;
      starts = λ st. ap (λ c. option_map_or (λ p. At p st) c (At (length ops) st)) found.2;
      whole = λ st. begun b found.0 st found.2;
    }
    | inr past ↦ record {
      place = length ops;
      starts = λ st. ap (λ c. option_map_or (λ p. At p st) c (At (length ops) st)) past.1;
      whole = λ st.
          nothing_left (length ops) (omega arith) st
          ∙ sym (ap (λ c. option_map_or (λ body. (acts steps body).does st) c (Ret st))
          (slice_get_past (sheet_bodies sheet) b (omega (arith, past.0, starts_long 0 (sheet_bodies sheet)))));
    }
  ]

  abbrev Does : Op → (p : ℕ) → S → Doing Q S O E → Type 0
  Does o p st k =
      Same (nested steps sheet) (and_then (left_at steps sheet p st) k) (and_then (operated steps (code_of sheet).instrs Plain (left_at steps sheet) o p st) k)

  does_next : (p : ℕ) (o : Op) (st : S) (k : Doing Q S O E) → slice_get ops p ≡ Some o → Step steps (code_of sheet).instrs ops (left_at steps sheet) p → Does o p st k
  does_next p o st k is (Nowhere none gone) = cc
  does_next p o st k is (Onward n has same on) =
      let one : n ≡ o = cc in subst (λ o. Does o p st k) one (same_equal (nested steps sheet) (ap (λ x. and_then x k) (same st)))
  does_next p o st k is (Turns t) =
      let has : slice_get ops p ≡ Some t.op = t.is in
      let one : t.op ≡ o = cc in
      let turned : and_then (turn_of steps t.loop st) (before t.behind k) ≡ and_then (operated steps (code_of sheet).instrs Plain (left_at steps sheet) t.op p st) k =
      sym (and_then_assoc (turn_of steps t.loop st) t.behind k) ∙ ap (λ x. and_then x k) (t.does st) in
      subst (λ o. Does o p st k) one
      (subst (λ x. Same (nested steps sheet) (and_then x k) (and_then (operated steps (code_of sheet).instrs Plain (left_at steps sheet) t.op p st) k)) (sym (t.asks st))
      (unfolds (nested steps sheet) (Again t.loop st) (before t.behind k) turned))
  does_next p o st k is (Jumps to has same lands) =
      let one : op.Jump to ≡ o = cc in subst (λ o. Does o p st k) one (same_equal (nested steps sheet) (ap (λ x. and_then x k) (same st)))

  -- each operation does the next of what is left
  pub each_does : (p : ℕ) (o : Op) (st : S) (k : Doing Q S O E) → slice_get ops p ≡ Some o → Does o p st k
  each_does p o st k is = does_next p o st k is (stepping p)
