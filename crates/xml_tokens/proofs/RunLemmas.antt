-- Laws of runs: it doesn't matter in which pieces a document comes.
use Rattle.std.proofs.Common.{Result, Ok, Err}
use Rattle.stx_base.specs.declared.fault.XmlKind.{XmlKind}
use Rattle.std.proofs.Common.{◌≡◌, ◌≢◌, ℕ, ◌+◌, ◌-◌, ◌<◌, ◌≤◌, Bool, true, false, not, ◌&&◌, ◌||◌, ◌==◌, nat_lt, List, [], ◌∷◌, ◌++◌, Option, Some, None, length, take, drop, refl, sym, ap, ◌∙◌, arith, ⊎_elim, cond, subst, length-drop, length-append, get_or, add-one}
use Rattle.std.specs.List.{flat_map}
use Rattle.std.proofs.lemmas.Grind.{flat_map-append}
use Rattle.std.proofs.Math.Seq.{take-suc}
use Rattle.std.proofs.lemmas.List.{take-append-drop, length-take, drop-append-le, take-append-le, append-nil}
use Rattle.std.proofs.lemmas.Bool.{cases_Bool, eqb-true}
use Rattle.std.proofs.lemmas.Bool.Decides.{nat_tests}
use Rattle.std.specs.Prelude.{unwrap_or}
use Rattle.stx_base.specs.declared.limits.Limits.{Limits}
use Rattle.stx_base.specs.declared.fault.XmlKind.TheVariants.{LexemeTooLong, InputTooLong}
use Rattle.xml_tokens.specs.Places.{is_part}
use Rattle.xml_tokens.specs.Shape.{form, shape_len}
use Rattle.xml_tokens.specs.Reader.{Reader, bad, is_undecided, is_undecided_at, mark, mark_len, mark_len_of, seen, is_cut, is_last, is_open, coming, place, size, due, after, at_shape, at_rest, at_shape_or_rest, lexeme_or_fault, step_or_need, step_of}
use Rattle.xml_tokens.specs.inside.Look.{is_mark_open}
use Rattle.xml_tokens.specs.Judged.{judged}
use Rattle.xml_tokens.specs.Run.{Taken, Lexes, IsDrained, document}
use Rattle.xml_tokens.specs.declared.form.Form.{Form}
use Rattle.xml_tokens.specs.declared.form.Form.TheVariants.{Text, Comment, CData, Instruction, Declaration, Tag, Undecided}
use Rattle.xml_tokens.specs.declared.lexeme.Body.{Body}
use Rattle.xml_tokens.specs.declared.lexeme.Ending.{Ending}
use Rattle.xml_tokens.specs.declared.lexeme.Ending.TheVariants as ending
use Rattle.xml_tokens.specs.declared.lexeme.Lexeme.{Lexeme}
use Rattle.xml_tokens.specs.declared.lexeme.Step.{Step}
use Rattle.xml_tokens.specs.declared.lexeme.Step.TheVariants as step
use Rattle.xml_tokens.proofs.FormLemmas.{form-more}
use Rattle.xml_tokens.proofs.WholeLemmas.{shape_len-more, shape_len-later, whole-within}
use Rattle.xml_tokens.proofs.ReaderLemmas.{length-coming, seen-within, coming-more, after-lexeme, undecided-mark_len, decided_mark, mark_len-more, mark-closed, ending_at, need-open}

-- the document goes on with these bytes, and ends then or not
abbrev pub with_rest : Reader → List ℕ → Bool → Reader
with_rest r rest ended = record r { unread = r.unread ++ rest; ended = ended }

-- one document's answers: what is due where nothing is repeated
pub due-fresh : (r : Reader) → r.over ≡ None → due r ≡ at_shape_or_rest r (shape_len (is_last r) (coming r))
unfolding due
due-fresh r h = rw h refl

two : (s t : Bool) → (s && t) ≡ true → (s ≡ true) × (t ≡ true)
two true t h = (refl, h)
two false t h = absurd cc

neither : (a b : Bool) → (a || b) ≡ false → (a ≡ false) × (b ≡ false)
neither true b h = absurd cc
neither false b h = (refl, h)

part_shapeless : (bytes : List ℕ) → is_part bytes mark ≡ true → shape_len false bytes ≡ None
part_shapeless [] h = refl
part_shapeless (b ∷ []) h = subst (λ n. shape_len false (n ∷ []) ≡ None) (sym (eqb-true b 239 (two (b == 239) true h).0)) refl
part_shapeless (b ∷ c ∷ []) h =
    let first = two (b == 239) ((c == 187) && true) h in
    let second = two (c == 187) true first.1 in
    subst (λ n. shape_len false (n ∷ c ∷ []) ≡ None) (sym (eqb-true b 239 first.0)) (subst (λ m. shape_len false (239 ∷ m ∷ []) ≡ None) (sym (eqb-true c 187 second.0)) refl)
part_shapeless (b ∷ c ∷ d ∷ bs) h =
    let first = two (b == 239) ((c == 187) && ((d == 191) && false)) h in
    let second = two (c == 187) ((d == 191) && false) first.1 in
    let third = two (d == 191) false second.1 in
    absurd cc

-- the front of a byte order mark is no shape yet
pub mark-shapeless : (r : Reader) → is_mark_open r ≡ true → shape_len false (coming r) ≡ None
mark-shapeless r h =
    let parts = undecided-mark_len r h in
    ap (λ n. shape_len false (drop n (seen r))) parts.0 ∙ part_shapeless (seen r) parts.2

-- where a shape is whole no mark is open
closed_at : (r : Reader) (len : ℕ) → shape_len false (coming r) ≡ Some len → is_mark_open r ≡ false
closed_at r len h = ⊎_elim (λ (m : is_mark_open r ≡ true). let n = sym (mark-shapeless r m) ∙ h in absurd cc) (λ (m : is_mark_open r ≡ false). m) (cases_Bool (is_mark_open r))

closed_if : (r : Reader) → is_undecided_at (place r) (coming r) ≡ false → is_mark_open r ≡ false
closed_if r h = ⊎_elim (λ (m : is_mark_open r ≡ true). let n = sym (decided_mark r m) ∙ h in absurd cc) (λ (m : is_mark_open r ≡ false). m) (cases_Bool (is_mark_open r))

undecided_no : (f : Form) → is_undecided f ≡ false → f ≢ Undecided
undecided_no Undecided h e = absurd cc
undecided_no Text h e = cc
undecided_no Comment h e = cc
undecided_no CData h e = cc
undecided_no Instruction h e = cc
undecided_no Declaration h e = cc
undecided_no Tag h e = cc

too_long_at : ℕ → Step
too_long_at at = step.Bad (record { kind = LexemeTooLong; offset = at })

-- the answer at a shape that is too long
too_long_shape : (limits : Limits) (first : Bool) (bytes : List ℕ) (at : ℕ) → limits.lexeme < length bytes → at_shape limits first bytes at ≡ step.Bad (record { kind = LexemeTooLong; offset = at })
too_long_shape limits first bytes at h =
    let e : nat_lt limits.lexeme (length bytes) ≡ true = grind (arith, nat_tests) in
    ap (λ t. cond t (step.Bad (record { kind = LexemeTooLong; offset = at })) (lexeme_or_fault (judged first bytes) at)) e

-- what is undecided is so no longer, once it is decided
decided_more : (at : ℕ) (bytes more : List ℕ) → is_undecided_at at bytes ≡ false → is_undecided_at at (bytes ++ more) ≡ false
decided_more at bytes more h =
    let parts = neither (is_undecided (form bytes)) (at == 0 && is_part bytes mark) h in
    let f : is_undecided (form (bytes ++ more)) ≡ false = ap is_undecided (form-more bytes more (undecided_no (form bytes) parts.0)) ∙ parts.0 in
    rw (f, mark-closed at bytes more parts.1) refl

-- why nothing comes any more where the input has more bytes than the limit
abbrev cut_rest : Limits → Bool → ℕ → List ℕ → Option Ending
cut_rest limits last at bytes =
    cond (not (not last && is_undecided_at at bytes) && nat_lt limits.lexeme (length bytes)) (Some (bad LexemeTooLong at)) (Some (bad InputTooLong limits.input))

at_rest-cut : (r : Reader) → is_cut r ≡ true → at_rest r ≡ cut_rest r.limits (is_last r) (place r) (coming r)
at_rest-cut r h =
    ap (λ t. ending_at (not (is_open r) && nat_lt r.limits.lexeme (length (coming r))) t r.ended (length (coming r) == 0) (Some (bad LexemeTooLong (place r))) (Some (bad InputTooLong r.limits.input)) (r.offset + length r.unread)) h

module _ (r : Reader) (rest : List ℕ) (ended : Bool) (fresh : r.over ≡ None) (going : r.ended ≡ false) where
  last : is_last r ≡ false
  last = ap (λ t. t && not (is_cut r)) going

  due-here : due r ≡ at_shape_or_rest r (shape_len false (coming r))
  due-here = due-fresh r fresh ∙ ap (λ t. at_shape_or_rest r (shape_len t (coming r))) last

  due-there : due (with_rest r rest ended) ≡ at_shape_or_rest (with_rest r rest ended) (shape_len (is_last (with_rest r rest ended)) (coming (with_rest r rest ended)))
  due-there = due-fresh (with_rest r rest ended) fresh

  place-there : is_mark_open r ≡ false → place (with_rest r rest ended) ≡ place r
  place-there closed = ap (λ n. r.offset + n) (mark_len-more r rest closed)

  shape-there : (len : ℕ) → shape_len false (coming r) ≡ Some len → shape_len (is_last (with_rest r rest ended)) (coming (with_rest r rest ended)) ≡ Some len
  shape-there len h =
      let c = coming-more r rest (closed_at r len h) in
      ap (shape_len (is_last (with_rest r rest ended))) c.1 ∙ shape_len-more (is_last (with_rest r rest ended)) (coming r) c.0 len h

  pub due-shape-more : (len : ℕ) → shape_len false (coming r) ≡ Some len → due (with_rest r rest ended) ≡ due r
  due-shape-more len h =
      let closed = closed_at r len h in
      let c = coming-more r rest closed in
      let there = with_rest r rest ended in
      let bytes : take len (coming there) ≡ take len (coming r) =
      ap (take len) c.1 ∙ take-append-le len (coming r) c.0 (whole-within false (coming r) len h).1 in
      due-there ∙ (ap (at_shape_or_rest there) (shape-there len h)
      ∙ (ap (λ b. at_shape r.limits (r.offset == 0) b (place there)) bytes ∙ (ap (at_shape r.limits (r.offset == 0) (take len (coming r))) (place-there closed)
      ∙ sym (due-here ∙ ap (at_shape_or_rest r) h))))

  too_long_by : (o : Option ℕ) → shape_len (is_last (with_rest r rest ended)) (coming (with_rest r rest ended)) ≡ o → is_undecided_at (place r) (coming r) ≡ false → shape_len false (coming r) ≡ None →
      r.limits.lexeme < length (coming r) → at_shape_or_rest (with_rest r rest ended) o ≡ step.Bad (record { kind = LexemeTooLong; offset = place (with_rest r rest ended) })
  too_long_by (Some len) e decided none long =
      let closed = closed_if r decided in
      let c = coming-more r rest closed in
      let there = with_rest r rest ended in
      let f = undecided_no (form (coming r)) (neither (is_undecided (form (coming r))) (place r == 0 && is_part (coming r) mark) decided).0 in
      let found : shape_len (is_last there) (coming r ++ c.0) ≡ Some len = sym (ap (shape_len (is_last there)) c.1) ∙ e in
      let later = shape_len-later (is_last there) (coming r) c.0 len f none found in
      let within = (whole-within (is_last there) (coming there) len e).1 in
      too_long_shape r.limits (r.offset == 0) (take len (coming there)) (place there) (omega (arith, later, within, length-take len (coming there)))
  too_long_by None e decided none long =
      let closed = closed_if r decided in
      let c = coming-more r rest closed in
      let there = with_rest r rest ended in
      let u : is_undecided_at (place there) (coming there) ≡ false =
      ap (λ n. is_undecided_at n (coming there)) (place-there closed) ∙ (ap (is_undecided_at (place r)) c.1 ∙ decided_more (place r) (coming r) c.0 decided) in
      let o : is_open there ≡ false = ap (λ t. not (is_last there) && t) u ∙ none_of (not (is_last there)) in
      let l : nat_lt r.limits.lexeme (length (coming there)) ≡ true = longer (omega (arith, ap length c.1, length-append (coming r) c.0)) in
      let both : (not (is_open there) && nat_lt r.limits.lexeme (length (coming there))) ≡ true = rw (o, l) refl in
      ap (λ t. step_or_need (ending_at t (is_cut there) there.ended (length (coming there) == 0) (Some (bad LexemeTooLong (place there))) (Some (bad InputTooLong r.limits.input)) (r.offset + length there.unread))) both where
        none_of : (t : Bool) → (t && false) ≡ false
        none_of true = refl
        none_of false = refl

        longer : {n m : ℕ} → n < m → nat_lt n m ≡ true
        longer {n} {m} h = grind (arith, nat_tests)

  pub due-long-more : is_undecided_at (place r) (coming r) ≡ false → shape_len false (coming r) ≡ None → r.limits.lexeme < length (coming r) → due (with_rest r rest ended) ≡ step.Bad (record { kind = LexemeTooLong; offset = place r })
  due-long-more decided none long =
      due-there ∙ (too_long_by (shape_len (is_last (with_rest r rest ended)) (coming (with_rest r rest ended))) refl decided none long
      ∙ ap (λ n. step.Bad (record { kind = LexemeTooLong; offset = n })) (place-there (closed_if r decided)))

  pub due-cut-more : shape_len false (coming r) ≡ None → is_cut r ≡ true → due (with_rest r rest ended) ≡ due r
  due-cut-more none cut =
      let there = with_rest r rest ended in
      let room = r.limits.input - r.offset in
      let over : room < length r.unread = shorter cut in
      let some : room ≤ length r.unread = omega arith in
      let bytes : seen there ≡ seen r = take-append-le room r.unread rest some in
      let comes : coming there ≡ coming r = ap (λ l. drop (mark_len_of r.offset l) l) bytes in
      let at : place there ≡ place r = ap (λ l. r.offset + mark_len_of r.offset l) bytes in
      let cut_there : is_cut there ≡ true = longer (omega (arith, length-append r.unread rest)) in
      let last_there : is_last there ≡ false = ap (λ t. ended && not t) cut_there ∙ none_of ended in
      let none_there : shape_len (is_last there) (coming there) ≡ None = ap (λ t. shape_len t (coming there)) last_there ∙ (ap (shape_len false) comes ∙ none) in
      let rest_there : at_rest there ≡ at_rest r =
      at_rest-cut there cut_there ∙ (ap (λ t. cut_rest r.limits t (place there) (coming there)) (last_there ∙ sym last)
      ∙ (ap (λ n. cut_rest r.limits (is_last r) n (coming there)) at ∙ (ap (cut_rest r.limits (is_last r) (place r)) comes ∙ sym (at_rest-cut r cut)))) in
      due-there ∙ (ap (at_shape_or_rest there) none_there ∙ (ap step_or_need rest_there ∙ sym (due-here ∙ ap (at_shape_or_rest r) none))) where
        shorter : {n m : ℕ} → nat_lt n m ≡ true → n < m
        shorter {n} {m} h = grind (arith, nat_tests)

        longer : {n m : ℕ} → n < m → nat_lt n m ≡ true
        longer {n} {m} h = grind (arith, nat_tests)

        none_of : (t : Bool) → (t && false) ≡ false
        none_of true = refl
        none_of false = refl

  by_rest : shape_len false (coming r) ≡ None → due r ≢ step.Need → (long : Bool) → (not (is_open r) && nat_lt r.limits.lexeme (length (coming r))) ≡ long → (cut : Bool) → is_cut r ≡ cut → due (with_rest r rest ended) ≡ due r
  by_rest none other true l cut c =
      let parts = two (not (is_open r)) (nat_lt r.limits.lexeme (length (coming r))) l in
      let decided : is_undecided_at (place r) (coming r) ≡ false = opened (is_last r) (is_undecided_at (place r) (coming r)) last parts.0 in
      let long : r.limits.lexeme < length (coming r) = shorter parts.1 in
      let here : due r ≡ step.Bad (record { kind = LexemeTooLong; offset = place r }) =
      due-here ∙ (ap (at_shape_or_rest r) none ∙ ap (λ t. step_or_need (ending_at t (is_cut r) r.ended (length (coming r) == 0) (Some (bad LexemeTooLong (place r))) (Some (bad InputTooLong r.limits.input)) (r.offset + length r.unread))) l) in
      due-long-more decided none long ∙ sym here where
        shorter : {n m : ℕ} → nat_lt n m ≡ true → n < m
        shorter {n} {m} h = grind (arith, nat_tests)

        opened : (t u : Bool) → t ≡ false → not (not t && u) ≡ true → u ≡ false
        opened true u a b = absurd cc
        opened false true a b = absurd cc
        opened false false a b = refl
  by_rest none other false l true c = due-cut-more none c
  by_rest none other false l false c =
      absurd (other (due-here ∙ (ap (at_shape_or_rest r) none
      ∙ (ap (λ t. step_or_need (ending_at t (is_cut r) r.ended (length (coming r) == 0) (Some (bad LexemeTooLong (place r))) (Some (bad InputTooLong r.limits.input)) (r.offset + length r.unread))) l
      ∙ (ap (λ t. step_or_need (ending_at false t r.ended (length (coming r) == 0) (Some (bad LexemeTooLong (place r))) (Some (bad InputTooLong r.limits.input)) (r.offset + length r.unread))) c
      ∙ ap (λ t. step_or_need (ending_at false false t (length (coming r) == 0) (Some (bad LexemeTooLong (place r))) (Some (bad InputTooLong r.limits.input)) (r.offset + length r.unread))) going)))))

  by_shape : due r ≢ step.Need → (o : Option ℕ) → shape_len false (coming r) ≡ o → due (with_rest r rest ended) ≡ due r
  by_shape other (Some len) h = due-shape-more len h
  by_shape other None h = by_rest h other (not (is_open r) && nat_lt r.limits.lexeme (length (coming r))) refl (is_cut r) refl

  -- an answer stays, whatever bytes follow
  pub due-more : due r ≢ step.Need → due (with_rest r rest ended) ≡ due r
  due-more other = by_shape other (shape_len false (coming r)) refl

-- a lexeme comes of a whole shape
pub lexeme-shape : (r : Reader) (l : Lexeme) → r.over ≡ None → due r ≡ step.Lexeme l → (len : ℕ) × (shape_len (is_last r) (coming r) ≡ Some len)
lexeme-shape r l fresh h = by_shape (shape_len (is_last r) (coming r)) refl (sym (due-fresh r fresh) ∙ h) where
  no_lexeme : (o : Option Ending) → step_or_need o ≡ step.Lexeme l → ⊥
  no_lexeme None h = cc
  no_lexeme (Some ending.End) h = cc
  no_lexeme (Some (ending.Bad fault)) h = cc
  no_lexeme (Some ending.Memory) h = cc

  by_shape : (o : Option ℕ) → shape_len (is_last r) (coming r) ≡ o → at_shape_or_rest r o ≡ step.Lexeme l → (len : ℕ) × (shape_len (is_last r) (coming r) ≡ Some len)
  by_shape (Some len) e k = (len, e)
  by_shape None e k = absurd (no_lexeme (at_rest r) k)

-- a lexeme takes bytes that are there
pub size-within : (r : Reader) (l : Lexeme) → r.over ≡ None → due r ≡ step.Lexeme l → (1 ≤ size r) × (size r ≤ length r.unread)
size-within r l fresh h =
    let s = lexeme-shape r l fresh h in
    let w = whole-within (is_last r) (coming r) s.0 s.1 in
    let n : size r ≡ mark_len r + s.0 = ap (λ o. mark_len r + unwrap_or o 0) s.1 in
    let c = length-coming r in
    let u = seen-within r in
    (omega (arith, n, w.0), omega (arith, n, w.1, c, u.0))

pub after-fresh : (r : Reader) (l : Lexeme) → r.over ≡ None → (after r (step.Lexeme l)).over ≡ None
after-fresh r l h = ap (λ (x : Reader). x.over) (after-lexeme r l) ∙ h

pub after-ended : (r : Reader) (l : Lexeme) → (after r (step.Lexeme l)).ended ≡ r.ended
after-ended r l = ap (λ (x : Reader). x.ended) (after-lexeme r l)

pub after-shorter : (r : Reader) (l : Lexeme) → r.over ≡ None → due r ≡ step.Lexeme l → length (after r (step.Lexeme l)).unread < length r.unread
after-shorter r l fresh h =
    let w = size-within r l fresh h in
    let e = ap (λ (x : Reader). length x.unread) (after-lexeme r l) in
    omega (arith, w.0, w.1, e, length-drop (size r) r.unread)

pub after_more : (r : Reader) (rest : List ℕ) (ended : Bool) (l : Lexeme) → r.over ≡ None → r.ended ≡ false → due r ≡ step.Lexeme l →
    after (with_rest r rest ended) (step.Lexeme l) ≡ with_rest (after r (step.Lexeme l)) rest ended
after_more r rest ended l fresh going h =
    let there = with_rest r rest ended in
    let s = lexeme-shape r l fresh h in
    let here : shape_len false (coming r) ≡ Some s.0 = sym (ap (λ t. shape_len t (coming r)) (ap (λ t. t && not (is_cut r)) going)) ∙ s.1 in
    let found = shape-there r rest ended fresh going s.0 here in
    let m : mark_len there ≡ mark_len r = mark_len-more r rest (closed_at r s.0 here) in
    let e : size there ≡ size r = ap (λ n. n + unwrap_or (shape_len (is_last there) (coming there)) 0) m ∙ ap (λ o. mark_len r + unwrap_or o 0) (found ∙ sym s.1) in
    let within = (size-within r l fresh h).1 in
    after-lexeme there l
    ∙ (ap (λ n. record there { unread = drop n there.unread; offset = r.offset + n }) e
    ∙ (ap (λ u. record there { unread = u; offset = r.offset + size r }) (drop-append-le (size r) r.unread rest within)
    ∙ ap (λ (x : Reader). with_rest x rest ended) (sym (after-lexeme r l))))

no_need : (l : Lexeme) (s : Step) → s ≡ step.Lexeme l → s ≢ step.Need
no_need l s h e = cc

-- the lexemes stay, whatever bytes follow
pub taken-more : (r : Reader) (lexemes : List Lexeme) (last_ : Reader) (rest : List ℕ) (ended : Bool) → r.over ≡ None → r.ended ≡ false → Taken r lexemes last_ → Taken (with_rest r rest ended) lexemes (with_rest last_ rest ended)
taken-more r [] last_ rest ended fresh going h = ap (λ (x : Reader). with_rest x rest ended) h
taken-more r (l ∷ ls) last_ rest ended fresh going h =
    let first : due (with_rest r rest ended) ≡ step.Lexeme l = due-more r rest ended fresh going (no_need l (due r) h.0) ∙ h.0 in
    let later = taken-more (after r (step.Lexeme l)) ls last_ rest ended (after-fresh r l fresh) (after-ended r l ∙ going) h.1 in
    (first, subst (λ (x : Reader). Taken x ls (with_rest last_ rest ended)) (sym (after_more r rest ended l fresh going h.0)) later)

pub taken-append : (r s t : Reader) (xs ys : List Lexeme) → Taken r xs s → Taken s ys t → Taken r (xs ++ ys) t
taken-append r s t [] ys h k = subst (λ (x : Reader). Taken x ys t) (sym h) k
taken-append r s t (x ∷ xs) ys h k = (h.0, taken-append (after r (step.Lexeme x)) s t xs ys h.1 k)

pub taken-fresh : (r s : Reader) (xs : List Lexeme) → Taken r xs s → r.over ≡ None → s.over ≡ None
taken-fresh r s [] h fresh = sym (ap (λ (x : Reader). x.over) h) ∙ fresh
taken-fresh r s (x ∷ xs) h fresh = taken-fresh (after r (step.Lexeme x)) s xs h.1 (after-fresh r x fresh)

pub taken-ended : (r s : Reader) (xs : List Lexeme) → Taken r xs s → s.ended ≡ r.ended
taken-ended r s [] h = sym (ap (λ (x : Reader). x.ended) h)
taken-ended r s (x ∷ xs) h = taken-ended (after r (step.Lexeme x)) s xs h.1 ∙ after-ended r x

-- more bytes are asked for only before the end
pub need-going : (r : Reader) → r.over ≡ None → due r ≡ step.Need → r.ended ≡ false
need-going r fresh h = by_shape (shape_len (is_last r) (coming r)) (sym (due-fresh r fresh) ∙ h) where
  no_need_over : (o : Option Ending) → step_or_need o ≡ step.Need → o ≡ None
  no_need_over None h = refl
  no_need_over (Some ending.End) h = absurd cc
  no_need_over (Some (ending.Bad fault)) h = absurd cc
  no_need_over (Some ending.Memory) h = absurd cc

  no_need_judged : (o : Result Body XmlKind) (at : ℕ) → lexeme_or_fault o at ≡ step.Need → ⊥
  no_need_judged (Err kind) at h = cc
  no_need_judged (Ok body) at h = cc

  no_need_shape : (long : Bool) (o : Result Body XmlKind) (at : ℕ) → cond long (step.Bad (record { kind = LexemeTooLong; offset = at })) (lexeme_or_fault o at) ≡ step.Need → ⊥
  no_need_shape true o at h = cc
  no_need_shape false o at h = no_need_judged o at h

  by_shape : (o : Option ℕ) → at_shape_or_rest r o ≡ step.Need → r.ended ≡ false
  by_shape (Some len) k = absurd (no_need_shape (nat_lt r.limits.lexeme (length (take len (coming r)))) (judged (r.offset == 0) (take len (coming r))) (place r) k)
  by_shape None k =
      (need-open (not (is_open r) && nat_lt r.limits.lexeme (length (coming r))) (is_cut r) r.ended (length (coming r) == 0)
      (bad LexemeTooLong (place r)) (bad InputTooLong r.limits.input) (r.offset + length r.unread) (no_need_over (at_rest r) k)).2

same_ending : (e f : Ending) → step_of e ≡ step_of f → e ≡ f
same_ending ending.End ending.End h = refl
same_ending ending.End (ending.Bad g) h = absurd cc
same_ending ending.End ending.Memory h = absurd cc
same_ending (ending.Bad f) ending.End h = absurd cc
same_ending (ending.Bad f) (ending.Bad g) h = let s : f ≡ g = cc in ap ending.Bad s
same_ending (ending.Bad f) ending.Memory h = absurd cc
same_ending ending.Memory ending.End h = absurd cc
same_ending ending.Memory (ending.Bad g) h = absurd cc
same_ending ending.Memory ending.Memory h = refl

over_no_lexeme : (e : Ending) (l : Lexeme) → step_of e ≡ step.Lexeme l → ⊥
over_no_lexeme ending.End l h = cc
over_no_lexeme (ending.Bad f) l h = cc
over_no_lexeme ending.Memory l h = cc

same_lexeme : (x y : Lexeme) → step.Lexeme x ≡ step.Lexeme y → x ≡ y
same_lexeme x y h = cc

-- one document has one run
pub lexes-one : (r : Reader) (xs ys : List Lexeme) (e f : Ending) → Lexes r xs e → Lexes r ys f → (xs ≡ ys) × (e ≡ f)
lexes-one r [] [] e f h k =
    let here : due r ≡ step_of e = ap due h.1 ∙ h.2 in
    let there : due r ≡ step_of f = ap due k.1 ∙ k.2 in
    (refl, same_ending e f (sym here ∙ there))
lexes-one r [] (y ∷ ys) e f h k = absurd (over_no_lexeme e y (sym (ap due h.1 ∙ h.2) ∙ k.1.0))
lexes-one r (x ∷ xs) [] e f h k = absurd (over_no_lexeme f x (sym (ap due k.1 ∙ k.2) ∙ h.1.0))
lexes-one r (x ∷ xs) (y ∷ ys) e f h k =
    let same : x ≡ y = same_lexeme x y (sym h.1.0 ∙ k.1.0) in
    let there : Lexes (after r (step.Lexeme x)) ys f = (k.0, subst (λ (l : Lexeme). Taken (after r (step.Lexeme l)) ys k.0) (sym same) k.1.1, k.2) in
    let later = lexes-one (after r (step.Lexeme x)) xs ys e f (h.0, h.1.1, h.2) there in
    (ap (λ (l : Lexeme). l ∷ xs) same ∙ ap (λ (ls : List Lexeme). y ∷ ls) later.0, later.1)

-- a document so far
abbrev pub beginning : Limits → List ℕ → Reader
beginning limits bytes = record (document limits bytes) { ended = false }

no_need_over : (over : Ending) → step_of over ≢ step.Need
no_need_over ending.End h = cc
no_need_over (ending.Bad fault) h = cc
no_need_over ending.Memory h = cc

module _ (limits : Limits) (bytes : List ℕ) (lexemes : List Lexeme) (lexer : Reader) where
  -- a piece comes
  pub run-fed : (piece : List ℕ) (fed : Reader) → Taken (beginning limits bytes) lexemes lexer → fed ≡ record lexer { unread = lexer.unread ++ piece } → Taken (beginning limits (bytes ++ piece)) lexemes fed
  run-fed piece fed h e =
      let going : lexer.ended ≡ false = taken-ended (beginning limits bytes) lexer lexemes h in
      let same : with_rest lexer piece false ≡ fed = ap (λ t. record lexer { unread = lexer.unread ++ piece; ended = t }) (sym going) ∙ sym e in
      subst (λ (x : Reader). Taken (beginning limits (bytes ++ piece)) lexemes x) same (taken-more (beginning limits bytes) lexemes lexer piece false refl refl h)

  -- no piece comes any more
  pub run-finished : (ended : Reader) → Taken (beginning limits bytes) lexemes lexer → ended ≡ record lexer { ended = true } → Taken (document limits bytes) lexemes ended
  run-finished ended h e =
      let same : with_rest lexer [] true ≡ ended = ap (λ u. record lexer { unread = u; ended = true }) (append-nil lexer.unread) ∙ sym e in
      subst (λ (u : List ℕ). Taken (document limits u) lexemes ended) (append-nil bytes)
      (subst (λ (x : Reader). Taken (document limits (bytes ++ [])) lexemes x) same (taken-more (beginning limits bytes) lexemes lexer [] true refl refl h))

-- the lexemes that are whole are taken
pub run-drained : (r lexer new : Reader) (lexemes all : List Lexeme) → Taken r lexemes lexer → IsDrained lexer lexemes new all None → Taken r all new
run-drained r lexer new lexemes all h d = subst (λ (ls : List Lexeme). Taken r ls new) (sym d.1) (taken-append r lexer new lexemes d.0 h d.2)

-- an ending comes before the last piece
pub run-over : (limits : Limits) (bytes left : List ℕ) (lexer new : Reader) (lexemes all : List Lexeme) (over : Ending) → Taken (beginning limits bytes) lexemes lexer → IsDrained lexer lexemes new all (Some over) → Lexes (document limits (bytes ++ left)) all over
run-over limits bytes left lexer new lexemes all over h d =
    let start = beginning limits bytes in
    let rest = d.1 in
    let taken : Taken start all rest = subst (λ (ls : List Lexeme). Taken start ls rest) (sym d.2) (taken-append start lexer rest lexemes d.0 h d.3) in
    let fresh = taken-fresh start rest all taken refl in
    let going = taken-ended start rest all taken in
    let other = λ (n : due rest ≡ step.Need). no_need_over over (sym d.4 ∙ n) in
    (with_rest rest left true, taken-more start all rest left true refl refl taken, due-more rest left true fresh going other ∙ d.4)

-- an ending comes behind the last piece
pub run-ends : (r lexer new : Reader) (lexemes all : List Lexeme) (over : Ending) → Taken r lexemes lexer → IsDrained lexer lexemes new all (Some over) → Lexes r all over
run-ends r lexer new lexemes all over h d =
    (d.1, subst (λ (ls : List Lexeme). Taken r ls d.1) (sym d.2) (taken-append r lexer d.1 lexemes d.0 h d.3), d.4)

-- and one does come
pub run-no-need : (limits : Limits) (bytes : List ℕ) (lexer new : Reader) (lexemes all : List Lexeme) → Taken (document limits bytes) lexemes lexer → IsDrained lexer lexemes new all None → ⊥
run-no-need limits bytes lexer new lexemes all h d =
    let start = document limits bytes in
    let taken = run-drained start lexer new lexemes all h d in
    let ended : new.ended ≡ true = taken-ended start new all taken in
    let going : new.ended ≡ false = need-going new (taken-fresh start new all taken refl) d.3 in
    let clash = sym ended ∙ going in absurd cc

-- the pieces before a place and the piece there
pub joined-next : {X : Type 0} (f : X → List ℕ) (xs : List X) (i : ℕ) (x : X) → i < length xs → x ≡ get_or xs i x → flat_map f (take (i + 1) xs) ≡ flat_map f (take i xs) ++ f x
joined-next f xs i x h e =
    ap (λ n. flat_map f (take n xs)) (add-one i)
    ∙ (ap (flat_map f) (take-suc xs i x h ∙ ap (λ y. take i xs ++ y ∷ []) (sym e))
    ∙ (flat_map-append f (take i xs) (x ∷ []) ∙ ap (λ l. flat_map f (take i xs) ++ l) (append-nil (f x))))

-- the pieces up to a place and those behind it
pub joined-all : {X : Type 0} (f : X → List ℕ) (xs : List X) (i : ℕ) → flat_map f (take i xs) ++ flat_map f (drop i xs) ≡ flat_map f xs
joined-all f xs i = sym (flat_map-append f (take i xs) (drop i xs)) ∙ ap (flat_map f) (take-append-drop i xs)
