-- Laws of what comes next.
use Rattle.std.proofs.Common.{◌≡◌, ℕ, ◌+◌, ◌-◌, ◌<◌, ◌≤◌, Bool, true, false, not, ◌&&◌, ◌||◌, ◌==◌, nat_lt, List, [], ◌++◌, Option, Some, None, length, take, drop, refl, sym, ap, ◌∙◌, arith, ⊎_elim, cond, subst, length-drop, inl, inr}
use Rattle.std.proofs.lemmas.List.{length-take, drop-append-le, append_assoc, take-append-le, take_all, append-nil}
use Rattle.std.proofs.lemmas.Bool.{cases_Bool, cases_lt, eqb-true, eq-eqb}
use Rattle.std.proofs.lemmas.Bool.Decides.{nat_tests}
use Rattle.stx_base.specs.declared.fault.XmlKind.TheVariants.{LexemeTooLong, Truncated, InputTooLong}
use Rattle.std.specs.Prelude.{unwrap_or, IfSome}
use Rattle.stx_base.specs.declared.limits.Limits.{Limits}
use Rattle.xml_tokens.specs.Places.{begins, is_part}
use Rattle.xml_tokens.specs.Shape.{shape_len}
use Rattle.xml_tokens.specs.Reader.{Reader, bad, is_undecided_at, mark, mark_len, mark_len_of, seen, is_cut, is_last, is_open, coming, place, size, due, after, at_shape, at_rest, at_shape_or_rest, step_or_need, step_of, IsAnswer}
use Rattle.xml_tokens.specs.inside.Look.{reader, rest_ending, is_mark_open, GoesOn, begun_scan, IsDue, IsShapeDue}
use Rattle.xml_tokens.specs.inside.Resume.{Resumes, AlwaysResumes}
use Rattle.xml_tokens.specs.declared.lexeme.Ending.{Ending}
use Rattle.xml_tokens.specs.declared.lexeme.Ending.TheVariants as ending
use Rattle.xml_tokens.specs.declared.lexeme.Lexeme.{Lexeme}
use Rattle.xml_tokens.specs.declared.lexeme.Step.TheVariants as step
use Rattle.xml_tokens.specs.declared.lexer.Due.{Due}
use Rattle.xml_tokens.specs.declared.lexer.Due.TheVariants as look
use Rattle.xml_tokens.specs.declared.scan.Scan.{Scan}
use Rattle.xml_tokens.proofs.PlaceLemmas.{begins-length, begins-more, is_part-more, is_part-short}
use Rattle.xml_tokens.proofs.ScanLemmas.{no_pass}
use Rattle.std.proofs.Math.Seq.{take-append-add}

mark_within : (offset : ℕ) (bytes : List ℕ) → mark_len_of offset bytes ≤ length bytes
mark_within offset bytes =
    elim (offset == 0 && begins bytes mark) as (λ t. (offset == 0 && begins bytes mark) ≡ t → cond t 3 0 ≤ length bytes) [
      | true ↦ (λ e. begins-length bytes mark (second (offset == 0) _ e))
      | false ↦ (λ e. omega arith)
    ] refl where
      second : (s t : Bool) → (s && t) ≡ true → t ≡ true
      second true t h = h
      second false t h = absurd cc

pub length-coming : (r : Reader) → mark_len r + length (coming r) ≡ length (seen r)
length-coming r = omega (arith, length-drop (mark_len r) (seen r), mark_within r.offset (seen r))

pub seen-within : (r : Reader) → (length (seen r) ≤ length r.unread) × (length (seen r) ≤ r.limits.input - r.offset)
seen-within r = let e = length-take (r.limits.input - r.offset) r.unread in (omega (arith, e), omega (arith, e))

module _ (limits : Limits) (unread : List ℕ) (offset : ℕ) (ended : Bool) where
  pub due-shape : (len : ℕ) → shape_len (is_last (reader limits unread offset ended)) (coming (reader limits unread offset ended)) ≡ Some len →
      due (reader limits unread offset ended) ≡ at_shape limits (offset == 0) (take len (coming (reader limits unread offset ended))) (place (reader limits unread offset ended))
  unfolding due
  due-shape len h = ap (at_shape_or_rest (reader limits unread offset ended)) h

  pub due-rest : shape_len (is_last (reader limits unread offset ended)) (coming (reader limits unread offset ended)) ≡ None →
      due (reader limits unread offset ended) ≡ step_or_need (at_rest (reader limits unread offset ended))
  unfolding due
  due-rest h = ap (at_shape_or_rest (reader limits unread offset ended)) h

pub is-shape-due : (limits : Limits) (unread : List ℕ) (offset : ℕ) (ended : Bool) (len : ℕ) → let r = reader limits unread offset ended in
    shape_len (is_last r) (coming r) ≡ Some len → len ≤ length (coming r) → (d : Due) → IsShapeDue limits (offset == 0) (take len (coming r)) (place r) (mark_len r) d → IsDue r d
is-shape-due limits unread offset ended len h within (look.Lexeme body at size_) d =
    let r = reader limits unread offset ended in
    let whole : length (take len (coming r)) ≡ len = omega (arith, length-take len (coming r)) in
    let s : unwrap_or (shape_len (is_last r) (coming r)) 0 ≡ len = ap (λ o. unwrap_or o 0) h in
    (due-shape limits unread offset ended len h ∙ d.0, omega (arith, d.1, whole, s), omega (arith, d.1, whole, length-coming r))
is-shape-due limits unread offset ended len h within (look.Wait scan) d = absurd d
is-shape-due limits unread offset ended len h within (look.Over ending.End) d = due-shape limits unread offset ended len h ∙ d
is-shape-due limits unread offset ended len h within (look.Over (ending.Bad fault)) d = due-shape limits unread offset ended len h ∙ d
is-shape-due limits unread offset ended len h within (look.Over ending.Memory) d = tt

-- what stands at the end of what is seen
abbrev pub ending_at : Bool → Bool → Bool → Bool → Option Ending → Option Ending → ℕ → Option Ending
ending_at long cut ended none too_long over at = cond long too_long (cond cut over (cond (not ended) None (cond none (Some ending.End) (Some (bad Truncated at)))))

ending_same : (long cut ended none : Bool) (too_long over : Option Ending) (at at' : ℕ) → (cut ≡ false → at ≡ at') → ending_at long cut ended none too_long over at ≡ ending_at long cut ended none too_long over at'
ending_same long true ended none too_long over at at' h = refl
ending_same long false ended none too_long over at at' h = ap (ending_at long false ended none too_long over) (h refl)

uncut : (r : Reader) → is_cut r ≡ false → length r.unread ≤ r.limits.input - r.offset
uncut r h = grind (arith, nat_tests)

ends : (r : Reader) → is_cut r ≡ false → place r + length (coming r) ≡ r.offset + length r.unread
ends r h = omega (arith, uncut r h, length-coming r, length-take (r.limits.input - r.offset) r.unread)

pub rest-is : (r : Reader) → rest_ending r.limits (length (coming r)) (place r) (is_open r) (is_cut r) r.ended ≡ at_rest r
rest-is r =
    ending_same (not (is_open r) && nat_lt r.limits.lexeme (length (coming r))) (is_cut r) r.ended (length (coming r) == 0)
    (Some (bad LexemeTooLong (place r))) (Some (bad InputTooLong r.limits.input)) (place r + length (coming r)) (r.offset + length r.unread) (ends r)

over-due : (r : Reader) (over : Ending) → due r ≡ step_of over → IsDue r (look.Over over)
over-due r ending.End h = h
over-due r (ending.Bad fault) h = h
over-due r ending.Memory h = tt

pub rest-over : (limits : Limits) (unread : List ℕ) (offset : ℕ) (ended : Bool) (over : Ending) → let r = reader limits unread offset ended in
    shape_len (is_last r) (coming r) ≡ None → rest_ending limits (length (coming r)) (place r) (is_open r) (is_cut r) ended ≡ Some over → IsDue r (look.Over over)
rest-over limits unread offset ended over h e =
    let r = reader limits unread offset ended in
    over-due r over (due-rest limits unread offset ended h ∙ ap step_or_need (sym (rest-is r) ∙ e))

pub rest-need : (limits : Limits) (unread : List ℕ) (offset : ℕ) (ended : Bool) → let r = reader limits unread offset ended in
    shape_len (is_last r) (coming r) ≡ None → rest_ending limits (length (coming r)) (place r) (is_open r) (is_cut r) ended ≡ None → due r ≡ step.Need
rest-need limits unread offset ended h e =
    let r = reader limits unread offset ended in
    due-rest limits unread offset ended h ∙ ap step_or_need (sym (rest-is r) ∙ e)

-- more bytes come only where none are known to be the last
pub need-open : (long cut ended none : Bool) (too_long over : Ending) (at : ℕ) → ending_at long cut ended none (Some too_long) (Some over) at ≡ None → (long ≡ false) × (cut ≡ false) × (ended ≡ false)
need-open true cut ended none too_long over at h = absurd cc
need-open false true ended none too_long over at h = absurd cc
need-open false false false none too_long over at h = (refl, refl, refl)
need-open false false true true too_long over at h = absurd cc
need-open false false true false too_long over at h = absurd cc

-- no mark is skipped where one is undecided
pub undecided-mark_len : (r : Reader) → is_mark_open r ≡ true → (mark_len r ≡ 0) × (r.offset ≡ 0) × (is_part (seen r) mark ≡ true)
undecided-mark_len r h =
    let parts = both (r.offset == 0) (is_part (seen r) mark) h in
    let short : length (seen r) < 3 = is_part-short (seen r) mark parts.1 in
    let other : begins (seen r) mark ≡ false = no_pass _ (λ b. absurd (omega (arith, begins-length (seen r) mark b))) in
    let absent : (r.offset == 0 && begins (seen r) mark) ≡ false = rw (parts.0, other) refl in
    (ap (λ t. cond t 3 0) absent, eqb-true r.offset 0 parts.0, parts.1) where
      both : (s t : Bool) → (s && t) ≡ true → (s ≡ true) × (t ≡ true)
      both true t h = (refl, h)
      both false t h = absurd cc

pub decided_mark : (r : Reader) → is_mark_open r ≡ true → is_undecided_at (place r) (coming r) ≡ true
decided_mark r h =
    let parts = undecided-mark_len r h in
    let zero_place : r.offset + 0 ≡ 0 = omega (arith, parts.1) in
    subst (λ n. is_undecided_at (r.offset + n) (drop n (seen r)) ≡ true) (sym parts.0) (or_true _ _ (and_true _ _ (eq-eqb (r.offset + 0) 0 zero_place) parts.2)) where
      and_true : (s t : Bool) → s ≡ true → t ≡ true → (s && t) ≡ true
      and_true s t a b = rw (a, b) refl

      or_true : (s t : Bool) → t ≡ true → (s || t) ≡ true
      or_true true t h = refl
      or_true false t h = h

pub goes-on : (r : Reader) (next : Scan) → rest_ending r.limits (length (coming r)) (place r) (is_open r) (is_cut r) r.ended ≡ None → AlwaysResumes next (coming r) →
    (scan : Scan) → scan ≡ cond (is_open r) begun_scan next → GoesOn scan r
goes-on r next h always scan e =
    let parts = need-open (not (is_open r) && nat_lt r.limits.lexeme (length (coming r))) (is_cut r) r.ended (length (coming r) == 0) (bad LexemeTooLong (place r)) (bad InputTooLong r.limits.input) (place r + length (coming r)) h in
    elim (is_open r) as (λ t. is_open r ≡ t → scan ≡ cond t begun_scan next → GoesOn scan r) [
      | true ↦ (λ o s. inl s)
      | false ↦ (λ o s. inr (
        ⊎_elim (λ (m : is_mark_open r ≡ true). absurd (clash (is_last r) _ (ap (λ t. t && not (is_cut r)) parts.2) (decided_mark r m) o)) (λ (m : is_mark_open r ≡ false). m) (cases_Bool (is_mark_open r)),
        subst (λ (x : Scan). AlwaysResumes x (coming r)) (sym s) always,
      ))
    ] refl e where
      clash : (last undecided : Bool) → last ≡ false → undecided ≡ true → (not last && undecided) ≡ false → ⊥
      clash true undecided l u n = absurd cc
      clash false true l u n = absurd cc
      clash false false l u n = absurd cc

-- the unread bytes of a reader that is fed
pub seen-more : (r : Reader) (more : List ℕ) → (x : List ℕ) × (seen (record r { unread = r.unread ++ more }) ≡ seen r ++ x)
seen-more r more =
    let n = r.limits.input - r.offset in
    let u = r.unread in
    ⊎_elim (λ (short : n < length u). let some : n ≤ length u = omega arith in ([], take-append-le n u more some ∙ sym (append-nil (take n u))))
    (λ (long : length u ≤ n).
    let e : length u + (n - length u) ≡ n = omega arith in
    (take (n - length u) more, ap (λ m. take m (u ++ more)) (sym e) ∙ (take-append-add u more (n - length u) ∙ ap (λ l. l ++ take (n - length u) more) (sym (take_all n u long)))))
    (cases_lt n (length u))

abbrev three_if : Bool → ℕ
three_if t = cond t 3 0

mark_same : (offset : ℕ) (bytes more : List ℕ) → (offset == 0 && is_part bytes mark) ≡ false → mark_len_of offset (bytes ++ more) ≡ mark_len_of offset bytes
mark_same offset bytes more h =
    elim (offset == 0) as (λ t. (t && is_part bytes mark) ≡ false → three_if (t && begins (bytes ++ more) mark) ≡ three_if (t && begins bytes mark))
    [ true ↦ (λ k. ap three_if (begins-more bytes more mark k)) | false ↦ (λ k. refl) ] h

pub mark_len-more : (r : Reader) (more : List ℕ) → is_mark_open r ≡ false → mark_len (record r { unread = r.unread ++ more }) ≡ mark_len r
mark_len-more r more h = let s = seen-more r more in ap (mark_len_of r.offset) s.1 ∙ mark_same r.offset (seen r) s.0 h

pub coming-more : (r : Reader) (more : List ℕ) → is_mark_open r ≡ false → (x : List ℕ) × (coming (record r { unread = r.unread ++ more }) ≡ coming r ++ x)
coming-more r more h =
    let s = seen-more r more in
    let m : mark_len_of r.offset (seen r ++ s.0) ≡ mark_len r = mark_same r.offset (seen r) s.0 h in
    (s.0, ap (λ l. drop (mark_len_of r.offset l) l) s.1 ∙ (ap (λ n. drop n (seen r ++ s.0)) m ∙ drop-append-le (mark_len r) (seen r) s.0 (mark_within r.offset (seen r))))

pub mark-closed : (offset : ℕ) (bytes more : List ℕ) → (offset == 0 && is_part bytes mark) ≡ false → (offset == 0 && is_part (bytes ++ more) mark) ≡ false
mark-closed offset bytes more h =
    elim (offset == 0) as (λ t. (t && is_part bytes mark) ≡ false → (t && is_part (bytes ++ more) mark) ≡ false) [ true ↦ (λ k. is_part-more bytes more mark k) | false ↦ (λ k. refl) ] h

pub goes-on-more : (scan : Scan) (r : Reader) (more : List ℕ) → GoesOn scan r → GoesOn scan (record r { unread = r.unread ++ more })
goes-on-more scan r more (inl e) = inl e
goes-on-more scan r more (inr h) =
    let c = coming-more r more h.0 in
    let s = seen-more r more in
    inr (
      ap (λ l. r.offset == 0 && is_part l mark) s.1 ∙ mark-closed r.offset (seen r) s.0 h.0,
      λ later. subst (Resumes scan) (sym (append_assoc (coming r) c.0 later) ∙ ap (λ l. l ++ later) (sym c.1)) (h.1 (c.0 ++ later)),
    )

-- what stands after an answer that is repeated
pub answer-over : (r : Reader) (over : Ending) → r.over ≡ Some over → IsAnswer r (step_of over)
unfolding due
answer-over r ending.End h = rw h refl
answer-over r (ending.Bad fault) h = rw h refl
answer-over r ending.Memory h = subst (λ (o : Option Ending). IfSome o (λ e. e ≡ ending.Memory)) (sym h) refl

pub after-over : (r : Reader) (over : Ending) → after r (step_of over) ≡ record r { over = Some over }
unfolding after
after-over r ending.End = refl
after-over r (ending.Bad fault) = refl
after-over r ending.Memory = refl

pub after-again : (r : Reader) (over : Ending) → r.over ≡ Some over → r ≡ after r (step_of over)
after-again r over h = ap (λ (o : Option Ending). record r { over = o }) h ∙ sym (after-over r over)

pub after-need : (r : Reader) → after r step.Need ≡ r
unfolding after
after-need r = refl

pub after-lexeme : (r : Reader) (l : Lexeme) → after r (step.Lexeme l) ≡ record r { unread = drop (size r) r.unread; offset = r.offset + size r }
unfolding after
after-lexeme r l = refl

-- what the code has by other names
module _ (limits : Limits) (unread : List ℕ) (offset : ℕ) (ended last : Bool) (m : ℕ) (bytes : List ℕ)
    (e_last : last ≡ is_last (reader limits unread offset ended)) (e_mark : m ≡ mark_len (reader limits unread offset ended)) (e_bytes : bytes ≡ coming (reader limits unread offset ended)) where
  seen_shape : (o : Option ℕ) → shape_len last bytes ≡ o → shape_len (is_last (reader limits unread offset ended)) (coming (reader limits unread offset ended)) ≡ o
  seen_shape o h = sym (ap (λ l. shape_len l bytes) e_last ∙ ap (shape_len (is_last (reader limits unread offset ended))) e_bytes) ∙ h

  pub look-whole : (len : ℕ) (head : List ℕ) (d : Due) → len ≤ length bytes → head ≡ take len bytes → shape_len last bytes ≡ Some len → IsShapeDue limits (offset == 0) head (offset + m) m d → IsDue (reader limits unread offset ended) d
  look-whole len head d within e_head h d0 =
      let r = reader limits unread offset ended in
      is-shape-due limits unread offset ended len (seen_shape (Some len) h) (omega (arith, ap length e_bytes)) d
      (subst (λ n. IsShapeDue limits (offset == 0) (take len (coming r)) (offset + n) n d) e_mark (subst (λ b. IsShapeDue limits (offset == 0) b (offset + m) m d) (e_head ∙ ap (take len) e_bytes) d0))

  module _ (undecided : Bool) (e_open : undecided ≡ (not last && is_undecided_at (offset + m) bytes)) where
    open-is : undecided ≡ is_open (reader limits unread offset ended)
    open-is =
        let r = reader limits unread offset ended in
        e_open ∙ (ap (λ l. not l && is_undecided_at (offset + m) bytes) e_last
        ∙ (ap (λ n. not (is_last r) && is_undecided_at (offset + n) bytes) e_mark ∙ ap (λ b. not (is_last r) && is_undecided_at (place r) b) e_bytes))

    ending-is : (o : Option Ending) → o ≡ rest_ending limits (length bytes) (offset + m) undecided (is_cut (reader limits unread offset ended)) ended →
        let r = reader limits unread offset ended in rest_ending limits (length (coming r)) (place r) (is_open r) (is_cut r) ended ≡ o
    ending-is o h =
        let r = reader limits unread offset ended in
        sym (h ∙ (ap (λ b. rest_ending limits (length b) (offset + m) undecided (is_cut r) ended) e_bytes
        ∙ (ap (λ n. rest_ending limits (length (coming r)) (offset + n) undecided (is_cut r) ended) e_mark
        ∙ ap (λ u. rest_ending limits (length (coming r)) (place r) u (is_cut r) ended) open-is)))

    pub look-over : (over : Ending) → shape_len last bytes ≡ None → Some over ≡ rest_ending limits (length bytes) (offset + m) undecided (is_cut (reader limits unread offset ended)) ended → IsDue (reader limits unread offset ended) (look.Over over)
    look-over over h e = rest-over limits unread offset ended over (seen_shape None h) (ending-is (Some over) e)

    pub look-need : (next scan : Scan) → shape_len last bytes ≡ None → AlwaysResumes next bytes → None ≡ rest_ending limits (length bytes) (offset + m) undecided (is_cut (reader limits unread offset ended)) ended →
        scan ≡ cond undecided begun_scan next → (due (reader limits unread offset ended) ≡ step.Need) × GoesOn scan (reader limits unread offset ended)
    look-need next scan h always e s =
        let r = reader limits unread offset ended in
        let none = ending-is None e in (
          rest-need limits unread offset ended (seen_shape None h) none,
          goes-on r next none (subst (AlwaysResumes next) e_bytes always) scan (s ∙ ap (λ u. cond u begun_scan next) open-is),
        )

pub next-lexeme : (r : Reader) (unread rest : List ℕ) (n : ℕ) (l : Lexeme) → unread ≡ r.unread → n ≡ size (reader r.limits unread r.offset r.ended) → rest ≡ drop n r.unread →
    record r { unread = rest; offset = r.offset + n } ≡ after r (step.Lexeme l)
next-lexeme r unread rest n l e_unread e_n e_rest =
    let e : n ≡ size r = e_n ∙ ap (λ u. size (reader r.limits u r.offset r.ended)) e_unread in
    ap (λ u. record r { unread = u; offset = r.offset + n }) e_rest
    ∙ (ap (λ k. record r { unread = drop k r.unread; offset = r.offset + k }) e ∙ sym (after-lexeme r l))
