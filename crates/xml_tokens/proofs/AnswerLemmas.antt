-- What an answer tells of the bytes before it.
use Rattle.std.proofs.Common.{Result, Ok, Err}
use Rattle.stx_base.specs.declared.fault.XmlKind.{XmlKind}
use Rattle.std.proofs.Common.{◌≡◌, ℕ, ◌+◌, ◌-◌, ◌<◌, ◌≤◌, Bool, true, false, not, ◌&&◌, ◌==◌, nat_lt, List, Option, Some, None, length, take, refl, ap, ◌∙◌, arith, length-drop, if◌then◌else◌, ltb-false}
use Rattle.std.specs.Prelude.{unwrap_or}
use Rattle.xml_tokens.specs.Shape.{shape_len}
use Rattle.xml_tokens.specs.Judged.{judged}
use Rattle.xml_tokens.specs.Reader.{Reader, is_cut, is_last, is_open, coming, place, size, due, after, at_shape, at_rest, at_shape_or_rest, lexeme_or_fault, step_or_need, repeated_or, step_of, bad, IsAnswer, Shrinks, MayWant, fed}
use Rattle.stx_base.specs.declared.limits.Limits.{Limits}
use Rattle.stx_base.specs.declared.fault.XmlKind.TheVariants.{LexemeTooLong, Truncated, InputTooLong}
use Rattle.xml_tokens.specs.declared.lexeme.Body.{Body}
use Rattle.xml_tokens.specs.declared.lexeme.Ending.{Ending}
use Rattle.xml_tokens.specs.declared.lexeme.Ending.TheVariants as ending
use Rattle.xml_tokens.specs.declared.lexeme.Lexeme.{Lexeme}
use Rattle.xml_tokens.specs.declared.lexeme.Step.{Step}
use Rattle.xml_tokens.specs.declared.lexeme.Step.TheVariants as step
use Rattle.xml_tokens.proofs.ReaderLemmas.{length-coming, seen-within}
use Rattle.xml_tokens.proofs.WholeLemmas.{whole-within}

no_lexeme : (over : Ending) (l : Lexeme) → step.Lexeme l ≡ step_of over → ⊥
no_lexeme ending.End l e = cc
no_lexeme (ending.Bad fault) l e = cc
no_lexeme ending.Memory l e = cc

no_need : (over : Ending) → step.Need ≡ step_of over → ⊥
no_need ending.End e = cc
no_need (ending.Bad fault) e = cc
no_need ending.Memory e = cc

rest_no_lexeme : (over : Option Ending) (l : Lexeme) → step.Lexeme l ≡ step_or_need over → ⊥
rest_no_lexeme (Some over) l e = no_lexeme over l e
rest_no_lexeme None l e = cc

-- a lexeme is given where a shape is whole
shape_of : (r : Reader) (l : Lexeme) → step.Lexeme l ≡ due r → (len : ℕ) × (shape_len (is_last r) (coming r) ≡ Some len)
unfolding due
shape_of r l e = by_over r.over refl where
  by_shape : (o : Option ℕ) → shape_len (is_last r) (coming r) ≡ o → step.Lexeme l ≡ at_shape_or_rest r o → (len : ℕ) × (shape_len (is_last r) (coming r) ≡ Some len)
  by_shape (Some len) h d = (len, h)
  by_shape None h d = absurd (rest_no_lexeme (at_rest r) l d)

  by_over : (o : Option Ending) → r.over ≡ o → (len : ℕ) × (shape_len (is_last r) (coming r) ≡ Some len)
  by_over (Some over) h = absurd (no_lexeme over l (e ∙ ap (λ o. repeated_or o (at_shape_or_rest r (shape_len (is_last r) (coming r)))) h))
  by_over None h = by_shape (shape_len (is_last r) (coming r)) refl (e ∙ ap (λ o. repeated_or o (at_shape_or_rest r (shape_len (is_last r) (coming r)))) h)

-- a lexeme's bytes lie among the unread ones
size-within : (r : Reader) (l : Lexeme) → step.Lexeme l ≡ due r → (1 ≤ size r) × (size r ≤ length r.unread)
size-within r l e =
    let s = shape_of r l e in
    let w = whole-within (is_last r) (coming r) s.0 s.1 in
    let n : unwrap_or (shape_len (is_last r) (coming r)) 0 ≡ s.0 = ap (λ o. unwrap_or o 0) s.1 in
    (omega (arith, w.0, n), omega (arith, w.1, n, length-coming r, (seen-within r).0))

-- a lexeme takes bytes
pub lexeme-shrinks : (r : Reader) (l : Lexeme) → step.Lexeme l ≡ due r → length (after r (step.Lexeme l)).unread < length r.unread
unfolding after
lexeme-shrinks r l e =
    let s = size-within r l e in
    omega (arith, s.0, s.1, length-drop (size r) r.unread)

module _ (r : Reader) where
  -- why nothing comes any more, by the tests that decide it
  abbrev rest_by : (undecided long cut ended empty : Bool) → Option Ending
  rest_by undecided long cut ended empty =
      if not undecided && long then Some (bad LexemeTooLong (place r))
      else if cut then Some (bad InputTooLong r.limits.input)
      else if not ended then None
      else if empty then Some ending.End
      else Some (bad Truncated (r.offset + length r.unread))

  need_by : (undecided long cut ended empty : Bool) → step.Need ≡ step_or_need (rest_by undecided long cut ended empty) → (ended ≡ false) × (cut ≡ false)
  need_by true long true ended empty e = absurd cc
  need_by true long false false empty e = (refl, refl)
  need_by true long false true true e = absurd cc
  need_by true long false true false e = absurd cc
  need_by false true cut ended empty e = absurd cc
  need_by false false true ended empty e = absurd cc
  need_by false false false false empty e = (refl, refl)
  need_by false false false true true e = absurd cc
  need_by false false false true false e = absurd cc

  end_by_tests : (undecided long cut ended empty : Bool) → step.End ≡ step_or_need (rest_by undecided long cut ended empty) → (ended ≡ true) × (cut ≡ false)
  end_by_tests true long true ended empty e = absurd cc
  end_by_tests true long false true empty e = (refl, refl)
  end_by_tests true long false false empty e = absurd cc
  end_by_tests false true cut ended empty e = absurd cc
  end_by_tests false false true ended empty e = absurd cc
  end_by_tests false false false true empty e = (refl, refl)
  end_by_tests false false false false empty e = absurd cc

  -- a document ends only within the limit
  end-within : step.End ≡ step_or_need (at_rest r) → (r.ended ≡ true) × (is_cut r ≡ false)
  end-within e = end_by_tests (is_open r) (nat_lt r.limits.lexeme (length (coming r))) (is_cut r) r.ended (length (coming r) == 0) e

  -- more bytes are wanted only where the document may go on
  need-open : step.Need ≡ step_or_need (at_rest r) → (r.ended ≡ false) × (is_cut r ≡ false)
  need-open e = need_by (is_open r) (nat_lt r.limits.lexeme (length (coming r))) (is_cut r) r.ended (length (coming r) == 0) e

shape_no_need : (limits : Limits) (first : Bool) (bytes : List ℕ) (at : ℕ) → step.Need ≡ at_shape limits first bytes at → ⊥
shape_no_need limits first bytes at e = by_size (nat_lt limits.lexeme (length bytes)) e where
  by_body : (o : Result Body XmlKind) → step.Need ≡ lexeme_or_fault o at → ⊥
  by_body (Ok body) d = cc
  by_body (Err kind) d = cc

  by_size : (t : Bool) → step.Need ≡ (if t then step.Bad (record { kind = LexemeTooLong; offset = at }) else lexeme_or_fault (judged first bytes) at) → ⊥
  by_size true d = cc
  by_size false d = by_body (judged first bytes) d

due-need : (r : Reader) → step.Need ≡ due r → (r.ended ≡ false) × (is_cut r ≡ false)
unfolding due
due-need r e = by_over r.over e where
  by_shape : (o : Option ℕ) → step.Need ≡ at_shape_or_rest r o → (r.ended ≡ false) × (is_cut r ≡ false)
  by_shape (Some len) d = absurd (shape_no_need r.limits (r.offset == 0) (take len (coming r)) (place r) d)
  by_shape None d = need-open r d

  by_over : (o : Option Ending) → step.Need ≡ repeated_or o (at_shape_or_rest r (shape_len (is_last r) (coming r))) → (r.ended ≡ false) × (is_cut r ≡ false)
  by_over (Some over) d = absurd (no_need over d)
  by_over None d = by_shape (shape_len (is_last r) (coming r)) d

shape_no_end : (limits : Limits) (first : Bool) (bytes : List ℕ) (at : ℕ) → step.End ≡ at_shape limits first bytes at → ⊥
shape_no_end limits first bytes at e = by_size (nat_lt limits.lexeme (length bytes)) e where
  by_body : (o : Result Body XmlKind) → step.End ≡ lexeme_or_fault o at → ⊥
  by_body (Ok body) d = cc
  by_body (Err kind) d = cc

  by_size : (t : Bool) → step.End ≡ (if t then step.Bad (record { kind = LexemeTooLong; offset = at }) else lexeme_or_fault (judged first bytes) at) → ⊥
  by_size true d = cc
  by_size false d = by_body (judged first bytes) d

due-end : (r : Reader) → step.End ≡ due r → r.over ≡ None → (r.ended ≡ true) × (is_cut r ≡ false)
unfolding due
due-end r e fresh = by_shape (shape_len (is_last r) (coming r)) (e ∙ ap (λ o. repeated_or o (at_shape_or_rest r (shape_len (is_last r) (coming r)))) fresh) where
  by_shape : (o : Option ℕ) → step.End ≡ at_shape_or_rest r o → (r.ended ≡ true) × (is_cut r ≡ false)
  by_shape (Some len) d = absurd (shape_no_end r.limits (r.offset == 0) (take len (coming r)) (place r) d)
  by_shape None d = end-within r d

pub answer-shrinks : (r : Reader) (s : Step) → IsAnswer r s → Shrinks r s (after r s)
answer-shrinks r (step.Lexeme l) h = lexeme-shrinks r l h
answer-shrinks r step.Need h = tt
answer-shrinks r step.End h = tt
answer-shrinks r (step.Bad fault) h = tt
answer-shrinks r step.Memory h = tt

pub answer-MayWant : (r : Reader) (s : Step) → r.offset ≤ r.limits.input → IsAnswer r s → MayWant r s
answer-MayWant r step.Need w h =
    let e = due-need r h in
    (e.0, omega (arith, w, ltb-false (r.limits.input - r.offset) (length r.unread) e.1))
answer-MayWant r (step.Lexeme l) w h = tt
answer-MayWant r step.End w h = λ fresh.
    let e = due-end r h fresh in
    (e.0, omega (arith, w, ltb-false (r.limits.input - r.offset) (length r.unread) e.1))
answer-MayWant r (step.Bad fault) w h = tt
answer-MayWant r step.Memory w h = tt

-- no answer changes how many bytes were fed
pub answer-fed : (r : Reader) (s : Step) → IsAnswer r s → fed (after r s) ≡ fed r
unfolding after
answer-fed r (step.Lexeme l) h =
    let s = size-within r l h in
    omega (arith, s.1, length-drop (size r) r.unread)
answer-fed r step.Need h = refl
answer-fed r step.End h = refl
answer-fed r (step.Bad fault) h = refl
answer-fed r step.Memory h = refl

-- nor the limits
pub after-limits : (r : Reader) (s : Step) → (after r s).limits ≡ r.limits
unfolding after
after-limits r (step.Lexeme l) = refl
after-limits r step.Need = refl
after-limits r step.End = refl
after-limits r (step.Bad fault) = refl
after-limits r step.Memory = refl
