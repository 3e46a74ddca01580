-- The lexemes that a lexer still gives, whatever bytes follow.
use Rattle.std.proofs.Common.{◌≡◌, ◌≢◌, ℕ, zero, suc, ◌+◌, ◌<◌, Bool, true, false, cond, List, [], ◌∷◌, ◌++◌, Option, Some, None, Result, Ok, Err, length, refl, sym, ap, ◌∙◌, arith}
use Rattle.std.specs.Prelude.{not, ◌&&◌, ◌==◌, nat_lt, take}
use Rattle.stx_base.specs.declared.fault.XmlKind.{XmlKind}
use Rattle.stx_base.specs.declared.fault.XmlKind.TheVariants.{LexemeTooLong, InputTooLong}
use Rattle.xml_tokens.specs.Shape.{shape_len}
use Rattle.xml_tokens.specs.Judged.{judged}
use Rattle.xml_tokens.specs.Reader.{Reader, bad, is_cut, is_last, is_open, coming, place, due, after, at_shape_or_rest, at_rest, lexeme_or_fault, step_or_need}
use Rattle.xml_tokens.proofs.RunLemmas.{with_rest, due-fresh, due-more, after_more, after-shorter, after-fresh, after-ended}
use Rattle.xml_tokens.proofs.ReaderLemmas.{ending_at}
use Rattle.xml_tokens.specs.declared.lexeme.Body.{Body}
use Rattle.xml_tokens.specs.declared.lexeme.Ending.{Ending}
use Rattle.xml_tokens.specs.declared.lexeme.Ending.TheVariants as ending
use Rattle.xml_tokens.specs.declared.lexeme.Lexeme.{Lexeme}
use Rattle.xml_tokens.specs.declared.lexeme.Step.{Step}
use Rattle.xml_tokens.specs.declared.lexeme.Step.TheVariants as step
use Rattle.xml_events.specs.Lexed.{Lexed, answered, lexed_within, lexed_from}
use Rattle.xml_events.specs.Source.{later}

abbrev pub no_lexemes : Step → Lexed
no_lexemes s = record { lexemes = []; last = s }

-- lexemes, and then others
abbrev pub before : List Lexeme → Lexed → Lexed
before ls x = record { lexemes = ls ++ x.lexemes; last = x.last }

-- no more answers are needed than there are bytes
same_by : (n m : ℕ) (r : Reader) (s : Step) → r.over ≡ None → due r ≡ s → length r.unread < suc n → length r.unread < suc m →
    ((q : Reader) → q.over ≡ None → length q.unread < n → length q.unread < m → lexed_within n q ≡ lexed_within m q) →
    answered s (λ l. lexed_within n (after r (step.Lexeme l))) ≡ answered s (λ l. lexed_within m (after r (step.Lexeme l)))
same_by n m r (step.Lexeme l) fresh e a b again =
    let shorter = after-shorter r l fresh e in
    ap (λ x. answered (step.Lexeme l) (λ k. x)) (again (after r (step.Lexeme l)) (after-fresh r l fresh) (omega arith) (omega arith))
same_by n m r step.Need fresh e a b again = refl
same_by n m r step.End fresh e a b again = refl
same_by n m r (step.Bad fault) fresh e a b again = refl
same_by n m r step.Memory fresh e a b again = refl

pub within-same : (n m : ℕ) (r : Reader) → r.over ≡ None → length r.unread < n → length r.unread < m → lexed_within n r ≡ lexed_within m r
within-same zero m r fresh a b = absurd (omega arith)
within-same (suc n) zero r fresh a b = absurd (omega arith)
within-same (suc n) (suc m) r fresh a b = same_by n m r (due r) fresh refl a b (within-same n m)

-- one lexeme, and then what the reader still gives
pub from-lexeme : (r : Reader) (l : Lexeme) → r.over ≡ None → due r ≡ step.Lexeme l → lexed_from r ≡ before (l ∷ []) (lexed_from (after r (step.Lexeme l)))
from-lexeme r l fresh e =
    let shorter = after-shorter r l fresh e in
    let q = after r (step.Lexeme l) in
    ap (λ s. answered s (λ k. lexed_within (length r.unread) (after r (step.Lexeme k)))) e
    ∙ ap (λ x. before (l ∷ []) x) (within-same (length r.unread) (suc (length q.unread)) q (after-fresh r l fresh) shorter (omega arith))

-- an answer that is no lexeme is the last
pub from-last : (r : Reader) (s : Step) → ((l : Lexeme) → s ≢ step.Lexeme l) → due r ≡ s → lexed_from r ≡ no_lexemes s
from-last r s other e = ap (λ t. answered t (λ k. lexed_within (length r.unread) (after r (step.Lexeme k)))) e ∙ by_case s other where
  by_case : (s : Step) → ((l : Lexeme) → s ≢ step.Lexeme l) → answered s (λ k. lexed_within (length r.unread) (after r (step.Lexeme k))) ≡ no_lexemes s
  by_case (step.Lexeme l) other = absurd (other l refl)
  by_case step.Need other = refl
  by_case step.End other = refl
  by_case (step.Bad fault) other = refl
  by_case step.Memory other = refl

-- The end of a document comes only where it has ended.

no_end_judged : (o : Result Body XmlKind) (at : ℕ) → lexeme_or_fault o at ≢ step.End
no_end_judged (Err kind) at h = cc
no_end_judged (Ok body) at h = cc

no_end_shape : (long : Bool) (o : Result Body XmlKind) (at : ℕ) → cond long (step.Bad (record { kind = LexemeTooLong; offset = at })) (lexeme_or_fault o at) ≢ step.End
no_end_shape true o at h = cc
no_end_shape false o at h = no_end_judged o at h

end_so : (o : Option Ending) → step_or_need o ≡ step.End → o ≡ Some ending.End
end_so None h = absurd cc
end_so (Some ending.End) h = refl
end_so (Some (ending.Bad fault)) h = absurd cc
end_so (Some ending.Memory) h = absurd cc

end_open : (long cut ended none : Bool) (too_long over : ℕ) (k : ℕ) → ending_at long cut ended none (Some (bad LexemeTooLong too_long)) (Some (bad InputTooLong over)) k ≡ Some ending.End → ended ≡ true
end_open true cut ended none a b k h = absurd cc
end_open false true ended none a b k h = absurd cc
end_open false false true none a b k h = refl
end_open false false false none a b k h = absurd cc

pub end-ended : (r : Reader) → r.over ≡ None → due r ≡ step.End → r.ended ≡ true
end-ended r fresh h = by_shape (shape_len (is_last r) (coming r)) (sym (due-fresh r fresh) ∙ h) where
  by_shape : (o : Option ℕ) → at_shape_or_rest r o ≡ step.End → r.ended ≡ true
  by_shape (Some len) k = absurd (no_end_shape (nat_lt r.limits.lexeme (length (take len (coming r)))) (judged (r.offset == 0) (take len (coming r))) (place r) k)
  by_shape None k =
      end_open (not (is_open r) && nat_lt r.limits.lexeme (length (coming r))) (is_cut r) r.ended (length (coming r) == 0)
      (place r) r.limits.input (r.offset + length r.unread) (end_so (at_rest r) k)

module _ (r : Reader) (more : List ℕ) (ended : Bool) (fresh : r.over ≡ None) where
  pub later-fresh : (later r more ended).over ≡ None
  later-fresh = by_ended r.ended refl where
    by_ended : (t : Bool) → r.ended ≡ t → (later r more ended).over ≡ None
    by_ended true e = rw e fresh
    by_ended false e = rw e fresh

  -- an answer other than `Need` stays
  pub later-due : due r ≢ step.Need → due (later r more ended) ≡ due r
  later-due other = by_ended r.ended refl where
    by_ended : (t : Bool) → r.ended ≡ t → due (later r more ended) ≡ due r
    by_ended true e = ap (λ b. due (cond b r (with_rest r more ended))) e
    by_ended false e = ap (λ b. due (cond b r (with_rest r more ended))) e ∙ due-more r more ended fresh e other

  -- and so does what stands behind a lexeme
  pub later-after : (l : Lexeme) → due r ≡ step.Lexeme l → after (later r more ended) (step.Lexeme l) ≡ later (after r (step.Lexeme l)) more ended
  later-after l d = by_ended r.ended refl where
    q : Reader
    q = after r (step.Lexeme l)

    by_ended : (t : Bool) → r.ended ≡ t → after (later r more ended) (step.Lexeme l) ≡ later q more ended
    by_ended true e =
        ap (λ b. after (cond b r (with_rest r more ended)) (step.Lexeme l)) e
        ∙ sym (ap (λ b. cond b q (with_rest q more ended)) (after-ended r l ∙ e))
    by_ended false e =
        ap (λ b. after (cond b r (with_rest r more ended)) (step.Lexeme l)) e
        ∙ after_more r more ended l fresh e d
        ∙ sym (ap (λ b. cond b q (with_rest q more ended)) (after-ended r l ∙ e))

  no_need : (l : Lexeme) → due r ≡ step.Lexeme l → due r ≢ step.Need
  no_need l d n = let e = sym d ∙ n in cc

pub after-end : (r : Reader) → after r step.End ≡ record r { over = Some ending.End }
unfolding after
after-end r = refl
