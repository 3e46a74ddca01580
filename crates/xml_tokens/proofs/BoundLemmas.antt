-- How many bytes wait where more are wanted.
use Rattle.std.proofs.Common.{Result, Ok, Err}
use Rattle.stx_base.specs.declared.fault.XmlKind.{XmlKind}
use Rattle.std.proofs.Common.{◌≡◌, ◌⊎◌, ℕ, ◌+◌, ◌-◌, ◌<◌, ◌≤◌, Bool, true, false, not, ◌&&◌, ◌||◌, ◌==◌, nat_lt, List, Option, Some, None, length, take, refl, sym, ◌∙◌, arith, ⊎_elim, inl, inr, cond, ltb-false}
use Rattle.std.proofs.lemmas.List.{length-take}
use Rattle.std.specs.Prelude.{codes}
use Rattle.stx_base.specs.declared.limits.Limits.{Limits}
use Rattle.stx_base.specs.declared.fault.XmlFault.{XmlFault}
use Rattle.stx_base.specs.declared.fault.XmlKind.TheVariants.{LexemeTooLong, InputTooLong}
use Rattle.xml_tokens.specs.Places.{begins, is_part}
use Rattle.xml_tokens.specs.Shape.{form, shape_len}
use Rattle.xml_tokens.specs.Judged.{judged}
use Rattle.xml_tokens.specs.Reader.{Reader, mark, mark_len, seen, is_cut, is_last, is_open, is_undecided, coming, place, at_shape, at_shape_or_rest, lexeme_or_fault, step_or_need}
use Rattle.xml_tokens.specs.Run.{FewUnread}
use Rattle.xml_tokens.specs.declared.lexeme.Body.{Body}
use Rattle.xml_tokens.specs.declared.lexeme.Ending.TheVariants as ending
use Rattle.xml_tokens.specs.declared.lexeme.Step.TheVariants as step
use Rattle.xml_tokens.proofs.PlaceLemmas.{is_part-short}
use Rattle.xml_tokens.proofs.FormLemmas.{chosen}
use Rattle.xml_tokens.proofs.ReaderLemmas.{length-coming, ending_at}
use Rattle.xml_tokens.proofs.RunLemmas.{due-fresh}

undecided_of : (u c d i m t : Bool) → is_undecided (chosen u c d i m t) ≡ true → u ≡ true
undecided_of true c d i m t h = refl
undecided_of false true d i m t h = absurd cc
undecided_of false false true i m t h = absurd cc
undecided_of false false false true m t h = absurd cc
undecided_of false false false false true t h = absurd cc
undecided_of false false false false false true h = absurd cc
undecided_of false false false false false false h = absurd cc

either : (a b : Bool) → (a || b) ≡ true → (a ≡ true) ⊎ (b ≡ true)
either true b h = inl refl
either false b h = inr h

second : (a b : Bool) → (a && b) ≡ true → b ≡ true
second true b h = h
second false b h = absurd cc

-- what isn't decided is short
undecided-short : (bytes : List ℕ) → is_undecided (form bytes) ≡ true → length bytes ≤ 8
undecided-short bytes h =
    ⊎_elim (λ (c : is_part bytes (codes "<!--") ≡ true). let few : length bytes < 4 = is_part-short bytes (codes "<!--") c in let goal : length bytes ≤ 8 = omega arith in goal)
    (λ (d : is_part bytes (codes "<![CDATA[") ≡ true). let few : length bytes < 9 = is_part-short bytes (codes "<![CDATA[") d in let goal : length bytes ≤ 8 = omega arith in goal)
    (either (is_part bytes (codes "<!--")) (is_part bytes (codes "<![CDATA[")) (undecided_of _ _ _ _ _ _ h))

open-short : (r : Reader) → is_open r ≡ true → length (coming r) ≤ 8
open-short r h =
    ⊎_elim (λ (u : is_undecided (form (coming r)) ≡ true). undecided-short (coming r) u)
    (λ (m : (place r == 0 && is_part (coming r) mark) ≡ true).
    let few : length (coming r) < 3 = is_part-short (coming r) mark (second (place r == 0) (is_part (coming r) mark) m) in let goal : length (coming r) ≤ 8 = omega arith in goal)
    (either (is_undecided (form (coming r))) (place r == 0 && is_part (coming r) mark) (second (not (is_last r)) _ h))

mark-short : (r : Reader) → mark_len r ≤ 3
mark-short r = elim (r.offset == 0 && begins (seen r) mark) as (λ t. cond t 3 0 ≤ 3) [ true ↦ omega arith | false ↦ omega arith ]

need_by : (undecided long cut ended none : Bool) (too_long over : XmlFault) (at : ℕ) → step_or_need (ending_at (not undecided && long) cut ended none (Some (ending.Bad too_long)) (Some (ending.Bad over)) at) ≡ step.Need → ((undecided ≡ true) ⊎ (long ≡ false)) × (cut ≡ false)
need_by true long true ended none too_long over at h = absurd cc
need_by true long false ended none too_long over at h = (inl refl, refl)
need_by false true cut ended none too_long over at h = absurd cc
need_by false false true ended none too_long over at h = absurd cc
need_by false false false ended none too_long over at h = (inr refl, refl)

shape_no_need : (limits : Limits) (first : Bool) (bytes : List ℕ) (at : ℕ) → at_shape limits first bytes at ≡ step.Need → ⊥
shape_no_need limits first bytes at e = by_size (nat_lt limits.lexeme (length bytes)) e where
  by_body : (o : Result Body XmlKind) → lexeme_or_fault o at ≡ step.Need → ⊥
  by_body (Ok body) d = cc
  by_body (Err kind) d = cc

  by_size : (t : Bool) → cond t (step.Bad (record { kind = LexemeTooLong; offset = at })) (lexeme_or_fault (judged first bytes) at) ≡ step.Need → ⊥
  by_size true d = cc
  by_size false d = by_body (judged first bytes) d

pub few-unread : FewUnread
few-unread r fresh h = by_shape (shape_len (is_last r) (coming r)) (sym (due-fresh r fresh) ∙ h) where
  by_coming : length (coming r) ≤ r.limits.lexeme + 8 → is_cut r ≡ false → length r.unread ≤ r.limits.lexeme + 11
  by_coming few cut =
      omega (arith, few, mark-short r, length-coming r, length-take (r.limits.input - r.offset) r.unread, ltb-false (r.limits.input - r.offset) (length r.unread) cut)

  by_shape : (o : Option ℕ) → at_shape_or_rest r o ≡ step.Need → length r.unread ≤ r.limits.lexeme + 11
  by_shape (Some len) k = absurd (shape_no_need r.limits (r.offset == 0) (take len (coming r)) (place r) k)
  by_shape None k =
      let n = need_by (is_open r) (nat_lt r.limits.lexeme (length (coming r))) (is_cut r) r.ended (length (coming r) == 0)
      (record { kind = LexemeTooLong; offset = place r }) (record { kind = InputTooLong; offset = r.limits.input }) (r.offset + length r.unread) k in
      ⊎_elim (λ (o : is_open r ≡ true). by_coming (omega (arith, open-short r o)) n.1)
      (λ (l : nat_lt r.limits.lexeme (length (coming r)) ≡ false). by_coming (omega (arith, ltb-false r.limits.lexeme (length (coming r)) l)) n.1) n.0
