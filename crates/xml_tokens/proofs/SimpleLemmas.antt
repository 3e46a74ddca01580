-- Names of ASCII, and texts that say themselves.
use Rattle.std.proofs.Common.{◌≡◌, ℕ, zero, suc, ◌+◌, ◌<◌, ◌≤◌, Bool, true, false, ◌&&◌, ◌||◌, nat_lt, List, [], ◌∷◌, ◌++◌, Option, Some, None, length, length-append, append_assoc, take, drop, refl, sym, ap, ◌∙◌, arith, subst, cond, chars, IsUtf8}
use Rattle.std.specs.List.{list_all, list_any, prefix_len}
use Rattle.std.proofs.lemmas.Bool.Decides.{nat_tests}
use Rattle.std.proofs.lemmas.List.{take-append-drop}
use Rattle.stx_base.specs.Character.{is_char, is_name_char, is_name_start, is_space}
use Rattle.stx_base.specs.declared.limits.Limits.{Limits}
use Rattle.stx_base.specs.declared.fault.XmlKind.TheVariants.{LexemeTooLong}
use Rattle.xml_tokens.specs.Reader.{at_shape, lexeme_or_fault}
use Rattle.xml_tokens.specs.declared.lexeme.Step.TheVariants as step
use Rattle.xml_tokens.specs.Shape.{form, is_less, shape_len}
use Rattle.xml_tokens.specs.Judged.{judged}
use Rattle.xml_tokens.specs.inside.Spans.{cut_name, is_ascii_name_byte, is_plain, is_plain_byte}
use Rattle.xml_tokens.specs.Tags.{after_byte}
use Rattle.xml_tokens.specs.inside.Simple.{IsBareName, IsBefore}
use Rattle.xml_tokens.specs.declared.form.Form.TheVariants as form
use Rattle.xml_tokens.specs.declared.lexeme.Body.TheVariants as body
use Rattle.xml_tokens.proofs.AttributeLemmas.{after_byte-same, some_if}
use Rattle.xml_tokens.proofs.LexemeSpelling.{text-form}
use Rattle.xml_tokens.proofs.ListLemmas.{all-none, prefix-all, two}
use Rattle.xml_tokens.proofs.NameLemmas.{one-more}
use Rattle.xml_tokens.specs.inside.PlainTags.{is_low_char}
use Rattle.xml_tokens.proofs.PlainLemmas.{ascii-name, low-utf8, others, plain-judged}
use Rattle.xml_tokens.proofs.ShapeSpelling.{text-shape}
use Rattle.xml_tokens.proofs.TagSpelling.{name_char-char}

pub both_true : (s t : Bool) → s ≡ true → t ≡ true → (s && t) ≡ true
both_true s t x y = rw (x, y) refl

pub name-low : (name : List ℕ) → list_all is_ascii_name_byte name ≡ true → list_all is_low_char name ≡ true
name-low [] h = refl
name-low (b ∷ bs) h =
    let parts = two (is_ascii_name_byte b) (list_all is_ascii_name_byte bs) h in
    let here = two (nat_lt b 128) (is_name_char b) parts.0 in
    both_true (is_low_char b) (list_all is_low_char bs) (both_true (nat_lt b 128) (is_char b) here.0 (name_char-char b here.1)) (name-low bs parts.1)

module _ (name : List ℕ) (is : IsBareName name) where
  pub name-utf8 : IsUtf8 name
  name-utf8 = low-utf8 name (name-low name is.0)

-- a text that says itself has no `<`
text-first : (text more : List ℕ) → is_plain text ≡ true → list_any is_less text ≡ false → form (text ++ more) ≡ form.Text
text-first [] more is less = absurd cc
text-first (b ∷ bs) more is less = text-form b (bs ++ more) (none_less (is_less b) (list_any is_less bs) less) where
  none_less : (s t : Bool) → (s || t) ≡ false → s ≡ false
  none_less true t e = absurd cc
  none_less false t e = refl

pub take-front : (front more : List ℕ) → take (length front) (front ++ more) ≡ front
take-front [] more = refl
take-front (b ∷ bs) more = ap (λ l. b ∷ l) (take-front bs more)

pub before-front : (b : ℕ) (front bytes : List ℕ) → IsBefore b front bytes → (length front ≤ length bytes) × (front ≡ take (length front) bytes)
before-front b front bytes (more, e) = (
  omega (arith, ap length e, length-append front (b ∷ more)),
  sym (ap (take (length front)) e ∙ take-front front (b ∷ more)),
)

-- a name that is cut off
pub name-cut : (bytes name rest : List ℕ) → cut_name (prefix_len is_ascii_name_byte bytes) bytes ≡ Some (name, rest) → 0 < prefix_len is_ascii_name_byte bytes → IsBareName name × (bytes ≡ name ++ rest)
name-cut [] name rest h some = absurd cc
name-cut (b ∷ bs) name rest h some = by_test (is_ascii_name_byte b) refl h some where
  k : ℕ
  k = prefix_len is_ascii_name_byte bs

  starts : (n : ℕ) (t : Bool) → cond {A = Option (List ℕ × List ℕ)} t (Some (take n (b ∷ bs), drop n (b ∷ bs))) None ≡ Some (name, rest) → (t ≡ true) × (take n (b ∷ bs) ≡ name) × (drop n (b ∷ bs) ≡ rest)
  starts n true q =
      let e = some_if true (take n (b ∷ bs), drop n (b ∷ bs)) (name, rest) q in
      (refl, ap (λ (p : List ℕ × List ℕ). p.0) e, ap (λ (p : List ℕ × List ℕ). p.1) e)
  starts n false q = absurd cc

  by_test : (t : Bool) → is_ascii_name_byte b ≡ t → cut_name (cond t (1 + k) 0) (b ∷ bs) ≡ Some (name, rest) → 0 < cond t (1 + k) 0 → IsBareName name × (b ∷ bs ≡ name ++ rest)
  by_test true p q more =
      let cut = starts (suc k) (is_name_start b) (ap (λ n. cut_name n (b ∷ bs)) (sym (one-more k)) ∙ q) in
      let all : list_all is_ascii_name_byte (b ∷ take k bs) ≡ true = both_true (is_ascii_name_byte b) (list_all is_ascii_name_byte (take k bs)) p (prefix-all is_ascii_name_byte bs) in (
        subst IsBareName cut.1 (all, ascii-name b (take k bs) all ∙ cut.0),
        ap (λ l. b ∷ l) (sym (take-append-drop k bs)) ∙ (ap (λ l. (b ∷ take k bs) ++ l) cut.2 ∙ ap (λ l. l ++ rest) cut.1),
      )
  by_test false p q more = absurd (omega (arith, more))

-- a name that a `>` follows
pub before-more : (b : ℕ) (front bytes : List ℕ) → (before : IsBefore b front bytes) → bytes ≡ (front ++ b ∷ []) ++ before.0
before-more b front bytes before = before.1 ∙ sym (append_assoc front (b ∷ []) before.0)

-- a text that a `<` follows
prefix-within : (p : ℕ → Bool) (n : ℕ) (bytes : List ℕ) → list_all p (take (prefix_len p (take n bytes)) bytes) ≡ true
prefix-within p n [] = by_nil n where
  by_nil : (m : ℕ) → list_all p (take (prefix_len p (take m [])) []) ≡ true
  by_nil zero = refl
  by_nil (suc m) = refl
prefix-within p zero (b ∷ bs) = refl
prefix-within p (suc n) (b ∷ bs) = by_test (prefix-within p n bs) (p b) refl where
  by_test : list_all p (take (prefix_len p (take n bs)) bs) ≡ true → (t : Bool) → p b ≡ t → list_all p (take (cond t (1 + prefix_len p (take n bs)) 0) (b ∷ bs)) ≡ true
  by_test more true e = ap (λ m. list_all p (take m (b ∷ bs))) (one-more (prefix_len p (take n bs))) ∙ both_true (p b) (list_all p (take (prefix_len p (take n bs)) bs)) e more
  by_test more false e = refl

pub text-found : (n : ℕ) (bytes text rest more : List ℕ) → 0 < length text → text ≡ take (prefix_len is_plain_byte (take n bytes)) bytes → rest ≡ drop (prefix_len is_plain_byte (take n bytes)) bytes →
    after_byte 60 rest ≡ Some more → (is_plain text ≡ true) × IsBefore 60 text bytes
text-found n bytes text rest more some front back e =
    let len = prefix_len is_plain_byte (take n bytes) in (
      both_true (nat_lt 0 (length text)) (list_all is_plain_byte text) (positive (length text) some) (ap (list_all is_plain_byte) front ∙ prefix-within is_plain_byte n bytes),
      (more, sym (take-append-drop len bytes) ∙ (ap (λ l. l ++ drop len bytes) (sym front) ∙ ap (λ l. text ++ l) (sym back ∙ after_byte-same 60 rest more e))),
    ) where
      positive : (m : ℕ) → 0 < m → nat_lt 0 m ≡ true
      positive m h = grind (arith, nat_tests)

pub not_less : (n m : ℕ) → n ≤ m → nat_lt m n ≡ false
not_less n m h = grind (arith, nat_tests)

-- a text that says itself
module _ (text : List ℕ) (is : is_plain text ≡ true) where
  -- is a whole shape before a `<`
  pub text-whole : (bytes : List ℕ) → IsBefore 60 text bytes → (ended : Bool) → shape_len ended bytes ≡ Some (length text)
  text-whole bytes (more, e) ended =
      let less = all-none is_less text (others text is).0 in
      ap (shape_len ended) e ∙ text-shape ended (list_all is_space text) (chars text) text (60 ∷ more) less refl (text-first text (60 ∷ more) is less)

  -- and due, where it isn't too long
  pub text-due : (limits : Limits) (at : ℕ) (first : Bool) → length text ≤ limits.lexeme →
      at_shape limits first text at ≡ step.Lexeme (record { offset = at; body = body.Chars (chars text) (list_all is_space text) })
  text-due limits at first h =
      ap (λ t. cond t (step.Bad (record { kind = LexemeTooLong; offset = at })) (lexeme_or_fault (judged first text) at)) (not_less (length text) limits.lexeme h)
      ∙ ap (λ j. lexeme_or_fault j at) (plain-judged text is first)
