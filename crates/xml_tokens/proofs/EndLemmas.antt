-- The end tag of a Name is a whole shape, and due where the unread bytes begin with it.
use Rattle.std.proofs.Common.{◌≡◌, ℕ, ◌+◌, ◌-◌, ◌<◌, ◌≤◌, Bool, true, false, ◌&&◌, ◌==◌, List, [], ◌∷◌, ◌++◌, Option, Some, None, Ok, length, length-append, take, drop, refl, sym, ap, ◌∙◌, arith, cond, chars, subst, IsUtf8}
use Rattle.std.specs.Prelude.{is_some, IfSome}
use Rattle.std.specs.List.{list_all}
use Rattle.std.proofs.lemmas.List.{append-nil}
use Rattle.std.proofs.lemmas.List.Folds.{list_all-append}
use Rattle.std.proofs.lemmas.Str.{chars-append, encodes-chars, IsUtf8-append}
use Rattle.std.proofs.Math.Seq.{take-append-add}
use Rattle.stx_base.specs.Character.{is_char, is_name}
use Rattle.stx_base.specs.declared.fault.XmlKind.TheVariants.{LexemeTooLong}
use Rattle.stx_base.specs.declared.limits.Limits.{Limits}
use Rattle.xml_tokens.specs.Judged.{judged}
use Rattle.xml_tokens.specs.inside.Look.{reader, passed, IsDue, TakesEnd}
use Rattle.xml_tokens.specs.Places.{begins}
use Rattle.xml_tokens.specs.Reader.{Reader, at_shape, coming, due, end_at, fed, is_last, lexeme_or_fault, mark, mark_len, mark_len_of, seen}
use Rattle.xml_tokens.specs.Shape.{shape_len}
use Rattle.xml_tokens.specs.inside.Simple.{end_of}
use Rattle.xml_tokens.specs.Spelling.{Spells}
use Rattle.xml_tokens.specs.declared.lexeme.Body.TheVariants as body
use Rattle.xml_tokens.specs.declared.lexeme.Ending.{Ending}
use Rattle.xml_tokens.specs.declared.lexeme.Step.TheVariants as step
use Rattle.xml_tokens.specs.declared.lexer.Due.TheVariants as look
use Rattle.xml_tokens.proofs.AnswerLemmas.{after-limits, answer-fed, lexeme-shrinks}
use Rattle.xml_tokens.proofs.LexemeSpelling.{lexemes-read}
use Rattle.xml_tokens.proofs.PlainLemmas.{low-chars, low-utf8}
use Rattle.xml_tokens.proofs.ReaderLemmas.{after-lexeme, look-whole, next-lexeme}
use Rattle.xml_tokens.proofs.ShapeSpelling.{lexemes-cut}
use Rattle.xml_tokens.proofs.SimpleLemmas.{not_less}
use Rattle.xml_tokens.proofs.TagSpelling.{name-chars}

both_true : (s t : Bool) → s ≡ true → t ≡ true → (s && t) ≡ true
both_true s t x y = rw (x, y) refl

take-front : (front more : List ℕ) (n : ℕ) → length front ≤ n → take n (front ++ more) ≡ front ++ take (n - length front) more
take-front front more n within =
    let e : length front + (n - length front) ≡ n = omega (arith, within) in
    ap (λ m. take m (front ++ more)) (sym e) ∙ take-append-add front more (n - length front)

front-again : (front more : List ℕ) → front ≡ take (length front) (front ++ more)
front-again front more =
    let e : length front - length front ≡ 0 = omega arith in
    sym (take-front front more (length front) (omega arith) ∙ (ap (λ n. front ++ take n more) e ∙ append-nil front))

-- no mark begins so
no-mark : (offset : ℕ) (bytes : List ℕ) → mark_len_of offset (60 ∷ bytes) ≡ 0
no-mark offset bytes = by_test (offset == 0) where
  by_test : (t : Bool) → cond {A = ℕ} (t && begins (60 ∷ bytes) mark) 3 0 ≡ 0
  by_test true = refl
  by_test false = refl

module _ (name : List ℕ) (utf8 : IsUtf8 name) (is : is_name (chars name) ≡ true) where
  spells : (first : Bool) → Spells first (body.End (chars name)) (end_of name)
  spells first = (47 ∷ name, ([], is, refl, ap (λ l. 47 ∷ l) (sym (append-nil _ ∙ encodes-chars name utf8))), refl)

  closed_utf8 : IsUtf8 (name ++ 62 ∷ [])
  closed_utf8 = IsUtf8-append name (62 ∷ []) utf8 (low-utf8 (62 ∷ []) refl)

  end-utf8 : IsUtf8 (end_of name)
  end-utf8 = IsUtf8-append (60 ∷ 47 ∷ []) (name ++ 62 ∷ []) (low-utf8 (60 ∷ 47 ∷ []) refl) closed_utf8

  closed_chars : list_all is_char (chars (name ++ 62 ∷ [])) ≡ true
  closed_chars =
      ap (list_all is_char) (chars-append name (62 ∷ []) utf8)
      ∙ (list_all-append is_char (chars name) (chars (62 ∷ []))
      ∙ both_true (list_all is_char (chars name)) (list_all is_char (chars (62 ∷ []))) (name-chars (chars name) is) (low-chars (62 ∷ []) refl))

  end-chars : list_all is_char (chars (end_of name)) ≡ true
  end-chars =
      ap (list_all is_char) (chars-append (60 ∷ 47 ∷ []) (name ++ 62 ∷ []) (low-utf8 (60 ∷ 47 ∷ []) refl))
      ∙ (list_all-append is_char (chars (60 ∷ 47 ∷ [])) (chars (name ++ 62 ∷ []))
      ∙ both_true (list_all is_char (chars (60 ∷ 47 ∷ []))) (list_all is_char (chars (name ++ 62 ∷ []))) (low-chars (60 ∷ 47 ∷ []) refl) closed_chars)

  end-judged : (first : Bool) → judged first (end_of name) ≡ Ok (body.End (chars name))
  end-judged first = lexemes-read first (body.End (chars name)) (end_of name) end-utf8 end-chars (spells first)

  end-shape : (ended : Bool) (more : List ℕ) → shape_len ended (end_of name ++ more) ≡ Some (length (end_of name))
  end-shape ended more = lexemes-cut false ended (body.End (chars name)) (end_of name) more (spells false) tt

  module _ (limits : Limits) (unread more : List ℕ) (offset : ℕ) (ended : Bool) (e : unread ≡ end_of name ++ more)
      (input : length (end_of name) ≤ limits.input - offset) (lexeme : length (end_of name) ≤ limits.lexeme) where
    abbrev others : List ℕ
    others = take (limits.input - offset - length (end_of name)) more

    seen-is : seen (reader limits unread offset ended) ≡ end_of name ++ others
    seen-is = ap (take (limits.input - offset)) e ∙ take-front (end_of name) more (limits.input - offset) input

    mark-is : mark_len (reader limits unread offset ended) ≡ 0
    mark-is = ap (mark_len_of offset) seen-is ∙ no-mark offset (47 ∷ ((name ++ 62 ∷ []) ++ others))

    coming-is : end_of name ++ others ≡ coming (reader limits unread offset ended)
    coming-is = sym seen-is ∙ ap (λ n. drop n (seen (reader limits unread offset ended))) (sym mark-is)

    shape-due : at_shape limits (offset == 0) (end_of name) offset ≡ end_at offset (chars name)
    shape-due =
        ap (λ t. cond t (step.Bad (record { kind = LexemeTooLong; offset = offset })) (lexeme_or_fault (judged (offset == 0) (end_of name)) offset)) (not_less (length (end_of name)) limits.lexeme lexeme)
        ∙ ap (λ j. lexeme_or_fault j offset) (end-judged (offset == 0))

    zero-more : offset + 0 ≡ offset
    zero-more = omega arith

    end-due : IsDue (reader limits unread offset ended) (look.Lexeme (body.End (chars name)) offset (length (end_of name)))
    end-due =
        look-whole limits unread offset ended (is_last (reader limits unread offset ended)) 0 (end_of name ++ others) refl (sym mark-is) coming-is
        (length (end_of name)) (end_of name) (look.Lexeme (body.End (chars name)) offset (length (end_of name)))
        (omega (arith, length-append (end_of name) others)) (front-again (end_of name) others) (end-shape (is_last (reader limits unread offset ended)) others)
        (ap (λ n. at_shape limits (offset == 0) (end_of name) n) zero-more ∙ shape-due, omega arith)

pub not-some : (o : Option Ending) → false ≡ is_some o → o ≡ None
not-some None h = refl
not-some (Some over) h = absurd cc

-- the end tag is taken where it is due
pub end-taken : (r : Reader) (name more : List ℕ) (offset n : ℕ) → IsUtf8 name → is_name (chars name) ≡ true → r.over ≡ None → r.unread ≡ end_of name ++ more → offset ≡ r.offset →
    n ≡ length (end_of name) → n ≤ r.limits.input - r.offset → n ≤ r.limits.lexeme → TakesEnd r offset (chars name) (passed n r)
end-taken r name more offset n utf8 is fresh e at whole input lexeme =
    let d = end-due name utf8 is r.limits r.unread more r.offset r.ended e (omega (arith, whole, input)) (omega (arith, whole, lexeme)) in
    let q : reader r.limits r.unread r.offset r.ended ≡ r = ap (λ o. record r { over = o }) (sym fresh) in (
      ap (λ k. end_at k (chars name)) at ∙ sym (ap due (sym q) ∙ d.0),
      next-lexeme r r.unread (drop n r.unread) n _ refl (whole ∙ d.1) refl,
    )

-- where it is taken or not, as much was fed, and the limits stand
pub end-kept : (old new : Reader) (name : List ℕ) (o : Option ℕ) → IfSome o (λ offset. TakesEnd old offset (chars name) new) → (o ≡ None → new ≡ old) →
    (new.ended ≡ old.ended) × (fed new ≡ fed old) × (new.limits ≡ old.limits)
end-kept old new name None taken none =
    let e = none refl in
    (ap (λ (r : Reader). r.ended) e, ap fed e, ap (λ (r : Reader). r.limits) e)
end-kept old new name (Some offset) taken none =
    let s = end_at offset (chars name) in (
      ap (λ (r : Reader). r.ended) (taken.1 ∙ after-lexeme old _),
      ap fed taken.1 ∙ answer-fed old s taken.0,
      ap (λ (r : Reader). r.limits) taken.1 ∙ after-limits old s,
    )

pub end-shrinks : (old new : Reader) (name : List ℕ) (o : Option ℕ) → IfSome o (λ offset. TakesEnd old offset (chars name) new) → IfSome o (λ offset. length new.unread < length old.unread)
end-shrinks old new name None taken = tt
end-shrinks old new name (Some offset) taken = subst (λ (r : Reader). length r.unread < length old.unread) (sym taken.1) (lexeme-shrinks old _ taken.0)
