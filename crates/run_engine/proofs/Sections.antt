-- The text of a CDATA section may be one: its shape ends at the first `]]>`.
use Rattle.std.proofs.Common.{◌≡◌, ◌≢◌, ℕ, ◌+◌, ◌<◌, ◌≤◌, Bool, true, false, not, ◌&&◌, ◌==◌, List, [], ◌∷◌, ◌++◌, Option, Some, None, Result, Ok, Err, length, take, drop, refl, sym, ap, ◌∙◌, arith, cond, subst}
use Rattle.std.specs.Prelude.{bytes_eq, codes, is_some, nat_lt}
use Rattle.std.specs.List.{list_all}
use Rattle.std.proofs.lemmas.Bool.{and_from, and_parts, eqb-true, ne_eqb, or_from}
use Rattle.std.proofs.lemmas.Str.{encode_ascii}
use Rattle.stx_base.specs.Character.{has_cdata_end, is_cdata_text, is_char, is_char_of_cdata}
use Rattle.stx_base.specs.declared.fault.XmlKind.{XmlKind}
use Rattle.stx_base.specs.declared.fault.XmlKind.TheVariants.{LexemeTooLong}
use Rattle.stx_base.specs.declared.limits.Limits.{Limits}
use Rattle.xml_tokens.specs.Places.{begins, first_word}
use Rattle.xml_tokens.specs.Shape.{behind, form, shape_len}
use Rattle.xml_tokens.specs.Cuts.{Cuts, IsWhole, SomeCut}
use Rattle.xml_tokens.specs.Judged.{holds, judged}
use Rattle.xml_tokens.specs.Reader.{coming, is_last, lexeme_or_fault, place}
use Rattle.xml_tokens.specs.Spelling.{LexemesAreSpelled, SpellsLines, SpellsLiteral, itself, return, return_and_feed}
use Rattle.xml_tokens.specs.declared.form.Form.TheVariants as form
use Rattle.xml_tokens.specs.declared.lexeme.Body.{Body}
use Rattle.xml_tokens.specs.declared.lexeme.Body.TheVariants as body
use Rattle.xml_tokens.specs.declared.lexeme.Step.{Step}
use Rattle.xml_tokens.specs.declared.lexeme.Step.TheVariants as step
use Rattle.xml_events.specs.Lexed.{Lexed, answered, unread}
use Rattle.xml_events.specs.Shapes.{LexemesAreShapes, ends_at, said_by}
use Rattle.run_engine.specs.Fitting.{HasSection, HaveSections, SectionsHold}
use Rattle.run_engine.proofs.SectionForms.{section-form}

abbrev opener : List ℕ
opener = codes "<![CDATA["

abbrev closer : List ℕ
closer = codes "]]>"

-- Words

begins-is : (bytes word : List ℕ) → begins bytes word ≡ true → bytes ≡ word ++ drop (length word) bytes
begins-is bytes [] h = refl
begins-is [] (w ∷ ws) h = absurd cc
begins-is (b ∷ bs) (w ∷ ws) h =
    let parts = and_parts (b == w) (begins bs ws) h in
    ap (λ x. x ∷ bs) (eqb-true b w parts.0) ∙ ap (λ l. w ∷ l) (begins-is bs ws parts.1)

begins-longer : (bytes more word : List ℕ) → length word ≤ length bytes → begins (bytes ++ more) word ≡ begins bytes word
begins-longer bytes more [] h = refl
begins-longer [] more (w ∷ ws) h = absurd (omega arith)
begins-longer (b ∷ bs) more (w ∷ ws) h = ap (λ t. (b == w) && t) (begins-longer bs more ws (omega arith))

not_before : (word : List ℕ) (at : ℕ) (bytes : List ℕ) (n : ℕ) → first_word word at bytes ≡ Some n → at ≤ n
not_before word at [] n h = absurd cc
not_before word at (b ∷ bs) n h = by_test (λ k. not_before word (at + 1) bs n k) (begins (b ∷ bs) word) h where
  by_test : (first_word word (at + 1) bs ≡ Some n → at + 1 ≤ n) → (t : Bool) → cond t (Some at) (first_word word (at + 1) bs) ≡ Some n → at ≤ n
  by_test again true k = let e : at ≡ n = cc in omega arith
  by_test again false k = omega (arith, again k)

-- a word that ends among the first bytes is found there
word-fewer : (word : List ℕ) (at : ℕ) (bytes more : List ℕ) (n : ℕ) → 0 < length word → n + length word ≤ at + length bytes → first_word word at (bytes ++ more) ≡ Some n → first_word word at bytes ≡ Some n
word-fewer word at [] more n some within h = absurd (omega (arith, not_before word at more n h))
word-fewer word at (b ∷ bs) more n some within h =
    by_test (λ k. word-fewer word (at + 1) bs more n some (omega arith) k) (begins ((b ∷ bs) ++ more) word) refl h where
      by_test : (first_word word (at + 1) (bs ++ more) ≡ Some n → first_word word (at + 1) bs ≡ Some n) → (t : Bool) → begins ((b ∷ bs) ++ more) word ≡ t
          → cond t (Some at) (first_word word (at + 1) (bs ++ more)) ≡ Some n → first_word word at (b ∷ bs) ≡ Some n
      by_test again true e k =
          let is : at ≡ n = cc in
          let here : begins (b ∷ bs) word ≡ true = sym (begins-longer (b ∷ bs) more word (omega arith)) ∙ e in
          ap (λ t. cond t (Some at) (first_word word (at + 1) bs)) here ∙ k
      by_test again false e k =
          let here : begins (b ∷ bs) word ≡ false = sym (begins-longer (b ∷ bs) more word (omega (arith, not_before word (at + 1) (bs ++ more) n k))) ∙ e in
          ap (λ t. cond t (Some at) (first_word word (at + 1) bs)) here ∙ again k

none_of : (t : Bool) (at : ℕ) (o : Option ℕ) → is_some (cond t (Some at) o) ≡ false → (t ≡ false) × (is_some o ≡ false)
none_of true at o h = absurd cc
none_of false at o h = (refl, h)

none_from : (t : Bool) (at : ℕ) (o : Option ℕ) → t ≡ false → is_some o ≡ false → is_some (cond t (Some at) o) ≡ false
none_from true at o h k = absurd cc
none_from false at o h k = k

-- a word that doesn't stand in bytes doesn't stand in their end
later-none : (word front bytes : List ℕ) (at from : ℕ) → is_some (first_word word at (front ++ bytes)) ≡ false → is_some (first_word word from bytes) ≡ false
later-none word [] bytes at from h = shifted bytes at from h where
  shifted : (bytes : List ℕ) (at from : ℕ) → is_some (first_word word at bytes) ≡ false → is_some (first_word word from bytes) ≡ false
  shifted [] at from k = refl
  shifted (b ∷ bs) at from k =
      let parts = none_of (begins (b ∷ bs) word) at (first_word word (at + 1) bs) k in
      none_from (begins (b ∷ bs) word) from (first_word word (from + 1) bs) parts.0 (shifted bs (at + 1) (from + 1) parts.1)
later-none word (b ∷ front) bytes at from h =
    later-none word front bytes (at + 1) from (none_of (begins (b ∷ (front ++ bytes)) word) at (first_word word (at + 1) (front ++ bytes)) h).1

-- nor at their beginning
begins-none : (word bytes : List ℕ) → 0 < length word → holds word bytes ≡ false → begins bytes word ≡ false
begins-none [] bytes some h = absurd (omega arith)
begins-none (w ∷ ws) [] some h = refl
begins-none (w ∷ ws) (b ∷ bs) some h = (none_of (begins (b ∷ bs) (w ∷ ws)) 0 (first_word (w ∷ ws) 1 bs) h).0

-- What lines say

-- ASCII other than a line feed
abbrev IsPlain : List ℕ → Type 0
IsPlain [] = Unit {0}
IsPlain (w ∷ ws) = (w < 128) × (w ≢ 10) × IsPlain ws

plain-front : (c : ℕ) (front more : List ℕ) → SpellsLiteral c front more → c < 128 → c ≢ 10 → front ≡ c ∷ []
plain-front _ _ _ (itself c more char ne) low feed = encode_ascii c low
plain-front _ _ _ (return_and_feed more) low feed = absurd (feed refl)
plain-front _ _ _ (return more other) low feed = absurd (feed refl)

-- where the text begins with such a word, its bytes do
begins-said : (word text bytes : List ℕ) → IsPlain word → SpellsLines text bytes → begins text word ≡ true → begins bytes word ≡ true
begins-said [] text bytes p s h = refl
begins-said (w ∷ ws) [] bytes p s h = absurd cc
begins-said (w ∷ ws) (c ∷ cs) bytes p s h =
    let parts = and_parts (c == w) (begins cs ws) h in
    let is : c ≡ w = eqb-true c w parts.0 in
    let front : s.0 ≡ c ∷ [] = plain-front c s.0 s.1 s.2 (subst (λ x. x < 128) (sym is) p.0) (λ e. p.1 (sym is ∙ e)) in
    ap (λ l. begins l (w ∷ ws)) (s.3 ∙ ap (λ l. l ++ s.1) front) ∙ and_from (c == w) (begins s.1 ws) parts.0 (begins-said ws cs s.1 p.2 s.4 parts.1)

same-test : (text : List ℕ) → bytes_eq (take 3 text) closer ≡ begins text closer
same-test [] = refl
same-test (c ∷ []) = refl
same-test (c ∷ d ∷ []) = refl
same-test (c ∷ d ∷ e ∷ es) = refl

-- a text of lines without the mark doesn't hold it
said-none : (text bytes : List ℕ) → SpellsLines text bytes → holds closer bytes ≡ false → has_cdata_end text ≡ false
said-none [] bytes s h = refl
said-none (c ∷ cs) bytes s h =
    or_from (bytes_eq (take 3 (c ∷ cs)) closer) (has_cdata_end cs)
    (same-test (c ∷ cs) ∙ by_test (begins (c ∷ cs) closer) refl)
    (said-none cs s.1 s.4 (later-none closer s.0 s.1 0 0 (ap (holds closer) (sym s.3) ∙ h))) where
      plain : IsPlain closer
      plain = (omega arith, (λ e. omega (arith, e)), (omega arith, (λ e. omega (arith, e)), (omega arith, (λ e. omega (arith, e)), tt)))

      by_test : (t : Bool) → begins (c ∷ cs) closer ≡ t → begins (c ∷ cs) closer ≡ false
      by_test false e = e
      by_test true e =
          let clash : false ≡ true = sym (begins-none closer bytes (omega arith) h) ∙ begins-said closer (c ∷ cs) bytes plain s e in
          absurd cc

characters : (text bytes : List ℕ) → SpellsLines text bytes → list_all is_char_of_cdata text ≡ true
characters [] bytes h = refl
characters (c ∷ cs) bytes h = and_from (is_char_of_cdata c) (list_all is_char_of_cdata cs) (one c h.0 h.1 h.2) (characters cs h.1 h.4) where
  one : (c : ℕ) (front more : List ℕ) → SpellsLiteral c front more → is_char_of_cdata c ≡ true
  one _ _ _ (itself c more char ne) = and_from (is_char c) (not (c == 13)) char (ap not (ne_eqb c 13 ne))
  one _ _ _ (return_and_feed more) = refl
  one _ _ _ (return more other) = refl

-- Shapes

begins-so : (bytes : List ℕ) → form bytes ≡ form.CData → begins bytes opener ≡ true
begins-so bytes h = chosen _ _ _ _ _ _ h where
  chosen : (u c d i m t : Bool) → cond u form.Undecided (cond c form.Comment (cond d form.CData (cond i form.Instruction (cond m form.Declaration (cond t form.Tag form.Text))))) ≡ form.CData → d ≡ true
  chosen true c d i m t h = absurd cc
  chosen false true d i m t h = absurd cc
  chosen false false true i m t h = refl
  chosen false false false true m t h = absurd cc
  chosen false false false false true t h = absurd cc
  chosen false false false false false true h = absurd cc
  chosen false false false false false false h = absurd cc

behind-is : (k : ℕ) (o : Option ℕ) (len : ℕ) → behind k o ≡ Some len → (n : ℕ) × (o ≡ Some n) × (n + k ≡ len)
behind-is k None len h = absurd cc
behind-is k (Some n) len h = (n, refl, same) where
  same : n + k ≡ len
  same = cc

-- a section that is whole beside what follows it is whole by itself
whole-alone : (ended : Bool) (inner more : List ℕ) → IsWhole ended (opener ++ inner) more → shape_len true (opener ++ inner) ≡ Some (length (opener ++ inner))
whole-alone ended inner more h =
    let parts = behind-is 3 (first_word closer 9 (inner ++ more)) (length (opener ++ inner)) h in
    ap (behind 3) (word-fewer closer 9 inner more parts.0 (omega arith) (omega (arith, parts.2)) parts.1) ∙ ap (λ n. Some n) parts.2

module _ (spelled : LexemesAreSpelled) where
  section-is : (first ended : Bool) (shape more text : List ℕ) → IsWhole ended shape more → judged first shape ≡ Ok (body.CData text) → is_cdata_text text ≡ true
  section-is first ended shape more text whole says =
      let parts = begins-is shape opener (begins-so shape (section-form text first shape says)) in
      let alone : shape_len true shape ≡ Some (length shape) = subst (λ (l : List ℕ). shape_len true l ≡ Some (length l)) (sym parts)
      (whole-alone ended (drop 9 shape) more (subst (λ (l : List ℕ). IsWhole ended l more) parts whole)) in
      let s = spelled first (body.CData text) shape alone says in
      and_from (list_all is_char_of_cdata text) (not (has_cdata_end text)) (characters text s.0 s.1) (ap not (said-none text s.0 s.1 s.2))

  has-section : (b : Body) → ((text : List ℕ) → b ≡ body.CData text → is_cdata_text text ≡ true) → HasSection b
  has-section (body.CData text) h = h text refl
  has-section (body.Chars text blank) h = tt
  has-section (body.Start name attrs empty) h = tt
  has-section (body.End name) h = tt
  has-section (body.Comment text) h = tt
  has-section (body.Pi target text) h = tt
  has-section body.Doctype h = tt
  has-section body.Declaration h = tt

  said-sections : (limits : Limits) (ended first : Bool) (at : ℕ) (bytes : List ℕ) (shapes : List (List ℕ)) (rest : List ℕ) (ends : ℕ → Step) → Cuts ended bytes shapes rest
      → HaveSections (said_by limits first at shapes ends).lexemes
  said-sections limits ended first at bytes [] rest ends c = tt
  said-sections limits ended first at bytes (shape ∷ shapes) rest ends c =
      by_tests (nat_lt limits.lexeme (length shape)) (judged first shape) refl (said-sections limits ended false (at + length shape) c.0 shapes rest ends c.3) where
        later : Lexed
        later = said_by limits false (at + length shape) shapes ends

        by_tests : (long : Bool) (says : Result Body XmlKind) → judged first shape ≡ says → HaveSections later.lexemes
            → HaveSections (answered (cond long (step.Bad (record { kind = LexemeTooLong; offset = at })) (lexeme_or_fault says at)) (λ l. later)).lexemes
        by_tests true says e k = tt
        by_tests false (Err kind) e k = tt
        by_tests false (Ok b) e k = (has-section b (λ text is. section-is first ended shape c.0 text c.2 (e ∙ ap (λ x. Ok x) is)), k)

  pub sections-hold : SomeCut → LexemesAreShapes → SectionsHold
  sections-hold cut shapes limits bytes ended =
      let r = unread limits bytes ended in
      let c = cut (is_last r) (coming r) in
      subst (λ (x : Lexed). HaveSections x.lexemes) (sym (shapes limits bytes ended c.0 c.1 c.2))
      (said-sections limits (is_last r) true (place r) (coming r) c.0 c.1 (ends_at r c.1) c.2)
