-- What lexemes that are read can say.
use Rattle.std.proofs.Common.{◌≡◌, ◌≢◌, ℕ, ◌+◌, ◌-◌, ◌<◌, suc, Bool, true, false, not, ◌&&◌, ◌==◌, List, [], ◌∷◌, ◌++◌, Option, Some, Ok, Err, length, take, drop, append_assoc, refl, sym, ap, ◌∙◌, arith, cond, encode_utf8_all, inl, inr}
use Rattle.std.specs.Prelude.{codes, is_some, slice_get}
use Rattle.std.specs.List.{list_all}
use Rattle.std.specs.Option.{option_map_or}
use Rattle.std.specs.Str.{chars, is_utf8}
use Rattle.std.proofs.lemmas.Bool.{and_from, eqb-true, ne_eqb}
use Rattle.std.proofs.lemmas.Bool.Decides.{nat_tests}
use Rattle.std.proofs.lemmas.List.{length-take, take-append-drop}
use Rattle.std.proofs.lemmas.Str.{encode_ascii}
use Rattle.stx_base.specs.Character.{is_char, is_name, is_space}
use Rattle.stx_base.specs.declared.fault.XmlKind.TheVariants as kind
use Rattle.xml_tokens.specs.Places.{begins, first_word}
use Rattle.xml_tokens.specs.Shape.{form, shape_len}
use Rattle.xml_tokens.specs.Texts.{as_feed, lines_behind}
use Rattle.xml_tokens.specs.Judged.{by_form, holds, judged}
use Rattle.xml_tokens.specs.Reader.{at_shape_or_rest, coming, is_last, place}
use Rattle.xml_tokens.specs.Sayable.{LexemesAreSayable, is_comment, is_data, is_literal, is_sayable}
use Rattle.xml_tokens.specs.Spelling.{Spells, SpellsAttributes, SpellsBehind, SpellsLines, SpellsLiteral, SpellsTag, itself, return, return_and_feed}
use Rattle.xml_tokens.specs.declared.form.Form.{Form}
use Rattle.xml_tokens.specs.declared.form.Form.TheVariants.{Undecided}
use Rattle.xml_tokens.specs.declared.lexeme.Body.{Body}
use Rattle.xml_tokens.specs.declared.lexeme.Body.TheVariants.{Chars, CData, Start, End, Comment, Pi, Doctype, Declaration}
use Rattle.xml_tokens.specs.declared.lexeme.RawAttr.{RawAttr}
use Rattle.xml_tokens.specs.declared.text.Context.TheVariants.{Content, Value}
use Rattle.xml_tokens.proofs.AloneLemmas.{shape_len-alone}
use Rattle.xml_tokens.proofs.LexemeReading.{lexemes-spelled}
use Rattle.xml_tokens.proofs.LineSpelling.{spelled-lines}
use Rattle.xml_tokens.proofs.RunLemmas.{due-fresh, lexeme-shape}
use Rattle.xml_tokens.proofs.SaysLemmas.{made_of}
use Rattle.xml_tokens.proofs.TagSpelling.{text-chars}
use Rattle.xml_tokens.proofs.WholeLemmas.{whole-within}

-- Characters

literal-chars : (text bytes : List ℕ) → SpellsLines text bytes → list_all is_literal text ≡ true
literal-chars [] bytes h = refl
literal-chars (c ∷ text) bytes h = and_from (is_literal c) (list_all is_literal text) (one c h.0 h.1 h.2) (literal-chars text h.1 h.4) where
  one : (c : ℕ) (front more : List ℕ) → SpellsLiteral c front more → is_literal c ≡ true
  one _ _ _ (itself c more char ne) = and_from (is_char c) (not (c == 13)) char (ap not (ne_eqb c 13 ne))
  one _ _ _ (return_and_feed more) = refl
  one _ _ _ (return more other) = refl

-- Words

none_of : (t : Bool) (at : ℕ) (o : Option ℕ) → is_some (cond t (Some at) o) ≡ false → (t ≡ false) × (is_some o ≡ false)
none_of true at o h = absurd cc
none_of false at o h = (refl, h)

none_from : (t : Bool) (at : ℕ) (o : Option ℕ) → t ≡ false → is_some o ≡ false → is_some (cond t (Some at) o) ≡ false
none_from true at o h k = absurd cc
none_from false at o h k = k

and_false : (t : Bool) → (t && false) ≡ false
and_false true = refl
and_false false = refl

-- a word that doesn't stand in bytes doesn't stand in their end
later-none : (word front bytes : List ℕ) (at from : ℕ) → is_some (first_word word at (front ++ bytes)) ≡ false → is_some (first_word word from bytes) ≡ false
later-none word [] bytes at from h = shifted bytes at from h where
  shifted : (bytes : List ℕ) (at from : ℕ) → is_some (first_word word at bytes) ≡ false → is_some (first_word word from bytes) ≡ false
  shifted [] at from k = refl
  shifted (b ∷ bs) at from k =
      let parts = none_of (begins (b ∷ bs) word) at (first_word word (at + 1) bs) k in
      none_from (begins (b ∷ bs) word) from (first_word word (from + 1) bs) parts.0 (shifted bs (at + 1) (from + 1) parts.1)
later-none word (b ∷ front) bytes at from h =
    later-none word front bytes (at + 1) from (none_of (begins (b ∷ (front ++ bytes)) word) at (first_word word (at + 1) (front ++ bytes)) h).1

-- Line ends are read as LF: two bytes side by side that are no part of one were so before
module _ (x y : ℕ) (x10 : (10 == x) ≡ false) (y10 : (10 == y) ≡ false) (y13 : (13 == y) ≡ false) where
  abbrev pair : List ℕ
  pair = x ∷ y ∷ []

  same-next : (bytes : List ℕ) → begins (lines_behind false bytes) (y ∷ []) ≡ begins bytes (y ∷ [])
  same-next [] = refl
  same-next (c ∷ cs) = by_return (c == 13) refl where
    by_return : (t : Bool) → (c == 13) ≡ t → (((cond t 10 c) == y) && true) ≡ ((c == y) && true)
    by_return true e = ap (λ v. v && true) (y10 ∙ sym (ap (λ n. n == y) (eqb-true c 13 e) ∙ y13))
    by_return false e = refl

  lines-none : (behind : Bool) (bytes : List ℕ) (at from : ℕ) → is_some (first_word pair at bytes) ≡ false → is_some (first_word pair from (lines_behind behind bytes)) ≡ false
  lines-none behind [] at from h = refl
  lines-none behind (b ∷ bs) at from h =
      let parts = none_of (begins (b ∷ bs) pair) at (first_word pair (at + 1) bs) h in
      by_left (behind && b == 10) (λ n. lines-none (b == 13) bs (at + 1) n parts.1) (by_return (b == 13) refl parts.0) where
        by_return : (t : Bool) → (b == 13) ≡ t → begins (b ∷ bs) pair ≡ false → begins (cond t 10 b ∷ lines_behind t bs) pair ≡ false
        by_return true e k = ap (λ v. v && begins (lines_behind true bs) (y ∷ [])) x10
        by_return false e k = ap (λ v. (b == x) && v) (same-next bs) ∙ k

        by_left : (t : Bool) → ((n : ℕ) → is_some (first_word pair n (lines_behind (b == 13) bs)) ≡ false) → begins (as_feed b ∷ lines_behind (b == 13) bs) pair ≡ false
            → is_some (first_word pair from (cond t [] (as_feed b ∷ []) ++ lines_behind (b == 13) bs)) ≡ false
        by_left true again k = again from
        by_left false again k = none_from (begins (as_feed b ∷ lines_behind (b == 13) bs) pair) from (first_word pair (from + 1) (lines_behind (b == 13) bs)) k (again (from + 1))

-- The last byte

abbrev ends_in_dash : List ℕ → Bool
ends_in_dash bytes = begins (drop (length bytes - 1) bytes) (codes "-")

last-more : (x b : ℕ) (bs : List ℕ) → ends_in_dash (x ∷ b ∷ bs) ≡ ends_in_dash (b ∷ bs)
last-more x b bs =
    let e : length (x ∷ b ∷ bs) - 1 ≡ suc (length (b ∷ bs) - 1) = omega arith in
    ap (λ n. begins (drop n (x ∷ b ∷ bs)) (codes "-")) e

last-behind : (x : ℕ) (bytes : List ℕ) → ends_in_dash bytes ≡ false → (bytes ≡ [] → (x == 45) ≡ false) → ends_in_dash (x ∷ bytes) ≡ false
last-behind x [] h k = ap (λ t. t && true) (k refl)
last-behind x (b ∷ bs) h k = last-more x b bs ∙ h

last-none : (behind : Bool) (bytes : List ℕ) → ends_in_dash bytes ≡ false → ends_in_dash (lines_behind behind bytes) ≡ false
last-none behind [] h = refl
last-none behind (b ∷ bs) h =
    by_left (behind && b == 10) (last-none (b == 13) bs (tail bs h)) (by_return (b == 13) refl) where
      tail : (bs : List ℕ) → ends_in_dash (b ∷ bs) ≡ false → ends_in_dash bs ≡ false
      tail [] k = refl
      tail (c ∷ cs) k = sym (last-more b c cs) ∙ k

      alone : (bs : List ℕ) → ends_in_dash (b ∷ bs) ≡ false → lines_behind false bs ≡ [] → (b == 45) ≡ false
      alone [] k e = by_test (b == 45) k where
        by_test : (t : Bool) → (t && true) ≡ false → t ≡ false
        by_test true l = absurd cc
        by_test false l = refl
      alone (c ∷ cs) k e = absurd cc

      by_return : (t : Bool) → (b == 13) ≡ t → lines_behind t bs ≡ [] → ((cond t 10 b) == 45) ≡ false
      by_return true e k = refl
      by_return false e k = alone bs h k

      by_left : (t : Bool) → ends_in_dash (lines_behind (b == 13) bs) ≡ false → (lines_behind (b == 13) bs ≡ [] → (as_feed b == 45) ≡ false)
          → ends_in_dash (cond t [] (as_feed b ∷ []) ++ lines_behind (b == 13) bs) ≡ false
      by_left true again k = again
      by_left false again k = last-behind (as_feed b) (lines_behind (b == 13) bs) again k

-- Comments and instructions

comment-is : (text inside : List ℕ) → SpellsLines text inside → holds (codes "--") inside ≡ false → ends_in_dash inside ≡ false → is_comment text ≡ true
comment-is text inside s h k =
    let e = spelled-lines text inside s in
    let pairs : holds (codes "--") (encode_utf8_all text) ≡ false = ap (holds (codes "--")) (sym e) ∙ lines-none 45 45 refl refl refl false inside 0 0 h in
    let last : ends_in_dash (encode_utf8_all text) ≡ false = ap ends_in_dash (sym e) ∙ last-none false inside k in
    and_from _ _ (ap not pairs) (ap not last)

space-low : (c : ℕ) → is_space c ≡ true → c < 128
space-low c h = grind (arith, nat_tests)

abbrev begins_with_space : List ℕ → Bool
begins_with_space bytes = option_map_or is_space (slice_get bytes 0) false

no-space : (text inside : List ℕ) → SpellsLines text inside → begins_with_space inside ≡ false → begins_with_space text ≡ false
no-space [] inside h k = refl
no-space (c ∷ cs) inside h k = one c h.0 h.1 h.2 (ap begins_with_space (sym h.3) ∙ k) where
  one : (c : ℕ) (front more : List ℕ) → SpellsLiteral c front more → begins_with_space (front ++ more) ≡ false → is_space c ≡ false
  one _ _ _ (itself c more char ne) l = by_test (is_space c) refl where
    by_test : (t : Bool) → is_space c ≡ t → is_space c ≡ false
    by_test true e = sym (ap (λ b. begins_with_space (b ++ more)) (encode_ascii c (space-low c e))) ∙ l
    by_test false e = e
  one _ _ _ (return_and_feed more) l = absurd cc
  one _ _ _ (return more other) l = absurd cc

-- the data of an instruction, by what stands behind its target
data-inside : (target behind inside : List ℕ) → SpellsBehind behind inside → holds (codes "?>") (target ++ behind) ≡ false → (holds (codes "?>") inside ≡ false) × (begins_with_space inside ≡ false)
data-inside target behind inside (inl (e, f)) h = (ap (holds (codes "?>")) f, ap begins_with_space f)
data-inside target behind inside (inr (first, space, s, e, k)) h =
    let front = target ++ first ∷ space in
    let all : target ++ behind ≡ front ++ inside = ap (λ l. target ++ l) e ∙ sym (append_assoc target (first ∷ space) inside) in
    (later-none (codes "?>") front inside 0 0 (ap (holds (codes "?>")) (sym all) ∙ h), k)

data-is : (text inside : List ℕ) → SpellsLines text inside → holds (codes "?>") inside ≡ false → begins_with_space inside ≡ false → is_data text ≡ true
data-is text inside s h k =
    let e = spelled-lines text inside s in
    let pairs : holds (codes "?>") (encode_utf8_all text) ≡ false = ap (holds (codes "?>")) (sym e) ∙ lines-none 63 62 refl refl refl false inside 0 0 h in
    and_from _ _ (ap not pairs) (ap not (no-space text inside s k))

-- Lexemes

attributes-are : (attrs : List RawAttr) (empty : Bool) (bytes : List ℕ) → SpellsAttributes attrs empty bytes → list_all (λ a. is_name a.name && list_all is_char a.value) attrs ≡ true
attributes-are [] empty bytes h = refl
attributes-are (a ∷ attrs) empty bytes h =
    and_from _ _ (and_from _ _ h.2.name (text-chars Value a.value h.0.value h.2.value)) (attributes-are attrs empty h.1 h.4)

tag-is : (body : Body) (inside : List ℕ) → SpellsTag body inside → is_sayable body ≡ true
tag-is (Start name attrs empty) inside h = and_from _ _ h.1 (attributes-are attrs empty h.0 h.3)
tag-is (End name) inside h = h.1
tag-is (Chars text blank) inside h = absurd h
tag-is (CData text) inside h = absurd h
tag-is (Comment text) inside h = absurd h
tag-is (Pi target text) inside h = absurd h
tag-is Doctype inside h = absurd h
tag-is Declaration inside h = absurd h

body-is : (first : Bool) (body : Body) (bytes : List ℕ) → Spells first body bytes → is_sayable body ≡ true
body-is first (Chars text blank) bytes h = text-chars Content text bytes h.0
body-is first (CData text) bytes h = literal-chars text h.0 h.1
body-is first (Start name attrs empty) bytes h = tag-is (Start name attrs empty) h.0 h.1
body-is first (End name) bytes h = tag-is (End name) h.0 h.1
body-is first (Comment text) bytes h = and_from _ _ (literal-chars text h.0 h.1) (comment-is text h.0 h.1 h.2 h.3)
body-is first (Pi target text) bytes h =
    let d = data-inside (encode_utf8_all target) h.0 h.1 h.3 h.5 in
    and_from _ _ (and_from _ _ h.2 (literal-chars text h.1 h.4)) (data-is text h.1 h.4 d.0 d.1)
body-is first Doctype bytes h = refl
body-is first Declaration bytes h = refl

decided : (first : Bool) (bytes : List ℕ) (body : Body) → judged first bytes ≡ Ok body → form bytes ≢ Undecided
unfolding judged
decided first bytes body h u = by_tests (is_utf8 bytes) (list_all is_char (chars bytes)) (form bytes) u h where
  by_tests : (v c : Bool) (f : Form) → f ≡ Undecided → cond (not v) (Err kind.BadUtf8) (cond (not c) (Err kind.BadChar) (by_form first f bytes)) ≡ Ok body → ⊥
  by_tests false c f e k = absurd cc
  by_tests true false f e k = absurd cc
  by_tests true true f e k = let clash : Err kind.BadMarkup ≡ Ok body = ap (λ g. by_form first g bytes) (sym e) ∙ k in absurd cc

pub lexemes-sayable : LexemesAreSayable
lexemes-sayable r l fresh h =
    let s = lexeme-shape r l fresh h in
    let shape = take s.0 (coming r) in
    let more = drop s.0 (coming r) in
    let made = made_of r.limits (r.offset == 0) shape (place r) l (sym (due-fresh r fresh ∙ ap (at_shape_or_rest r) s.1) ∙ h) in
    let size : length shape ≡ s.0 = omega (arith, length-take s.0 (coming r), (whole-within (is_last r) (coming r) s.0 s.1).1) in
    let whole : shape_len (is_last r) (shape ++ more) ≡ Some (length shape) = ap (shape_len (is_last r)) (take-append-drop s.0 (coming r)) ∙ (s.1 ∙ ap (λ n. Some n) (sym size)) in
    body-is (r.offset == 0) l.body shape (lexemes-spelled (r.offset == 0) l.body shape (shape_len-alone (is_last r) shape more (decided (r.offset == 0) shape l.body made.1) whole) made.1)
