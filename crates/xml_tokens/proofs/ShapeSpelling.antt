-- Lexemes that are spelled are whole shapes.
use Rattle.std.proofs.Common.{◌≡◌, inl, inr, ℕ, suc, ◌+◌, Bool, true, false, not, ◌&&◌, ◌||◌, ◌==◌, List, [], ◌∷◌, ◌++◌, Option, Some, None, length, length-append, append_assoc, drop, map, refl, sym, ap, ◌∙◌, arith, subst, cond, encode_utf8_all}
use Rattle.std.specs.Prelude.{bytes_eq, codes}
use Rattle.std.specs.Char.{is_ascii_digit, to_ascii_lowercase}
use Rattle.std.specs.Option.{option_map_or}
use Rattle.std.proofs.lemmas.Slice.Eq.{bytes_eq-Decides}
use Rattle.std.specs.List.{list_all, list_any}
use Rattle.std.proofs.lemmas.Bool.{eqb-true, ne_eqb}
use Rattle.std.proofs.lemmas.Bool.Decides.{nat_tests}
use Rattle.std.proofs.lemmas.List.{append-nil}
use Rattle.std.proofs.lemmas.List.Folds.{list_all-append}
use Rattle.stx_base.specs.Character.{is_space}
use Rattle.xml_tokens.specs.Places.{begins, first_byte, first_word, is_quote}
use Rattle.xml_tokens.specs.Shape.{behind, ends_declaration, ends_tag, end_by, form, is_less, shape_len, text_end}
use Rattle.xml_tokens.specs.Tags.{is_name_byte}
use Rattle.xml_tokens.specs.Prolog.{is_encoding, is_number, is_standalone, is_version}
use Rattle.xml_tokens.specs.Judged.{holds}
use Rattle.xml_tokens.specs.Spelling.{Attribute, IsFollowed, IsQuoted, IsSpace, SpellsAttributes, SpellsDeclaration, SpellsDeclared, SpellsDoctype, SpellsEncoding, SpellsIdentifier, SpellsQuoted, SpellsStandalone, SpellsTag, SpellsWord, SpelledLexemesAreShapes, enclosed, slash, spelled}
use Rattle.xml_tokens.specs.declared.form.Form.TheVariants as form
use Rattle.xml_tokens.specs.declared.lexeme.RawAttr.{RawAttr}
use Rattle.xml_tokens.specs.declared.lexeme.Body.{Body}
use Rattle.xml_tokens.specs.declared.lexeme.Body.TheVariants.{Chars, CData, Start, End, Comment, Pi, Doctype, Declaration}
use Rattle.xml_tokens.proofs.CloserLemmas.{first-closer, none-longer, none-without, other}
use Rattle.xml_tokens.proofs.EnclosedLemmas.{begins-is}
use Rattle.xml_tokens.proofs.LexemeSpelling.{tag-begins, tag-form, text-form}
use Rattle.xml_tokens.proofs.ListLemmas.{two}
use Rattle.xml_tokens.proofs.PassedLemmas.{IsCalm, Passed, all-calm, calm, passed-all, passed-calm, passed-end, passed-one, passed-quoted, passed-then}
use Rattle.xml_tokens.proofs.TagSpelling.{name-bytes}

both_true : (s t : Bool) → s ≡ true → t ≡ true → (s && t) ≡ true
both_true s t a b = rw (a, b) refl

-- What is passed

-- the end of a tag, and of a declaration
tag-end-is : (b : ℕ) → ends_tag b ≡ true → b ≡ 62
tag-end-is b h = eqb-true b 62 h

calm-in-tag : (p : ℕ → Bool) → p 34 ≡ false → p 39 ≡ false → p 62 ≡ false → IsCalm p ends_tag
calm-in-tag p double single greater = record { double = double; single = single; other = λ b h. subst (λ c. p c ≡ false) (sym (tag-end-is b h)) greater }

calm-in-declaration : (p : ℕ → Bool) → p 34 ≡ false → p 39 ≡ false → p 62 ≡ false → p 91 ≡ false → IsCalm p ends_declaration
calm-in-declaration p double single greater bracket = record { double = double; single = single; other = λ b h. by_test b (b == 62) refl h } where
  by_test : (b : ℕ) (t : Bool) → (b == 62) ≡ t → (t || b == 91) ≡ true → p b ≡ false
  by_test b true e k = subst (λ c. p c ≡ false) (sym (eqb-true b 62 e)) greater
  by_test b false e k = subst (λ c. p c ≡ false) (sym (eqb-true b 91 k)) bracket

tag-space : IsCalm is_space ends_tag
tag-space = calm-in-tag is_space refl refl refl

tag-name : IsCalm is_name_byte ends_tag
tag-name = calm-in-tag is_name_byte refl refl refl

declaration-space : IsCalm is_space ends_declaration
declaration-space = calm-in-declaration is_space refl refl refl refl

declaration-name : IsCalm is_name_byte ends_declaration
declaration-name = calm-in-declaration is_name_byte refl refl refl refl

quote-ends-no-tag : (b : ℕ) → is_quote b ≡ true → ends_tag b ≡ false
quote-ends-no-tag b h = grind (arith, nat_tests)

quote-ends-no-declaration : (b : ℕ) → is_quote b ≡ true → ends_declaration b ≡ false
quote-ends-no-declaration b h = grind (arith, nat_tests)

-- an attribute
attribute-passed : (name : List ℕ) (a : Attribute) (more : List ℕ) → list_all is_name_byte name ≡ true → IsQuoted a → Passed ends_tag (spelled name a more) more
attribute-passed name a more n h =
    let r4 = a.value ++ a.quote ∷ more in
    let r3 = a.behind ++ a.quote ∷ r4 in
    let r2 = a.before ++ 61 ∷ r3 in
    let lead = a.first ∷ a.space in
    passed-then ends_tag (spelled name a more) (name ++ r2) more (passed-calm ends_tag lead (name ++ r2) (all-calm ends_tag is_space tag-space lead h.space))
    (passed-then ends_tag (name ++ r2) r2 more (passed-calm ends_tag name r2 (all-calm ends_tag is_name_byte tag-name name n))
    (passed-then ends_tag r2 (61 ∷ r3) more (passed-calm ends_tag a.before (61 ∷ r3) (all-calm ends_tag is_space tag-space a.before h.before))
    (passed-then ends_tag (61 ∷ r3) r3 more (passed-one ends_tag 61 r3 refl)
    (passed-then ends_tag r3 (a.quote ∷ r4) more (passed-calm ends_tag a.behind (a.quote ∷ r4) (all-calm ends_tag is_space tag-space a.behind h.behind))
    (passed-quoted ends_tag a.quote a.value more (quote-ends-no-tag a.quote) h.quote h.unquoted)))))

attributes-passed : (attrs : List RawAttr) (empty : Bool) (bytes : List ℕ) → SpellsAttributes attrs empty bytes → Passed ends_tag bytes []
attributes-passed [] empty bytes h =
    subst (λ l. Passed ends_tag l []) (sym h.2)
    (passed-then ends_tag (h.0 ++ slash empty) (slash empty) [] (passed-calm ends_tag h.0 (slash empty) (all-calm ends_tag is_space tag-space h.0 h.1)) (passed-all ends_tag (slash empty) (slash-calm empty))) where
      slash-calm : (empty : Bool) → list_all (calm ends_tag) (slash empty) ≡ true
      slash-calm true = refl
      slash-calm false = refl
attributes-passed (attr ∷ attrs) empty bytes h =
    subst (λ l. Passed ends_tag l []) (sym h.3)
    (passed-then ends_tag (spelled (encode_utf8_all attr.name) h.0 h.1) h.1 [] (attribute-passed (encode_utf8_all attr.name) h.0 h.1 (name-bytes attr.name h.2.name).bytes h.2.quoted)
    (attributes-passed attrs empty h.1 h.4))

tag-passed : (body : Body) (inside : List ℕ) → SpellsTag body inside → Passed ends_tag inside []
tag-passed (Start name attrs empty) inside h =
    let n = encode_utf8_all name in
    subst (λ l. Passed ends_tag l []) (sym h.2)
    (passed-then ends_tag (n ++ h.0) h.0 [] (passed-calm ends_tag n h.0 (all-calm ends_tag is_name_byte tag-name n (name-bytes name h.1).bytes)) (attributes-passed attrs empty h.0 h.3))
tag-passed (End name) inside h =
    let n = encode_utf8_all name in
    subst (λ l. Passed ends_tag l []) (sym h.3)
    (passed-then ends_tag (47 ∷ (n ++ h.0)) (n ++ h.0) [] (passed-one ends_tag 47 (n ++ h.0) refl)
    (passed-then ends_tag (n ++ h.0) h.0 [] (passed-calm ends_tag n h.0 (all-calm ends_tag is_name_byte tag-name n (name-bytes name h.1).bytes)) (passed-all ends_tag h.0 (all-calm ends_tag is_space tag-space h.0 h.2))))
tag-passed (Chars text blank) inside h = absurd h
tag-passed (CData text) inside h = absurd h
tag-passed (Comment text) inside h = absurd h
tag-passed (Pi target text) inside h = absurd h
tag-passed Doctype inside h = absurd h
tag-passed Declaration inside h = absurd h

-- document type declarations
space-passed : (bytes : List ℕ) → IsSpace bytes → Passed ends_declaration bytes []
space-passed bytes h = passed-all ends_declaration bytes (all-calm ends_declaration is_space declaration-space bytes h)

word-passed : (word bytes more : List ℕ) → list_all is_name_byte word ≡ true → SpellsWord word bytes more → Passed ends_declaration bytes more
word-passed word bytes more n h =
    let lead = h.0 ∷ h.1 in
    subst (λ l. Passed ends_declaration l more) (sym h.3)
    (passed-then ends_declaration (lead ++ (word ++ more)) (word ++ more) more (passed-calm ends_declaration lead (word ++ more) (all-calm ends_declaration is_space declaration-space lead h.2))
    (passed-calm ends_declaration word more (all-calm ends_declaration is_name_byte declaration-name word n)))

quoted-passed : (bytes more : List ℕ) → SpellsQuoted bytes more → Passed ends_declaration bytes more
quoted-passed bytes more (first, space, quote, value, s, is, unquoted, whole) =
    let lead = first ∷ space in
    let rest = quote ∷ (value ++ quote ∷ more) in
    subst (λ l. Passed ends_declaration l more) (sym whole)
    (passed-then ends_declaration (lead ++ rest) rest more (passed-calm ends_declaration lead rest (all-calm ends_declaration is_space declaration-space lead s))
    (passed-quoted ends_declaration quote value more (quote-ends-no-declaration quote) is unquoted))

identifier-passed : (bytes : List ℕ) → SpellsIdentifier bytes → Passed ends_declaration bytes []
identifier-passed bytes (inl s) = space-passed bytes s
identifier-passed bytes (inr (inl (more, rest, w, q, s))) =
    passed-then ends_declaration bytes more [] (word-passed (codes "SYSTEM") bytes more refl w) (passed-then ends_declaration more rest [] (quoted-passed more rest q) (space-passed rest s))
identifier-passed bytes (inr (inr (more, middle, rest, w, p, q, s))) =
    passed-then ends_declaration bytes more [] (word-passed (codes "PUBLIC") bytes more refl w)
    (passed-then ends_declaration more middle [] (quoted-passed more middle p) (passed-then ends_declaration middle rest [] (quoted-passed middle rest q) (space-passed rest s)))

doctype-passed : (inside : List ℕ) → SpellsDoctype inside → Passed ends_declaration inside []
doctype-passed inside (name, more, is, w, i) =
    passed-then ends_declaration inside more [] (word-passed (encode_utf8_all name) inside more (name-bytes name is).bytes w) (identifier-passed more i)

-- What holds no `>`

others-by : (p : ℕ → Bool) → p 62 ≡ false → (bytes : List ℕ) → list_all p bytes ≡ true → list_all other bytes ≡ true
others-by p never [] h = refl
others-by p never (b ∷ bs) h =
    let parts = two (p b) (list_all p bs) h in
    let differs : (b == 62) ≡ false = ne_eqb b 62 (λ e. let clash = sym never ∙ subst (λ c. p c ≡ true) e parts.0 in absurd cc) in
    both_true (other b) (list_all other bs) (ap not differs) (others-by p never bs parts.1)

others-two : (front rest : List ℕ) → list_all other front ≡ true → list_all other rest ≡ true → list_all other (front ++ rest) ≡ true
others-two front rest a b = list_all-append other front rest ∙ both_true (list_all other front) (list_all other rest) a b

space-others : (bytes : List ℕ) → IsSpace bytes → list_all other bytes ≡ true
space-others bytes h = others-by is_space refl bytes h

declared-others : (word bytes more : List ℕ) (a : Attribute) → list_all other word ≡ true → SpellsDeclared word a bytes more → list_all other a.value ≡ true → list_all other more ≡ true → list_all other bytes ≡ true
declared-others word bytes more a w h value rest =
    let q : other a.quote ≡ true = quote-other a.quote h.0.quote in
    let r4 = a.value ++ a.quote ∷ more in
    let r3 = a.behind ++ a.quote ∷ r4 in
    let r2 = a.before ++ 61 ∷ r3 in
    let f4 : list_all other (a.quote ∷ r4) ≡ true = both_true (other a.quote) (list_all other r4) q (others-two a.value (a.quote ∷ more) value (both_true (other a.quote) (list_all other more) q rest)) in
    let f3 : list_all other r3 ≡ true = others-two a.behind (a.quote ∷ r4) (space-others a.behind h.0.behind) f4 in
    let f2 : list_all other r2 ≡ true = others-two a.before (61 ∷ r3) (space-others a.before h.0.before) f3 in
    ap (list_all other) h.1 ∙ others-two (a.first ∷ a.space) (word ++ r2) (space-others (a.first ∷ a.space) h.0.space) (others-two word r2 w f2) where
      quote-other : (b : ℕ) → is_quote b ≡ true → other b ≡ true
      quote-other b k = grind (arith, nat_tests)

-- the values that may be declared
word-others : (value word : List ℕ) → list_all other word ≡ true → bytes_eq value word ≡ true → list_all other value ≡ true
word-others value word h e = ap (list_all other) ((bytes_eq-Decides value word).0 e) ∙ h

lower-others : (value : List ℕ) → list_all other (map to_ascii_lowercase value) ≡ true → list_all other value ≡ true
lower-others [] h = refl
lower-others (b ∷ bs) h =
    let parts = two (other (to_ascii_lowercase b)) (list_all other (map to_ascii_lowercase bs)) h in
    let differs : (b == 62) ≡ false = ne_eqb b 62 (λ e. let clash : other (to_ascii_lowercase 62) ≡ true = subst (λ c. other (to_ascii_lowercase c) ≡ true) e parts.0 in absurd cc) in
    both_true (other b) (list_all other bs) (ap not differs) (lower-others bs parts.1)

either : {C : Type 0} (s t : Bool) → (s || t) ≡ true → (s ≡ true → C) → (t ≡ true → C) → C
either true t h f g = f refl
either false t h f g = g h

standalone-value : (value : List ℕ) → is_standalone (Some value) ≡ true → list_all other value ≡ true
standalone-value value h = either (bytes_eq value (codes "yes")) (bytes_eq value (codes "no")) h (word-others value (codes "yes") refl) (word-others value (codes "no") refl)

encoding-value : (value : List ℕ) → is_encoding value ≡ true → list_all other value ≡ true
encoding-value value h =
    let lower = map to_ascii_lowercase value in
    lower-others value (either (bytes_eq lower (codes "utf-8")) (bytes_eq lower (codes "us-ascii")) h (word-others lower (codes "utf-8") refl) (word-others lower (codes "us-ascii") refl))

version-value : (value : List ℕ) → is_version value ≡ true → list_all other value ≡ true
version-value value h = by_word (begins value (codes "1.")) refl h where
  by_word : (t : Bool) → begins value (codes "1.") ≡ t → option_map_or is_number (cond t (Some (drop 2 value)) None) false ≡ true → list_all other value ≡ true
  by_word false e k = absurd cc
  by_word true e k =
      let digits = (two (not (length (drop 2 value) == 0)) (list_all is_ascii_digit (drop 2 value)) k).1 in
      ap (list_all other) (begins-is value (codes "1.") e) ∙ others-two (codes "1.") (drop 2 value) refl (others-by is_ascii_digit refl (drop 2 value) digits)

standalone-others : (bytes : List ℕ) → SpellsStandalone bytes → list_all other bytes ≡ true
standalone-others bytes (inl s) = space-others bytes s
standalone-others bytes (inr (a, more, d, is, s)) = declared-others (codes "standalone") bytes more a refl d (standalone-value a.value is) (space-others more s)

encoding-others : (bytes : List ℕ) → SpellsEncoding bytes → list_all other bytes ≡ true
encoding-others bytes (inl s) = standalone-others bytes s
encoding-others bytes (inr (a, more, d, is, s)) = declared-others (codes "encoding") bytes more a refl d (encoding-value a.value is) (standalone-others more s)

declaration-others : (bytes : List ℕ) → SpellsDeclaration bytes → list_all other bytes ≡ true
declaration-others bytes (a, more, d, is, s) = declared-others (codes "version") bytes more a refl d (version-value a.value is) (encoding-others more s)

-- The shapes

cut : {o p : Option ℕ} (n : ℕ) → o ≡ p → behind n o ≡ behind n p
cut n e = ap (behind n) e

pub text-shape : (ended blank : Bool) (text bytes more : List ℕ) → list_any is_less bytes ≡ false → IsFollowed ended (Chars text blank) more → form (bytes ++ more) ≡ form.Text → shape_len ended (bytes ++ more) ≡ Some (length bytes)
text-shape ended blank text bytes more less follows f =
    ap (λ x. end_by x ended (bytes ++ more)) f ∙ (ap (text_end ended (bytes ++ more)) (passes 0 bytes more less) ∙ by_more more follows) where
      passes : (at : ℕ) (bytes more : List ℕ) → list_any is_less bytes ≡ false → first_byte is_less at (bytes ++ more) ≡ first_byte is_less (at + length bytes) more
      passes at [] more k = ap (λ n. first_byte is_less n more) (let e : at ≡ at + 0 = omega arith in e)
      passes at (b ∷ bs) more k =
          let parts = neither (is_less b) (list_any is_less bs) k in
          ap (λ t. cond t (Some at) (first_byte is_less (at + 1) (bs ++ more))) parts.0 ∙ (passes (at + 1) bs more parts.1 ∙ ap (λ n. first_byte is_less n more) (let e : (at + 1) + length bs ≡ at + suc (length bs) = omega arith in e)) where
            neither : (s t : Bool) → (s || t) ≡ false → (s ≡ false) × (t ≡ false)
            neither true t q = absurd cc
            neither false t q = (refl, q)

      by_more : (more : List ℕ) → IsFollowed ended (Chars text blank) more → text_end ended (bytes ++ more) (first_byte is_less (0 + length bytes) more) ≡ Some (length bytes)
      by_more [] e = ap (λ t. cond t (Some (length (bytes ++ []))) None) e ∙ ap (λ l. Some (length l)) (append-nil bytes)
      by_more (b ∷ bs) e = ap (λ t. text_end ended (bytes ++ b ∷ bs) (cond t (Some (0 + length bytes)) (first_byte is_less (0 + length bytes + 1) bs))) e ∙ ap (λ n. Some n) (let z : 0 + length bytes ≡ length bytes = omega arith in z)

tag-shape : (ended : Bool) (body : Body) (inside more : List ℕ) → SpellsTag body inside → shape_len ended (enclosed (codes "<") (codes ">") inside ++ more) ≡ Some (length (enclosed (codes "<") (codes ">") inside))
tag-shape ended body inside more h =
    let b = tag-begins body inside h in
    let split : (inside ++ 62 ∷ []) ++ more ≡ inside ++ 62 ∷ more = append_assoc inside (62 ∷ []) more in
    let f : form (60 ∷ (inside ++ 62 ∷ more)) ≡ form.Tag = ap (λ l. form (60 ∷ (l ++ 62 ∷ more))) b.2 ∙ tag-form b.0 (b.1 ++ 62 ∷ more) b.3 b.4 in
    let p = passed-then ends_tag (60 ∷ inside) inside [] (passed-one ends_tag 60 inside refl) (tag-passed body inside h) in
    ap (λ l. shape_len ended (60 ∷ l)) split ∙ (ap (λ x. end_by x ended (60 ∷ (inside ++ 62 ∷ more))) f
    ∙ (cut 1 (passed-end ends_tag (60 ∷ inside) 62 more p refl) ∙ ap (λ n. Some n) (let e : suc (length inside) + 1 ≡ suc (length (inside ++ 62 ∷ [])) = omega (arith, length-append inside (62 ∷ [])) in e)))

doctype-shape : (ended : Bool) (inside more : List ℕ) → SpellsDoctype inside → shape_len ended (enclosed (codes "<!DOCTYPE") (codes ">") inside ++ more) ≡ Some (length (enclosed (codes "<!DOCTYPE") (codes ">") inside))
doctype-shape ended inside more h =
    let word = codes "<!DOCTYPE" in
    let split : (inside ++ 62 ∷ []) ++ more ≡ inside ++ 62 ∷ more = append_assoc inside (62 ∷ []) more in
    let p = passed-then ends_declaration (word ++ inside) inside [] (passed-calm ends_declaration word inside refl) (doctype-passed inside h) in
    ap (λ l. shape_len ended (word ++ l)) split
    ∙ (cut 1 (passed-end ends_declaration (word ++ inside) 62 more p refl) ∙ ap (λ n. Some n) (let e : length (word ++ inside) + 1 ≡ length (word ++ (inside ++ 62 ∷ [])) = omega (arith, length-append inside (62 ∷ [])) in e))

comment-shape : (ended : Bool) (inside more : List ℕ) → holds (codes "--") inside ≡ false → shape_len ended (enclosed (codes "<!--") (codes "-->") inside ++ more) ≡ Some (length (enclosed (codes "<!--") (codes "-->") inside))
comment-shape ended inside more h =
    ap (λ l. behind 3 (first_word (codes "-->") 4 l)) (append_assoc inside (codes "-->") more)
    ∙ (cut 3 (first-closer (codes "--") refl inside more 4 0 (none-longer (codes "--") (codes ">") inside 0 h)) ∙ ap (λ n. Some n) (let e : 4 + length inside + 3 ≡ length (enclosed (codes "<!--") (codes "-->") inside) = omega (arith, length-append inside (codes "-->")) in e))

cdata-shape : (ended : Bool) (inside more : List ℕ) → holds (codes "]]>") inside ≡ false → shape_len ended (enclosed (codes "<![CDATA[") (codes "]]>") inside ++ more) ≡ Some (length (enclosed (codes "<![CDATA[") (codes "]]>") inside))
cdata-shape ended inside more h =
    ap (λ l. behind 3 (first_word (codes "]]>") 9 l)) (append_assoc inside (codes "]]>") more)
    ∙ (cut 3 (first-closer (codes "]]") refl inside more 9 0 h) ∙ ap (λ n. Some n) (let e : 9 + length inside + 3 ≡ length (enclosed (codes "<![CDATA[") (codes "]]>") inside) = omega (arith, length-append inside (codes "]]>")) in e))

instruction-shape : (ended : Bool) (inside more : List ℕ) → holds (codes "?>") inside ≡ false → shape_len ended (enclosed (codes "<?") (codes "?>") inside ++ more) ≡ Some (length (enclosed (codes "<?") (codes "?>") inside))
instruction-shape ended inside more h =
    ap (λ l. behind 2 (first_word (codes "?>") 2 l)) (append_assoc inside (codes "?>") more)
    ∙ (cut 2 (first-closer (codes "?") refl inside more 2 0 h) ∙ ap (λ n. Some n) (let e : 2 + length inside + 2 ≡ length (enclosed (codes "<?") (codes "?>") inside) = omega (arith, length-append inside (codes "?>")) in e))

pub lexemes-cut : SpelledLexemesAreShapes
lexemes-cut first ended (Chars text blank) [] more h follows = absurd (omega (arith, h.1))
lexemes-cut first ended (Chars text blank) (b ∷ bs) more h follows = text-shape ended blank text (b ∷ bs) more h.2 follows (text-form b (bs ++ more) (none_less (is_less b) (list_any is_less bs) h.2)) where
  none_less : (s t : Bool) → (s || t) ≡ false → s ≡ false
  none_less true t e = absurd cc
  none_less false t e = refl
lexemes-cut first ended (CData text) bytes more h follows = ap (λ l. shape_len ended (l ++ more)) h.3 ∙ (cdata-shape ended h.0 more h.2 ∙ ap (λ l. Some (length l)) (sym h.3))
lexemes-cut first ended (Comment text) bytes more h follows = ap (λ l. shape_len ended (l ++ more)) h.4 ∙ (comment-shape ended h.0 more h.2 ∙ ap (λ l. Some (length l)) (sym h.4))
lexemes-cut first ended (Pi target text) bytes more (behind, inside, good, b, l, closer, plain, e) follows =
    ap (λ x. shape_len ended (x ++ more)) e ∙ (instruction-shape ended (encode_utf8_all target ++ behind) more closer ∙ ap (λ x. Some (length x)) (sym e))
lexemes-cut first ended Doctype bytes more h follows = ap (λ l. shape_len ended (l ++ more)) h.2 ∙ (doctype-shape ended h.0 more h.1 ∙ ap (λ l. Some (length l)) (sym h.2))
lexemes-cut first ended Declaration bytes more h follows =
    let inside = codes "xml" ++ h.1.0 in
    let closer : holds (codes "?>") inside ≡ false = none-without (codes "?") refl inside 0 (others-two (codes "xml") h.1.0 refl (declaration-others h.1.0 h.1.1)) in
    ap (λ l. shape_len ended (l ++ more)) h.1.2 ∙ (instruction-shape ended inside more closer ∙ ap (λ l. Some (length l)) (sym h.1.2))
lexemes-cut first ended (Start name attrs empty) bytes more h follows = ap (λ l. shape_len ended (l ++ more)) h.2 ∙ (tag-shape ended (Start name attrs empty) h.0 more h.1 ∙ ap (λ l. Some (length l)) (sym h.2))
lexemes-cut first ended (End name) bytes more h follows = ap (λ l. shape_len ended (l ++ more)) h.2 ∙ (tag-shape ended (End name) h.0 more h.1 ∙ ap (λ l. Some (length l)) (sym h.2))
