-- What is written of characters spells them.
use Rattle.std.proofs.Common.{◌≡◌, ◌≢◌, ℕ, ◌<◌, ◌≤◌, Bool, true, false, ◌==◌, List, [], ◌∷◌, ◌++◌, Some, None, length, refl, sym, ap, ◌∙◌, arith, subst, append_assoc, append-nil, length-append, ⊎_elim}
use Rattle.std.specs.Prelude.{codes, encode_utf8_all, nat_le, nat_lt, unwrap_or, if◌then◌else◌}
use Rattle.std.specs.List.{list_all, list_any}
use Rattle.std.proofs.lemmas.Bool.{and_parts, and_from, cases_eq, cases_lt, ne_eqb}
use Rattle.std.proofs.lemmas.Bool.Decides.{nat_tests}
use Rattle.std.proofs.lemmas.Str.{encode_ascii, length-le-encodes}
use Rattle.stx_base.specs.Character.{is_char}
use Rattle.xml_tokens.specs.Spelling.{SpellsChar, SpellsText, as_read, decimal, entity, itself, literal}
use Rattle.xml_tokens.specs.declared.text.Context.TheVariants as place
use Rattle.xml_tokens.proofs.TextSpelling.{high}
use Rattle.result_writer.specs.Escape.{escaped, written}
use Rattle.result_writer.specs.declared.escape.Context.{Context}
use Rattle.result_writer.specs.declared.escape.Context.TheVariants.{Content, Value}
use Rattle.read_back.proofs.Bytes.{IsText, is_plain, none_append, text_append, text_of, text_plain}
use lib.Utf8.{encode}

pub escaped-append : (way : Context) (xs ys : List ℕ) → escaped way (xs ++ ys) ≡ escaped way xs ++ escaped way ys
escaped-append way [] ys = refl
escaped-append way (x ∷ xs) ys =
    ap (λ l. written way x ++ l) (escaped-append way xs ys) ∙ sym (append_assoc (written way x) (escaped way xs) (escaped way ys))

-- a byte that no reference stands for is written as it is
content_itself : (b : ℕ) → b ≢ 38 → b ≢ 60 → b ≢ 62 → b ≢ 13 → written Content b ≡ b ∷ []
content_itself b a l g r = rw (ne_eqb b 38 a, ne_eqb b 60 l, ne_eqb b 62 g, ne_eqb b 13 r) refl

value_itself : (b : ℕ) → b ≢ 38 → b ≢ 60 → b ≢ 34 → b ≢ 9 → b ≢ 10 → b ≢ 13 → written Value b ≡ b ∷ []
value_itself b a l q t f r = rw (ne_eqb b 38 a, ne_eqb b 60 l, ne_eqb b 34 q, ne_eqb b 9 t, ne_eqb b 10 f, ne_eqb b 13 r) refl

high_itself : (way : Context) (b : ℕ) → 128 ≤ b → written way b ≡ b ∷ []
high_itself Content b h = content_itself b (λ e. omega (arith, h, e)) (λ e. omega (arith, h, e)) (λ e. omega (arith, h, e)) (λ e. omega (arith, h, e))
high_itself Value b h =
    value_itself b (λ e. omega (arith, h, e)) (λ e. omega (arith, h, e)) (λ e. omega (arith, h, e)) (λ e. omega (arith, h, e)) (λ e. omega (arith, h, e)) (λ e. omega (arith, h, e))

high_escaped : (way : Context) (bytes : List ℕ) → list_all (λ b. nat_le 128 b) bytes ≡ true → escaped way bytes ≡ bytes
high_escaped way [] h = refl
high_escaped way (b ∷ bs) h =
    let both = and_parts (nat_le 128 b) (list_all (λ x. nat_le 128 x) bs) h in
    ap (λ l. l ++ escaped way bs) (high_itself way b (fits b both.0)) ∙ ap (λ l. b ∷ l) (high_escaped way bs both.1) where
      fits : (n : ℕ) → nat_le 128 n ≡ true → 128 ≤ n
      fits n e = grind (arith, nat_tests)

-- a character beyond ASCII is written as it is
wide_escaped : (way : Context) (c : ℕ) → 128 ≤ c → escaped way (encode c) ≡ encode c
wide_escaped way c h = high_escaped way (encode c) (high c h)

-- what is written of a character of ASCII
low_escaped : (way : Context) (c : ℕ) → c < 128 → escaped way (encode c) ≡ written way c
low_escaped way c h = ap (escaped way) (encode_ascii c h) ∙ append-nil (written way c)

content_spelled : (c : ℕ) (more : List ℕ) → is_char c ≡ true → SpellsChar place.Content c (escaped Content (encode c)) more
content_spelled c more char =
    ⊎_elim (λ (e : c ≡ 38). of 38 e (omega arith) (entity place.Content (codes "amp") 38 more refl)) (λ (a : c ≢ 38).
    ⊎_elim (λ (e : c ≡ 60). of 60 e (omega arith) (entity place.Content (codes "lt") 60 more refl)) (λ (l : c ≢ 60).
    ⊎_elim (λ (e : c ≡ 62). of 62 e (omega arith) (entity place.Content (codes "gt") 62 more refl)) (λ (g : c ≢ 62).
    ⊎_elim (λ (e : c ≡ 13). of 13 e (omega arith) (decimal place.Content (codes "13") 13 more (record { some = omega arith; each = refl; value = refl; char = refl }))) (λ (r : c ≢ 13).
    subst (λ l. SpellsChar place.Content c l more) (sym (same a l g r)) (literal place.Content c (encode c) more (itself c more char r) a))
    (cases_eq c 13)) (cases_eq c 62)) (cases_eq c 60)) (cases_eq c 38) where
      of : (n : ℕ) → c ≡ n → n < 128 → SpellsChar place.Content n (written Content n) more → SpellsChar place.Content c (escaped Content (encode c)) more
      of n e low h = subst (λ m. SpellsChar place.Content m (escaped Content (encode m)) more) (sym e) (subst (λ l. SpellsChar place.Content n l more) (sym (low_escaped Content n low)) h)

      same : c ≢ 38 → c ≢ 60 → c ≢ 62 → c ≢ 13 → escaped Content (encode c) ≡ encode c
      same a l g r = ⊎_elim
          (λ (low : c < 128). low_escaped Content c low ∙ content_itself c a l g r ∙ sym (encode_ascii c low))
          (λ (wide : 128 ≤ c). wide_escaped Content c wide) (cases_lt c 128)

value_spelled : (c : ℕ) (more : List ℕ) → is_char c ≡ true → SpellsChar place.Value c (escaped Value (encode c)) more
value_spelled c more char =
    ⊎_elim (λ (e : c ≡ 38). of 38 e (omega arith) (entity place.Value (codes "amp") 38 more refl)) (λ (a : c ≢ 38).
    ⊎_elim (λ (e : c ≡ 60). of 60 e (omega arith) (entity place.Value (codes "lt") 60 more refl)) (λ (l : c ≢ 60).
    ⊎_elim (λ (e : c ≡ 34). of 34 e (omega arith) (entity place.Value (codes "quot") 34 more refl)) (λ (q : c ≢ 34).
    ⊎_elim (λ (e : c ≡ 9). of 9 e (omega arith) (decimal place.Value (codes "9") 9 more (record { some = omega arith; each = refl; value = refl; char = refl }))) (λ (t : c ≢ 9).
    ⊎_elim (λ (e : c ≡ 10). of 10 e (omega arith) (decimal place.Value (codes "10") 10 more (record { some = omega arith; each = refl; value = refl; char = refl }))) (λ (f : c ≢ 10).
    ⊎_elim (λ (e : c ≡ 13). of 13 e (omega arith) (decimal place.Value (codes "13") 13 more (record { some = omega arith; each = refl; value = refl; char = refl }))) (λ (r : c ≢ 13).
    subst (λ l. SpellsChar place.Value c l more) (sym (same a l q t f r))
    (subst (λ n. SpellsChar place.Value n (encode c) more) (unspaced t f) (literal place.Value c (encode c) more (itself c more char r) a)))
    (cases_eq c 13)) (cases_eq c 10)) (cases_eq c 9)) (cases_eq c 34)) (cases_eq c 60)) (cases_eq c 38) where
      of : (n : ℕ) → c ≡ n → n < 128 → SpellsChar place.Value n (written Value n) more → SpellsChar place.Value c (escaped Value (encode c)) more
      of n e low h = subst (λ m. SpellsChar place.Value m (escaped Value (encode m)) more) (sym e) (subst (λ l. SpellsChar place.Value n l more) (sym (low_escaped Value n low)) h)

      unspaced : c ≢ 9 → c ≢ 10 → as_read place.Value c ≡ c
      unspaced t f = rw (ne_eqb c 9 t, ne_eqb c 10 f) refl

      same : c ≢ 38 → c ≢ 60 → c ≢ 34 → c ≢ 9 → c ≢ 10 → c ≢ 13 → escaped Value (encode c) ≡ encode c
      same a l q t f r = ⊎_elim
          (λ (low : c < 128). low_escaped Value c low ∙ value_itself c a l q t f r ∙ sym (encode_ascii c low))
          (λ (wide : 128 ≤ c). wide_escaped Value c wide) (cases_lt c 128)

pub content_text : (text : List ℕ) → list_all is_char text ≡ true → SpellsText place.Content text (escaped Content (encode_utf8_all text))
content_text [] h = refl
content_text (c ∷ cs) h =
    let both = and_parts (is_char c) (list_all is_char cs) h in (
      escaped Content (encode c),
      escaped Content (encode_utf8_all cs),
      content_spelled c (escaped Content (encode_utf8_all cs)) both.0,
      escaped-append Content (encode c) (encode_utf8_all cs),
      content_text cs both.1,
    )

pub value_text : (text : List ℕ) → list_all is_char text ≡ true → SpellsText place.Value text (escaped Value (encode_utf8_all text))
value_text [] h = refl
value_text (c ∷ cs) h =
    let both = and_parts (is_char c) (list_all is_char cs) h in (
      escaped Value (encode c),
      escaped Value (encode_utf8_all cs),
      value_spelled c (escaped Value (encode_utf8_all cs)) both.0,
      escaped-append Value (encode c) (encode_utf8_all cs),
      value_text cs both.1,
    )

-- a Char of ASCII is written as Chars
low_text : (way : Context) (c : ℕ) → is_plain c ≡ true → IsText (written way c)
low_text Content c h =
    by_tests (c == 0x26) (c == 0x3C) (c == 0x3E) (c == 0xD) where
      by_tests : (s t u v : Bool) → IsText (unwrap_or (if s then Some (codes "&amp;") else if t then Some (codes "&lt;") else if u then Some (codes "&gt;") else if v then Some (codes "&#13;") else None) (c ∷ []))
      by_tests true t u v = text_plain (codes "&amp;") refl
      by_tests false true u v = text_plain (codes "&lt;") refl
      by_tests false false true v = text_plain (codes "&gt;") refl
      by_tests false false false true = text_plain (codes "&#13;") refl
      by_tests false false false false = text_plain (c ∷ []) (and_from (is_plain c) true h refl)
low_text Value c h =
    by_tests (c == 0x26) (c == 0x3C) (c == 0x22) (c == 0x9) (c == 0xA) (c == 0xD) where
      by_tests : (s t u v w x : Bool) → IsText (unwrap_or (if s then Some (codes "&amp;") else if t then Some (codes "&lt;") else if u then Some (codes "&quot;") else if v then Some (codes "&#9;") else if w then Some (codes "&#10;") else if x then Some (codes "&#13;") else None) (c ∷ []))
      by_tests true t u v w x = text_plain (codes "&amp;") refl
      by_tests false true u v w x = text_plain (codes "&lt;") refl
      by_tests false false true v w x = text_plain (codes "&quot;") refl
      by_tests false false false true w x = text_plain (codes "&#9;") refl
      by_tests false false false false true x = text_plain (codes "&#10;") refl
      by_tests false false false false false true = text_plain (codes "&#13;") refl
      by_tests false false false false false false = text_plain (c ∷ []) (and_from (is_plain c) true h refl)

pub escaped_text : (way : Context) (text : List ℕ) → list_all is_char text ≡ true → IsText (escaped way (encode_utf8_all text))
escaped_text way [] h = text_plain [] refl
escaped_text way (c ∷ cs) h =
    let both = and_parts (is_char c) (list_all is_char cs) h in
    subst IsText (sym (escaped-append way (encode c) (encode_utf8_all cs)))
    (text_append (escaped way (encode c)) (escaped way (encode_utf8_all cs)) (one both.0) (escaped_text way cs both.1)) where
      less : (n : ℕ) → n < 128 → nat_lt n 128 ≡ true
      less n h = grind (arith, nat_tests)

      one : is_char c ≡ true → IsText (escaped way (encode c))
      one char = ⊎_elim
          (λ (low : c < 128). subst IsText (sym (low_escaped way c low)) (low_text way c (and_from _ _ (less c low) char)))
          (λ (wide : 128 ≤ c). subst IsText (sym (wide_escaped way c wide ∙ sym (append-nil (encode c)))) (text_of (c ∷ []) (and_from (is_char c) true char refl))) (cases_lt c 128)

-- Bytes that aren't written

-- no byte of a text is `<` or `>`
pub content_without : (bytes : List ℕ) → (list_any (λ b. b == 60) (escaped Content bytes) ≡ false) × (list_any (λ b. b == 62) (escaped Content bytes) ≡ false)
content_without [] = (refl, refl)
content_without (b ∷ bs) =
    let later = content_without bs in
    (none_append (λ b. b == 60) (written Content b) (escaped Content bs) (no_less b) later.0, none_append (λ b. b == 62) (written Content b) (escaped Content bs) (no_greater b) later.1) where
      no_less : (b : ℕ) → list_any (λ b. b == 60) (written Content b) ≡ false
      no_less b = by_tests (b == 0x26) (b == 0x3C) (b == 0x3E) (b == 0xD) refl where
        by_tests : (s t u v : Bool) → (b == 60) ≡ t → list_any (λ b. b == 60) (unwrap_or (if s then Some (codes "&amp;") else if t then Some (codes "&lt;") else if u then Some (codes "&gt;") else if v then Some (codes "&#13;") else None) (b ∷ [])) ≡ false
        by_tests true t u v e = refl
        by_tests false true u v e = refl
        by_tests false false true v e = refl
        by_tests false false false true e = refl
        by_tests false false false false e = rw e refl

      no_greater : (b : ℕ) → list_any (λ b. b == 62) (written Content b) ≡ false
      no_greater b = by_tests (b == 0x26) (b == 0x3C) (b == 0x3E) (b == 0xD) refl where
        by_tests : (s t u v : Bool) → (b == 62) ≡ u → list_any (λ b. b == 62) (unwrap_or (if s then Some (codes "&amp;") else if t then Some (codes "&lt;") else if u then Some (codes "&gt;") else if v then Some (codes "&#13;") else None) (b ∷ [])) ≡ false
        by_tests true t u v e = refl
        by_tests false true u v e = refl
        by_tests false false true v e = refl
        by_tests false false false true e = refl
        by_tests false false false false e = rw e refl

-- no byte of a value is `<` or `"`
pub value_without : (bytes : List ℕ) → (list_any (λ b. b == 60) (escaped Value bytes) ≡ false) × (list_any (λ b. b == 34) (escaped Value bytes) ≡ false)
value_without [] = (refl, refl)
value_without (b ∷ bs) =
    let later = value_without bs in
    (none_append (λ b. b == 60) (written Value b) (escaped Value bs) (no_less b) later.0, none_append (λ b. b == 34) (written Value b) (escaped Value bs) (no_quote b) later.1) where
      no_less : (b : ℕ) → list_any (λ b. b == 60) (written Value b) ≡ false
      no_less b = by_tests (b == 0x26) (b == 0x3C) (b == 0x22) (b == 0x9) (b == 0xA) (b == 0xD) refl where
        by_tests : (s t u v w x : Bool) → (b == 60) ≡ t →
            list_any (λ b. b == 60) (unwrap_or (if s then Some (codes "&amp;") else if t then Some (codes "&lt;") else if u then Some (codes "&quot;") else if v then Some (codes "&#9;") else if w then Some (codes "&#10;") else if x then Some (codes "&#13;") else None) (b ∷ [])) ≡ false
        by_tests true t u v w x e = refl
        by_tests false true u v w x e = refl
        by_tests false false true v w x e = refl
        by_tests false false false true w x e = refl
        by_tests false false false false true x e = refl
        by_tests false false false false false true e = refl
        by_tests false false false false false false e = rw e refl

      no_quote : (b : ℕ) → list_any (λ b. b == 34) (written Value b) ≡ false
      no_quote b = by_tests (b == 0x26) (b == 0x3C) (b == 0x22) (b == 0x9) (b == 0xA) (b == 0xD) refl where
        by_tests : (s t u v w x : Bool) → (b == 34) ≡ u →
            list_any (λ b. b == 34) (unwrap_or (if s then Some (codes "&amp;") else if t then Some (codes "&lt;") else if u then Some (codes "&quot;") else if v then Some (codes "&#9;") else if w then Some (codes "&#10;") else if x then Some (codes "&#13;") else None) (b ∷ [])) ≡ false
        by_tests true t u v w x e = refl
        by_tests false true u v w x e = refl
        by_tests false false true v w x e = refl
        by_tests false false false true w x e = refl
        by_tests false false false false true x e = refl
        by_tests false false false false false true e = refl
        by_tests false false false false false false e = rw e refl

-- something is written of a text that isn't empty
written_some : (b : ℕ) → 1 ≤ length (written Content b)
written_some b = by_tests (b == 0x26) (b == 0x3C) (b == 0x3E) (b == 0xD) where
  by_tests : (s t u v : Bool) → 1 ≤ length (unwrap_or (if s then Some (codes "&amp;") else if t then Some (codes "&lt;") else if u then Some (codes "&gt;") else if v then Some (codes "&#13;") else None) (b ∷ []))
  by_tests true t u v = omega arith
  by_tests false true u v = omega arith
  by_tests false false true v = omega arith
  by_tests false false false true = omega arith
  by_tests false false false false = omega arith

pub escaped_longer : (bytes : List ℕ) → length bytes ≤ length (escaped Content bytes)
escaped_longer [] = omega arith
escaped_longer (b ∷ bs) = omega (arith, written_some b, escaped_longer bs, length-append (written Content b) (escaped Content bs))

pub content_some : (text : List ℕ) → text ≢ [] → 0 < length (escaped Content (encode_utf8_all text))
content_some [] some = absurd (some refl)
content_some (c ∷ cs) some = omega (arith, length-le-encodes (c ∷ cs), escaped_longer (encode_utf8_all (c ∷ cs)))
