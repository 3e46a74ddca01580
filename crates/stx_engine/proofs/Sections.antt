-- CDATA sections as they are written are whole shapes.
use Rattle.std.proofs.Common.{◌≡◌, ℕ, suc, ◌+◌, ◌<◌, ◌≤◌, Bool, true, false, not, ◌&&◌, ◌||◌, ◌==◌, List, [], ◌∷◌, ◌++◌, Some, length, get_or, refl, sym, ap, ◌∙◌, arith, append_assoc, append-nil, length-append, ⊎_elim}
use Rattle.std.specs.Prelude.{codes, encode_utf8_all, if◌then◌else◌, nat_le}
use Rattle.std.specs.List.{list_all}
use Rattle.std.proofs.lemmas.Bool.{and_parts, cases_lt}
use Rattle.std.proofs.lemmas.Bool.Decides.{nat_tests}
use Rattle.std.proofs.lemmas.Str.{encode_ascii, inside_one, length-le-encodes}
use Rattle.stx_base.specs.Character.{is_cdata_text, has_cdata_end}
use Rattle.xml_tokens.specs.Cuts.{IsWhole}
use Rattle.xml_tokens.specs.Places.{begins, first_word}
use Rattle.xml_tokens.specs.Shape.{behind}
use Rattle.result_writer.specs.Target.{cdata_text}
use Rattle.stx_engine.specs.Nesting.{Neither, effect}
use Rattle.stx_engine.proofs.Markup.{all_from, negated}
use lib.Utf8.{encode}

-- a byte that isn't ASCII
abbrev is_high : ℕ → Bool
is_high b = nat_le 128 b

high_not : (b w : ℕ) → is_high b ≡ true → w < 128 → (b == w) ≡ false
high_not b w h l = grind (arith, nat_tests)

high_from : (b : ℕ) → 128 ≤ b → is_high b ≡ true
high_from b h = grind (arith, nat_tests)

encode_high : (c : ℕ) → 128 ≤ c → list_all is_high (encode c) ≡ true
encode_high c high = all_from is_high (encode c) (λ k l. ⊎_elim
    (λ (low : get_or (encode c) k 0 < 128). absurd (omega (arith, inside_one c [] (encode c) k (sym (append-nil (encode c))) l low)))
    (λ (big : 128 ≤ get_or (encode c) k 0). high_from (get_or (encode c) k 0) big) (cases_lt (get_or (encode c) k 0) 128))

encode_some : (c : ℕ) → 1 ≤ length (encode c)
encode_some c = omega (arith, length-le-encodes (c ∷ []), length-append (encode c) [])

-- ASCII first begins high bytes nowhere
high_first : (bytes more ws : List ℕ) (w : ℕ) → 1 ≤ length bytes → list_all is_high bytes ≡ true → w < 128 → begins (bytes ++ more) (w ∷ ws) ≡ false
high_first [] more ws w n h l = absurd (omega arith)
high_first (b ∷ bs) more ws w n h l = ap (λ t. t && begins (bs ++ more) ws) (high_not b w (and_parts (is_high b) (list_all is_high bs) h).0 l)

-- characters begin with ASCII where their bytes do
begins_encoded : (word text more : List ℕ) → list_all (λ w. not (is_high w)) word ≡ true → begins (encode_utf8_all text ++ more) word ≡ begins (text ++ more) word
begins_encoded [] text more h = refl
begins_encoded (w ∷ ws) [] more h = refl
begins_encoded (w ∷ ws) (c ∷ cs) more h =
    let both = and_parts (not (is_high w)) (list_all (λ w. not (is_high w)) ws) h in
    let low : w < 128 = lower w (negated (is_high w) both.0) in
    ⊎_elim
    (λ (small : c < 128).
    ap (λ l. begins ((l ++ encode_utf8_all cs) ++ more) (w ∷ ws)) (encode_ascii c small)
    ∙ ap (λ t. (c == w) && t) (begins_encoded ws cs more both.1))
    (λ (high : 128 ≤ c).
    ap (λ l. begins l (w ∷ ws)) (append_assoc (encode c) (encode_utf8_all cs) more)
    ∙ high_first (encode c) (encode_utf8_all cs ++ more) ws w (encode_some c) (encode_high c high) low
    ∙ sym (ap (λ t. t && begins (cs ++ more) ws) (high_not c w (high_from c high) low)))
    (cases_lt c 128) where
      lower : (w : ℕ) → is_high w ≡ false → w < 128
      lower w h = grind (arith, nat_tests)

-- no mark begins within high bytes
behind_high : (bytes more : List ℕ) (at : ℕ) → list_all is_high bytes ≡ true → first_word (codes "]]>") at (bytes ++ more) ≡ first_word (codes "]]>") (at + length bytes) more
behind_high [] more at h = ap (λ n. first_word (codes "]]>") n more) (omega arith)
behind_high (b ∷ bs) more at h =
    let both = and_parts (is_high b) (list_all is_high bs) h in
    ap (λ t. if t && begins (bs ++ more) (codes "]>") then Some at else first_word (codes "]]>") (at + 1) (bs ++ more)) (high_not b 93 both.0 (omega arith))
    ∙ behind_high bs more (at + 1) both.1
    ∙ ap (λ n. first_word (codes "]]>") n more) (omega arith)

or_none : (s t : Bool) → (s || t) ≡ false → (s ≡ false) × (t ≡ false)
or_none true t h = absurd cc
or_none false t h = (refl, h)

and_false : (t : Bool) → (t && false) ≡ false
and_false true = refl
and_false false = refl

-- the mark that ends a section begins no text before it that doesn't hold it, whatever brackets the text ends in
not_yet : (c : ℕ) (cs more : List ℕ) → has_cdata_end (c ∷ cs) ≡ false → begins ((c ∷ cs) ++ 93 ∷ 93 ∷ 62 ∷ more) (codes "]]>") ≡ false
not_yet c [] more h = and_false (c == 93)
not_yet c (d ∷ []) more h = ap (λ t. (c == 93) && t) (and_false (d == 93)) ∙ and_false (c == 93)
not_yet c (d ∷ e ∷ es) more h = (or_none ((c == 93) && ((d == 93) && ((e == 62) && true))) (has_cdata_end (d ∷ e ∷ es)) h).0

ends_once : (text more : List ℕ) (at : ℕ) → has_cdata_end text ≡ false → first_word (codes "]]>") at (encode_utf8_all text ++ 93 ∷ 93 ∷ 62 ∷ more) ≡ Some (at + length (encode_utf8_all text))
ends_once [] more at h = ap (λ n. Some n) (omega arith)
ends_once (c ∷ cs) more at h =
    let tail = 93 ∷ 93 ∷ 62 ∷ more in
    let rest = encode_utf8_all cs ++ tail in
    let behind = (or_none _ (has_cdata_end cs) h).1 in
    ⊎_elim
    (λ (small : c < 128).
    let is : encode_utf8_all (c ∷ cs) ++ tail ≡ c ∷ rest = ap (λ l. (l ++ encode_utf8_all cs) ++ tail) (encode_ascii c small) in
    let none : begins (c ∷ rest) (codes "]]>") ≡ false =
    sym (ap (λ l. begins l (codes "]]>")) is) ∙ begins_encoded (codes "]]>") (c ∷ cs) tail refl ∙ not_yet c cs more h in
    let n : length (encode_utf8_all (c ∷ cs)) ≡ suc (length (encode_utf8_all cs)) = ap (λ l. length (l ++ encode_utf8_all cs)) (encode_ascii c small) in
    ap (first_word (codes "]]>") at) is
    ∙ ap (λ t. if t then Some at else first_word (codes "]]>") (at + 1) rest) none
    ∙ ends_once cs more (at + 1) behind
    ∙ ap (λ n. Some n) (omega (arith, n)))
    (λ (high : 128 ≤ c).
    ap (first_word (codes "]]>") at) (append_assoc (encode c) (encode_utf8_all cs) tail)
    ∙ behind_high (encode c) rest at (encode_high c high)
    ∙ ends_once cs more (at + length (encode c)) behind
    ∙ ap (λ n. Some n) (omega (arith, length-append (encode c) (encode_utf8_all cs))))
    (cases_lt c 128)

pub cdata_whole : (text more : List ℕ) → is_cdata_text text ≡ true → IsWhole false (cdata_text text) more
cdata_whole text more h =
    let bytes = encode_utf8_all text in
    let none : has_cdata_end text ≡ false = negated (has_cdata_end text) (and_parts _ (not (has_cdata_end text)) h).1 in
    let n : 9 + length bytes + 3 ≡ length (cdata_text text) = omega (arith, length-append bytes (93 ∷ 93 ∷ 62 ∷ [])) in
    ap (λ l. behind 3 (first_word (codes "]]>") 9 l)) (append_assoc bytes (93 ∷ 93 ∷ 62 ∷ []) more)
    ∙ ap (behind 3) (ends_once text more 9 none) ∙ ap (λ n. Some n) n

pub cdata_effect : (text : List ℕ) → effect (cdata_text text) ≡ Neither
cdata_effect text = refl
