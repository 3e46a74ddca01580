-- What is written of sections, comments and instructions spells them.
use Rattle.std.proofs.Common.{◌≡◌, ◌≢◌, ℕ, zero, suc, is_some, ◌+◌, ◌-◌, ◌<◌, ◌≤◌, Bool, true, false, not, ◌&&◌, ◌==◌, List, [], ◌∷◌, ◌++◌, Option, Some, None, length, drop, refl, sym, ap, ◌∙◌, arith, append-nil, ⊎_elim, inl, inr}
use Rattle.std.specs.Prelude.{codes, encode_utf8_all, nat_le, slice_get, if◌then◌else◌}
use Rattle.std.specs.List.{list_all, list_any}
use Rattle.std.specs.Option.{option_map_or}
use Rattle.std.proofs.lemmas.Bool.{and_parts, and_from, cases_Bool, cases_lt, eqb-true, or_parts, or_from}
use Rattle.std.proofs.lemmas.Bool.Decides.{nat_tests}
use Rattle.std.proofs.lemmas.Str.{encode_ascii, encodes-append, length-le-encodes}
use Rattle.stx_base.specs.Character.{has_cdata_end, is_char, is_char_of_cdata, is_cdata_text, is_name, is_name_char, is_name_start, is_ncname, is_ncname_char, is_space}
use Rattle.xml_tokens.specs.Places.{begins, first_word}
use Rattle.xml_tokens.specs.Spelling.{Spells, SpellsBehind, SpellsLines, itself}
use Rattle.xml_tokens.specs.declared.lexeme.Body.TheVariants.{CData, Comment, Pi}
use Rattle.xml_tokens.specs.Tags.{is_name_byte}
use Rattle.xml_tokens.proofs.TagSpelling.{name-bytes, name-chars}
use Rattle.xml_tokens.proofs.TextSpelling.{high}
use Rattle.result_writer.specs.Allowed.{are_chars, ends_in, has_pair, is_good_comment, is_good_data, is_good_target}
use Rattle.result_writer.specs.Target.{cdata_text, comment_fault, comment_text, data_text, instruction_fault, instruction_text, unless}
use Rattle.result_writer.specs.declared.fault.ResultFault.{ResultFault}
use Rattle.result_writer.specs.declared.fault.ResultFault.TheVariants.{BadChar, BadComment, BadPi}
use Rattle.read_back.specs.Reading.{read_data}
use Rattle.read_back.proofs.Bytes.{IsText, is_plain, plain_is, text_append, text_of, text_plain}
use lib.Utf8.{encode}

pub negated : (t : Bool) → not t ≡ true → t ≡ false
negated true h = absurd cc
negated false h = refl

and_false : (t : Bool) → (t && false) ≡ false
and_false true = refl
and_false false = refl

and_true : (t : Bool) → (t && true) ≡ t
and_true true = refl
and_true false = refl

other_from : (n m : ℕ) → (n == m) ≡ false → n ≢ m
other_from n m h e = grind (arith, nat_tests)

-- Texts without references

pub lines_text : (text : List ℕ) → list_all is_char_of_cdata text ≡ true → SpellsLines text (encode_utf8_all text)
lines_text [] h = refl
lines_text (c ∷ cs) h =
    let both = and_parts (is_char_of_cdata c) (list_all is_char_of_cdata cs) h in
    let parts = and_parts (is_char c) (not (c == 0xD)) both.0 in (
      encode c,
      encode_utf8_all cs,
      itself c (encode_utf8_all cs) parts.0 (other_from c 13 (negated (c == 13) parts.1)),
      refl,
      lines_text cs both.1,
    )

-- Chars of which no byte is a carriage return
without_return : (text : List ℕ) → list_all is_char text ≡ true → list_any (λ b. b == 0xD) (encode_utf8_all text) ≡ false → list_all is_char_of_cdata text ≡ true
without_return [] h k = refl
without_return (c ∷ cs) h k =
    let both = and_parts (is_char c) (list_all is_char cs) h in
    let parts = none_parts (encode c) (encode_utf8_all cs) k in
    and_from (is_char_of_cdata c) (list_all is_char_of_cdata cs) (and_from (is_char c) (not (c == 0xD)) both.0 (ap not (one c parts.0))) (without_return cs both.1 parts.1) where
      none_parts : (xs ys : List ℕ) → list_any (λ b. b == 0xD) (xs ++ ys) ≡ false → (list_any (λ b. b == 0xD) xs ≡ false) × (list_any (λ b. b == 0xD) ys ≡ false)
      none_parts [] ys e = (refl, e)
      none_parts (x ∷ xs) ys e =
          let both = or_parts (x == 0xD) (list_any (λ b. b == 0xD) (xs ++ ys)) e in
          let later = none_parts xs ys both.1 in
          (or_from (x == 0xD) (list_any (λ b. b == 0xD) xs) both.0 later.0, later.1)

      wide : (n : ℕ) → 128 ≤ n → (n == 0xD) ≡ false
      wide n h = grind (arith, nat_tests)

      one : (n : ℕ) → list_any (λ b. b == 0xD) (encode n) ≡ false → (n == 0xD) ≡ false
      one n e = ⊎_elim
          (λ (low : n < 128). (or_parts (n == 0xD) false (sym (ap (list_any (λ b. b == 0xD)) (encode_ascii n low)) ∙ e)).0)
          (λ (high : 128 ≤ n). wide n high) (cases_lt n 128)

-- Words that don't stand in bytes

-- a byte that isn't ASCII
abbrev is_high : ℕ → Bool
is_high b = nat_le 128 b

high_not : (b w : ℕ) → is_high b ≡ true → w < 128 → (b == w) ≡ false
high_not b w h l = grind (arith, nat_tests)

high_from : (b : ℕ) → 128 ≤ b → is_high b ≡ true
high_from b h = grind (arith, nat_tests)

pub encode_some : (c : ℕ) → 1 ≤ length (encode c)
encode_some c = omega (arith, length-le-encodes (c ∷ []), sized c) where
  sized : (n : ℕ) → length (encode n ++ []) ≡ length (encode n)
  sized n = ap length (append-nil (encode n))

high_first : (bytes more ws : List ℕ) (w : ℕ) → 1 ≤ length bytes → list_all is_high bytes ≡ true → w < 128 → begins (bytes ++ more) (w ∷ ws) ≡ false
high_first [] more ws w n h l = absurd (omega arith)
high_first (b ∷ bs) more ws w n h l = ap (λ t. t && begins (bs ++ more) ws) (high_not b w (and_parts (is_high b) (list_all is_high bs) h).0 l)

-- characters begin with a word of ASCII where their bytes do
begins_encoded : (word text : List ℕ) → list_all (λ w. not (is_high w)) word ≡ true → begins (encode_utf8_all text) word ≡ begins text word
begins_encoded [] text h = refl
begins_encoded (w ∷ ws) [] h = refl
begins_encoded (w ∷ ws) (c ∷ cs) h =
    let both = and_parts (not (is_high w)) (list_all (λ w. not (is_high w)) ws) h in
    let low : w < 128 = lower w (negated (is_high w) both.0) in
    ⊎_elim
    (λ (small : c < 128). ap (λ l. begins (l ++ encode_utf8_all cs) (w ∷ ws)) (encode_ascii c small) ∙ ap (λ t. (c == w) && t) (begins_encoded ws cs both.1))
    (λ (big : 128 ≤ c). high_first (encode c) (encode_utf8_all cs) ws w (encode_some c) (high c big) low ∙ sym (ap (λ t. t && begins cs ws) (high_not c w (high_from c big) low)))
    (cases_lt c 128) where
      lower : (w : ℕ) → is_high w ≡ false → w < 128
      lower w h = grind (arith, nat_tests)

-- no word of ASCII begins within high bytes
behind_high : (w : ℕ) (ws bytes more : List ℕ) (at : ℕ) → w < 128 → list_all is_high bytes ≡ true → first_word (w ∷ ws) at (bytes ++ more) ≡ first_word (w ∷ ws) (at + length bytes) more
behind_high w ws [] more at l h = ap (λ n. first_word (w ∷ ws) n more) (omega arith)
behind_high w ws (b ∷ bs) more at l h =
    let both = and_parts (is_high b) (list_all is_high bs) h in
    ap (λ t. if t && begins (bs ++ more) ws then Some at else first_word (w ∷ ws) (at + 1) (bs ++ more)) (high_not b w both.0 l)
    ∙ behind_high w ws bs more (at + 1) l both.1
    ∙ ap (λ n. first_word (w ∷ ws) n more) (omega arith)

-- a text that doesn't have the mark of a section's end doesn't begin with it
not_begun : (c : ℕ) (cs : List ℕ) → has_cdata_end (c ∷ cs) ≡ false → begins (c ∷ cs) (codes "]]>") ≡ false
not_begun c [] h = and_false (c == 93)
not_begun c (d ∷ []) h = ap (λ t. (c == 93) && t) (and_false (d == 93)) ∙ and_false (c == 93)
not_begun c (d ∷ e ∷ es) h = (or_parts ((c == 93) && ((d == 93) && ((e == 62) && true))) (has_cdata_end (d ∷ e ∷ es)) h).0

no_mark : (text : List ℕ) (at : ℕ) → has_cdata_end text ≡ false → first_word (codes "]]>") at (encode_utf8_all text) ≡ None
no_mark [] at h = refl
no_mark (c ∷ cs) at h =
    let behind = (or_parts _ (has_cdata_end cs) h).1 in
    ⊎_elim
    (λ (small : c < 128).
    let is : encode_utf8_all (c ∷ cs) ≡ c ∷ encode_utf8_all cs = ap (λ l. l ++ encode_utf8_all cs) (encode_ascii c small) in
    let none : begins (c ∷ encode_utf8_all cs) (codes "]]>") ≡ false =
    sym (ap (λ l. begins l (codes "]]>")) is) ∙ begins_encoded (codes "]]>") (c ∷ cs) refl ∙ not_begun c cs h in
    ap (first_word (codes "]]>") at) is
    ∙ ap (λ t. if t then Some at else first_word (codes "]]>") (at + 1) (encode_utf8_all cs)) none
    ∙ no_mark cs (at + 1) behind)
    (λ (big : 128 ≤ c). behind_high 93 (codes "]>") (encode c) (encode_utf8_all cs) at (omega arith) (high c big) ∙ no_mark cs (at + length (encode c)) behind)
    (cases_lt c 128)

-- bytes without a pair don't hold it
no_pair : (f s : ℕ) (bytes : List ℕ) (at : ℕ) → has_pair f s bytes ≡ false → first_word (f ∷ s ∷ []) at bytes ≡ None
no_pair f s [] at h = refl
no_pair f s (b ∷ []) at h = ap (λ t. if t then Some at else None) (and_false (b == f))
no_pair f s (b ∷ c ∷ bs) at h =
    let both = or_parts ((b == f) && (c == s)) (has_pair f s (c ∷ bs)) h in
    ap (λ t. if (b == f) && t then Some at else first_word (f ∷ s ∷ []) (at + 1) (c ∷ bs)) (and_true (c == s))
    ∙ ap (λ t. if t then Some at else first_word (f ∷ s ∷ []) (at + 1) (c ∷ bs)) both.0
    ∙ no_pair f s (c ∷ bs) (at + 1) both.1

last_byte : (w n : ℕ) (bytes : List ℕ) → begins (drop n bytes) (w ∷ []) ≡ option_map_or (λ b. b == w) (slice_get bytes n) false
last_byte w zero [] = refl
last_byte w (suc n) [] = refl
last_byte w zero (b ∷ bs) = and_true (b == w)
last_byte w (suc n) (b ∷ bs) = last_byte w n bs

-- Sections and comments

pub section_spelled : (first : Bool) (text : List ℕ) → is_cdata_text text ≡ true → Spells first (CData text) (cdata_text text)
section_spelled first text h =
    let parts = and_parts (list_all is_char_of_cdata text) (not (has_cdata_end text)) h in
    (encode_utf8_all text, lines_text text parts.0, ap is_some (no_mark text 0 (negated (has_cdata_end text) parts.1)), refl)

section_chars : (text : List ℕ) → list_all is_char_of_cdata text ≡ true → list_all is_char text ≡ true
section_chars [] h = refl
section_chars (c ∷ cs) h =
    let both = and_parts (is_char_of_cdata c) (list_all is_char_of_cdata cs) h in
    and_from (is_char c) (list_all is_char cs) (and_parts (is_char c) (not (c == 0xD)) both.0).0 (section_chars cs both.1)

pub section_text : (text : List ℕ) → is_cdata_text text ≡ true → IsText (cdata_text text)
section_text text h =
    text_append (codes "<![CDATA[" ++ encode_utf8_all text) (codes "]]>")
    (text_append (codes "<![CDATA[") (encode_utf8_all text) (text_plain (codes "<![CDATA[") refl)
    (text_of text (section_chars text (and_parts (list_all is_char_of_cdata text) (not (has_cdata_end text)) h).0)))
    (text_plain (codes "]]>") refl)

passed : (test : Bool) (f : ResultFault) (others : Option ResultFault) → unless test f others ≡ None → (test ≡ true) × (others ≡ None)
passed true f others h = (refl, h)
passed false f others h = absurd cc

pub record IsComment (text : List ℕ) : Type 0 where
  pub chars : are_chars text ≡ true
  pub calm : list_any (λ b. b == 0xD) (encode_utf8_all text) ≡ false
  pub pairs : has_pair 0x2D 0x2D (encode_utf8_all text) ≡ false
  pub last : ends_in 0x2D (encode_utf8_all text) ≡ false

pub comment_is : (text : List ℕ) → comment_fault text ≡ None → IsComment text
comment_is text h =
    let bytes = encode_utf8_all text in
    let p = passed (are_chars text) BadChar _ h in
    let q = (passed (is_good_comment text) BadComment None p.1).0 in
    let r = and_parts (not (list_any (λ b. b == 0xD) bytes) && not (has_pair 0x2D 0x2D bytes)) (not (ends_in 0x2D bytes)) q in
    let s = and_parts (not (list_any (λ b. b == 0xD) bytes)) (not (has_pair 0x2D 0x2D bytes)) r.0 in
    record { chars = p.0; calm = negated _ s.0; pairs = negated _ s.1; last = negated _ r.1 }

pub comment_spelled : (first : Bool) (text : List ℕ) → IsComment text → Spells first (Comment text) (comment_text text)
comment_spelled first text is =
    let bytes = encode_utf8_all text in (
      bytes,
      lines_text text (without_return text is.chars is.calm),
      ap is_some (no_pair 45 45 bytes 0 is.pairs),
      last_byte 45 (length bytes - 1) bytes ∙ is.last,
      refl,
    )

pub comment_bytes : (text : List ℕ) → IsComment text → IsText (comment_text text)
comment_bytes text is =
    text_append (codes "<!--" ++ encode_utf8_all text) (codes "-->")
    (text_append (codes "<!--") (encode_utf8_all text) (text_plain (codes "<!--") refl) (text_of text is.chars)) (text_plain (codes "-->") refl)

-- Instructions

pub record IsInstruction (target text : List ℕ) : Type 0 where
  pub chars : are_chars text ≡ true
  pub named : is_good_target target ≡ true
  pub calm : list_any (λ b. b == 0xD) (encode_utf8_all text) ≡ false
  pub pairs : has_pair 0x3F 0x3E (encode_utf8_all text) ≡ false

pub instruction_is : (target text : List ℕ) → instruction_fault target text ≡ None → IsInstruction target text
instruction_is target text h =
    let bytes = encode_utf8_all text in
    let p = passed (are_chars text) BadChar _ h in
    let q = and_parts (is_good_target target) (is_good_data text) (passed (is_good_target target && is_good_data text) BadPi None p.1).0 in
    let r = and_parts (not (list_any (λ b. b == 0xD) bytes)) (not (has_pair 0x3F 0x3E bytes)) q.1 in
    record { chars = p.0; named = q.0; calm = negated _ r.0; pairs = negated _ r.1 }

space_plain : (c : ℕ) → is_space c ≡ true → is_plain c ≡ true
space_plain c h = grind (arith, nat_tests)

-- the white space that data begins with
abbrev spaces : List ℕ → List ℕ
spaces [] = []
spaces (c ∷ cs) = if is_space c then c ∷ spaces cs else []

spaces_are : (text : List ℕ) → (list_all is_space (spaces text) ≡ true) × (list_all is_plain (spaces text) ≡ true) × (text ≡ spaces text ++ read_data text)
spaces_are [] = (refl, refl, refl)
spaces_are (c ∷ cs) = by_test (is_space c) refl (spaces_are cs) where
  by_test : (t : Bool) → is_space c ≡ t → (list_all is_space (spaces cs) ≡ true) × (list_all is_plain (spaces cs) ≡ true) × (cs ≡ spaces cs ++ read_data cs)
      → (list_all is_space (if t then c ∷ spaces cs else []) ≡ true) × (list_all is_plain (if t then c ∷ spaces cs else []) ≡ true)
      × (c ∷ cs ≡ (if t then c ∷ spaces cs else []) ++ (if t then read_data cs else c ∷ cs))
  by_test true e h = (and_from (is_space c) (list_all is_space (spaces cs)) e h.0, and_from (is_plain c) (list_all is_plain (spaces cs)) (space_plain c e) h.1, ap (λ l. c ∷ l) h.2)
  by_test false e h = (refl, refl, refl)

-- what follows it begins with no white space
read_first : (text : List ℕ) → option_map_or is_space (slice_get (encode_utf8_all (read_data text)) 0) false ≡ false
read_first [] = refl
read_first (c ∷ cs) = by_test (is_space c) refl (read_first cs) where
  wide : (n : ℕ) → is_high n ≡ true → is_space n ≡ false
  wide n h = grind (arith, nat_tests)

  by_bytes : (bytes : List ℕ) → 1 ≤ length bytes → list_all is_high bytes ≡ true → option_map_or is_space (slice_get (bytes ++ encode_utf8_all cs) 0) false ≡ false
  by_bytes [] n h = absurd (omega arith)
  by_bytes (b ∷ bs) n h = wide b (and_parts (is_high b) (list_all is_high bs) h).0

  by_test : (t : Bool) → is_space c ≡ t → option_map_or is_space (slice_get (encode_utf8_all (read_data cs)) 0) false ≡ false
      → option_map_or is_space (slice_get (encode_utf8_all (if t then read_data cs else c ∷ cs)) 0) false ≡ false
  by_test true e h = h
  by_test false e h = ⊎_elim
      (λ (low : c < 128). ap (λ l. option_map_or is_space (slice_get (l ++ encode_utf8_all cs) 0) false) (encode_ascii c low) ∙ e)
      (λ (big : 128 ≤ c). by_bytes (encode c) (encode_some c) (high c big)) (cases_lt c 128)

read_calm : (text : List ℕ) → list_all is_char_of_cdata text ≡ true → list_all is_char_of_cdata (read_data text) ≡ true
read_calm [] h = refl
read_calm (c ∷ cs) h = by_test (is_space c) (read_calm cs (and_parts (is_char_of_cdata c) (list_all is_char_of_cdata cs) h).1) where
  by_test : (t : Bool) → list_all is_char_of_cdata (read_data cs) ≡ true → list_all is_char_of_cdata (if t then read_data cs else c ∷ cs) ≡ true
  by_test true e = e
  by_test false e = h

data_spelled : (text : List ℕ) → SpellsBehind (data_text text) (encode_utf8_all (read_data text))
data_spelled [] = inl (refl, refl)
data_spelled (c ∷ cs) =
    let are = spaces_are (c ∷ cs) in
    let first = read_first (c ∷ cs) in
    let whole : encode_utf8_all (c ∷ cs) ≡ spaces (c ∷ cs) ++ encode_utf8_all (read_data (c ∷ cs)) =
    ap encode_utf8_all are.2 ∙ encodes-append (spaces (c ∷ cs)) (read_data (c ∷ cs)) ∙ ap (λ l. l ++ encode_utf8_all (read_data (c ∷ cs))) (plain_is (spaces (c ∷ cs)) are.1) in
    inr (32, spaces (c ∷ cs), and_from (is_space 32) (list_all is_space (spaces (c ∷ cs))) refl are.0, ap (λ l. 32 ∷ l) whole, first)

-- Names

pub name_of_ncname : (name : List ℕ) → is_ncname name ≡ true → is_name name ≡ true
name_of_ncname name h =
    let both = and_parts (option_map_or is_name_start (slice_get name 0) false) (list_all is_ncname_char name) h in
    and_from (option_map_or is_name_start (slice_get name 0) false) (list_all is_name_char name) both.0 (each name both.1) where
      each : (cs : List ℕ) → list_all is_ncname_char cs ≡ true → list_all is_name_char cs ≡ true
      each [] k = refl
      each (c ∷ cs) k =
          let both = and_parts (is_ncname_char c) (list_all is_ncname_char cs) k in
          and_from (is_name_char c) (list_all is_name_char cs) (and_parts (is_name_char c) (not (c == 0x3A)) both.0).0 (each cs both.1)

-- a byte that no name has
unnamed : (w b : ℕ) → is_name_byte w ≡ false → is_name_byte b ≡ true → (b == w) ≡ false
unnamed w b h k = ⊎_elim (λ (e : (b == w) ≡ true). absurd (let clash : false ≡ true = sym h ∙ ap is_name_byte (sym (eqb-true b w e)) ∙ k in cc)) (λ (e : (b == w) ≡ false). e) (cases_Bool (b == w))

name_pair : (bytes more : List ℕ) → list_all is_name_byte bytes ≡ true → has_pair 63 62 more ≡ false → has_pair 63 62 (bytes ++ more) ≡ false
name_pair [] more h k = k
name_pair (b ∷ bs) more h k =
    let both = and_parts (is_name_byte b) (list_all is_name_byte bs) h in
    rw (unnamed 63 b refl both.0) (name_pair bs more both.1 k)

data_pair : (text : List ℕ) → has_pair 63 62 (encode_utf8_all text) ≡ false → has_pair 63 62 (data_text text) ≡ false
data_pair [] h = refl
data_pair (c ∷ cs) h = h

pub instruction_spelled : (target text : List ℕ) → IsInstruction target text → Spells false (Pi target (read_data text)) (instruction_text target text)
instruction_spelled target text is =
    let name = encode_utf8_all target in
    let bytes : list_all is_name_byte name ≡ true = (name-bytes target (name_of_ncname target (and_parts (is_ncname target) _ is.named).0)).bytes in (
      data_text text,
      encode_utf8_all (read_data text),
      is.named,
      data_spelled text,
      lines_text (read_data text) (read_calm text (without_return text is.chars is.calm)),
      ap is_some (no_pair 63 62 (name ++ data_text text) 0 (name_pair name (data_text text) bytes (data_pair text is.pairs))),
      refl,
      refl,
    )

data_bytes : (text : List ℕ) → list_all is_char text ≡ true → IsText (data_text text)
data_bytes [] h = text_plain [] refl
data_bytes (c ∷ cs) h = text_append (codes " ") (encode_utf8_all (c ∷ cs)) (text_plain (codes " ") refl) (text_of (c ∷ cs) h)

pub ncname_text : (name : List ℕ) → is_ncname name ≡ true → IsText (encode_utf8_all name)
ncname_text name h = text_of name (name-chars name (name_of_ncname name h))

pub instruction_bytes : (target text : List ℕ) → IsInstruction target text → IsText (instruction_text target text)
instruction_bytes target text is =
    let front = codes "<?" ++ encode_utf8_all target in
    text_append (front ++ data_text text) (codes "?>")
    (text_append front (data_text text)
    (text_append (codes "<?") (encode_utf8_all target) (text_plain (codes "<?") refl) (ncname_text target (and_parts (is_ncname target) _ is.named).0))
    (data_bytes text is.chars))
    (text_plain (codes "?>") refl)
