-- What a lexeme can say a result accepts.
use Rattle.std.proofs.Common.{◌≡◌, ℕ, zero, suc, ◌+◌, ◌-◌, ◌/◌, ◌%◌, ◌<◌, ◌≤◌, Bool, true, false, not, ◌&&◌, ◌||◌, ◌==◌, cond, List, [], ◌∷◌, ◌++◌, Some, length, drop, refl, sym, ap, ◌∙◌, arith, encode_utf8, encode_utf8_all}
use Rattle.std.specs.Prelude.{if◌then◌else◌, codes, is_some, nat_le, nat_lt, slice_get}
use Rattle.std.specs.List.{list_all, list_any}
use Rattle.std.specs.Option.{option_map_or}
use Rattle.std.proofs.Math.Utf8.{encode}
use Rattle.std.proofs.lemmas.Bool.{and_from, and_parts, ne_eqb, or_from}
use Rattle.std.proofs.lemmas.Bool.Decides.{nat_tests}
use Rattle.std.proofs.lemmas.Str.{encode_ascii}
use Rattle.stx_base.specs.Character.{is_char, is_space}
use Rattle.result_writer.specs.Allowed.{are_chars, ends_in, has_pair, is_good_comment, is_good_data, is_good_target}
use Rattle.xml_tokens.specs.Judged.{holds, is_target}
use Rattle.xml_tokens.specs.Places.{begins, first_word}
use Rattle.xml_tokens.specs.Sayable.{is_comment, is_data, is_literal}

not_true : (t : Bool) → not t ≡ true → t ≡ false
not_true true h = absurd cc
not_true false h = refl

pub literal-chars : (text : List ℕ) → list_all is_literal text ≡ true → are_chars text ≡ true
literal-chars [] h = refl
literal-chars (c ∷ cs) h =
    let both = and_parts (is_literal c) (list_all is_literal cs) h in and_from _ _ (and_parts (is_char c) (not (c == 13)) both.0).0 (literal-chars cs both.1)

-- Carriage returns

high : (c : ℕ) → 128 ≤ c → list_all (λ b. nat_le 128 b) (encode c) ≡ true
unfolding encode
high c h = by_tests (nat_lt c 128) (nat_lt c 2048) (nat_lt c 65536) refl where
  not_less : nat_lt c 128 ≡ true → ⊥
  not_less e = let l : c < 128 = grind (arith, nat_tests, e) in absurd (omega (arith, l, h))

  ok : (n k : ℕ) → 128 ≤ n → nat_le 128 (n + k) ≡ true
  ok n k e = grind (arith, nat_tests, e)

  by_tests : (s m l : Bool) → nat_lt c 128 ≡ s →
      list_all (λ b. nat_le 128 b) (cond s (c ∷ []) (cond m ((192 + c / 64) ∷ (128 + c % 64) ∷ []) (cond l ((224 + c / 4096) ∷ (128 + c / 64 % 64) ∷ (128 + c % 64) ∷ []) ((240 + c / 262144) ∷ (128 + c / 4096 % 64) ∷ (128 + c / 64 % 64) ∷ (128 + c % 64) ∷ [])))) ≡ true
  by_tests true m l e = absurd (not_less e)
  by_tests false true l e = rw (ok 192 (c / 64) (omega arith), ok 128 (c % 64) (omega arith)) refl
  by_tests false false true e = rw (ok 224 (c / 4096) (omega arith), ok 128 (c / 64 % 64) (omega arith), ok 128 (c % 64) (omega arith)) refl
  by_tests false false false e = rw (ok 240 (c / 262144) (omega arith), ok 128 (c / 4096 % 64) (omega arith), ok 128 (c / 64 % 64) (omega arith), ok 128 (c % 64) (omega arith)) refl

high-none : (bytes : List ℕ) → list_all (λ b. nat_le 128 b) bytes ≡ true → list_any (λ b. b == 0xD) bytes ≡ false
high-none [] h = refl
high-none (b ∷ bs) h =
    let parts = and_parts (nat_le 128 b) (list_all (λ x. nat_le 128 x) bs) h in
    let big : 128 ≤ b = grind (arith, nat_tests, parts.0) in
    or_from _ _ (ne_eqb b 13 (λ e. absurd (omega (arith, big, e)))) (high-none bs parts.1)

char-none : (c : ℕ) → (c == 13) ≡ false → list_any (λ b. b == 0xD) (encode_utf8 c) ≡ false
char-none c h = by_size (nat_lt c 128) refl where
  one : c < 128 → list_any (λ b. b == 0xD) (encode_utf8 c) ≡ false
  one l = ap (list_any (λ b. b == 0xD)) (encode_ascii c l) ∙ or_from _ _ h refl

  by_size : (t : Bool) → nat_lt c 128 ≡ t → list_any (λ b. b == 0xD) (encode_utf8 c) ≡ false
  by_size true e = one (grind (arith, nat_tests, e))
  by_size false e = high-none (encode_utf8 c) (high c (grind (arith, nat_tests, e)))

any-append : (xs ys : List ℕ) → list_any (λ b. b == 0xD) xs ≡ false → list_any (λ b. b == 0xD) ys ≡ false → list_any (λ b. b == 0xD) (xs ++ ys) ≡ false
any-append [] ys h k = k
any-append (x ∷ xs) ys h k = let both = or_none (x == 0xD) (list_any (λ b. b == 0xD) xs) h in or_from _ _ both.0 (any-append xs ys both.1 k) where
  or_none : (s t : Bool) → (s || t) ≡ false → (s ≡ false) × (t ≡ false)
  or_none true t h = absurd cc
  or_none false t h = (refl, h)

no-return : (text : List ℕ) → list_all is_literal text ≡ true → list_any (λ b. b == 0xD) (encode_utf8_all text) ≡ false
no-return [] h = refl
no-return (c ∷ cs) h =
    let both = and_parts (is_literal c) (list_all is_literal cs) h in
    any-append (encode_utf8 c) (encode_utf8_all cs) (char-none c (not_true (c == 13) (and_parts (is_char c) (not (c == 13)) both.0).1)) (no-return cs both.1)

-- Two bytes side by side

and-true : (t : Bool) → (t && true) ≡ t
and-true true = refl
and-true false = refl

begins-one : (s : ℕ) (bs : List ℕ) → begins bs (s ∷ []) ≡ option_map_or (λ next. next == s) (slice_get bs 0) false
begins-one s [] = refl
begins-one s (b ∷ bs) = and-true (b == s)

pair-holds : (f s at : ℕ) (bytes : List ℕ) → is_some (first_word (f ∷ s ∷ []) at bytes) ≡ has_pair f s bytes
pair-holds f s at [] = refl
pair-holds f s at (b ∷ bs) =
    by_test (begins (b ∷ bs) (f ∷ s ∷ [])) (pair-holds f s (at + 1) bs)
    ∙ ap (λ t. ((b == f) && t) || has_pair f s bs) (begins-one s bs) where
      by_test : (t : Bool) → is_some (first_word (f ∷ s ∷ []) (at + 1) bs) ≡ has_pair f s bs → is_some (if t then Some at else first_word (f ∷ s ∷ []) (at + 1) bs) ≡ (t || has_pair f s bs)
      by_test true h = refl
      by_test false h = h

get-drop : (n : ℕ) (bs : List ℕ) → slice_get (drop n bs) 0 ≡ slice_get bs n
get-drop zero [] = refl
get-drop zero (b ∷ bs) = refl
get-drop (suc n) [] = refl
get-drop (suc n) (b ∷ bs) = get-drop n bs

ends-one : (s : ℕ) (bytes : List ℕ) → begins (drop (length bytes - 1) bytes) (s ∷ []) ≡ ends_in s bytes
ends-one s bytes =
    begins-one s (drop (length bytes - 1) bytes) ∙ ap (λ o. option_map_or (λ next. next == s) o false) (get-drop (length bytes - 1) bytes)

pub comment-good : (text : List ℕ) → list_all is_literal text ≡ true → is_comment text ≡ true → is_good_comment text ≡ true
comment-good text h k =
    let bytes = encode_utf8_all text in
    let both = and_parts (not (holds (codes "--") bytes)) (not (begins (drop (length bytes - 1) bytes) (codes "-"))) k in
    three (not (list_any (λ b. b == 0xD) bytes)) (not (has_pair 0x2D 0x2D bytes)) (not (ends_in 0x2D bytes)) (ap not (no-return text h)) (sym (ap not (pair-holds 0x2D 0x2D 0 bytes)) ∙ both.0) (sym (ap not (ends-one 0x2D bytes)) ∙ both.1) where
      three : (x y z : Bool) → x ≡ true → y ≡ true → z ≡ true → (x && y && z) ≡ true
      three x y z h i j = rw (h, i, j) refl

pub target-good : (target : List ℕ) → is_target target ≡ true → is_good_target target ≡ true
target-good target h = h

pub data-good : (text : List ℕ) → list_all is_literal text ≡ true → is_data text ≡ true → is_good_data text ≡ true
data-good text h k =
    let bytes = encode_utf8_all text in
    let both = and_parts (not (holds (codes "?>") bytes)) (not (option_map_or is_space (slice_get text 0) false)) k in
    and_from _ _ (ap not (no-return text h)) (sym (ap not (pair-holds 0x3F 0x3E 0 bytes)) ∙ both.0)
