-- Texts are read exactly where they are spelled so.
use Rattle.std.proofs.Common.{◌≡◌, ◌≢◌, ℕ, suc, ◌+◌, ◌<◌, ◌≤◌, Bool, true, false, not, ◌&&◌, ◌||◌, ◌==◌, List, [], ◌∷◌, ◌++◌, Some, None, Result, Ok, Err, length, take, drop, map, refl, sym, ap, ◌∙◌, arith, subst, cond, append_assoc, encode_utf8}
use Rattle.std.proofs.Math.Utf8.{encode}
use Rattle.std.proofs.Common.{◌/◌, ◌%◌}
use Rattle.std.specs.Char.{is_digit, digit_value}
use Rattle.std.specs.Str.Parse.{digits_value}
use Rattle.std.specs.Option.{option_map_or}
use Rattle.std.specs.Prelude.{bytes_eq, nat_le, nat_lt, slice_get, codes}
use Rattle.std.specs.List.{list_all, position_or_len}
use Rattle.std.proofs.lemmas.Bool.{ne_eqb}
use Rattle.std.proofs.lemmas.Bool.Decides.{nat_tests}
use Rattle.std.proofs.lemmas.List.{map-append}
use Rattle.std.proofs.lemmas.Str.{encode_ascii}
use Rattle.std.proofs.lemmas.Slice.Eq.{bytes_eq-Decides}
use Rattle.xml_tokens.specs.Texts.{as_feed, as_space, lines, lines_behind, literal, is_ampersand, first_part, later_parts, after_ampersand, all_of, both, referred, said, predefined, result_map, character, numbered, numbered_or_unknown}
use Rattle.xml_tokens.specs.Spelling.{SpellsLiteral, itself, return_and_feed, return, as_read, reference, SpellsChar, literal as by_literal, entity, decimal, hexadecimal, IsNumber, SpelledTextsAreRead}
use Rattle.xml_tokens.specs.declared.text.BadText.{BadText}
use Rattle.xml_tokens.specs.declared.text.BadText.TheVariants.{Reference}
use Rattle.std.proofs.Common.{length-append}
use Rattle.std.proofs.Math.Seq.{take-append_seam, drop-append_seam}
use Rattle.std.proofs.lemmas.List.{drop-drop}
use Rattle.xml_tokens.specs.declared.text.Context.{Context}
use Rattle.xml_tokens.specs.declared.text.Context.TheVariants.{Content, Value}
use Rattle.xml_tokens.proofs.ListLemmas.{two, prefix-append}
use Rattle.xml_tokens.proofs.TextLemmas.{lines-calm, parts-pass}
use Rattle.xml_tokens.proofs.PartLemmas.{joined, joined-assoc}

-- a front without ampersands belongs to the first part
first-pass : (front rest : List ℕ) → list_all (λ b. not (is_ampersand b)) front ≡ true → first_part is_ampersand (front ++ rest) ≡ front ++ first_part is_ampersand rest
first-pass [] rest h = refl
first-pass (b ∷ bs) rest h = by_test (λ k. first-pass bs rest k) (is_ampersand b) refl h where
  by_test : (list_all (λ b. not (is_ampersand b)) bs ≡ true → first_part is_ampersand (bs ++ rest) ≡ bs ++ first_part is_ampersand rest) → (t : Bool) → is_ampersand b ≡ t → (not t && list_all (λ b. not (is_ampersand b)) bs) ≡ true →
      take (cond (not (is_ampersand b)) (1 + position_or_len is_ampersand (bs ++ rest)) 0) (b ∷ (bs ++ rest)) ≡ b ∷ (bs ++ first_part is_ampersand rest)
  by_test again true e k = absurd cc
  by_test again false e k =
      let n : 1 + position_or_len is_ampersand (bs ++ rest) ≡ suc (position_or_len is_ampersand (bs ++ rest)) = omega arith in
      ap (λ t. take (cond (not t) (1 + position_or_len is_ampersand (bs ++ rest)) 0) (b ∷ (bs ++ rest))) e ∙ (ap (λ m. take m (b ∷ (bs ++ rest))) n ∙ ap (λ l. b ∷ l) (again k))

-- what a front says that is literal
pub front-said : (place : Context) (front said_so : List ℕ) (rest : List ℕ) → list_all (λ b. not (is_ampersand b)) front ≡ true → literal place (front ++ first_part is_ampersand rest) ≡ said_so ++ literal place (first_part is_ampersand rest) →
    said place (front ++ rest) ≡ joined (Ok said_so) (said place rest)
unfolding said
front-said place front said_so rest calm h =
    let tail = all_of place (later_parts is_ampersand rest) in
    ap (λ l. joined (Ok (literal place l)) (all_of place (later_parts is_ampersand (front ++ rest)))) (first-pass front rest calm)
    ∙ (ap (λ l. joined (Ok (literal place (front ++ first_part is_ampersand rest))) (all_of place l)) (parts-pass front rest calm)
    ∙ (ap (λ l. joined (Ok l) tail) h ∙ joined-assoc (Ok said_so) (Ok (literal place (first_part is_ampersand rest))) tail))

-- the bytes of a character beyond ASCII
pub high : (c : ℕ) → 128 ≤ c → list_all (λ b. nat_le 128 b) (encode c) ≡ true
unfolding encode
high c h = by_tests (nat_lt c 128) (nat_lt c 2048) (nat_lt c 65536) refl where
  not_less : nat_lt c 128 ≡ true → ⊥
  not_less e = let l : c < 128 = grind (arith, nat_tests, e) in absurd (omega (arith, l, h))

  ok : (n k : ℕ) → 128 ≤ n → nat_le 128 (n + k) ≡ true
  ok n k e = grind (arith, nat_tests, e)

  by_tests : (s m l : Bool) → nat_lt c 128 ≡ s →
      list_all (λ b. nat_le 128 b) (cond s (c ∷ []) (cond m ((192 + c / 64) ∷ (128 + c % 64) ∷ []) (cond l ((224 + c / 4096) ∷ (128 + c / 64 % 64) ∷ (128 + c % 64) ∷ []) ((240 + c / 262144) ∷ (128 + c / 4096 % 64) ∷ (128 + c / 64 % 64) ∷ (128 + c % 64) ∷ [])))) ≡ true
  by_tests true m l e = absurd (not_less e)
  by_tests false true l e = rw (ok 192 (c / 64) (omega arith), ok 128 (c % 64) (omega arith)) refl
  by_tests false false true e = rw (ok 224 (c / 4096) (omega arith), ok 128 (c / 64 % 64) (omega arith), ok 128 (c % 64) (omega arith)) refl
  by_tests false false false e = rw (ok 240 (c / 262144) (omega arith), ok 128 (c / 4096 % 64) (omega arith), ok 128 (c / 64 % 64) (omega arith), ok 128 (c % 64) (omega arith)) refl

less-high : (p : ℕ → Bool) → ((b : ℕ) → 128 ≤ b → p b ≡ false) → (bytes : List ℕ) → list_all (λ b. nat_le 128 b) bytes ≡ true → list_all (λ b. not (p b)) bytes ≡ true
less-high p low [] h = refl
less-high p low (b ∷ bs) h =
    let parts = two (nat_le 128 b) (list_all (λ x. nat_le 128 x) bs) h in
    both_true (not (p b)) (list_all (λ x. not (p x)) bs) (ap not (low b (fits parts.0))) (less-high p low bs parts.1) where
      fits : {n m : ℕ} → nat_le n m ≡ true → n ≤ m
      fits {n} {m} e = grind (arith, nat_tests)

      both_true : (s t : Bool) → s ≡ true → t ≡ true → (s && t) ≡ true
      both_true s t a b = rw (a, b) refl

-- the bytes of a character that is neither of these ASCII ones
module _ (p : ℕ → Bool) (low : (b : ℕ) → 128 ≤ b → p b ≡ false) where
  char-fails : (c : ℕ) → p c ≡ false → list_all (λ b. not (p b)) (encode_utf8 c) ≡ true
  char-fails c h = by_size (nat_lt c 128) refl where
    one : c < 128 → list_all (λ b. not (p b)) (encode_utf8 c) ≡ true
    one l = ap (list_all (λ b. not (p b))) (encode_ascii c l) ∙ ap (λ t. not t && true) h

    by_size : (t : Bool) → nat_lt c 128 ≡ t → list_all (λ b. not (p b)) (encode_utf8 c) ≡ true
    by_size true e = one (grind (arith, nat_tests, e))
    by_size false e = less-high p low (encode_utf8 c) (high c (grind (arith, nat_tests, e)))

high-not : (n b : ℕ) → n < 128 → 128 ≤ b → (b == n) ≡ false
high-not n b l h = ne_eqb b n (λ e. absurd (omega (arith, l, h, e)))

-- a character of which the bytes say themselves
pub itself-calm : (place : Context) (c : ℕ) (rest : List ℕ) → c ≢ 13 → literal place (encode_utf8 c ++ rest) ≡ encode_utf8 (as_read place c) ++ literal place rest
itself-calm Content c rest ne = lines-calm (encode_utf8 c) rest (char-fails (λ b. b == 13) (λ b h. high-not 13 b (omega arith) h) c (ne_eqb c 13 ne))
itself-calm Value c rest ne =
    ap (map as_space) (lines-calm (encode_utf8 c) rest (char-fails (λ b. b == 13) (λ b h. high-not 13 b (omega arith) h) c (ne_eqb c 13 ne)))
    ∙ (map-append as_space (encode_utf8 c) (lines rest) ∙ ap (λ l. l ++ map as_space (lines rest)) (spaced c)) where
      kept : (bytes : List ℕ) → list_all (λ b. nat_le 128 b) bytes ≡ true → map as_space bytes ≡ bytes
      kept [] h = refl
      kept (b ∷ bs) h =
          let parts = two (nat_le 128 b) (list_all (λ x. nat_le 128 x) bs) h in
          let big : 128 ≤ b = fits parts.0 in
          let same : as_space b ≡ b = ap (λ t. cond (t || b == 10) 32 b) (high-not 9 b (omega arith) big) ∙ ap (λ t. cond t 32 b) (high-not 10 b (omega arith) big) in
          ap (λ x. x ∷ map as_space bs) same ∙ ap (λ l. b ∷ l) (kept bs parts.1) where
            fits : {n m : ℕ} → nat_le n m ≡ true → n ≤ m
            fits {n} {m} e = grind (arith, nat_tests)

      space-small : (c : ℕ) → c < 128 → as_space c < 128
      space-small c l = grind (arith, nat_tests, l)

      spaced : (c : ℕ) → map as_space (encode_utf8 c) ≡ encode_utf8 (as_space c)
      spaced c = by_size (nat_lt c 128) refl where
        by_size : (t : Bool) → nat_lt c 128 ≡ t → map as_space (encode_utf8 c) ≡ encode_utf8 (as_space c)
        by_size true e =
            let l : c < 128 = grind (arith, nat_tests, e) in
            ap (map as_space) (encode_ascii c l) ∙ sym (encode_ascii (as_space c) (space-small c l))
        by_size false e =
            let big : 128 ≤ c = grind (arith, nat_tests, e) in
            let same : as_space c ≡ c = ap (λ t. cond (t || c == 10) 32 c) (high-not 9 c (omega arith) big) ∙ ap (λ t. cond t 32 c) (high-not 10 c (omega arith) big) in
            kept (encode_utf8 c) (high c big) ∙ ap encode_utf8 (sym same)

-- a literal character is said first
pub literal-step : (place : Context) (c : ℕ) (front rest : List ℕ) → SpellsLiteral c front rest → c ≢ 38 → said place (front ++ rest) ≡ joined (Ok (encode_utf8 (as_read place c))) (said place rest)
literal-step place _ _ _ (itself c rest char ne) amp =
    front-said place (encode_utf8 c) (encode_utf8 (as_read place c)) rest (char-fails is_ampersand (λ b h. high-not 38 b (omega arith) h) c (ne_eqb c 38 amp)) (itself-calm place c (first_part is_ampersand rest) ne)
literal-step place _ _ _ (return_and_feed rest) amp = front-said place (13 ∷ 10 ∷ []) (encode_utf8 (as_read place 10)) rest refl (ends place (first_part is_ampersand rest)) where
  ends : (place : Context) (x : List ℕ) → literal place (13 ∷ 10 ∷ x) ≡ encode_utf8 (as_read place 10) ++ literal place x
  ends Content x = ap (λ l. l ++ lines x) (sym (encode_ascii 10 (omega arith)))
  ends Value x = ap (λ l. l ++ map as_space (lines x)) (sym (encode_ascii 32 (omega arith)))
literal-step place _ _ _ (return rest other) amp = front-said place (13 ∷ []) (encode_utf8 (as_read place 10)) rest refl (ends place) where
  no_feed : (rest : List ℕ) → slice_get rest 0 ≢ Some 10 → lines_behind true (first_part is_ampersand rest) ≡ lines (first_part is_ampersand rest)
  no_feed [] k = refl
  no_feed (b ∷ bs) k = by_test (is_ampersand b) where
    by_test : (t : Bool) → lines_behind true (take (cond (not t) (1 + position_or_len is_ampersand bs) 0) (b ∷ bs)) ≡ lines (take (cond (not t) (1 + position_or_len is_ampersand bs) 0) (b ∷ bs))
    by_test true = refl
    by_test false =
        let n : 1 + position_or_len is_ampersand bs ≡ suc (position_or_len is_ampersand bs) = omega arith in
        let not_feed : (b == 10) ≡ false = ne_eqb b 10 (λ e. k (ap (λ x. Some x) e)) in
        subst (λ m. lines_behind true (take m (b ∷ bs)) ≡ lines (take m (b ∷ bs))) (sym n)
        (ap (λ t. cond t [] (as_feed b ∷ []) ++ lines_behind (b == 13) (take (position_or_len is_ampersand bs) bs)) not_feed)

  ends : (place : Context) → literal place (13 ∷ first_part is_ampersand rest) ≡ encode_utf8 (as_read place 10) ++ literal place (first_part is_ampersand rest)
  ends Content = ap (λ l. 10 ∷ l) (no_feed rest other) ∙ ap (λ l. l ++ lines (first_part is_ampersand rest)) (sym (encode_ascii 10 (omega arith)))
  ends Value = ap (λ l. 32 ∷ map as_space l) (no_feed rest other) ∙ ap (λ l. l ++ map as_space (lines (first_part is_ampersand rest))) (sym (encode_ascii 32 (omega arith)))

-- a part up to its semicolon
semicolon-pass : (name rest : List ℕ) → list_all (λ b. not (b == 59)) name ≡ true → position_or_len (λ b. b == 59) (name ++ 59 ∷ rest) ≡ length name
semicolon-pass name rest h = prefix-append (λ b. not (b == 59)) name (59 ∷ rest) h refl

part-said : (place : Context) (name rest : List ℕ) → list_all (λ b. not (b == 59)) name ≡ true → after_ampersand place (name ++ 59 ∷ rest) ≡ both (λ c more. encode_utf8 c ++ more) (referred name) (Ok (literal place rest))
part-said place name rest h =
    let len = semicolon-pass name rest h in
    let all = name ++ 59 ∷ rest in
    ap (λ n. cond (nat_lt n (length all)) (both (λ c more. encode_utf8 c ++ more) (referred (take n all)) (Ok (literal place (drop (n + 1) all)))) (Err Reference)) len
    ∙ (ap (λ t. cond t (both (λ c more. encode_utf8 c ++ more) (referred (take (length name) all)) (Ok (literal place (drop (length name + 1) all)))) (Err Reference)) (inside)
    ∙ (ap (λ l. both (λ c more. encode_utf8 c ++ more) (referred l) (Ok (literal place (drop (length name + 1) all)))) (take-append_seam name (59 ∷ rest))
    ∙ ap (λ l. both (λ c more. encode_utf8 c ++ more) (referred name) (Ok (literal place l))) behind)) where
      inside : nat_lt (length name) (length (name ++ 59 ∷ rest)) ≡ true
      inside = less (omega (arith, length-append name (59 ∷ rest))) where
        less : {n m : ℕ} → n < m → nat_lt n m ≡ true
        less {n} {m} e = grind (arith, nat_tests)

      behind : drop (length name + 1) (name ++ 59 ∷ rest) ≡ rest
      behind = sym (drop-drop 1 (length name) (name ++ 59 ∷ rest)) ∙ ap (drop 1) (drop-append_seam name (59 ∷ rest))

-- a reference is said first
pub reference-step : (place : Context) (name rest : List ℕ) → list_all (λ b. not (is_ampersand b)) name ≡ true → list_all (λ b. not (b == 59)) name ≡ true →
    said place (reference name ++ rest) ≡ joined (result_map encode_utf8 (referred name)) (said place rest)
unfolding said
reference-step place name rest amp semi =
    let tail = all_of place (later_parts is_ampersand rest) in
    let whole : (name ++ 59 ∷ []) ++ rest ≡ name ++ 59 ∷ rest = append_assoc name (59 ∷ []) rest in
    let part : first_part is_ampersand ((name ++ 59 ∷ []) ++ rest) ≡ name ++ 59 ∷ first_part is_ampersand rest =
    ap (first_part is_ampersand) whole ∙ (first-pass name (59 ∷ rest) amp ∙ ap (λ l. name ++ l) (first-pass (59 ∷ []) rest refl)) in
    let later : later_parts is_ampersand ((name ++ 59 ∷ []) ++ rest) ≡ later_parts is_ampersand rest = ap (later_parts is_ampersand) whole ∙ (parts-pass name (59 ∷ rest) amp ∙ parts-pass (59 ∷ []) rest refl) in
    nothing-first place _
    ∙ (ap (λ l. joined (after_ampersand place l) (all_of place (later_parts is_ampersand ((name ++ 59 ∷ []) ++ rest)))) part
    ∙ (ap (λ l. joined (after_ampersand place (name ++ 59 ∷ first_part is_ampersand rest)) (all_of place l)) later
    ∙ (ap (λ r. joined r tail) (part-said place name (first_part is_ampersand rest) semi)
    ∙ by_named (referred name) (literal place (first_part is_ampersand rest)) tail))) where
      nothing-first : (place : Context) (r : Result (List ℕ) BadText) → joined (Ok (literal place [])) r ≡ r
      nothing-first Content (Ok l) = refl
      nothing-first Content (Err f) = refl
      nothing-first Value (Ok l) = refl
      nothing-first Value (Err f) = refl

      by_named : (named : Result ℕ BadText) (front : List ℕ) (r : Result (List ℕ) BadText) → joined (both (λ c more. encode_utf8 c ++ more) named (Ok front)) r ≡ joined (result_map encode_utf8 named) (joined (Ok front) r)
      by_named (Ok c) front r = joined-assoc (Ok (encode_utf8 c)) (Ok front) r
      by_named (Err f) front (Ok l) = refl
      by_named (Err f) front (Err g) = refl

bytes_eq-true : (xs ys : List ℕ) → bytes_eq xs ys ≡ true → xs ≡ ys
bytes_eq-true xs ys h = (bytes_eq-Decides xs ys).0 h

-- the names of the predefined entities
words-of : (name : List ℕ) (c : ℕ) → predefined name ≡ Some c → (list_all (λ b. not (is_ampersand b)) name ≡ true) × (list_all (λ b. not (b == 59)) name ≡ true)
words-of name c h = by_tests (bytes_eq name (codes "lt")) refl (bytes_eq name (codes "gt")) refl (bytes_eq name (codes "amp")) refl (bytes_eq name (codes "apos")) refl (bytes_eq name (codes "quot")) refl h where
  is : (word : List ℕ) → bytes_eq name word ≡ true → list_all (λ b. not (is_ampersand b)) word ≡ true → list_all (λ b. not (b == 59)) word ≡ true →
      (list_all (λ b. not (is_ampersand b)) name ≡ true) × (list_all (λ b. not (b == 59)) name ≡ true)
  is word e a s = subst (λ l. (list_all (λ b. not (is_ampersand b)) l ≡ true) × (list_all (λ b. not (b == 59)) l ≡ true)) (sym (bytes_eq-true name word e)) (a, s)

  by_tests : (l : Bool) → bytes_eq name (codes "lt") ≡ l → (g : Bool) → bytes_eq name (codes "gt") ≡ g → (m : Bool) → bytes_eq name (codes "amp") ≡ m → (p : Bool) → bytes_eq name (codes "apos") ≡ p →
      (q : Bool) → bytes_eq name (codes "quot") ≡ q → cond l (Some 60) (cond g (Some 62) (cond m (Some 38) (cond p (Some 39) (cond q (Some 34) None)))) ≡ Some c →
      (list_all (λ b. not (is_ampersand b)) name ≡ true) × (list_all (λ b. not (b == 59)) name ≡ true)
  by_tests true e g f m e3 p e4 q e5 k = is (codes "lt") e refl refl
  by_tests false e true f m e3 p e4 q e5 k = is (codes "gt") f refl refl
  by_tests false e false f true e3 p e4 q e5 k = is (codes "amp") e3 refl refl
  by_tests false e false f false e3 true e4 q e5 k = is (codes "apos") e4 refl refl
  by_tests false e false f false e3 false e4 true e5 k = is (codes "quot") e5 refl refl
  by_tests false e false f false e3 false e4 false e5 k = absurd cc

referred-entity : (name : List ℕ) (c : ℕ) → predefined name ≡ Some c → referred name ≡ Ok c
unfolding referred
referred-entity name c h = ap (λ o. option_map_or (λ x. Ok x) o (numbered_or_unknown name)) h

-- digits are neither
digits-calm : (radix n : ℕ) → radix ≤ 36 → digit_value n ≡ 36 → (digits : List ℕ) → list_all (λ b. is_digit b radix) digits ≡ true → list_all (λ b. not (b == n)) digits ≡ true
digits-calm radix n low none [] h = refl
digits-calm radix n low none (d ∷ ds) h =
    let parts = two (is_digit d radix) (list_all (λ b. is_digit b radix) ds) h in
    let small : digit_value d < radix = less parts.0 in
    let other : (d == n) ≡ false = ne_eqb d n (λ e. let same : digit_value d ≡ 36 = ap digit_value e ∙ none in absurd (omega (arith, small, same, low))) in
    both_true (not (d == n)) (list_all (λ b. not (b == n)) ds) (ap not other) (digits-calm radix n low none ds parts.1) where
      less : {n m : ℕ} → nat_lt n m ≡ true → n < m
      less {n} {m} e = grind (arith, nat_tests)

      both_true : (s t : Bool) → s ≡ true → t ≡ true → (s && t) ≡ true
      both_true s t a b = rw (a, b) refl

character-of : (radix c : ℕ) (digits : List ℕ) → IsNumber radix digits c → character radix digits ≡ Ok c
character-of radix c digits n =
    ap (λ t. cond t (numbered (digits_value radix digits)) (Err Reference)) (both_true (nat_lt 0 (length digits)) (list_all (λ b. is_digit b radix) digits) (more n.some) n.each)
    ∙ (ap numbered n.value ∙ ap (λ t. cond t (Ok c) (Err Reference)) n.char) where
      more : {n m : ℕ} → n < m → nat_lt n m ≡ true
      more {n} {m} e = grind (arith, nat_tests)

      both_true : (s t : Bool) → s ≡ true → t ≡ true → (s && t) ≡ true
      both_true s t a b = rw (a, b) refl

referred-hexadecimal : (digits : List ℕ) (c : ℕ) → IsNumber 16 digits c → referred (35 ∷ 120 ∷ digits) ≡ Ok c
unfolding referred
referred-hexadecimal digits c n = character-of 16 c digits n

referred-decimal : (digits : List ℕ) (c : ℕ) → IsNumber 10 digits c → referred (35 ∷ digits) ≡ Ok c
unfolding referred
referred-decimal [] c n = absurd (omega (arith, n.some))
referred-decimal (d ∷ ds) c n =
    let parts = two (is_digit d 10) (list_all (λ b. is_digit b 10) ds) n.each in
    let small : digit_value d < 10 = less parts.0 in
    let no_x : (d == 120) ≡ false = ne_eqb d 120 (λ e. let same : digit_value d ≡ 33 = ap digit_value e in absurd (omega (arith, small, same))) in
    ap (λ t. cond (t && true) (character 16 ds) (character 10 (d ∷ ds))) no_x ∙ character-of 10 c (d ∷ ds) n where
      less : {n m : ℕ} → nat_lt n m ≡ true → n < m
      less {n} {m} e = grind (arith, nat_tests)

char-step : (place : Context) (c : ℕ) (front more : List ℕ) → SpellsChar place c front more → said place (front ++ more) ≡ joined (Ok (encode_utf8 c)) (said place more)
char-step _ _ _ _ (by_literal place c bytes more one amp) = literal-step place c bytes more one amp
char-step _ _ _ _ (entity place name c more is) =
    let calm = words-of name c is in
    reference-step place name more calm.0 calm.1 ∙ ap (λ r. joined (result_map encode_utf8 r) (said place more)) (referred-entity name c is)
char-step _ _ _ _ (decimal place digits c more n) =
    reference-step place (35 ∷ digits) more (digits-calm 10 38 (omega arith) refl digits n.each) (digits-calm 10 59 (omega arith) refl digits n.each)
    ∙ ap (λ r. joined (result_map encode_utf8 r) (said place more)) (referred-decimal digits c n)
char-step _ _ _ _ (hexadecimal place digits c more n) =
    reference-step place (35 ∷ 120 ∷ digits) more (digits-calm 16 38 (omega arith) refl digits n.each) (digits-calm 16 59 (omega arith) refl digits n.each)
    ∙ ap (λ r. joined (result_map encode_utf8 r) (said place more)) (referred-hexadecimal digits c n)

pub said-nothing : (place : Context) → said place [] ≡ Ok []
unfolding said
said-nothing Content = refl
said-nothing Value = refl

-- what is spelled is said
pub spelled-said : SpelledTextsAreRead
spelled-said place [] bytes h = ap (said place) h ∙ said-nothing place
spelled-said place (c ∷ text) bytes h =
    ap (said place) h.3 ∙ (char-step place c h.0 h.1 h.2 ∙ ap (joined (Ok (encode_utf8 c))) (spelled-said place text h.1 h.4))
