-- What texts say is spelled so.
use Rattle.std.proofs.Common.{◌≡◌, ◌≢◌, ℕ, zero, suc, ◌+◌, ◌<◌, Bool, true, false, not, ◌&&◌, ◌==◌, List, [], ◌∷◌, ◌++◌, Option, Some, None, Result, Ok, Err, IsUtf8, length, length-append, take, drop, get_or, refl, sym, ap, ◌∙◌, arith, subst, cond, append_assoc, encode_utf8, encode_utf8_all}
use Rattle.std.specs.Prelude.{nat_lt, slice_get, codes}
use Rattle.std.specs.Char.{is_digit}
use Rattle.std.specs.List.{list_all, position_or_len}
use Rattle.std.specs.Option.{option_map_or}
use Rattle.std.specs.Str.{chars}
use Rattle.std.specs.Str.Parse.{digits_value}
use Rattle.std.proofs.lemmas.Bool.{eqb-true, eqb-false}
use Rattle.std.proofs.lemmas.Bool.Decides.{nat_tests}
use Rattle.std.proofs.lemmas.List.{take-append-drop}
use Rattle.std.proofs.lemmas.List.Folds.{list_all-append}
use Rattle.std.proofs.lemmas.List.Sums.{split_at_first, passes_at_first}
use Rattle.std.proofs.lemmas.Str.{encode_ascii, chars_past_char, IsUtf8-past_char, length-encode, len_utf8_bounds}
use Rattle.stx_base.specs.Character.{is_char, is_name}
use Rattle.xml_tokens.specs.Places.{begins}
use Rattle.xml_tokens.specs.Texts.{literal, is_ampersand, first_part, later_parts, after_ampersand, all_of, referred, said, predefined, result_map, character, numbered, numbered_or_unknown}
use Rattle.xml_tokens.specs.Spelling.{SpellsLiteral, itself, return_and_feed, return, as_read, reference, SpellsChar, literal as by_literal, entity, decimal, hexadecimal, SpellsText, IsNumber, TextsAreSpelled}
use Rattle.xml_tokens.specs.declared.text.BadText.{BadText}
use Rattle.xml_tokens.specs.declared.text.BadText.TheVariants.{Reference, Entity}
use Rattle.xml_tokens.specs.declared.text.Context.{Context}
use Rattle.xml_tokens.proofs.ListLemmas.{two, prefix-all}
use Rattle.xml_tokens.proofs.PartLemmas.{joined}
use Rattle.xml_tokens.proofs.TextSpelling.{literal-step, reference-step, said-nothing}
use Rattle.xml_tokens.proofs.Utf8Lemmas.{utf8-one, utf8-before, utf8-behind}
use Rattle.std.proofs.lemmas.List.{drop-drop}
use Rattle.std.proofs.Math.Seq.{take-append_seam, drop-append_seam, get_or-append_seam}
use Rattle.std.proofs.lemmas.Str.{chars-append, IsUtf8-append}

-- what is said in two parts
joined-ok : (a : List ℕ) (r : Result (List ℕ) BadText) (out : List ℕ) → joined (Ok a) r ≡ Ok out → (more : List ℕ) × (r ≡ Ok more) × (out ≡ a ++ more)
joined-ok a (Ok more) out h = (more, refl, sym (ok_is (a ++ more) h)) where
  ok_is : (l : List ℕ) → joined (Ok a) (Ok more) ≡ Ok out → a ++ more ≡ out
  ok_is l e = cc
joined-ok a (Err f) out h = absurd cc

named-ok : (named : Result ℕ BadText) (r : Result (List ℕ) BadText) (out : List ℕ) → joined (result_map encode_utf8 named) r ≡ Ok out →
    (c : ℕ) × (more : List ℕ) × (named ≡ Ok c) × (r ≡ Ok more) × (out ≡ encode_utf8 c ++ more)
named-ok (Ok c) r out h = let j = joined-ok (encode_utf8 c) r out h in (c, j.0, refl, j.1, j.2)
named-ok (Err f) (Ok l) out h = absurd cc
named-ok (Err f) (Err g) out h = absurd cc

number-ok : (n c : ℕ) → numbered n ≡ Ok c → (n ≡ c) × (is_char c ≡ true)
number-ok n c h = by_test (is_char n) refl h where
  by_test : (t : Bool) → is_char n ≡ t → cond t (Ok n) (Err Reference) ≡ Ok c → (n ≡ c) × (is_char c ≡ true)
  by_test true e k = let same : n ≡ c = cc in (same, ap is_char (sym same) ∙ e)
  by_test false e k = absurd cc

character-ok : (radix c : ℕ) (digits : List ℕ) → character radix digits ≡ Ok c → IsNumber radix digits c
character-ok radix c digits h = by_test (nat_lt 0 (length digits) && list_all (λ b. is_digit b radix) digits) refl h where
  less : {n m : ℕ} → nat_lt n m ≡ true → n < m
  less {n} {m} e = grind (arith, nat_tests)

  by_test : (t : Bool) → (nat_lt 0 (length digits) && list_all (λ b. is_digit b radix) digits) ≡ t → cond t (numbered (digits_value radix digits)) (Err Reference) ≡ Ok c → IsNumber radix digits c
  by_test true e k =
      let parts = two (nat_lt 0 (length digits)) (list_all (λ b. is_digit b radix) digits) e in
      let n = number-ok (digits_value radix digits) c k in
      record { some = less parts.0; each = parts.1; value = n.0; char = n.1 }
  by_test false e k = absurd cc

-- what a reference names, by its form
pub referred-spelled : (place : Context) (name : List ℕ) (c : ℕ) (more : List ℕ) → referred name ≡ Ok c → SpellsChar place c (reference name) more
unfolding referred
referred-spelled place name c more h = by_entity (predefined name) refl h where
  hash : (xs : List ℕ) → begins xs (codes "#") ≡ true → (digits : List ℕ) × (xs ≡ 35 ∷ digits)
  hash [] e = absurd cc
  hash (x ∷ xs) e = (xs, ap (λ y. y ∷ xs) (eqb-true x 35 (two (x == 35) true e).0))

  hash_x : (xs : List ℕ) → begins xs (codes "#x") ≡ true → (digits : List ℕ) × (xs ≡ 35 ∷ 120 ∷ digits)
  hash_x [] e = absurd cc
  hash_x (x ∷ []) e = let parts = two (x == 35) false e in absurd cc
  hash_x (x ∷ y ∷ xs) e =
      let parts = two (x == 35) ((y == 120) && true) e in
      (xs, ap (λ z. z ∷ y ∷ xs) (eqb-true x 35 parts.0) ∙ ap (λ z. 35 ∷ z ∷ xs) (eqb-true y 120 (two (y == 120) true parts.1).0))

  by_name : (t : Bool) → cond t (Err Entity) (Err Reference) ≡ Ok c → SpellsChar place c (reference name) more
  by_name true k = absurd cc
  by_name false k = absurd cc

  by_hash : (t : Bool) → begins name (codes "#") ≡ t → cond t (character 10 (drop 1 name)) (cond (is_name (chars name)) (Err Entity) (Err Reference)) ≡ Ok c → SpellsChar place c (reference name) more
  by_hash true e k =
      let d = hash name e in
      let n : IsNumber 10 d.0 c = character-ok 10 c d.0 (ap (λ l. character 10 (drop 1 l)) (sym d.1) ∙ k) in
      subst (λ (l : List ℕ). SpellsChar place c (reference l) more) (sym d.1) (decimal place d.0 c more n)
  by_hash false e k = by_name (is_name (chars name)) k

  by_hash_x : (t : Bool) → begins name (codes "#x") ≡ t → cond t (character 16 (drop 2 name)) (cond (begins name (codes "#")) (character 10 (drop 1 name)) (cond (is_name (chars name)) (Err Entity) (Err Reference))) ≡ Ok c →
      SpellsChar place c (reference name) more
  by_hash_x true e k =
      let d = hash_x name e in
      let n : IsNumber 16 d.0 c = character-ok 16 c d.0 (ap (λ l. character 16 (drop 2 l)) (sym d.1) ∙ k) in
      subst (λ (l : List ℕ). SpellsChar place c (reference l) more) (sym d.1) (hexadecimal place d.0 c more n)
  by_hash_x false e k = by_hash (begins name (codes "#")) refl k

  by_entity : (o : Option ℕ) → predefined name ≡ o → option_map_or (λ x. Ok x) o (numbered_or_unknown name) ≡ Ok c → SpellsChar place c (reference name) more
  by_entity (Some x) e k = let same : x ≡ c = cc in entity place name c more (e ∙ ap (λ y. Some y) same)
  by_entity None e k = by_hash_x (begins name (codes "#x")) refl k

-- a reference that says something has its semicolon, before another ampersand
pub semicolon-comes : (place : Context) (rest out : List ℕ) → said place (38 ∷ rest) ≡ Ok out →
    (name : List ℕ) × (more : List ℕ) × (rest ≡ name ++ 59 ∷ more) × (list_all (λ b. not (is_ampersand b)) name ≡ true) × (list_all (λ b. not (b == 59)) name ≡ true)
unfolding said
semicolon-comes place rest out h = by_part (first_of (after_ampersand place (first_part is_ampersand rest)) (all_of place (later_parts is_ampersand rest)) _ (joined-ok (literal place []) _ out h).1) where
  first_of : (x y : Result (List ℕ) BadText) (l : List ℕ) → joined x y ≡ Ok l → (a : List ℕ) × (x ≡ Ok a)
  first_of (Ok a) y l e = (a, refl)
  first_of (Err f) (Ok b) l e = absurd cc
  first_of (Err f) (Err g) l e = absurd cc

  less : {n m : ℕ} → nat_lt n m ≡ true → n < m
  less {n} {m} e = grind (arith, nat_tests)

  found : position_or_len (λ b. b == 59) (first_part is_ampersand rest) < length (first_part is_ampersand rest) →
      (name : List ℕ) × (more : List ℕ) × (rest ≡ name ++ 59 ∷ more) × (list_all (λ b. not (is_ampersand b)) name ≡ true) × (list_all (λ b. not (b == 59)) name ≡ true)
  found inside =
      let part = first_part is_ampersand rest in
      let len = position_or_len (λ b. b == 59) part in
      let name = take len part in
      let behind = drop (len + 1) part in
      let later = drop (position_or_len is_ampersand rest) rest in
      let here : get_or part len 0 ≡ 59 = eqb-true _ _ (passes_at_first (λ b. b == 59) part 0 inside) in
      let cut : part ≡ name ++ 59 ∷ behind = split_at_first (λ b. b == 59) part 0 inside ∙ ap (λ x. name ++ x ∷ behind) here in
      let whole : rest ≡ name ++ 59 ∷ (behind ++ later) =
      sym (take-append-drop (position_or_len is_ampersand rest) rest) ∙ (ap (λ l. l ++ later) cut ∙ append_assoc name (59 ∷ behind) later) in
      let calm : list_all (λ b. not (is_ampersand b)) (name ++ 59 ∷ behind) ≡ true = ap (list_all (λ b. not (is_ampersand b))) (sym cut) ∙ prefix-all (λ b. not (is_ampersand b)) rest in
      (name, behind ++ later, whole, (two (list_all (λ b. not (is_ampersand b)) name) _ (sym (list_all-append (λ b. not (is_ampersand b)) name (59 ∷ behind)) ∙ calm)).0, prefix-all (λ b. not (b == 59)) part)

  by_test : (t : Bool) → nat_lt (position_or_len (λ b. b == 59) (first_part is_ampersand rest)) (length (first_part is_ampersand rest)) ≡ t → (x : Result (List ℕ) BadText) → (a : List ℕ) → cond t x (Err Reference) ≡ Ok a →
      (name : List ℕ) × (more : List ℕ) × (rest ≡ name ++ 59 ∷ more) × (list_all (λ b. not (is_ampersand b)) name ≡ true) × (list_all (λ b. not (b == 59)) name ≡ true)
  by_test true e x a k = found (less e)
  by_test false e x a k = absurd cc

  by_part : (a : List ℕ) × (after_ampersand place (first_part is_ampersand rest) ≡ Ok a) →
      (name : List ℕ) × (more : List ℕ) × (rest ≡ name ++ 59 ∷ more) × (list_all (λ b. not (is_ampersand b)) name ≡ true) × (list_all (λ b. not (b == 59)) name ≡ true)
  by_part is = by_test (nat_lt (position_or_len (λ b. b == 59) (first_part is_ampersand rest)) (length (first_part is_ampersand rest))) refl _ is.0 is.1

-- a text that is spelled
abbrev IsSpelled : Context → (bytes out : List ℕ) → Type 0
IsSpelled place bytes out = (text : List ℕ) × (out ≡ encode_utf8_all text) × SpellsText place text bytes

spelled-first : (place : Context) (c : ℕ) (front rest bytes out more : List ℕ) → SpellsChar place c front rest → bytes ≡ front ++ rest → out ≡ encode_utf8 c ++ more → IsSpelled place rest more → IsSpelled place bytes out
spelled-first place c front rest bytes out more one whole o later = (c ∷ later.0, o ∙ ap (λ l. encode_utf8 c ++ l) later.1, (front, rest, one, whole, later.2))

-- the characters that follow the first one
pub record Following (c : ℕ) (bytes rest : List ℕ) : Type 0 where
  pub whole : bytes ≡ encode_utf8 c ++ rest
  pub utf8 : IsUtf8 rest
  pub chars : list_all is_char (chars rest) ≡ true
  pub char : is_char c ≡ true
  pub shorter : length rest < length bytes

pub following : (c : ℕ) (bytes rest : List ℕ) → bytes ≡ encode_utf8 c ++ rest → IsUtf8 bytes → list_all is_char (chars bytes) ≡ true → Following c bytes rest
following c bytes rest e utf8 all =
    let is : chars bytes ≡ c ∷ chars rest = chars_past_char bytes rest c utf8 e in
    let parts = two (is_char c) (list_all is_char (chars rest)) (ap (list_all is_char) (sym is) ∙ all) in
    record {
      whole = e;
      utf8 = IsUtf8-past_char bytes rest c utf8 e;
      chars = parts.1;
      char = parts.0;
      shorter = omega (arith, ap length e, length-append (encode_utf8 c) rest, length-encode c, (len_utf8_bounds c).0);
    }

same-ok : (a b : List ℕ) → ◌≡◌ {A = Result (List ℕ) BadText} (Ok a) (Ok b) → a ≡ b
same-ok a b e = cc

module _ (place : Context) (bytes out : List ℕ) (h : said place bytes ≡ Ok out)
    (again : (rest more : List ℕ) → length rest < length bytes → IsUtf8 rest → list_all is_char (chars rest) ≡ true → said place rest ≡ Ok more → IsSpelled place rest more) where
  -- a literal character comes first
  by-literal : (c : ℕ) (front rest : List ℕ) → SpellsLiteral c front rest → c ≢ 38 → bytes ≡ front ++ rest → length rest < length bytes → IsUtf8 rest → list_all is_char (chars rest) ≡ true → IsSpelled place bytes out
  by-literal c front rest one amp whole less utf8 all =
      let j = joined-ok (encode_utf8 (as_read place c)) (said place rest) out (sym (literal-step place c front rest one amp) ∙ (ap (said place) (sym whole) ∙ h)) in
      spelled-first place (as_read place c) front rest bytes out j.0 (by_literal place c front rest one amp) whole j.2 (again rest j.0 less utf8 all j.1)

  -- a reference comes first
  by-reference : (rest : List ℕ) → bytes ≡ 38 ∷ rest → IsUtf8 rest → list_all is_char (chars rest) ≡ true → IsSpelled place bytes out
  by-reference rest whole utf8 all =
      let s = semicolon-comes place rest out (ap (said place) (sym whole) ∙ h) in
      let name = s.0 in
      let more = s.1 in
      let parts : bytes ≡ reference name ++ more = whole ∙ (ap (λ l. 38 ∷ l) s.2 ∙ ap (λ l. 38 ∷ l) (sym (append_assoc name (59 ∷ []) more))) in
      let j = named-ok (referred name) (said place more) out (sym (reference-step place name more s.3 s.4) ∙ (ap (said place) (sym parts) ∙ h)) in
      let whole_utf8 : IsUtf8 (name ++ 59 ∷ more) = subst IsUtf8 s.2 utf8 in
      let inside : length name < length (name ++ 59 ∷ more) = omega (arith, length-append name (59 ∷ more)) in
      let ascii : get_or (name ++ 59 ∷ more) (length name) 0 < 128 = omega (arith, get_or-append_seam name 59 more 0) in
      let behind : drop (length name + 1) (name ++ 59 ∷ more) ≡ more = sym (drop-drop 1 (length name) (name ++ 59 ∷ more)) ∙ ap (drop 1) (drop-append_seam name (59 ∷ more)) in
      let more_utf8 : IsUtf8 more = subst IsUtf8 behind (utf8-behind (name ++ 59 ∷ more) (length name) whole_utf8 inside ascii) in
      let name_utf8 : IsUtf8 name = subst IsUtf8 (take-append_seam name (59 ∷ more)) (utf8-before (name ++ 59 ∷ more) (length name) whole_utf8 inside ascii) in
      let last : chars (59 ∷ more) ≡ 59 ∷ chars more = chars_past_char (59 ∷ more) more 59 (IsUtf8-append (59 ∷ []) more (utf8-one 59 (omega arith)) more_utf8) (ap (λ l. l ++ more) (sym (encode_ascii 59 (omega arith)))) in
      let is : chars rest ≡ chars name ++ (59 ∷ chars more) = ap chars s.2 ∙ (chars-append name (59 ∷ more) name_utf8 ∙ ap (λ l. chars name ++ l) last) in
      let both_parts = two (list_all is_char (chars name)) _ (sym (list_all-append is_char (chars name) (59 ∷ chars more)) ∙ (ap (list_all is_char) (sym is) ∙ all)) in
      let less : length more < length bytes = omega (arith, ap length parts, length-append (reference name) more, length-append name (59 ∷ [])) in
      spelled-first place j.0 (reference name) more bytes out j.1 (referred-spelled place name j.0 more j.2) parts j.4 (again more j.1 less more_utf8 both_parts.1 j.3)

  by-return : (rest : List ℕ) → bytes ≡ 13 ∷ rest → IsUtf8 rest → list_all is_char (chars rest) ≡ true → IsSpelled place bytes out
  by-return [] whole utf8 all = by-literal 10 (13 ∷ []) [] (return [] (λ e. cc)) (λ e. absurd (omega (arith, e))) whole (omega (arith, ap length whole)) utf8 all
  by-return (b ∷ bs) whole utf8 all = by_test (b == 10) refl where
    by_test : (t : Bool) → (b == 10) ≡ t → IsSpelled place bytes out
    by_test true e =
        let is : b ≡ 10 = eqb-true b 10 e in
        let f = following 10 (b ∷ bs) bs (ap (λ x. x ∷ bs) is ∙ ap (λ l. l ++ bs) (sym (encode_ascii 10 (omega arith)))) utf8 all in
        by-literal 10 (13 ∷ 10 ∷ []) bs (return_and_feed bs) (λ k. absurd (omega (arith, k))) (whole ∙ ap (λ x. 13 ∷ x ∷ bs) is) (omega (arith, ap length whole)) f.utf8 f.chars
    by_test false e =
        by-literal 10 (13 ∷ []) (b ∷ bs) (return (b ∷ bs) (λ k. eqb-false b 10 e (some_is k))) (λ k. absurd (omega (arith, k))) whole (omega (arith, ap length whole)) utf8 all where
          some_is : slice_get (b ∷ bs) 0 ≡ Some 10 → b ≡ 10
          some_is k = cc

  by-chars : (cs : List ℕ) → encode_utf8_all cs ≡ bytes → IsUtf8 bytes → list_all is_char (chars bytes) ≡ true → IsSpelled place bytes out
  by-chars [] e utf8 all = ([], same-ok out [] (sym h ∙ (ap (said place) (sym e) ∙ said-nothing place)), sym e)
  by-chars (c ∷ cs) e utf8 all = by_tests (c == 38) refl (c == 13) refl where
    rest : List ℕ
    rest = encode_utf8_all cs

    f : Following c bytes rest
    f = following c bytes rest (sym e) utf8 all

    one : (n : ℕ) → n < 128 → c ≡ n → bytes ≡ n ∷ rest
    one n low is = f.whole ∙ (ap (λ x. encode_utf8 x ++ rest) is ∙ ap (λ l. l ++ rest) (encode_ascii n low))

    by_tests : (a : Bool) → (c == 38) ≡ a → (r : Bool) → (c == 13) ≡ r → IsSpelled place bytes out
    by_tests true ea r er = by-reference rest (one 38 (omega arith) (eqb-true c 38 ea)) f.utf8 f.chars
    by_tests false ea true er = by-return rest (one 13 (omega arith) (eqb-true c 13 er)) f.utf8 f.chars
    by_tests false ea false er = by-literal c (encode_utf8 c) rest (itself c rest f.char (eqb-false c 13 er)) (eqb-false c 38 ea) f.whole f.shorter f.utf8 f.chars

said-spelled : (n : ℕ) (place : Context) (bytes out : List ℕ) → length bytes < n → IsUtf8 bytes → list_all is_char (chars bytes) ≡ true → said place bytes ≡ Ok out → IsSpelled place bytes out
said-spelled zero place bytes out small utf8 all h = absurd (omega (arith, small))
said-spelled (suc n) place bytes out small utf8 all h =
    by-chars place bytes out h (λ rest more less u a k. said-spelled n place rest more (omega (arith, small, less)) u a k) utf8.0 utf8.1.1 utf8 all

pub texts-spelled : TextsAreSpelled
texts-spelled place bytes out utf8 all h = said-spelled (suc (length bytes)) place bytes out (omega arith) utf8 all h
