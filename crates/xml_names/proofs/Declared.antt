-- Names that declare a prefix, by their first characters.
use Rattle.std.proofs.Common.{◌≡◌, ◌≢◌, ◌⊎◌, inl, inr, ℕ, Bool, true, false, List, [], ◌∷◌, ◌++◌, Option, Some, None, Bor, refl, sym, ap, ◌∙◌, drop, IsUtf8, encode_utf8_all, codes}
use Rattle.std.specs.Prelude.{if◌then◌else◌, MatchOption, nat_lt}
use Rattle.std.specs.List.{list_all}
use Rattle.std.specs.Option.{option_map}
use Rattle.std.specs.Str.{chars}
use Rattle.std.proofs.lemmas.Bool.{cases_Bool}
use Rattle.std.proofs.lemmas.Str.{encodes-chars, encodes-append, encodes-IsAscii, chars-append, IsUtf8-from_ascii}
use Rattle.xml_names.specs.QName.{has_colon, prefix_of, local_of}
use Rattle.xml_names.specs.Scope.{same, is_empty}
use Rattle.xml_names.specs.Tag.{declared_prefix}
use Rattle.xml_names.proofs.QNames.{split-any, prefix_of-first, local_of-first, prefix_of-none}
use Rattle.xml_names.proofs.Texts.{same-true, chars-word, ascii, empty-true}

abbrev xmlns : List ℕ
xmlns = codes "xmlns"

-- a name with this prefix
with_prefix : (name : List ℕ) → prefix_of name ≡ xmlns → (back : List ℕ) × (name ≡ xmlns ++ 0x3A ∷ back)
with_prefix name e = by_case (cases_Bool (has_colon name)) where
  by_case : (has_colon name ≡ true) ⊎ (has_colon name ≡ false) → (back : List ℕ) × (name ≡ xmlns ++ 0x3A ∷ back)
  by_case (inl some) =
      let cut = split-any name some in
      (cut.1, cut.3 ∙ ap (λ l. l ++ 0x3A ∷ cut.1) (sym (ap prefix_of cut.3 ∙ prefix_of-first cut.0 cut.1 cut.2) ∙ e))
  by_case (inr none) = let n : [] ≡ xmlns = sym (prefix_of-none name none) ∙ e in absurd cc

-- another name declares none
declared-none : (name : List ℕ) → name ≢ xmlns → ((back : List ℕ) → name ≢ xmlns ++ 0x3A ∷ back) → declared_prefix name ≡ None
declared-none name word colon =
    ap (λ t. if t then Some [] else if same (prefix_of name) xmlns then Some (local_of name) else None) (no (same name xmlns) (λ e. word (same-true name xmlns e)))
    ∙ ap (λ t. if t then Some (local_of name) else None) (no (same (prefix_of name) xmlns) (λ e. let w = with_prefix name (same-true (prefix_of name) xmlns e) in colon w.0 w.1)) where
      no : (t : Bool) → (t ≡ true → ⊥) → t ≡ false
      no true h = absurd (h refl)
      no false h = refl

declared-some : (back : List ℕ) → declared_prefix (xmlns ++ 0x3A ∷ back) ≡ Some back
declared-some back =
    ap (λ p. if same p xmlns then Some (local_of (xmlns ++ 0x3A ∷ back)) else None) (prefix_of-first xmlns back refl)
    ∙ ap Some (local_of-first xmlns back refl)

-- an ASCII front of a text is written as it is
encoded : (w back : List ℕ) → list_all (λ b. nat_lt b 128) w ≡ true → encode_utf8_all (w ++ back) ≡ w ++ encode_utf8_all back
encoded w back h = encodes-append w back ∙ ap (λ l. l ++ encode_utf8_all back) (encodes-IsAscii w (ascii w h))

module _ (bs : List ℕ) (utf8 : IsUtf8 bs) where
  bytes : (cs : List ℕ) → chars bs ≡ cs → bs ≡ encode_utf8_all cs
  bytes cs e = sym (encodes-chars bs utf8) ∙ ap encode_utf8_all e

  bytes-behind : (back : List ℕ) → chars bs ≡ xmlns ++ 0x3A ∷ back → bs ≡ xmlns ++ 0x3A ∷ encode_utf8_all back
  bytes-behind back e = bytes (xmlns ++ 0x3A ∷ back) e ∙ encoded (xmlns ++ 0x3A ∷ []) back refl

  pub not-declared : ((rest : List ℕ) → bs ≢ xmlns ++ rest) → None ≡ declared_prefix (chars bs)
  not-declared lacks =
      let word : chars bs ≢ xmlns = λ e. lacks [] (bytes xmlns e ∙ encoded xmlns [] refl) in
      let colon : (back : List ℕ) → chars bs ≢ xmlns ++ 0x3A ∷ back = λ back e. lacks (0x3A ∷ encode_utf8_all back) (bytes-behind back e) in
      sym (declared-none (chars bs) word colon)

  module _ (rest : List ℕ) (whole : bs ≡ xmlns ++ rest) where
    ahead : chars bs ≡ xmlns ++ chars rest
    ahead = ap chars whole ∙ chars-append xmlns rest (IsUtf8-from_ascii xmlns (ascii xmlns refl)) ∙ ap (λ l. l ++ chars rest) (chars-word xmlns refl)

    pub declared-default : is_empty (chars rest) ≡ true → Some [] ≡ declared_prefix (chars bs)
    declared-default e = sym (ap declared_prefix (ahead ∙ ap (λ l. xmlns ++ l) (empty-true (chars rest) e)))

    pub declared-by : is_empty (chars rest) ≡ false → (r : Option (Bor (List ℕ))) → MatchOption r ((x : List ℕ) → rest ≢ 0x3A ∷ x) (λ x. rest ≡ 0x3A ∷ x.now) → option_map (λ p. chars p.now) r ≡ declared_prefix (chars bs)
    declared-by some None h = sym (declared-none (chars bs) (λ e. longer (chars rest) some (sym ahead ∙ e)) colon) where
      longer : (cs : List ℕ) → is_empty cs ≡ false → xmlns ++ cs ≢ xmlns
      longer [] h e = absurd cc
      longer (c ∷ cs) h e = absurd cc

      colon : (back : List ℕ) → chars bs ≢ xmlns ++ 0x3A ∷ back
      colon back e = h (encode_utf8_all back) (ap (drop 5) (sym whole ∙ bytes-behind back e))
    declared-by some (Some x) h = sym (ap declared_prefix (ahead ∙ ap (λ l. xmlns ++ l) (ap chars h ∙ colon x.now)) ∙ declared-some (chars x.now)) where
      colon : (back : List ℕ) → chars (0x3A ∷ back) ≡ 0x3A ∷ chars back
      colon back = chars-append (0x3A ∷ []) back (IsUtf8-from_ascii (0x3A ∷ []) (ascii (0x3A ∷ []) refl)) ∙ ap (λ l. l ++ chars back) (chars-word (0x3A ∷ []) refl)
