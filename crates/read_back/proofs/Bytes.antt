-- Bytes that are the UTF-8 of Chars.
use Rattle.std.proofs.Common.{◌≡◌, ℕ, ◌<◌, Bool, true, false, ◌&&◌, List, [], ◌∷◌, ◌++◌, refl, sym, ap, ◌∙◌, arith, subst, IsUtf8}
use Rattle.std.specs.Prelude.{encode_utf8_all, nat_lt}
use Rattle.std.specs.List.{list_all, list_any}
use Rattle.std.specs.Str.{chars}
use Rattle.std.proofs.lemmas.Bool.{and_parts, and_from, or_from, or_parts}
use Rattle.std.proofs.lemmas.Bool.Decides.{nat_tests}
use Rattle.std.proofs.lemmas.Str.{encode_ascii, encodes-append, chars-encodes}
use Rattle.stx_base.specs.Character.{is_char}
use Rattle.xml_tokens.proofs.TagSpelling.{all-scalars}

-- the bytes are those of some Chars
pub record IsText (bytes : List ℕ) : Type 0 where
  pub text : List ℕ
  pub chars : list_all is_char text ≡ true
  pub is : encode_utf8_all text ≡ bytes

pub all_append : {X : Type 0} (p : X → Bool) (xs ys : List X) → list_all p xs ≡ true → list_all p ys ≡ true → list_all p (xs ++ ys) ≡ true
all_append p [] ys h k = k
all_append p (x ∷ xs) ys h k = let both = and_parts (p x) (list_all p xs) h in and_from (p x) (list_all p (xs ++ ys)) both.0 (all_append p xs ys both.1 k)

pub none_append : {X : Type 0} (p : X → Bool) (xs ys : List X) → list_any p xs ≡ false → list_any p ys ≡ false → list_any p (xs ++ ys) ≡ false
none_append p [] ys h k = k
none_append p (x ∷ xs) ys h k = let both = or_parts (p x) (list_any p xs) h in or_from (p x) (list_any p (xs ++ ys)) both.0 (none_append p xs ys both.1 k)

pub text_utf8 : (bytes : List ℕ) → IsText bytes → IsUtf8 bytes
text_utf8 bytes t = (t.text, (all-scalars t.text t.chars, t.is))

pub text_chars : (bytes : List ℕ) → IsText bytes → list_all is_char (chars bytes) ≡ true
text_chars bytes t =
    subst (λ l. list_all is_char (chars l) ≡ true) t.is
    (subst (λ l. list_all is_char l ≡ true) (sym (chars-encodes t.text (all-scalars t.text t.chars))) t.chars)

pub text_of : (text : List ℕ) → list_all is_char text ≡ true → IsText (encode_utf8_all text)
text_of text h = record { text = text; chars = h; is = refl }

pub text_append : (xs ys : List ℕ) → IsText xs → IsText ys → IsText (xs ++ ys)
text_append xs ys t u = record {
  text = t.text ++ u.text;
  chars = all_append is_char t.text u.text t.chars u.chars;
  is = encodes-append t.text u.text ∙ ap (λ l. l ++ encode_utf8_all u.text) t.is ∙ ap (λ l. xs ++ l) u.is;
}

-- an ASCII Char
abbrev pub is_plain : ℕ → Bool
is_plain b = nat_lt b 128 && is_char b

below : (b : ℕ) → nat_lt b 128 ≡ true → b < 128
below b h = grind (arith, nat_tests)

pub plain_is : (bytes : List ℕ) → list_all is_plain bytes ≡ true → encode_utf8_all bytes ≡ bytes
plain_is [] h = refl
plain_is (b ∷ bs) h =
    let both = and_parts (is_plain b) (list_all is_plain bs) h in
    let low = below b (and_parts (nat_lt b 128) (is_char b) both.0).0 in
    ap (λ l. l ++ encode_utf8_all bs) (encode_ascii b low) ∙ ap (λ l. b ∷ l) (plain_is bs both.1)

plain_chars : (bytes : List ℕ) → list_all is_plain bytes ≡ true → list_all is_char bytes ≡ true
plain_chars [] h = refl
plain_chars (b ∷ bs) h =
    let both = and_parts (is_plain b) (list_all is_plain bs) h in
    and_from (is_char b) (list_all is_char bs) (and_parts (nat_lt b 128) (is_char b) both.0).1 (plain_chars bs both.1)

pub text_plain : (bytes : List ℕ) → list_all is_plain bytes ≡ true → IsText bytes
text_plain bytes h = record { text = bytes; chars = plain_chars bytes h; is = plain_is bytes h }
