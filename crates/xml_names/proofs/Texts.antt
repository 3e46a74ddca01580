-- Texts as characters and as bytes.
use Rattle.std.proofs.Common.{◌≡◌, ◌≢◌, ◌⊎◌, inl, inr, ℕ, true, false, ◌==◌, List, [], ◌∷◌, length, refl, sym, ap, ◌∙◌, IsUtf8, encode_utf8_all, zero, suc, arith}
use Rattle.std.specs.Prelude.{bytes_eq, nat_eq, nat_lt, encode_utf8}
use Rattle.std.specs.List.{list_all}
use Rattle.std.specs.Str.{chars, IsAscii}
use Rattle.std.proofs.lemmas.Bool.{and_parts, cases_Bool, ltb-true, ne_eqb}
use Rattle.std.proofs.lemmas.Bool.Decides.{same_from_decides}
use Rattle.std.proofs.lemmas.List.{length-append}
use Rattle.std.proofs.lemmas.Slice.Eq.{bytes_eq-Decides}
use Rattle.std.proofs.lemmas.Str.{encodes_same, encodes-chars, chars-IsAscii, encodes-IsAscii, length-encode, len_utf8_bounds}
use Rattle.xml_names.specs.Scope.{same, is_empty}

-- texts with the same bytes have the same characters
pub same-encoded : (a b : List ℕ) → bytes_eq (encode_utf8_all a) (encode_utf8_all b) ≡ same a b
same-encoded a b =
    let d = bytes_eq-Decides (encode_utf8_all a) (encode_utf8_all b) in
    let e = bytes_eq-Decides a b in
    same_from_decides (bytes_eq (encode_utf8_all a) (encode_utf8_all b)) (same a b) d ((λ h. ap encode_utf8_all (e.0 h)), (λ h. e.1 (encodes_same a b h)))

pub same-spelled : (bs text other : List ℕ) → bs ≡ encode_utf8_all text → IsUtf8 other → bytes_eq bs other ≡ same text (chars other)
same-spelled bs text other e utf8 = ap (λ l. bytes_eq l other) e ∙ ap (bytes_eq (encode_utf8_all text)) (sym (encodes-chars other utf8)) ∙ same-encoded text (chars other)

-- a text is compared with a word of ASCII
pub same-word : (bs w : List ℕ) → IsUtf8 bs → IsAscii w → bytes_eq bs w ≡ same (chars bs) w
same-word bs w utf8 ascii =
    let d = bytes_eq-Decides bs w in
    let e = bytes_eq-Decides (chars bs) w in
    same_from_decides (bytes_eq bs w) (same (chars bs) w) d
    ((λ h. sym (encodes-chars bs utf8) ∙ ap encode_utf8_all (e.0 h) ∙ encodes-IsAscii w ascii), (λ h. e.1 (ap chars h ∙ chars-IsAscii w ascii)))

-- texts of other lengths differ
pub other-length : (a b : List ℕ) → length a ≢ length b → nat_eq (length a) (length b) ≡ bytes_eq a b
other-length a b ne = ne_eqb (length a) (length b) ne ∙ sym (by_case (cases_Bool (bytes_eq a b))) where
  by_case : (bytes_eq a b ≡ true) ⊎ (bytes_eq a b ≡ false) → bytes_eq a b ≡ false
  by_case (inr e) = e
  by_case (inl e) = absurd (ne (ap length ((bytes_eq-Decides a b).0 e)))

pub same-true : (a b : List ℕ) → same a b ≡ true → a ≡ b
same-true a b h = (bytes_eq-Decides a b).0 h

pub same-refl : (a : List ℕ) → same a a ≡ true
same-refl a = (bytes_eq-Decides a a).1 refl

pub same-sym : (a b : List ℕ) → same a b ≡ same b a
same-sym a b = same_from_decides (same a b) (same b a) (bytes_eq-Decides a b) ((λ h. sym ((bytes_eq-Decides b a).0 h)), (λ h. (bytes_eq-Decides b a).1 (sym h)))

pub empty-true : (a : List ℕ) → is_empty a ≡ true → a ≡ []
empty-true [] h = refl
empty-true (c ∷ cs) h = absurd (cc)

pub ascii : (w : List ℕ) → list_all (λ b. nat_lt b 128) w ≡ true → IsAscii w
ascii [] h i = omega arith
ascii (b ∷ bs) h zero = let here = (and_parts (nat_lt b 128) (list_all (λ b. nat_lt b 128) bs) h).0 in ltb-true b 128 here
ascii (b ∷ bs) h (suc i) = ascii bs (and_parts (nat_lt b 128) (list_all (λ b. nat_lt b 128) bs) h).1 i

pub is-word : (bs w : List ℕ) → IsUtf8 bs → list_all (λ b. nat_lt b 128) w ≡ true → bytes_eq bs w ≡ same (chars bs) w
is-word bs w utf8 h = same-word bs w utf8 (ascii w h)

-- a text without bytes has no characters
pub is-empty : (bs : List ℕ) → IsUtf8 bs → (length bs == 0) ≡ is_empty (chars bs)
is-empty bs utf8 = ap (λ l. length l == 0) (sym (encodes-chars bs utf8)) ∙ by_case (chars bs) where
  by_case : (cs : List ℕ) → (length (encode_utf8_all cs) == 0) ≡ is_empty cs
  by_case [] = refl
  by_case (c ∷ cs) =
      let long = len_utf8_bounds c in
      let some : length (encode_utf8_all (c ∷ cs)) ≢ 0 = omega (arith, length-append (encode_utf8 c) (encode_utf8_all cs), length-encode c, long) in
      ne_eqb (length (encode_utf8_all (c ∷ cs))) 0 some

pub chars-word : (w : List ℕ) → list_all (λ b. nat_lt b 128) w ≡ true → chars w ≡ w
chars-word w h = chars-IsAscii w (ascii w h)
