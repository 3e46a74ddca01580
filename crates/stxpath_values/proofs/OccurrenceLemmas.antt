-- Where a word first stands in a text, by bytes and by characters.
use Rattle.std.proofs.Common.{◌≡◌, ℕ, ◌+◌, ◌-◌, ◌<◌, ◌≤◌, Bool, true, false, List, ◌++◌, length, take, drop, nat_eq, Option, Some, None, MatchOption, is_some, refl, sym, ap, subst, ◌∙◌, arith, append_assoc, length-append, length-take, length-drop}
use Rattle.std.specs.Bool.{Decides, MatchBool}
use Rattle.std.specs.List.{starts_with, ends_with}
use Rattle.std.specs.Str.{chars, IsUtf8, IsCharBoundary, encode_utf8_all}
use Rattle.std.specs.Str.Pattern.{LacksTextAt, FindsText, FindsTextPrefix, FindsTextSuffix, MatchBeginsAt, HasPrefixMatch, HasSuffixMatch}
use Rattle.std.proofs.lemmas.Bool.Decides.{Decides-eqb}
use Rattle.std.proofs.lemmas.List.{take-append-drop, take-append-le}
use Rattle.std.proofs.Math.Seq.{drop-append_seam, take-append_seam, drop-append-add}
use Rattle.std.proofs.lemmas.Slice.Eq.{starts_is, ends_is}
use Rattle.std.proofs.lemmas.Str.{IsUtf8-append, IsUtf8-take, IsUtf8-drop, chars-append, encodes-chars, encodes-append, length-le-encodes}
use Rattle.stxpath_values.specs.Laws.{CutAtWord, PlaceOfWord}
use Rattle.stxpath_values.specs.Places.{stands_at, first_occurrence, before_word, after_word}
use Rattle.stxpath_values.proofs.PlacesLemmas.{find_range, find_range_none, find_range_is, drop_more}

-- a text begins with a word where it is the word and a rest
pub begins : (cs word : List ℕ) → Decides (starts_with nat_eq cs word) (cs ≡ word ++ drop (length word) cs)
begins cs word = let d = starts_is Decides-eqb cs word (starts_with nat_eq cs word) refl in (d.0, d.1 (drop (length word) cs))

pub begins_with : (cs word rest : List ℕ) → cs ≡ word ++ rest → starts_with nat_eq cs word ≡ true
begins_with cs word rest e = (starts_is Decides-eqb cs word (starts_with nat_eq cs word) refl).1 rest e

pub ends_in : (cs word front : List ℕ) → cs ≡ front ++ word → ends_with nat_eq cs word ≡ true
ends_in cs word front e = (ends_is Decides-eqb cs word (ends_with nat_eq cs word) refl).1 front e

not_true : (b : Bool) → (b ≡ true → ⊥) → b ≡ false
not_true true f = absurd (f refl)
not_true false f = refl

-- the bytes of a text that has the word behind k characters
split_bytes : (text word : List ℕ) (k : ℕ) → IsUtf8 text → IsUtf8 word → stands_at (chars word) (chars text) k ≡ true
    → (rest : List ℕ) × (text ≡ encode_utf8_all (take k (chars text)) ++ (word ++ rest))
split_bytes text word k t w e =
    let cs = chars text in
    let tail = (begins (drop k cs) (chars word)).0 e in
    let rest = drop (length (chars word)) (drop k cs) in (
      encode_utf8_all rest,
      sym (encodes-chars text t) ∙ ap encode_utf8_all (sym (take-append-drop k cs)) ∙ encodes-append (take k cs) (drop k cs)
          ∙ ap (λ l. encode_utf8_all (take k cs) ++ l) (ap encode_utf8_all tail ∙ encodes-append (chars word) rest ∙ ap (λ l. l ++ encode_utf8_all rest) (encodes-chars word w)),
    )

drop_front : (front rest text : List ℕ) → text ≡ front ++ rest → drop (length front) text ≡ rest
drop_front front rest text e = ap (drop (length front)) e ∙ drop-append_seam front rest

-- where no bytes of the text are the word's, none of its characters are
pub lacks : (text word : List ℕ) → IsUtf8 text → IsUtf8 word → ((i : ℕ) → i ≤ length text → LacksTextAt word text i)
    → first_occurrence (chars word) (chars text) ≡ None
lacks text word t w none = find_range_none _ 0 (length (chars text) + 1) (λ k low high. not_true _ (λ e.
    let s = split_bytes text word k t w e in
    let front = encode_utf8_all (take k (chars text)) in
    let short : length front ≤ length text = omega (arith, ap length s.1, length-append front (word ++ s.0)) in
    none (length front) short s.0 (drop_front front (word ++ s.0) text s.1)))

-- fewer characters have fewer bytes
fewer : (front : List ℕ) (k : ℕ) → IsUtf8 front → k < length (chars front) → length (encode_utf8_all (take k (chars front))) < length front
fewer front k u lt =
    let cs = chars front in
    let e : encode_utf8_all (take k cs) ++ encode_utf8_all (drop k cs) ≡ front = sym (encodes-append (take k cs) (drop k cs)) ∙ ap encode_utf8_all (take-append-drop k cs) ∙ encodes-chars front u in
    let l = length-append (encode_utf8_all (take k cs)) (encode_utf8_all (drop k cs)) in
    omega (arith, ap length e, l, length-le-encodes (drop k cs), length-drop k cs)

-- the first bytes of the text that are the word's are its first characters that are
pub finds : (text word front back : List ℕ) → IsUtf8 front → IsUtf8 word → IsUtf8 back → text ≡ front ++ (word ++ back)
    → ((i : ℕ) → i < length front → LacksTextAt word text i) → first_occurrence (chars word) (chars text) ≡ Some (length (chars front))
finds text word front back f w b e none =
    let wb : IsUtf8 (word ++ back) = IsUtf8-append word back w b in
    let t : IsUtf8 text = subst IsUtf8 (sym e) (IsUtf8-append front (word ++ back) f wb) in
    let cs : chars text ≡ chars front ++ (chars word ++ chars back) = ap chars e ∙ chars-append front (word ++ back) f ∙ ap (λ l. chars front ++ l) (chars-append word back w) in
    find_range _ 0 (length (chars text) + 1) (length (chars front)) (omega arith) (omega (arith, ap length cs, length-append (chars front) (chars word ++ chars back)))
    (begins_with _ (chars word) (chars back) (drop_front (chars front) (chars word ++ chars back) (chars text) cs))
    (λ k low high. not_true _ (λ y.
    let s = split_bytes text word k t w y in
    let same : take k (chars text) ≡ take k (chars front) = ap (take k) cs ∙ take-append-le k (chars front) (chars word ++ chars back) (omega arith) in
    let short : length (encode_utf8_all (take k (chars text))) < length front = omega (arith, ap (λ l. length (encode_utf8_all l)) same, fewer front k f high) in
    none _ short s.0 (drop_front _ (word ++ s.0) text s.1)))

-- the text is what stands before the word's first occurrence, the word and what stands after it
pub record IsSplit (text word front back : List ℕ) : Type 0 where
  pub place : first_occurrence (chars word) (chars text) ≡ Some (length (chars front))
  pub before : before_word (chars word) (chars text) ≡ chars front
  pub after : after_word (chars word) (chars text) ≡ chars back

pub splits : (text word : List ℕ) (i j : ℕ) → IsUtf8 text → IsUtf8 word → FindsText word text (Some (i, j)) → IsCharBoundary text i → IsCharBoundary text j
    → IsSplit text word (take i text) (drop j text)
splits text word i j t w found bi bj =
    let front = take i text in
    let back = drop j text in
    let f : IsUtf8 front = IsUtf8-take text i t bi in
    let b : IsUtf8 back = IsUtf8-drop text j t bj in
    let e : text ≡ front ++ (word ++ back) = sym (take-append-drop i text) ∙ ap (λ l. take i text ++ l) found.1.split in
    let long : length front ≤ i = omega (arith, length-take i text) in
    let place = finds text word front back f w b e (λ k lt. found.0 k (omega arith)) in
    let cs : chars text ≡ chars front ++ (chars word ++ chars back) = ap chars e ∙ chars-append front (word ++ back) f ∙ ap (λ l. chars front ++ l) (chars-append word back w) in
    record {
      place = place;
      before = rw (place, cs) (take-append_seam (chars front) (chars word ++ chars back));
      after = rw (place, cs) (drop-append-add (chars front) (chars word ++ chars back) (length (chars word)) ∙ drop-append_seam (chars word) (chars back));
    }

pub contains_same : (r : Option ℕ) (text word : List ℕ) → IsUtf8 text → IsUtf8 word
    → MatchOption r (FindsText word text None) (MatchBeginsAt (FindsText word) text) → is_some r ≡ is_some (first_occurrence (chars word) (chars text))
contains_same None text word t w none = ap is_some (sym (lacks text word t w none))
contains_same (Some i) text word t w m = ap is_some (sym (splits text word i m.0 t w m.1 m.3 m.4).place)

-- the bytes of a text begin with those of a word where its characters begin with the word's
pub starts_same : (r : Bool) (text word : List ℕ) → IsUtf8 text → IsUtf8 word → MatchBool r (HasPrefixMatch (FindsTextPrefix word) text) (FindsTextPrefix word text None)
    → r ≡ starts_with nat_eq (chars text) (chars word)
starts_same true text word t w m =
    sym (begins_with (chars text) (chars word) (chars (drop m.0 text)) (ap chars m.1.1 ∙ chars-append word (drop m.0 text) w))
starts_same false text word t w none = sym (not_true _ (λ e. let s = split_bytes text word 0 t w e in none s.0 s.1))

-- and end with them where they end with its characters
pub ends_same : (r : Bool) (text word : List ℕ) → IsUtf8 text → IsUtf8 word → MatchBool r (HasSuffixMatch (FindsTextSuffix word) text) (FindsTextSuffix word text None)
    → r ≡ ends_with nat_eq (chars text) (chars word)
ends_same true text word t w m =
    let front = take (length text - m.0) text in
    let cut : length text - m.0 ≡ length text - length word = ap (λ j. length text - j) m.1.0 in
    let f : IsUtf8 front = IsUtf8-take text (length text - m.0) t (subst (IsCharBoundary text) (sym cut) m.1.2) in
    sym (ends_in (chars text) (chars word) (chars front) (ap chars m.1.1 ∙ chars-append front word f))
ends_same false text word t w none = sym (not_true _ (λ e.
    let cs = chars text in
    let front = take (length cs - length (chars word)) cs in
    let both = (ends_is Decides-eqb cs (chars word) (ends_with nat_eq cs (chars word)) refl).0 e in
    none (encode_utf8_all front) (sym (encodes-chars text t) ∙ ap encode_utf8_all both ∙ encodes-append front (chars word) ∙ ap (λ l. encode_utf8_all front ++ l) (encodes-chars word w))))

pub cut-at-word : CutAtWord
cut-at-word word cs i e =
    let found = find_range_is (stands_at word cs) 0 (length cs + 1) i e in
    let s = (begins (drop i cs) word).0 found.0 in
    rw e (append_assoc (take i cs) word (drop (i + length word) cs) ∙ ap (λ l. take i cs ++ l) (ap (λ l. word ++ l) (drop_more i (length word) cs) ∙ sym s) ∙ take-append-drop i cs)

pub place-of-word : PlaceOfWord
place-of-word word cs i e =
    let found = find_range_is (stands_at word cs) 0 (length cs + 1) i e in
    rw e (omega (arith, length-take i cs, found.1))
