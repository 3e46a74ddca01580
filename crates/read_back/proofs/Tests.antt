-- Tests on texts.
use Rattle.std.proofs.Common.{◌≡◌, ◌≢◌, ◌⊎◌, ℕ, Bool, true, false, not, List, [], ◌∷◌, refl, sym, ap, ◌∙◌, ⊎_elim, inl, inr}
use Rattle.std.specs.Prelude.{bytes_eq, encode_utf8_all}
use Rattle.std.specs.List.{list_all}
use Rattle.std.proofs.lemmas.Str.{encodes_same}
use Rattle.std.proofs.lemmas.Slice.Eq.{bytes_eq-Decides}
use Rattle.result_writer.specs.Allowed as w
use Rattle.xml_names.specs.Scope as n
use Rattle.xml_names.specs.Tag as n_tag
use Rattle.read_back.proofs.Bytes.{is_plain, plain_is}

pub same-true : (a b : List ℕ) → bytes_eq a b ≡ true → a ≡ b
same-true a b h = (bytes_eq-Decides a b).0 h

pub same-of : (a b : List ℕ) → a ≡ b → bytes_eq a b ≡ true
same-of a b h = (bytes_eq-Decides a b).1 h

pub both_ways : (t : Bool) → t ≡ true → t ≡ false → ⊥
both_ways t h k = let e : true ≡ false = sym h ∙ k in cc

pub true_or_false : (t : Bool) → (t ≡ true) ⊎ (t ≡ false)
true_or_false true = inl refl
true_or_false false = inr refl

pub not_true : (t : Bool) → not t ≡ false → t ≡ true
not_true true h = refl
not_true false h = absurd cc

pub other : (a b : List ℕ) → (a ≡ b → ⊥) → bytes_eq a b ≡ false
other a b h = ⊎_elim (λ k. absurd (h (same-true a b k))) (λ k. k) (true_or_false (bytes_eq a b))

-- tests that follow from one another are one
pub alike : (s t : Bool) → (s ≡ true → t ≡ true) → (t ≡ true → s ≡ true) → s ≡ t
alike true t f g = sym (f refl)
alike false true f g = let e : true ≡ false = sym (g refl) in absurd cc
alike false false f g = refl

pub same-sym : (a b : List ℕ) → bytes_eq a b ≡ bytes_eq b a
same-sym a b = alike (bytes_eq a b) (bytes_eq b a) (λ h. same-of b a (sym (same-true a b h))) (λ h. same-of a b (sym (same-true b a h)))

-- a text is spelled with the bytes of a word of ASCII where it is that word
pub word_same : (text word : List ℕ) → list_all is_plain word ≡ true → bytes_eq (encode_utf8_all text) word ≡ bytes_eq text word
word_same text word h = alike (bytes_eq (encode_utf8_all text) word) (bytes_eq text word)
    (λ e. same-of text word (encodes_same text word (same-true (encode_utf8_all text) word e ∙ sym (plain_is word h))))
    (λ e. same-of (encode_utf8_all text) word (ap encode_utf8_all (same-true text word e) ∙ plain_is word h))

pub empty_same : (l : List ℕ) → w.is_empty l ≡ n.is_empty l
empty_same [] = refl
empty_same (c ∷ cs) = refl

pub agree_same : (s t : Bool) → w.agree s t ≡ n_tag.agree s t
agree_same true t = refl
agree_same false t = refl

pub not_empty : (l : List ℕ) → l ≢ [] → w.is_empty l ≡ false
not_empty [] h = absurd (h refl)
not_empty (c ∷ cs) h = refl

pub is_nothing : (l : List ℕ) → w.is_empty l ≡ true → l ≡ []
is_nothing [] h = refl
is_nothing (c ∷ cs) h = absurd cc

pub isn't_nothing : (l : List ℕ) → w.is_empty l ≡ false → l ≢ []
isn't_nothing [] h = absurd cc
isn't_nothing (c ∷ cs) h = λ e. absurd cc
