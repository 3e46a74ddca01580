-- Bytes that stand for themselves.
use Rattle.std.proofs.Common.{◌≡◌, ℕ, ◌+◌, Bool, true, false, not, ◌&&◌, ◌==◌, List, [], ◌∷◌, ◌++◌, suc, cond, take, drop, refl, sym, ap, ◌∙◌, arith, append_assoc}
use Rattle.std.specs.Prelude.{nat_lt}
use Rattle.std.specs.List.{list_all, prefix_len}
use Rattle.stx_base.specs.Character.{is_char}
use Rattle.std.proofs.Math.Seq.{take-add}
use Rattle.std.proofs.lemmas.Grind.{flat_map-append}
use Rattle.result_writer.specs.Escape.{escaped, is_plain_ascii, written}
use Rattle.result_writer.specs.declared.escape.Context.{Context}
use Rattle.result_writer.specs.declared.escape.Context.TheVariants.{Content}

-- so many bytes stand for themselves, and then so many more
pub plain_more : (c : Context) (bs : List ℕ) (m n : ℕ) → escaped c (take m bs) ≡ take m bs → escaped c (take n (drop m bs)) ≡ take n (drop m bs)
    → escaped c (take (m + n) bs) ≡ take (m + n) bs
plain_more c bs m n h k =
    let a = take m bs in
    let b = take n (drop m bs) in
    ap (escaped c) (take-add m n bs) ∙ flat_map-append (written c) a b
    ∙ ap (λ l. l ++ escaped c b) h ∙ ap (λ l. a ++ l) k ∙ sym (take-add m n bs)

two : (s t : Bool) → (s && t) ≡ true → (s ≡ true) × (t ≡ true)
two true t h = (refl, h)
two false t h = absurd cc

is_no : (t : Bool) → not t ≡ true → t ≡ false
is_no true h = absurd cc
is_no false h = refl

pub all_append : (p : ℕ → Bool) (a b : List ℕ) → list_all p a ≡ true → list_all p b ≡ true → list_all p (a ++ b) ≡ true
all_append p [] b h k = k
all_append p (x ∷ a) b h k =
    let parts = two (p x) (list_all p a) h in
    ap (λ t. t && list_all p (a ++ b)) parts.0 ∙ all_append p a b parts.1 k

-- so many bytes pass, and then so many more
pub all_more : (p : ℕ → Bool) (bs : List ℕ) (m n : ℕ) → list_all p (take m bs) ≡ true → list_all p (take n (drop m bs)) ≡ true → list_all p (take (m + n) bs) ≡ true
all_more p bs m n h k = ap (list_all p) (take-add m n bs) ∙ all_append p (take m bs) (take n (drop m bs)) h k

-- the bytes before the first that doesn't pass
pub front_passes : (p : ℕ → Bool) (bs : List ℕ) → list_all p (take (prefix_len p bs) bs) ≡ true
front_passes p [] = refl
front_passes p (b ∷ bs) = by_test (front_passes p bs) (p b) refl where
  by_test : list_all p (take (prefix_len p bs) bs) ≡ true → (t : Bool) → p b ≡ t → list_all p (take (cond t (1 + prefix_len p bs) 0) (b ∷ bs)) ≡ true
  by_test more true e =
      let n : 1 + prefix_len p bs ≡ suc (prefix_len p bs) = omega arith in
      ap (λ k. list_all p (take k (b ∷ bs))) n ∙ (ap (λ t. t && list_all p (take (prefix_len p bs) bs)) e ∙ more)
  by_test more false e = refl

abbrev pub is_low : ℕ → Bool
is_low b = nat_lt b 128 && is_char b

module _ (b : ℕ) (plain : is_plain_ascii b ≡ true) where
  parts : (is_low b ≡ true) × ((not (b == 0x26) && (not (b == 0x3C) && (not (b == 0x3E) && not (b == 0xD)))) ≡ true)
  parts = two (is_low b) (not (b == 0x26) && (not (b == 0x3C) && (not (b == 0x3E) && not (b == 0xD)))) plain

  written_itself : written Content b ≡ b ∷ []
  written_itself =
      let first = two (not (b == 0x26)) (not (b == 0x3C) && (not (b == 0x3E) && not (b == 0xD))) parts.1 in
      let second = two (not (b == 0x3C)) (not (b == 0x3E) && not (b == 0xD)) first.1 in
      let third = two (not (b == 0x3E)) (not (b == 0xD)) second.1 in
      rw (is_no (b == 0x26) first.0, is_no (b == 0x3C) second.0, is_no (b == 0x3E) third.0, is_no (b == 0xD) third.1) refl

-- ASCII Chars that stand for themselves
pub plain_escaped : (bs : List ℕ) → list_all is_plain_ascii bs ≡ true → escaped Content bs ≡ bs
plain_escaped [] h = refl
plain_escaped (b ∷ bs) h =
    let both = two (is_plain_ascii b) (list_all is_plain_ascii bs) h in
    ap (λ l. l ++ escaped Content bs) (written_itself b both.0) ∙ ap (λ l. b ∷ l) (plain_escaped bs both.1)

pub plain_low : (bs : List ℕ) → list_all is_plain_ascii bs ≡ true → list_all is_low bs ≡ true
plain_low [] h = refl
plain_low (b ∷ bs) h =
    let both = two (is_plain_ascii b) (list_all is_plain_ascii bs) h in
    ap (λ t. t && list_all is_low bs) (parts b both.0).0 ∙ plain_low bs both.1

-- what follows such a front
module _ (rest plain others : List ℕ) (cut : rest ≡ plain ++ others) (all : list_all is_plain_ascii plain ≡ true) where
  pub escaped_behind : (out : List ℕ) → (out ++ plain) ++ escaped Content others ≡ out ++ escaped Content rest
  escaped_behind out =
      append_assoc out plain (escaped Content others)
      ∙ ap (λ l. out ++ l) (ap (λ l. l ++ escaped Content others) (sym (plain_escaped plain all)) ∙ (sym (flat_map-append (written Content) plain others) ∙ ap (escaped Content) (sym cut)))

  pub low_behind : list_all is_low others ≡ true → list_all is_low rest ≡ true
  low_behind low = ap (list_all is_low) cut ∙ all_append is_low plain others (plain_low plain all) low
