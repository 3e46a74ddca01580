-- Names of ASCII, by the number of their bytes.
use Rattle.std.proofs.Common.{◌≡◌, ℕ, suc, ◌+◌, Bool, true, false, ◌||◌, ◌&&◌, nat_lt, List, [], ◌∷◌, Some, None, take, drop, refl, sym, ap, ◌∙◌, arith, cond, chars, Option}
use Rattle.std.specs.Prelude.{nat_le, if◌then◌else◌}
use Rattle.std.specs.List.{list_all, prefix_len}
use Rattle.std.proofs.lemmas.Bool.Decides.{nat_tests}
use Rattle.std.proofs.lemmas.Str.{chars-IsAscii}
use Rattle.stx_base.specs.Character.{is_name, is_name_char, is_name_start}
use Rattle.xml_tokens.specs.Tags.{is_name_byte, named}
use Rattle.xml_tokens.specs.inside.Spans.{cut_name, is_ascii_name_byte, is_wide_at}
use Rattle.xml_tokens.proofs.PlainLemmas.{ascii-name}

-- what is no byte beyond ASCII
low : (b : ℕ) → nat_le 128 b ≡ false → nat_lt b 128 ≡ true
low b h = grind (arith, nat_tests)

pub one-more : (n : ℕ) → 1 + n ≡ suc n
one-more n = omega arith

-- where no byte beyond ASCII follows, the bytes of ASCII are all that may stand in a name
pub same-len : (bytes : List ℕ) → is_wide_at (prefix_len is_ascii_name_byte bytes) bytes ≡ false → prefix_len is_name_byte bytes ≡ prefix_len is_ascii_name_byte bytes
same-len [] h = refl
same-len (b ∷ bs) h = by_test (same-len bs) (nat_lt b 128) (is_name_char b) refl h where
  by_test : (is_wide_at (prefix_len is_ascii_name_byte bs) bs ≡ false → prefix_len is_name_byte bs ≡ prefix_len is_ascii_name_byte bs) →
      (l n : Bool) → nat_lt b 128 ≡ l → is_wide_at (cond (l && n) (1 + prefix_len is_ascii_name_byte bs) 0) (b ∷ bs) ≡ false →
      cond (nat_le 128 b || n) (1 + prefix_len is_name_byte bs) 0 ≡ cond (l && n) (1 + prefix_len is_ascii_name_byte bs) 0
  by_test more true true e w =
      ap (λ t. cond t (1 + prefix_len is_name_byte bs) 0) (or_true (nat_le 128 b))
      ∙ ap (λ n. 1 + n) (more (ap (λ n. is_wide_at n (b ∷ bs)) (sym (one-more (prefix_len is_ascii_name_byte bs))) ∙ w)) where
        or_true : (t : Bool) → (t || true) ≡ true
        or_true true = refl
        or_true false = refl
  by_test more true false e w = ap (λ t. cond (t || false) (1 + prefix_len is_name_byte bs) 0) w
  by_test more false n e w = absurd (no (sym e ∙ low b w)) where
    no : false ≡ true → ⊥
    no x = absurd cc

all-pass : (p : ℕ → Bool) (bytes : List ℕ) → list_all p (take (prefix_len p bytes) bytes) ≡ true
all-pass p [] = refl
all-pass p (b ∷ bs) = by_test (p b) refl (all-pass p bs) where
  by_test : (t : Bool) → p b ≡ t → list_all p (take (prefix_len p bs) bs) ≡ true → list_all p (take (cond t (1 + prefix_len p bs) 0) (b ∷ bs)) ≡ true
  by_test true e more = ap (λ n. list_all p (take n (b ∷ bs))) (one-more (prefix_len p bs)) ∙ (ap (λ t. t && list_all p (take (prefix_len p bs) bs)) e ∙ more)
  by_test false e more = refl

not_start : (s more : Bool) → (s || more) ≡ false → s ≡ false
not_start true more h = absurd cc
not_start false more h = refl

-- a byte of ASCII that may not stand in a name begins none
no-start : (b : ℕ) → nat_lt b 128 ≡ true → (nat_lt b 128 && is_name_char b) ≡ false → is_name_start b ≡ false
no-start b l h = not_start (is_name_start b) _ (sym (ap (λ t. t && is_name_char b) l) ∙ h)

-- no bytes are no name
no-name : is_name (chars []) ≡ false
no-name = ap is_name (chars-IsAscii [] (λ i. omega arith))

none-if : {A : Type 0} (t : Bool) (x : A) → t ≡ false → cond t (Some x) None ≡ None
none-if true x h = absurd cc
none-if false x h = refl

-- the first bytes, if they are a name, and those behind them
abbrev found : List ℕ → ℕ → Option (List ℕ × List ℕ)
found bytes n = if is_name (chars (take n bytes)) then Some (take n bytes, drop n bytes) else None

-- a name is what was counted, where the first byte begins one
pub ascii-named : (bytes : List ℕ) → is_wide_at (prefix_len is_ascii_name_byte bytes) bytes ≡ false → cut_name (prefix_len is_ascii_name_byte bytes) bytes ≡ named bytes
unfolding named
ascii-named [] h = sym (none-if (is_name (chars [])) ([], []) no-name)
ascii-named (b ∷ bs) h = counted ∙ ap (found (b ∷ bs)) (sym (same-len (b ∷ bs) h)) where
  counted : cut_name (prefix_len is_ascii_name_byte (b ∷ bs)) (b ∷ bs) ≡ found (b ∷ bs) (prefix_len is_ascii_name_byte (b ∷ bs))
  counted = by_test (is_ascii_name_byte b) refl h where
    by_test : (t : Bool) → is_ascii_name_byte b ≡ t → is_wide_at (cond t (1 + prefix_len is_ascii_name_byte bs) 0) (b ∷ bs) ≡ false →
        cut_name (cond t (1 + prefix_len is_ascii_name_byte bs) 0) (b ∷ bs) ≡ found (b ∷ bs) (cond t (1 + prefix_len is_ascii_name_byte bs) 0)
    by_test true e w =
        let n = prefix_len is_ascii_name_byte bs in
        let all = ap (λ t. t && list_all is_ascii_name_byte (take n bs)) e ∙ all-pass is_ascii_name_byte bs in
        let cut : List ℕ × List ℕ = (b ∷ take n bs, drop n bs) in
        let same : cut_name (suc n) (b ∷ bs) ≡ found (b ∷ bs) (suc n) = ap (λ t. cond t (Some cut) None) (sym (ascii-name b (take n bs) all)) in
        ap (λ k. cut_name k (b ∷ bs)) (one-more n) ∙ (same ∙ ap (found (b ∷ bs)) (sym (one-more n)))
    by_test false e w = none-if (is_name_start b) ([], b ∷ bs) (no-start b (low b w) e) ∙ sym (none-if (is_name (chars [])) ([], b ∷ bs) no-name)
