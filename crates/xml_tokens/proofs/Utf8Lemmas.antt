-- UTF-8 that is cut at a byte of ASCII.
use Rattle.std.proofs.Common.{◌≡◌, ℕ, zero, suc, ◌+◌, ◌<◌, List, [], ◌∷◌, length, take, drop, get_or, sym, ap, ◌∙◌, arith, subst, IsUtf8, ◌≢◌, ◌⊎◌, inl, inr, Bool, true, false, ◌==◌, cond, refl}
use Rattle.std.specs.Prelude.{nat_lt}
use Rattle.std.specs.List.{list_all, prefix_len}
use Rattle.std.proofs.lemmas.Bool.{eqb-true, cases_eq}
use Rattle.std.proofs.lemmas.Bool.Decides.{nat_tests}
use Rattle.xml_tokens.specs.Places.{begins}
use Rattle.xml_tokens.proofs.ListLemmas.{two}
use Rattle.std.specs.Str.{IsAscii}
use Rattle.std.proofs.lemmas.Str.{IsUtf8-append, IsUtf8-take, IsUtf8-drop, IsUtf8-from_ascii, IsUtf8-nil, IsCharBoundary-after_ascii, IsCharBoundary-from_drop}
use Rattle.std.proofs.lemmas.List.{drop_more, take_all, drop_all}
use Rattle.std.proofs.lemmas.List.Sums.{prefix_len-le-length, prefix_len_stops}

pub utf8-one : (b : ℕ) → b < 128 → IsUtf8 (b ∷ [])
utf8-one b ascii = IsUtf8-from_ascii (b ∷ []) one where
  one : IsAscii (b ∷ [])
  one zero = ascii
  one (suc i) = omega arith

-- cut before and behind such a byte
module _ (bytes : List ℕ) (at : ℕ) (utf8 : IsUtf8 bytes) (within : at < length bytes) (ascii : get_or bytes at 0 < 128) where
  pub utf8-behind : IsUtf8 (drop (at + 1) bytes)
  utf8-behind = IsUtf8-drop bytes (at + 1) utf8 (IsCharBoundary-after_ascii bytes at utf8 within ascii)

  pub utf8-from : IsUtf8 (drop at bytes)
  utf8-from = subst IsUtf8 (sym (drop_more bytes at 0 within)) (IsUtf8-append (get_or bytes at 0 ∷ []) (drop (at + 1) bytes) (utf8-one (get_or bytes at 0) ascii) utf8-behind)

  pub utf8-before : IsUtf8 (take at bytes)
  utf8-before = IsUtf8-take bytes at utf8 (IsCharBoundary-from_drop bytes at (omega (arith, within)) utf8-from)

-- what follows a word of ASCII
pub utf8-word : (bytes word : List ℕ) → begins bytes word ≡ true → list_all (λ b. nat_lt b 128) word ≡ true → IsUtf8 bytes → IsUtf8 (drop (length word) bytes)
utf8-word bytes [] h ascii utf8 = utf8
utf8-word [] (w ∷ ws) h ascii utf8 = absurd cc
utf8-word (b ∷ bs) (w ∷ ws) h ascii utf8 =
    let parts = two (b == w) (begins bs ws) h in
    let low = two (nat_lt w 128) (list_all (λ b. nat_lt b 128) ws) ascii in
    let is : b ≡ w = eqb-true b w parts.0 in
    let small : b < 128 = omega (arith, is, less low.0) in
    utf8-word bs ws parts.1 low.1 (utf8-behind (b ∷ bs) 0 utf8 (omega arith) small) where
      less : {n m : ℕ} → nat_lt n m ≡ true → n < m
      less {n} {m} h = grind (arith, nat_tests)

-- UTF-8 behind its first byte, where that is ASCII
pub utf8-rest : (b : ℕ) (bs : List ℕ) → b < 128 → IsUtf8 (b ∷ bs) → IsUtf8 bs
utf8-rest b bs low utf8 = utf8-behind (b ∷ bs) 0 utf8 (omega arith) low

-- a front that ends before a byte of ASCII, or with all
module _ (p : ℕ → Bool) where
  pub utf8-front : ((b : ℕ) → p b ≡ false → b < 128) → (bytes : List ℕ) → IsUtf8 bytes → IsUtf8 (take (prefix_len p bytes) bytes) × IsUtf8 (drop (prefix_len p bytes) bytes)
  utf8-front low bytes utf8 = by_length (cases_eq (prefix_len p bytes) (length bytes)) where
    by_length : (prefix_len p bytes ≡ length bytes) ⊎ (prefix_len p bytes ≢ length bytes) → IsUtf8 (take (prefix_len p bytes) bytes) × IsUtf8 (drop (prefix_len p bytes) bytes)
    by_length (inl e) = (
      subst IsUtf8 (sym (ap (λ n. take n bytes) e ∙ take_all (length bytes) bytes (omega arith))) utf8,
      subst IsUtf8 (sym (ap (λ n. drop n bytes) e ∙ drop_all (length bytes) bytes (omega arith))) IsUtf8-nil,
    )
    by_length (inr ne) =
        let within : prefix_len p bytes < length bytes = omega (arith, prefix_len-le-length p bytes, ne) in
        let small : get_or bytes (prefix_len p bytes) 0 < 128 = low _ (prefix_len_stops p bytes 0 within) in
        (utf8-before bytes (prefix_len p bytes) utf8 within small, utf8-from bytes (prefix_len p bytes) utf8 within small)

  -- what follows a front of ASCII
  pub utf8-after : ((b : ℕ) → p b ≡ true → b < 128) → (bytes : List ℕ) → IsUtf8 bytes → IsUtf8 (drop (prefix_len p bytes) bytes)
  utf8-after low [] utf8 = utf8
  utf8-after low (b ∷ bs) utf8 = by_test (λ u. utf8-after low bs u) (p b) refl where
    by_test : (IsUtf8 bs → IsUtf8 (drop (prefix_len p bs) bs)) → (t : Bool) → p b ≡ t → IsUtf8 (drop (cond t (1 + prefix_len p bs) 0) (b ∷ bs))
    by_test again true e = let n : 1 + prefix_len p bs ≡ suc (prefix_len p bs) = omega arith in subst (λ k. IsUtf8 (drop k (b ∷ bs))) (sym n) (again (utf8-rest b bs (low b e) utf8))
    by_test again false e = utf8
