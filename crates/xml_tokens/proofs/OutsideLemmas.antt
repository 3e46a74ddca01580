-- A search outside quotes passes over what is unmarked.
use Rattle.std.proofs.Common.{◌≡◌, ℕ, zero, suc, ◌+◌, ◌-◌, ◌<◌, ◌≤◌, Bool, true, false, not, ◌&&◌, ◌||◌, ◌==◌, List, ◌++◌, Option, Some, None, length, get_or, take, drop, refl, sym, ap, ◌∙◌, arith, cond, subst, get_or-drop, length-append, length-drop}
use Rattle.std.specs.Prelude.{unwrap_or}
use Rattle.std.specs.List.{prefix_len}
use Rattle.std.proofs.lemmas.List.{get_or_append_left}
use Rattle.std.proofs.lemmas.List.Sums.{prefix_len_passes}
use Rattle.memchr.specs.Find.{IsFirstByte, is_byte}
use Rattle.xml_tokens.specs.Places.{first_outside, is_outside, is_quote, quote_after}
use Rattle.xml_tokens.specs.Shape.{ends_declaration}
use Rattle.xml_tokens.specs.inside.Resume.{IsUnmarked, ending_test, is_unmarked}
use Rattle.xml_tokens.proofs.PlaceLemmas.{first_outside-step}
use Rattle.xml_tokens.proofs.ScanLemmas.{no_pass, tail_is}

unmarked-outside : (b : ℕ) → is_unmarked b ≡ true → IsUnmarked None b
unmarked-outside b h = by_tests (is_quote b) (ends_declaration b) h where
  by_tests : (q e : Bool) → not (q || e) ≡ true → (cond q (Some b) None ≡ None) × ((true && e) ≡ false)
  by_tests true e k = absurd cc
  by_tests false true k = absurd cc
  by_tests false false k = (refl, refl)

unmarked-inside : (quote b : ℕ) → (b == quote) ≡ false → IsUnmarked (Some quote) b
unmarked-inside quote b h = (ap (λ t. cond t None (Some quote)) h, refl)

pub outside-passed : (bytes : List ℕ) (len : ℕ) → len ≡ prefix_len is_unmarked bytes → (i : ℕ) → i < len → IsUnmarked None (get_or bytes i 0)
outside-passed bytes len e i l = unmarked-outside (get_or bytes i 0) (prefix_len_passes is_unmarked bytes i 0 (subst (λ n. i < n) e l))

pub inside-passed : (quote : ℕ) (bytes : List ℕ) (r : Option ℕ) → IsFirstByte (is_byte quote) bytes r → (i : ℕ) → i < unwrap_or r (length bytes) → IsUnmarked (Some quote) (get_or bytes i 0)
inside-passed quote bytes None h i l = unmarked-inside quote (get_or bytes i 0) (no_pass _ (h i (omega arith) l))
inside-passed quote bytes (Some k) h i l = unmarked-inside quote (get_or bytes i 0) (no_pass _ (h.0.before i (omega arith) l))

-- what ends no declaration ends no tag
weaker : (bracket : Bool) (quote : Option ℕ) (b : ℕ) → (is_outside quote && ends_declaration b) ≡ false → (is_outside quote && ending_test bracket b) ≡ false
weaker true quote b h = h
weaker false quote b h = by_tests (is_outside quote) (b == 62) (b == 91) h where
  by_tests : (o s t : Bool) → (o && (s || t)) ≡ false → (o && s) ≡ false
  by_tests false s t k = refl
  by_tests true true t k = absurd cc
  by_tests true false t k = refl

module _ (bracket : Bool) (quote : Option ℕ) (all : List ℕ) where
  abbrev found_from : ℕ → Option ℕ
  found_from n = first_outside (ending_test bracket) quote n (drop n all)

  passed : (at k : ℕ) → at + k ≤ length all → ((i : ℕ) → i < k → IsUnmarked quote (get_or all (at + i) 0)) → found_from at ≡ found_from (at + k)
  passed at zero h p = let e : at ≡ at + 0 = omega arith in ap found_from e
  passed at (suc k) h p =
      let here = p k (omega arith) in
      let e : at + k + 1 ≡ at + suc k = omega arith in
      passed at k (omega (arith, h)) (λ i l. p i (omega (arith, l)))
      ∙ (first_outside-step (ending_test bracket) quote (at + k) all (omega (arith, h))
      ∙ (ap (λ t. cond t (Some (at + k)) (first_outside (ending_test bracket) (quote_after quote (get_or all (at + k) 0)) (at + k + 1) (drop (at + k + 1) all))) (weaker bracket quote (get_or all (at + k) 0) here.1)
      ∙ (ap (λ q. first_outside (ending_test bracket) q (at + k + 1) (drop (at + k + 1) all)) here.0 ∙ ap found_from e)))

pub pass-high : (bytes : List ℕ) (at k : ℕ) → at ≤ length bytes → k ≤ length (take (length bytes - at) (drop at bytes)) → at + k ≤ length bytes
pass-high bytes at k h l = omega (arith, subst (λ rest. k ≤ length rest) (tail_is at bytes) l, length-drop at bytes, h)

pub pass-same : (bracket : Bool) (quote : Option ℕ) (bytes : List ℕ) (at k : ℕ) → at ≤ length bytes → k ≤ length (take (length bytes - at) (drop at bytes)) →
    ((i : ℕ) → i < k → IsUnmarked quote (get_or (take (length bytes - at) (drop at bytes)) i 0)) →
    (more : List ℕ) → first_outside (ending_test bracket) quote at (drop at (bytes ++ more)) ≡ first_outside (ending_test bracket) quote (at + k) (drop (at + k) (bytes ++ more))
pass-same bracket quote bytes at k h l p more =
    let high = pass-high bytes at k h l in
    passed bracket quote (bytes ++ more) at k (omega (arith, high, length-append bytes more)) (λ i low.
    let is : get_or (take (length bytes - at) (drop at bytes)) i 0 ≡ get_or (bytes ++ more) (at + i) 0 =
    ap (λ rest. get_or rest i 0) (tail_is at bytes) ∙ (get_or-drop at bytes i 0 ∙ sym (get_or_append_left bytes more 0 (at + i) (omega (arith, high, low)))) in
    subst (IsUnmarked quote) is (p i low))
