-- How markup is taken apart.
use Rattle.std.proofs.Common.{◌≡◌, ℕ, ◌+◌, ◌-◌, ◌<◌, ◌≤◌, Bool, true, false, not, ◌&&◌, ◌==◌, List, [], ◌∷◌, Some, None, IsUtf8, length, take, drop, refl, sym, ap, ◌∙◌, arith, subst, cond, get_or, length-drop, add-zero}
use Rattle.std.proofs.lemmas.List.{get_or-drop}
use Rattle.std.proofs.lemmas.Bool.{eqb-true}
use Rattle.std.specs.Prelude.{nat_le, nat_lt}
use Rattle.std.specs.List.{list_all, position_or_len}
use Rattle.stx_base.specs.Character.{is_space}
use Rattle.std.proofs.lemmas.Bool.Decides.{nat_tests}
use Rattle.xml_tokens.specs.Places.{begins}
use Rattle.xml_tokens.specs.Tags.{after_space}
use Rattle.xml_tokens.specs.Prolog.{behind_space}
use Rattle.xml_tokens.specs.Judged.{between}
use Rattle.xml_tokens.proofs.ListLemmas.{two}
use Rattle.xml_tokens.proofs.AttributeLemmas.{after_space-utf8, some_if}
use Rattle.xml_tokens.proofs.Utf8Lemmas.{utf8-word, utf8-before, utf8-front}

pub behind_space-utf8 : (bytes rest : List ℕ) → behind_space bytes ≡ Some rest → IsUtf8 bytes → IsUtf8 rest
behind_space-utf8 bytes rest h utf8 = by_test (length (after_space bytes) == length bytes) h where
  by_test : (t : Bool) → cond t None (Some (after_space bytes)) ≡ Some rest → IsUtf8 rest
  by_test true k = absurd cc
  by_test false k = subst IsUtf8 (some_is k) (after_space-utf8 bytes utf8) where
    some_is : Some (after_space bytes) ≡ Some rest → after_space bytes ≡ rest
    some_is e = cc

-- the bytes between words of ASCII are UTF-8
pub between-utf8 : (opener closer bytes inside : List ℕ) → list_all (λ b. nat_lt b 128) opener ≡ true → list_all (λ b. nat_lt b 128) closer ≡ true → 0 < length closer →
    between opener closer bytes ≡ Some inside → IsUtf8 bytes → IsUtf8 inside
between-utf8 opener [] bytes inside o c some h utf8 = absurd (omega (arith, some))
between-utf8 opener (w ∷ ws) bytes inside o c some h utf8 = by_test (nat_le (length opener + length (w ∷ ws)) (length bytes) && begins bytes opener && begins (drop (length bytes - length (w ∷ ws)) bytes) (w ∷ ws)) refl h where
  fits : {n m : ℕ} → nat_le n m ≡ true → n ≤ m
  fits {n} {m} e = grind (arith, nat_tests)

  less : {n m : ℕ} → nat_lt n m ≡ true → n < m
  less {n} {m} e = grind (arith, nat_tests)

  first : (xs : List ℕ) → begins xs (w ∷ ws) ≡ true → get_or xs 0 0 ≡ w
  first [] e = absurd cc
  first (x ∷ xs) e = eqb-true x w (two (x == w) (begins xs ws) e).0

  by_test : (t : Bool) → (nat_le (length opener + length (w ∷ ws)) (length bytes) && begins bytes opener && begins (drop (length bytes - length (w ∷ ws)) bytes) (w ∷ ws)) ≡ t →
      cond t (Some (take (length bytes - length opener - length (w ∷ ws)) (drop (length opener) bytes))) None ≡ Some inside → IsUtf8 inside
  by_test false e k = absurd cc
  by_test true e k =
      let all = two (nat_le (length opener + length (w ∷ ws)) (length bytes) && begins bytes opener) (begins (drop (length bytes - length (w ∷ ws)) bytes) (w ∷ ws)) e in
      let front = two (nat_le (length opener + length (w ∷ ws)) (length bytes)) (begins bytes opener) all.0 in
      let room : length opener + length (w ∷ ws) ≤ length bytes = fits front.0 in
      let rest = drop (length opener) bytes in
      let rest_utf8 : IsUtf8 rest = utf8-word bytes opener front.1 o utf8 in
      let at = length bytes - length opener - length (w ∷ ws) in
      let place : length opener + at ≡ length bytes - length (w ∷ ws) = omega (arith, room) in
      let here : get_or rest at 0 ≡ w =
      get_or-drop (length opener) bytes at 0 ∙ (ap (λ n. get_or bytes n 0) (place ∙ sym (add-zero (length bytes - length (w ∷ ws)))) ∙ (sym (get_or-drop (length bytes - length (w ∷ ws)) bytes 0 0) ∙ first (drop (length bytes - length (w ∷ ws)) bytes) all.1)) in
      let low : get_or rest at 0 < 128 = omega (arith, here, less (two (nat_lt w 128) (list_all (λ b. nat_lt b 128) ws) c).0) in
      let within : at < length rest = omega (arith, room, length-drop (length opener) bytes) in
      subst IsUtf8 (some_if true (take at rest) inside k) (utf8-before rest at rest_utf8 within low)

not_space-ascii : (b : ℕ) → not (is_space b) ≡ false → b < 128
not_space-ascii b h = grind (arith, nat_tests)

-- a word up to white space, and what follows it
pub word-utf8 : (bytes : List ℕ) → IsUtf8 bytes → IsUtf8 (take (position_or_len is_space bytes) bytes) × IsUtf8 (drop (position_or_len is_space bytes) bytes)
word-utf8 bytes utf8 = utf8-front (λ b. not (is_space b)) not_space-ascii bytes utf8
