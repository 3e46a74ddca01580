-- Bytes between an opening and a closing word.
use Rattle.std.proofs.Common.{◌≡◌, ℕ, ◌+◌, ◌-◌, ◌≤◌, Bool, true, false, ◌&&◌, ◌==◌, List, [], ◌∷◌, ◌++◌, Some, None, length, length-append, take, drop, refl, sym, ap, ◌∙◌, arith, cond}
use Rattle.std.specs.Prelude.{nat_le}
use Rattle.std.proofs.lemmas.Bool.{eqb-true, eq-eqb}
use Rattle.std.proofs.lemmas.Bool.Decides.{nat_tests}
use Rattle.std.proofs.lemmas.List.{take-append-drop, append-nil, drop-drop, drop_all}
use Rattle.std.proofs.Math.Seq.{take-append_seam, drop-append_seam}
use Rattle.xml_tokens.specs.Places.{begins}
use Rattle.xml_tokens.specs.Judged.{between}
use Rattle.xml_tokens.specs.Spelling.{enclosed}
use Rattle.xml_tokens.proofs.ListLemmas.{two}
use Rattle.xml_tokens.proofs.AttributeLemmas.{some_if}

-- bytes that begin with a word are the word and what follows
pub begins-is : (bytes word : List ℕ) → begins bytes word ≡ true → bytes ≡ word ++ drop (length word) bytes
begins-is bytes [] h = refl
begins-is [] (w ∷ ws) h = absurd cc
begins-is (b ∷ bs) (w ∷ ws) h =
    let parts = two (b == w) (begins bs ws) h in
    ap (λ x. x ∷ bs) (eqb-true b w parts.0) ∙ ap (λ l. w ∷ l) (begins-is bs ws parts.1)

pub begins-of : (word rest : List ℕ) → begins (word ++ rest) word ≡ true
begins-of [] rest = refl
begins-of (w ∷ ws) rest = ap (λ t. t && begins (ws ++ rest) ws) (eq-eqb w w refl) ∙ begins-of ws rest

fits : {n m : ℕ} → nat_le n m ≡ true → n ≤ m
fits {n} {m} e = grind (arith, nat_tests)

fit : {n m : ℕ} → n ≤ m → nat_le n m ≡ true
fit {n} {m} e = grind (arith, nat_tests)

pub between-is : (opener closer bytes inside : List ℕ) → between opener closer bytes ≡ Some inside → bytes ≡ enclosed opener closer inside
between-is opener closer bytes inside h = by_test (nat_le (length opener + length closer) (length bytes) && begins bytes opener && begins (drop (length bytes - length closer) bytes) closer) refl h where
  by_test : (t : Bool) → (nat_le (length opener + length closer) (length bytes) && begins bytes opener && begins (drop (length bytes - length closer) bytes) closer) ≡ t →
      cond t (Some (take (length bytes - length opener - length closer) (drop (length opener) bytes))) None ≡ Some inside → bytes ≡ enclosed opener closer inside
  by_test false e k = absurd cc
  by_test true e k =
      let all = two (nat_le (length opener + length closer) (length bytes) && begins bytes opener) (begins (drop (length bytes - length closer) bytes) closer) e in
      let front = two (nat_le (length opener + length closer) (length bytes)) (begins bytes opener) all.0 in
      let room : length opener + length closer ≤ length bytes = fits front.0 in
      let rest = drop (length opener) bytes in
      let at = length bytes - length opener - length closer in
      let ends : drop at rest ≡ drop (length bytes - length closer) bytes =
      drop-drop at (length opener) bytes ∙ ap (λ n. drop n bytes) (let e : length opener + at ≡ length bytes - length closer = omega (arith, room) in e) in
      let last : drop (length bytes - length closer) bytes ≡ closer =
      begins-is (drop (length bytes - length closer) bytes) closer all.1 ∙ (ap (λ l. closer ++ l) (drop-drop (length closer) (length bytes - length closer) bytes
      ∙ drop_all-of bytes (length bytes - length closer + length closer) (omega (arith, room))) ∙ append-nil closer) in
      let whole : rest ≡ take at rest ++ closer = sym (take-append-drop at rest) ∙ ap (λ l. take at rest ++ l) (ends ∙ last) in
      begins-is bytes opener front.1 ∙ ap (λ l. opener ++ l) (whole ∙ ap (λ l. l ++ closer) (some_if true (take at rest) inside k)) where
        drop_all-of : (l : List ℕ) (n : ℕ) → length l ≤ n → drop n l ≡ []
        drop_all-of l n q = drop_all n l q

pub between-of : (opener closer inside : List ℕ) → between opener closer (enclosed opener closer inside) ≡ Some inside
between-of opener closer inside =
    let bytes = enclosed opener closer inside in
    let size : length bytes ≡ length opener + (length inside + length closer) = length-append opener (inside ++ closer) ∙ ap (λ n. length opener + n) (length-append inside closer) in
    let room : nat_le (length opener + length closer) (length bytes) ≡ true = fit (omega (arith, size)) in
    let rest : drop (length opener) bytes ≡ inside ++ closer = drop-append_seam opener (inside ++ closer) in
    let ends : drop (length bytes - length closer) bytes ≡ closer =
    ap (λ n. drop n bytes) (let e : length bytes - length closer ≡ length opener + length inside = omega (arith, size) in e)
    ∙ (sym (drop-drop (length inside) (length opener) bytes) ∙ (ap (drop (length inside)) rest ∙ drop-append_seam inside closer)) in
    let closes : begins (drop (length bytes - length closer) bytes) closer ≡ true = ap (λ l. begins l closer) (ends ∙ sym (append-nil closer)) ∙ begins-of closer [] in
    let all : (nat_le (length opener + length closer) (length bytes) && begins bytes opener && begins (drop (length bytes - length closer) bytes) closer) ≡ true = rw (room, begins-of opener (inside ++ closer), closes) refl in
    ap (λ t. cond t (Some (take (length bytes - length opener - length closer) (drop (length opener) bytes))) None) all
    ∙ ap (λ l. Some l) (ap (λ n. take n (drop (length opener) bytes)) (let e : length bytes - length opener - length closer ≡ length inside = omega (arith, size) in e)
    ∙ (ap (take (length inside)) rest ∙ take-append_seam inside closer))
