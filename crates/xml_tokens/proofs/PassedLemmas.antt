-- What a search passes that looks outside quotes for the end of a tag, or of a declaration.
use Rattle.std.proofs.Common.{◌≡◌, ℕ, suc, ◌+◌, Bool, true, false, not, ◌&&◌, ◌||◌, ◌==◌, List, [], ◌∷◌, ◌++◌, Some, None, length, length-append, append_assoc, refl, sym, ap, ◌∙◌, arith, subst, cond}
use Rattle.std.proofs.lemmas.Bool.{eq-eqb, ne_eqb}
use Rattle.std.proofs.lemmas.List.{append-nil}
use Rattle.std.specs.List.{list_all, list_any}
use Rattle.xml_tokens.specs.Places.{first_outside, is_quote}
use Rattle.xml_tokens.proofs.ListLemmas.{two}

-- a byte that neither opens a quote nor ends the search
abbrev pub calm : (ℕ → Bool) → ℕ → Bool
calm test b = not (is_quote b) && not (test b)

-- the search comes from the front of these bytes to the front of others that they end with
pub record Passed (test : ℕ → Bool) (bytes more : List ℕ) : Type 0 where
  pub len : ℕ
  pub size : length bytes ≡ len + length more
  pub goes : (at : ℕ) (rest : List ℕ) → first_outside test None at (bytes ++ rest) ≡ first_outside test None (at + len) (more ++ rest)

-- bytes of which p holds are calm
pub record IsCalm (p test : ℕ → Bool) : Type 0 where
  pub double : p 34 ≡ false
  pub single : p 39 ≡ false
  pub other : (b : ℕ) → test b ≡ true → p b ≡ false

module _ (test : ℕ → Bool) where
  pub passed-none : (bytes : List ℕ) → Passed test bytes bytes
  passed-none bytes = record {
    len = 0;
    size = omega arith;
    goes = λ at rest. ap (λ n. first_outside test None n (bytes ++ rest)) (let e : at ≡ at + 0 = omega arith in e);
  }

  pub passed-then : (a b c : List ℕ) → Passed test a b → Passed test b c → Passed test a c
  passed-then a b c x y = record {
    len = x.len + y.len;
    size = omega (arith, x.size, y.size);
    goes = λ at rest. x.goes at rest ∙ (y.goes (at + x.len) rest ∙ ap (λ n. first_outside test None n (c ++ rest)) (let e : (at + x.len) + y.len ≡ at + (x.len + y.len) = omega arith in e));
  }

  pub passed-one : (b : ℕ) (bytes : List ℕ) → calm test b ≡ true → Passed test (b ∷ bytes) bytes
  passed-one b bytes h = record { len = 1; size = omega arith; goes = λ at rest. by_tests at (bytes ++ rest) (is_quote b) (test b) h } where
    by_tests : (at : ℕ) (bs : List ℕ) (q e : Bool) → (not q && not e) ≡ true → cond (true && e) (Some at) (first_outside test (cond q (Some b) None) (at + 1) bs) ≡ first_outside test None (at + 1) bs
    by_tests at bs true e k = absurd cc
    by_tests at bs false true k = absurd cc
    by_tests at bs false false k = refl

  pub passed-calm : (front bytes : List ℕ) → list_all (calm test) front ≡ true → Passed test (front ++ bytes) bytes
  passed-calm [] bytes h = passed-none bytes
  passed-calm (b ∷ bs) bytes h =
      let parts = two (calm test b) (list_all (calm test) bs) h in
      passed-then (b ∷ (bs ++ bytes)) (bs ++ bytes) bytes (passed-one b (bs ++ bytes) parts.0) (passed-calm bs bytes parts.1)

  pub passed-all : (bytes : List ℕ) → list_all (calm test) bytes ≡ true → Passed test bytes []
  passed-all bytes h = subst (λ l. Passed test l []) (append-nil bytes) (passed-calm bytes [] h)

  -- up to the quote that closes
  value-passed : (quote at : ℕ) (value rest : List ℕ) → list_any (λ b. b == quote) value ≡ false →
      first_outside test (Some quote) at (value ++ quote ∷ rest) ≡ first_outside test None (at + length value + 1) rest
  value-passed quote at [] rest h =
      ap (λ t. first_outside test (cond t None (Some quote)) (at + 1) rest) (eq-eqb quote quote refl) ∙ ap (λ n. first_outside test None n rest) (let e : at + 1 ≡ at + 0 + 1 = omega arith in e)
  value-passed quote at (b ∷ bs) rest h =
      let parts = neither (b == quote) (list_any (λ c. c == quote) bs) h in
      ap (λ t. first_outside test (cond t None (Some quote)) (at + 1) (bs ++ quote ∷ rest)) parts.0
      ∙ (value-passed quote (at + 1) bs rest parts.1 ∙ ap (λ n. first_outside test None n rest) (let e : (at + 1) + length bs + 1 ≡ at + suc (length bs) + 1 = omega arith in e)) where
        neither : (s t : Bool) → (s || t) ≡ false → (s ≡ false) × (t ≡ false)
        neither true t k = absurd cc
        neither false t k = (refl, k)

  pub passed-quoted : (quote : ℕ) (value bytes : List ℕ) → (is_quote quote ≡ true → test quote ≡ false) → is_quote quote ≡ true → list_any (λ b. b == quote) value ≡ false →
      Passed test (quote ∷ (value ++ quote ∷ bytes)) bytes
  passed-quoted quote value bytes other is h = record {
    len = length value + 2;
    size = omega (arith, length-append value (quote ∷ bytes));
    goes = λ at rest. opens (is_quote quote) is (test quote) (other is) at ((value ++ quote ∷ bytes) ++ rest)
        ∙ (ap (first_outside test (Some quote) (at + 1)) (append_assoc value (quote ∷ bytes) rest)
        ∙ (value-passed quote (at + 1) value (bytes ++ rest) h ∙ ap (λ n. first_outside test None n (bytes ++ rest)) (let e : (at + 1) + length value + 1 ≡ at + (length value + 2) = omega arith in e)));
  } where
    opens : (s : Bool) → s ≡ true → (e : Bool) → e ≡ false → (at : ℕ) (bs : List ℕ) → cond (true && e) (Some at) (first_outside test (cond s (Some quote) None) (at + 1) bs) ≡ first_outside test (Some quote) (at + 1) bs
    opens true k false l at bs = refl
    opens true k true l at bs = absurd cc
    opens false k e l at bs = absurd cc

  pub all-calm : (p : ℕ → Bool) → IsCalm p test → (bytes : List ℕ) → list_all p bytes ≡ true → list_all (calm test) bytes ≡ true
  all-calm p is [] h = refl
  all-calm p is (b ∷ bs) h =
      let parts = two (p b) (list_all p bs) h in
      both_true (calm test b) (list_all (calm test) bs) (one parts.0 (test b) refl) (all-calm p is bs parts.1) where
        both_true : (s t : Bool) → s ≡ true → t ≡ true → (s && t) ≡ true
        both_true s t x y = rw (x, y) refl

        differs : (k : ℕ) → p k ≡ false → p b ≡ true → (b == k) ≡ false
        differs k never holds = ne_eqb b k (λ e. let clash = sym never ∙ subst (λ c. p c ≡ true) e holds in absurd cc)

        one : p b ≡ true → (t : Bool) → test b ≡ t → calm test b ≡ true
        one holds true e = let clash = sym holds ∙ is.other b e in absurd cc
        one holds false e = rw (differs 34 is.double holds, differs 39 is.single holds, e) refl

-- where the search ends
pub passed-end : (test : ℕ → Bool) (bytes : List ℕ) (b : ℕ) (more : List ℕ) → Passed test bytes [] → test b ≡ true → first_outside test None 0 (bytes ++ b ∷ more) ≡ Some (length bytes)
passed-end test bytes b more p e =
    p.goes 0 (b ∷ more) ∙ (ap (λ t. cond (true && t) (Some (0 + p.len)) (first_outside test (cond (is_quote b) (Some b) None) (0 + p.len + 1) more)) e
    ∙ ap (λ n. Some n) (let s : 0 + p.len ≡ length bytes = omega (arith, p.size) in s))
