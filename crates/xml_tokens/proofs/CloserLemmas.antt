-- Where a word that ends with `>` first stands.
use Rattle.std.proofs.Common.{◌≡◌, ℕ, suc, ◌+◌, ◌<◌, Bool, true, false, not, ◌&&◌, ◌==◌, List, [], ◌∷◌, ◌++◌, Some, length, length-append, refl, sym, ap, ◌∙◌, arith, cond, Option}
use Rattle.std.proofs.lemmas.Bool.{eq-eqb}
use Rattle.std.specs.Prelude.{is_some}
use Rattle.std.specs.List.{list_all}
use Rattle.xml_tokens.specs.Places.{begins, first_word}
use Rattle.xml_tokens.proofs.ListLemmas.{two}

-- no `>`
abbrev pub other : ℕ → Bool
other b = not (b == 62)

and-false : (t : Bool) → (t && false) ≡ false
and-false true = refl
and-false false = refl

not-true : (t : Bool) → not t ≡ true → t ≡ false
not-true true h = absurd cc
not-true false h = refl

-- a shorter word isn't over where the longer one has no `>`
shorter : (front word more : List ℕ) → list_all other front ≡ true → length word < length front → begins (front ++ 62 ∷ more) (word ++ 62 ∷ []) ≡ false
shorter [] word more h l = absurd (omega (arith, l))
shorter (b ∷ bs) [] more h l = ap (λ t. t && true) (not-true (b == 62) (two (other b) (list_all other bs) h).0)
shorter (b ∷ bs) (w ∷ ws) more h l =
    ap (λ t. (b == w) && t) (shorter bs ws more (two (other b) (list_all other bs) h).1 (omega (arith, l))) ∙ and-false (b == w)

-- what follows bytes doesn't help them to begin with the word
begins-still : (bytes front word more : List ℕ) → list_all other front ≡ true → length word < length front + length bytes → begins (bytes ++ (front ++ 62 ∷ more)) (word ++ 62 ∷ []) ≡ begins bytes (word ++ 62 ∷ [])
begins-still [] front word more h l = shorter front word more h (omega (arith, l)) ∙ sym (nothing word) where
  nothing : (word : List ℕ) → begins [] (word ++ 62 ∷ []) ≡ false
  nothing [] = refl
  nothing (w ∷ ws) = refl
begins-still (b ∷ bs) front [] more h l = refl
begins-still (b ∷ bs) front (w ∷ ws) more h l = ap (λ t. (b == w) && t) (begins-still bs front ws more h (omega (arith, l)))

begins-here : (front more : List ℕ) → begins (front ++ 62 ∷ more) (front ++ 62 ∷ []) ≡ true
begins-here [] more = refl
begins-here (b ∷ bs) more = ap (λ t. t && begins (bs ++ 62 ∷ more) (bs ++ 62 ∷ [])) (eq-eqb b b refl) ∙ begins-here bs more

found-here : (word : List ℕ) (at : ℕ) (bytes : List ℕ) → 0 < length bytes → begins bytes word ≡ true → first_word word at bytes ≡ Some at
found-here word at [] some h = absurd (omega (arith, some))
found-here word at (b ∷ bs) some h = ap (λ t. cond t (Some at) (first_word word (at + 1) bs)) h

-- a word that isn't found begins nowhere
not-found : {A : Type 0} (t : Bool) (x : A) (o : Option A) → is_some (cond t (Some x) o) ≡ false → (t ≡ false) × (is_some o ≡ false)
not-found true x o h = absurd cc
not-found false x o h = (refl, h)

module _ (front : List ℕ) (none : list_all other front ≡ true) where
  -- behind bytes in which it isn't found the word is found at once
  pub first-closer : (bytes more : List ℕ) (at from : ℕ) → is_some (first_word (front ++ 62 ∷ []) from bytes) ≡ false → first_word (front ++ 62 ∷ []) at (bytes ++ (front ++ 62 ∷ more)) ≡ Some (at + length bytes)
  first-closer [] more at from h = found-here (front ++ 62 ∷ []) at (front ++ 62 ∷ more) (omega (arith, length-append front (62 ∷ more))) (begins-here front more) ∙ ap (λ n. Some n) (let e : at ≡ at + 0 = omega arith in e)
  first-closer (b ∷ bs) more at from h =
      let word = front ++ 62 ∷ [] in
      let parts = not-found (begins (b ∷ bs) word) from (first_word word (from + 1) bs) h in
      ap (λ t. cond t (Some at) (first_word word (at + 1) (bs ++ (front ++ 62 ∷ more)))) (begins-still (b ∷ bs) front front more none (omega arith) ∙ parts.0)
      ∙ (first-closer bs more (at + 1) (from + 1) parts.1 ∙ ap (λ n. Some n) (let e : (at + 1) + length bs ≡ at + suc (length bs) = omega arith in e))

  -- where the word is found at once behind bytes, it isn't found in them
  pub none-before : (bytes : List ℕ) (at from : ℕ) → first_word (front ++ 62 ∷ []) at (bytes ++ (front ++ 62 ∷ [])) ≡ Some (at + length bytes) → is_some (first_word (front ++ 62 ∷ []) from bytes) ≡ false
  none-before [] at from h = refl
  none-before (b ∷ bs) at from h = by_test (λ k. none-before bs (at + 1) (from + 1) k) (begins ((b ∷ bs) ++ (front ++ 62 ∷ [])) (front ++ 62 ∷ [])) refl h where
    by_test : (first_word (front ++ 62 ∷ []) (at + 1) (bs ++ (front ++ 62 ∷ [])) ≡ Some ((at + 1) + length bs) → is_some (first_word (front ++ 62 ∷ []) (from + 1) bs) ≡ false) → (t : Bool) → begins ((b ∷ bs) ++ (front ++ 62 ∷ [])) (front ++ 62 ∷ []) ≡ t → cond t (Some at) (first_word (front ++ 62 ∷ []) (at + 1) (bs ++ (front ++ 62 ∷ []))) ≡ Some (at + suc (length bs)) →
        is_some (first_word (front ++ 62 ∷ []) from (b ∷ bs)) ≡ false
    by_test again true e k = let same : at ≡ at + suc (length bs) = cc in absurd (omega (arith, same))
    by_test again false e k =
        ap (λ t. is_some (cond t (Some from) (first_word (front ++ 62 ∷ []) (from + 1) bs))) (sym (begins-still (b ∷ bs) front front [] none (omega arith)) ∙ e)
        ∙ again (k ∙ ap (λ n. Some n) (let e2 : at + suc (length bs) ≡ (at + 1) + length bs = omega arith in e2))

  -- nor is it where no `>` is
  pub none-without : (bytes : List ℕ) (from : ℕ) → list_all other bytes ≡ true → is_some (first_word (front ++ 62 ∷ []) from bytes) ≡ false
  none-without [] from h = refl
  none-without (b ∷ bs) from h =
      ap (λ t. is_some (cond t (Some from) (first_word (front ++ 62 ∷ []) (from + 1) bs))) (begins-none front (b ∷ bs) h) ∙ none-without bs (from + 1) (two (other b) (list_all other bs) h).1 where
        begins-none : (word bytes : List ℕ) → list_all other bytes ≡ true → begins bytes (word ++ 62 ∷ []) ≡ false
        begins-none [] [] k = refl
        begins-none (w ∷ ws) [] k = refl
        begins-none [] (c ∷ cs) k = ap (λ t. t && true) (not-true (c == 62) (two (other c) (list_all other cs) k).0)
        begins-none (w ∷ ws) (c ∷ cs) k = ap (λ t. (c == w) && t) (begins-none ws cs (two (other c) (list_all other cs) k).1) ∙ and-false (c == w)

longer : (word more bytes : List ℕ) → begins bytes word ≡ false → begins bytes (word ++ more) ≡ false
longer [] more bytes k = absurd cc
longer (w ∷ ws) more [] k = refl
longer (w ∷ ws) more (c ∷ cs) k = by_test (λ q. longer ws more cs q) (c == w) k where
  by_test : (begins cs ws ≡ false → begins cs (ws ++ more) ≡ false) → (t : Bool) → (t && begins cs ws) ≡ false → (t && begins cs (ws ++ more)) ≡ false
  by_test again true q = again q
  by_test again false q = refl

-- a longer word isn't found where its front isn't
pub none-longer : (word more bytes : List ℕ) (from : ℕ) → is_some (first_word word from bytes) ≡ false → is_some (first_word (word ++ more) from bytes) ≡ false
none-longer word more [] from h = refl
none-longer word more (b ∷ bs) from h =
    let parts = not-found (begins (b ∷ bs) word) from (first_word word (from + 1) bs) h in
    ap (λ t. is_some (cond t (Some from) (first_word (word ++ more) (from + 1) bs))) (longer word more (b ∷ bs) parts.0) ∙ none-longer word more bs (from + 1) parts.1
