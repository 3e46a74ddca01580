-- The brackets that stand directly before a place, of which two count.
use Rattle.std.proofs.Common.{◌≡◌, ℕ, zero, suc, ◌+◌, ◌<◌, ◌≤◌, true, false, List, [], ◌∷◌, ◌++◌, length, take, drop, get_or, map, refl, sym, ap, ap₂, ◌∙◌, min, map-id, take-append-drop, ne_eqb, arith}
use Rattle.std.proofs.lemmas.List.{at_drop_more}
use Rattle.stx_base.specs.Character.{has_cdata_end}

-- so many brackets, and then what follows
abbrev pub brackets : ℕ → List ℕ → List ℕ
brackets zero more = more
brackets (suc n) more = 93 ∷ brackets n more

-- what is no bracket, and does not end two of them, begins anew
pub anew : (n c : ℕ) (more : List ℕ) → n ≤ 2 → (c ≡ 93 → ⊥) → (c ≡ 62 → ⊥) → has_cdata_end (brackets n (c ∷ more)) ≡ has_cdata_end more
anew zero c more l no_bracket no_end = rw (ne_eqb c 93 no_bracket) refl
anew (suc zero) c more l no_bracket no_end = rw (ne_eqb c 93 no_bracket) refl
anew (suc (suc zero)) c more l no_bracket no_end = rw (ne_eqb c 93 no_bracket, ne_eqb c 62 no_end) refl
anew (suc (suc (suc n))) c more l no_bracket no_end = absurd (omega (arith, l))

-- the mark's last character ends nothing where fewer than two brackets stand before it
pub alone : (n c : ℕ) (more : List ℕ) → n ≤ 2 → (n ≡ 2 → ⊥) → c ≡ 62 → has_cdata_end (brackets n (c ∷ more)) ≡ has_cdata_end more
alone zero c more l few e = rw e refl
alone (suc zero) c more l few e = rw e refl
alone (suc (suc n)) c more l few e = absurd (few (omega (arith, l)))

-- one bracket more
pub one_more : (n m : ℕ) (more : List ℕ) → n ≤ 2 → m ≡ min (n + 1) 2 → has_cdata_end (brackets n (93 ∷ more)) ≡ has_cdata_end (brackets m more)
one_more zero m more l e = ap (λ k. has_cdata_end (brackets k more)) (sym e)
one_more (suc zero) m more l e = ap (λ k. has_cdata_end (brackets k more)) (sym e)
one_more (suc (suc zero)) m more l e = ap (λ k. has_cdata_end (brackets k more)) (sym e)
one_more (suc (suc (suc n))) m more l e = absurd (omega (arith, l))

-- a text of which the characters so far, the next one and what follows are known
pub put_together : (cs seen : List ℕ) (c : ℕ) → map (λ x. x) seen ≡ take (length seen) cs → length seen < length cs → c ≡ get_or cs (length seen) c →
    cs ≡ seen ++ (c ∷ drop (length seen + 1) cs)
put_together cs seen c so_far l e =
    sym (take-append-drop (length seen) cs) ∙ ap (λ xs. xs ++ drop (length seen) cs) (sym (sym (map-id seen) ∙ so_far))
    ∙ ap (λ xs. seen ++ xs) (at_drop_more (λ xs. xs) cs (length seen) c l ∙ ap (λ d. d ∷ drop (length seen + 1) cs) (sym e))

-- two brackets and the mark's last character
pub ended : (n c : ℕ) (more : List ℕ) → n ≡ 2 → c ≡ 62 → has_cdata_end (brackets n (c ∷ more)) ≡ true
ended n c more two e = ap₂ (λ k d. has_cdata_end (brackets k (d ∷ more))) two e

-- brackets alone end nothing
pub open_end : (n : ℕ) → n ≤ 2 → has_cdata_end (brackets n []) ≡ false
open_end zero l = refl
open_end (suc zero) l = refl
open_end (suc (suc zero)) l = refl
open_end (suc (suc (suc n))) l = absurd (omega (arith, l))
