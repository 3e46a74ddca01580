-- The first place of a byte, by the places that were looked at before the others.
use Rattle.std.proofs.Common.{◌≡◌, ◌⊎◌, inl, inr, ℕ, ◌+◌, ◌-◌, ◌<◌, ◌≤◌, Bool, true, false, List, Some, None, length, get_or, drop, sym, ap, ◌∙◌, arith, subst, get_or-drop, length-drop}
use Rattle.std.proofs.lemmas.Bool.{cases_lt}
use Rattle.memchr.specs.Find.{IsFirstByte, Nowhere, Passes}

module _ (test : ℕ → Bool) (bytes : List ℕ) where
  pub nowhere-next : (i : ℕ) → Nowhere (Passes test bytes) 0 i → test (get_or bytes i 0) ≡ false → Nowhere (Passes test bytes) 0 (i + 1)
  nowhere-next i none here k low high p = by_side (cases_lt k i) where
    differ : (t : Bool) → t ≡ true → t ≡ false → ⊥
    differ true h e = absurd cc
    differ false h e = absurd cc

    by_side : (k < i) ⊎ (i ≤ k) → ⊥
    by_side (inl l) = none k low l p
    by_side (inr l) = let e : k ≡ i = omega (arith, l, high) in differ (test (get_or bytes k 0)) p (ap (λ n. test (get_or bytes n 0)) e ∙ here)

  pub first-here : (i : ℕ) → i < length bytes → Nowhere (Passes test bytes) 0 i → test (get_or bytes i 0) ≡ true → IsFirstByte test bytes (Some i)
  first-here i within none here = (record { low = omega arith; high = within; before = none }, here)

  module _ (near : ℕ) (within : near ≤ length bytes) (none : Nowhere (Passes test bytes) 0 near) where
    before-far : (to : ℕ) → Nowhere (Passes test (drop near bytes)) 0 to → Nowhere (Passes test bytes) 0 (near + to)
    before-far to later k low high p = by_side (cases_lt k near) where
      by_side : (k < near) ⊎ (near ≤ k) → ⊥
      by_side (inl l) = none k low l p
      by_side (inr far) =
          let n : near + (k - near) ≡ k = omega (arith, far) in
          later (k - near) (omega arith) (omega (arith, high, far)) (ap test (get_or-drop near bytes (k - near) 0 ∙ ap (λ i. get_or bytes i 0) n) ∙ p)

    pub far-none : IsFirstByte test (drop near bytes) None → IsFirstByte test bytes None
    far-none h =
        let n : near + length (drop near bytes) ≡ length bytes = omega (arith, length-drop near bytes, within) in
        subst (Nowhere (Passes test bytes) 0) n (before-far (length (drop near bytes)) h)

    pub far-some : (k : ℕ) → IsFirstByte test (drop near bytes) (Some k) → IsFirstByte test bytes (Some (near + k))
    far-some k h = first-here (near + k) (omega (arith, h.0.high, length-drop near bytes, within)) (before-far k h.0.before) (ap test (sym (get_or-drop near bytes k 0)) ∙ h.1)
