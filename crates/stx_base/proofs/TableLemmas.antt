-- Tables in which each byte of a class stands at its own place, and a filler, which is none of them, at every other.
use Rattle.std.proofs.Common.{◌≡◌, ℕ, ◌==◌, ◌<◌, Bool, List, true, false, not, map, cond, get_or, refl, ap, ◌∙◌, arith}
use Rattle.std.proofs.lemmas.Bool.Decides.{nat_tests}
use Rattle.std.proofs.lemmas.List.FromFn.{get_or-map-range_with_len}
use Rattle.std.specs.List.{range_with_len}

-- what stands at the place of a byte
abbrev pub entry : (ℕ → Bool) → ℕ → ℕ → ℕ
entry class filler b = cond (class b) b filler

-- the table of a class
abbrev pub table_of : (ℕ → Bool) → ℕ → List ℕ
table_of class filler = map (entry class filler) (range_with_len 0 256)

module _ (class : ℕ → Bool) (filler : ℕ) (outside : class filler ≡ false) where
  -- an entry tells a byte of the class from the others
  told : (b : ℕ) (t : Bool) → class b ≡ t → not (cond t b filler == filler) ≡ t
  told b false h = grind (arith, nat_tests)
  told b true h = grind (h, outside, arith, nat_tests)

  pub read : (table : List ℕ) → table ≡ table_of class filler → (b : ℕ) → b < 256 → not (get_or table b 0 == filler) ≡ class b
  read table is b h =
      ap (λ (n : ℕ). not (n == filler)) (ap (λ t. get_or t b 0) is ∙ get_or-map-range_with_len (entry class filler) 0 256 b b 0 h (omega arith))
      ∙ told b (class b) refl
