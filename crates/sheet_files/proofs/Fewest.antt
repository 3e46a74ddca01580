-- The fewest for which something holds.
use Rattle.std.proofs.Common.{◌≡◌, ℕ, zero, suc, ◌+◌, ◌<◌, ◌≤◌, Bool, true, false, refl, sym, ap, ◌∙◌, arith}
use Rattle.std.proofs.lemmas.Bool.{false≢true, leb-false, leb-true}
use Rattle.std.specs.Prelude.{nat_le, if◌then◌else◌}
use Rattle.sheet_loader.specs.Files.{fewest}

chosen : (holds : ℕ → Bool) (from most n : ℕ) → from ≤ n → ((m : ℕ) → from ≤ m → m < n → holds m ≡ false) → holds n ≡ true → (b : Bool) → holds from ≡ b → (from < n → fewest holds (suc from) most ≡ n) → (if b then from else fewest holds (suc from) most) ≡ n
chosen holds from most n low none here true e later = before (nat_le n from) refl where
  before : (b : Bool) → nat_le n from ≡ b → from ≡ n
  before true q = let le : n ≤ from = leb-true n from q in omega arith
  before false q =
      let same : from ≤ from = omega arith in
      absurd (false≢true (sym (none from same (leb-false n from q)) ∙ e))
chosen holds from most n low none here false e later = before (nat_le n from) refl where
  before : (b : Bool) → nat_le n from ≡ b → fewest holds (suc from) most ≡ n
  before true q =
      let le : n ≤ from = leb-true n from q in
      let is : from ≡ n = omega arith in absurd (false≢true (sym e ∙ ap holds is ∙ here))
  before false q = later (leb-false n from q)

-- it is the one for which it holds, where it holds for none before
pub fewest_is : (holds : ℕ → Bool) (from most n : ℕ) → from ≤ n → n ≤ from + most → ((m : ℕ) → from ≤ m → m < n → holds m ≡ false) → holds n ≡ true → fewest holds from most ≡ n
fewest_is holds from zero n low high none here = omega arith
fewest_is holds from (suc most) n low high none here =
    chosen holds from most n low none here (holds from) refl (λ l. fewest_is holds (suc from) most n l (omega arith) (λ m le lt. none m (omega arith) lt) here)
