-- Where the first entry stands that passes a test, by the length of those before it.
use Rattle.std.proofs.Common.{◌≡◌, ◌<◌, ◌≤◌, ℕ, Bool, true, false, cond, None, Some, nat_lt, arith}
use Rattle.std.proofs.lemmas.Bool.{ltb-true, ltb-false}

pub some_place : (b : Bool) (n m i : ℕ) → nat_lt n m ≡ b → cond b (Some n) None ≡ Some i → (n ≡ i) × (i < m)
some_place true n m i e h = let same : n ≡ i = cc in let lt : n < m = ltb-true n m e in (same, omega (arith, same, lt))
some_place false n m i e h = absurd (cc)

pub no_place : (b : Bool) (n m : ℕ) → nat_lt n m ≡ b → cond b (Some n) None ≡ None → m ≤ n
no_place true n m e h = absurd (cc)
no_place false n m e h = ltb-false n m e
