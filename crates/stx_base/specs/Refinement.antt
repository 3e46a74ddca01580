-- When one definition by general recursion gives what another gives.
use Rattle.std.specs.Prelude.{◌≡◌, ℕ}
use Rattle.stx_base.specs.Course.{Course, Answer, Given, Over, Unknown, value, run}

-- where a is known, b is the same
abbrev pub Below : {R O E : Type 0} → Answer R O E → Answer R O E → Type 0
Below (Given os r) b = b ≡ Given os r
Below (Over os e) b = b ≡ Over os e
Below (Unknown os) b = Unit {0}

-- what comes of x with calls nested at most n deep comes of y at some depth, where each has its own calls
pub record Refines {Q P R O E : Type 0} (code : Q → Course Q R O E) (other : P → Course P R O E) (n : ℕ) (x : Course Q R O E) (y : Course P R O E) : Type 0 where
  pub depth : ℕ
  pub below : Below (value (run code n) x) (value (run other depth) y)
