-- What is so of each result: it follows from what is so of the results of calls, however deep they are nested.
use Rattle.std.proofs.Common.{ℕ, zero, suc, List, [], ◌∷◌, subst}
use Rattle.stx_base.specs.Course.{Course, Ret, Halt, Say, Ask, and_then, Answer, Given, Over, Unknown, after, with_result, value, run, Gives}

module _ {Q R O E : Type 0} (Post : Q → R → Type 0) where
  -- P holds of each result of x, where Post holds of those of its calls
  abbrev pub Holds : (R → Type 0) → Course Q R O E → Type 0
  Holds P (Ret r) = P r
  Holds P (Halt e) = Unit {0}
  Holds P (Say o x) = Holds P x
  Holds P (Ask q k) = (r : R) → Post q r → Holds P (k r)

  pub holds_then : (P : R → Type 0) (x : Course Q R O E) (k : R → Course Q R O E) → Holds (λ r. Holds P (k r)) x → Holds P (and_then x k)
  holds_then P (Ret r) k h = h
  holds_then P (Halt e) k h = tt
  holds_then P (Say o x) k h = holds_then P x k h
  holds_then P (Ask q g) k h = λ r p. holds_then P (g r) k (h r p)

  pub holds_more : (P S : R → Type 0) (x : Course Q R O E) → ((r : R) → P r → S r) → Holds P x → Holds S x
  holds_more P S (Ret r) i h = i r h
  holds_more P S (Halt e) i h = tt
  holds_more P S (Say o x) i h = holds_more P S x i h
  holds_more P S (Ask q g) i h = λ r p. holds_more P S (g r) i (h r p)

  abbrev pub Meets : (R → Type 0) → Answer R O E → Type 0
  Meets P (Given os r) = P r
  Meets P (Over os e) = Unit {0}
  Meets P (Unknown os) = Unit {0}

  after_meets : (P : R → Type 0) (os : List O) (a : Answer R O E) → Meets P a → Meets P (after os a)
  after_meets P os (Given ps r) h = h
  after_meets P os (Over ps e) h = tt
  after_meets P os (Unknown ps) h = tt

  with_result_meets : (P S : R → Type 0) (a : Answer R O E) (k : R → Answer R O E) → Meets P a → ((r : R) → P r → Meets S (k r)) → Meets S (with_result a k)
  with_result_meets P S (Given os r) k h g = after_meets S os (k r) (g r h)
  with_result_meets P S (Over os e) k h g = tt
  with_result_meets P S (Unknown os) k h g = tt

  value_meets : (f : Q → Answer R O E) (P : R → Type 0) (x : Course Q R O E) → ((q : Q) → Meets (Post q) (f q)) → Holds P x → Meets P (value f x)
  value_meets f P (Ret r) a h = h
  value_meets f P (Halt e) a h = tt
  value_meets f P (Say o x) a h = after_meets P (o ∷ []) (value f x) (value_meets f P x a h)
  value_meets f P (Ask q k) a h = with_result_meets (Post q) P (f q) (λ r. value f (k r)) (a q) (λ r p. value_meets f P (k r) a (h r p))

  module _ (code : Q → Course Q R O E) (each : (q : Q) → Holds (Post q) (code q)) where
    run_meets : (n : ℕ) (q : Q) → Meets (Post q) (run code n q)
    run_meets zero q = tt
    run_meets (suc n) q = value_meets (run code n) (Post q) (code q) (run_meets n) (each q)

    -- so it is at each depth
    pub known_meets : (n : ℕ) (P : R → Type 0) (x : Course Q R O E) → Holds P x → Meets P (value (run code n) x)
    known_meets n P x h = value_meets (run code n) P x (run_meets n) h

    pub result_meets : (P : R → Type 0) (x : Course Q R O E) (os : List O) (r : R) → Holds P x → Gives code x os r → P r
    result_meets P x os r h g =
        subst (Meets P) g.comes (known_meets g.depth P x h)
