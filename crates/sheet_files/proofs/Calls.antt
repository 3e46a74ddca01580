-- What is so of each end of a run, by the calls that it makes.
use Rattle.std.proofs.Common.{ℕ, zero, suc, List, [], ◌∷◌, subst}
use Rattle.stx_base.specs.Course.{Course, Ret, Halt, Say, Ask, and_then, Answer, Given, Over, Unknown, after, with_result, value, run, Ends}

-- Calls are made where Pre holds of them, Post holds of their results, and Fine of each end.
module _ {Q R O E : Type 0} (Fine : E → Type 0) (Pre : Q → Type 0) (Post : R → Type 0) where
  -- so it is of what is done, and P holds of each result
  abbrev pub Fits : (R → Type 0) → Course Q R O E → Type 0
  Fits P (Ret r) = P r
  Fits P (Halt e) = Fine e
  Fits P (Say o x) = Fits P x
  Fits P (Ask q k) = Pre q × ((r : R) → Post r → Fits P (k r))

  pub fits_then : (P : R → Type 0) (x : Course Q R O E) (k : R → Course Q R O E) → Fits (λ r. Fits P (k r)) x → Fits P (and_then x k)
  fits_then P (Ret r) k h = h
  fits_then P (Halt e) k h = h
  fits_then P (Say o x) k h = fits_then P x k h
  fits_then P (Ask q g) k h = (h.0, λ r p. fits_then P (g r) k (h.1 r p))

  -- the same of an answer
  abbrev pub Comes : (R → Type 0) → Answer R O E → Type 0
  Comes P (Given os r) = P r
  Comes P (Over os e) = Fine e
  Comes P (Unknown os) = Unit {0}

  after_comes : (P : R → Type 0) (os : List O) (a : Answer R O E) → Comes P a → Comes P (after os a)
  after_comes P os (Given ps r) h = h
  after_comes P os (Over ps e) h = h
  after_comes P os (Unknown ps) h = tt

  result_comes : (P : R → Type 0) (a : Answer R O E) (k : R → Answer R O E) → Comes Post a → ((r : R) → Post r → Comes P (k r)) → Comes P (with_result a k)
  result_comes P (Given os r) k h g = after_comes P os (k r) (g r h)
  result_comes P (Over os e) k h g = h
  result_comes P (Unknown os) k h g = tt

  value_comes : (f : Q → Answer R O E) → ((q : Q) → Pre q → Comes Post (f q)) → (P : R → Type 0) (x : Course Q R O E) → Fits P x → Comes P (value f x)
  value_comes f a P (Ret r) h = h
  value_comes f a P (Halt e) h = h
  value_comes f a P (Say o x) h = after_comes P (o ∷ []) (value f x) (value_comes f a P x h)
  value_comes f a P (Ask q k) h = result_comes P (f q) _ (a q h.0) (λ r p. value_comes f a P (k r) (h.1 r p))

  module _ (code : Q → Course Q R O E) (fits : (q : Q) → Pre q → Fits Post (code q)) where
    run_comes : (n : ℕ) (q : Q) → Pre q → Comes Post (run code n q)
    run_comes zero q p = tt
    run_comes (suc n) q p = value_comes (run code n) (run_comes n) Post (code q) (fits q p)

    -- each end is fine
    pub ends_fine : (P : R → Type 0) (x : Course Q R O E) (os : List O) (e : E) → Fits P x → Ends code x os e → Fine e
    ends_fine P x os e h ends = subst (Comes P) ends.comes (value_comes (run code ends.depth) (run_comes ends.depth) P x h)
