-- What is so of each result of a run, with all that was said on the way to it.
use Rattle.std.proofs.Common.{◌≡◌, ℕ, zero, suc, List, [], ◌∷◌, ◌++◌, refl, ap, sym}
use Rattle.std.proofs.Math.Path.{subst}
use Rattle.std.proofs.lemmas.List.{append_assoc}
use Rattle.stx_base.specs.Course.{Course, Ret, Halt, Say, Ask, and_then, Answer, Given, Over, Unknown, after, with_result, value, run}

pub append_nil : {O : Type 0} (os : List O) → os ++ [] ≡ os
append_nil [] = refl
append_nil (o ∷ os) = ap (λ l. o ∷ l) (append_nil os)

-- Calls are made where Pre holds of them, and Post holds of what they say and their results.
module _ {Q R O E : Type 0} (Pre : Q → Type 0) (Post : Q → List O → R → Type 0) where
  -- where os was said before, P holds of all that is said and of each result
  abbrev pub Keeps : (List O → R → Type 0) → List O → Course Q R O E → Type 0
  Keeps P os (Ret r) = P os r
  Keeps P os (Halt e) = Unit {0}
  Keeps P os (Say o x) = Keeps P (os ++ o ∷ []) x
  Keeps P os (Ask q k) = Pre q × ((ps : List O) (r : R) → Post q ps r → Keeps P (os ++ ps) (k r))

  pub keeps_then : (P : List O → R → Type 0) (os : List O) (x : Course Q R O E) (k : R → Course Q R O E) → Keeps (λ ps r. Keeps P ps (k r)) os x → Keeps P os (and_then x k)
  keeps_then P os (Ret r) k h = h
  keeps_then P os (Halt e) k h = tt
  keeps_then P os (Say o x) k h = keeps_then P (os ++ o ∷ []) x k h
  keeps_then P os (Ask q g) k h = (h.0, λ ps r p. keeps_then P (os ++ ps) (g r) k (h.1 ps r p))

  -- P holds of the answer, where os was said before
  abbrev pub Holds : (List O → R → Type 0) → List O → Answer R O E → Type 0
  Holds P os (Given ps r) = P (os ++ ps) r
  Holds P os (Over ps e) = Unit {0}
  Holds P os (Unknown ps) = Unit {0}

  after_holds : (P : List O → R → Type 0) (os ps : List O) (a : Answer R O E) → Holds P (os ++ ps) a → Holds P os (after ps a)
  after_holds P os ps (Given rs r) h = subst (λ l. P l r) (append_assoc os ps rs) h
  after_holds P os ps (Over rs e) h = tt
  after_holds P os ps (Unknown rs) h = tt

  with_result_holds : (P : List O → R → Type 0) (S : List O → R → Type 0) (os : List O) (a : Answer R O E) (k : R → Answer R O E) → Holds S [] a → ((ps : List O) (r : R) → S ps r → Holds P (os ++ ps) (k r)) → Holds P os (with_result a k)
  with_result_holds P S os (Given ps r) k h g = after_holds P os ps (k r) (g ps r h)
  with_result_holds P S os (Over ps e) k h g = tt
  with_result_holds P S os (Unknown ps) k h g = tt

  value_holds : (f : Q → Answer R O E) → ((q : Q) → Pre q → Holds (Post q) [] (f q)) → (P : List O → R → Type 0) (os : List O) (x : Course Q R O E) → Keeps P os x → Holds P os (value f x)
  value_holds f a P os (Ret r) h = subst (λ l. P l r) (sym (append_nil os)) h
  value_holds f a P os (Halt e) h = tt
  value_holds f a P os (Say o x) h = after_holds P os (o ∷ []) (value f x) (value_holds f a P (os ++ o ∷ []) x h)
  value_holds f a P os (Ask q k) h =
      with_result_holds P (Post q) os (f q) _ (a q h.0) (λ ps r p. value_holds f a P (os ++ ps) (k r) (h.1 ps r p))

  module _ (code : Q → Course Q R O E) (keeps : (q : Q) → Pre q → Keeps (Post q) [] (code q)) where
    run_holds : (n : ℕ) (q : Q) → Pre q → Holds (Post q) [] (run code n q)
    run_holds zero q p = tt
    run_holds (suc n) q p = value_holds (run code n) (run_holds n) (Post q) [] (code q) (keeps q p)

    pub comes_with : (n : ℕ) (P : List O → R → Type 0) (x : Course Q R O E) → Keeps P [] x → Holds P [] (value (run code n) x)
    comes_with n P x h = value_holds (run code n) (run_holds n) P [] x h
