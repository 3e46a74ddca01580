-- The laws of definitions by general recursion, for all types of calls, of results, of what is said and of ends.
use Rattle.std.specs.Prelude.{◌≡◌, ◌↔◌, ◌⊎◌, ℕ, Bool, List, [], ◌∷◌, ◌++◌, IsTrue}
use Rattle.stx_base.specs.Course.{Course, Ret, Halt, Say, Ask, and_then, says, Gives, Ends, Begins, Continues}
use Rattle.stx_base.specs.Refinement.{Refines}
use Rattle.stx_base.specs.Termination.{Safe}

module _ (Q R O E : Type 0) where
  -- Two ends of one run are equal, and what it says on the way to them.
  abbrev pub OneEnd : Type 0
  OneEnd =
      (code : Q → Course Q R O E) (x : Course Q R O E) (os ps : List O) (e f : E)
      → Ends code x os e
      → Ends code x ps f
      → (os ≡ ps) × (e ≡ f)

  -- Two results of one run are equal, and what it says on the way to them.
  abbrev pub OneResult : Type 0
  OneResult =
      (code : Q → Course Q R O E) (x : Course Q R O E) (os ps : List O) (r s : R)
      → Gives code x os r
      → Gives code x ps s
      → (os ≡ ps) × (r ≡ s)

  -- A run that gives a result does not end the whole.
  abbrev pub ResultOrEnd : Type 0
  ResultOrEnd =
      (code : Q → Course Q R O E) (x : Course Q R O E) (os ps : List O) (r : R) (e : E)
      → Gives code x os r
      → Ends code x ps e
      → ⊥

  -- What only gives a result has no end.
  abbrev pub RetEnds : Type 0
  RetEnds = (code : Q → Course Q R O E) (r : R) (os : List O) (e : E) → Ends code (Ret r) os e → ⊥

  -- What stops with e says nothing and ends with e.
  abbrev pub HaltEnds : Type 0
  HaltEnds =
      (code : Q → Course Q R O E) (e f : E) (os : List O) → Ends code (Halt e) os f ↔ ((os ≡ []) × (f ≡ e))

  -- What says o and goes on with x ends as x does, with o before all that x says.
  abbrev pub SayEnds : Type 0
  SayEnds =
      (code : Q → Course Q R O E) (o : O) (x : Course Q R O E) (os : List O) (e : E)
      → Ends code (Say o x) os e ↔ ((ps : List O) × (os ≡ o ∷ ps) × Ends code x ps e)

  -- A call does what its code says.
  abbrev pub AskEnds : Type 0
  AskEnds =
      (code : Q → Course Q R O E) (q : Q) (k : R → Course Q R O E) (os : List O) (e : E)
      → Ends code (Ask q k) os e ↔ Ends code (and_then (code q) k) os e

  -- There are no other ends: what is so at each stop, and stays so behind what is said and for a call, is so at each end.
  abbrev pub NoOtherEnd : Type 0
  NoOtherEnd =
      (code : Q → Course Q R O E) (so : Course Q R O E → List O → E → Bool)
      → ((e : E) → IsTrue (so (Halt e) [] e))
      → ((o : O) (x : Course Q R O E) (os : List O) (e : E) → IsTrue (so x os e) → IsTrue (so (Say o x) (o ∷ os) e))
      → ((q : Q) (k : R → Course Q R O E) (os : List O) (e : E) → IsTrue (so (and_then (code q) k) os e) → IsTrue (so (Ask q k) os e))
      → (x : Course Q R O E) (os : List O) (e : E)
      → Ends code x os e
      → IsTrue (so x os e)

  -- One thing and then another ends where the first ends.
  abbrev pub FirstEnds : Type 0
  FirstEnds =
      (code : Q → Course Q R O E) (x : Course Q R O E) (k : R → Course Q R O E) (os : List O) (e : E)
      → Ends code x os e
      → Ends code (and_then x k) os e

  -- It ends where the second ends with the first's result.
  abbrev pub SecondEnds : Type 0
  SecondEnds =
      (code : Q → Course Q R O E) (x : Course Q R O E) (k : R → Course Q R O E) (os : List O) (e : E)
      → Continues code x k os e
      → Ends code (and_then x k) os e

  -- It ends nowhere else.
  abbrev pub ThenEnds : Type 0
  ThenEnds =
      (code : Q → Course Q R O E) (x : Course Q R O E) (k : R → Course Q R O E) (os : List O) (e : E)
      → Ends code (and_then x k) os e
      → Ends code x os e ⊎ Continues code x k os e

  -- What was said first begins all that is said.
  abbrev pub SaidFirst : Type 0
  SaidFirst =
      (code : Q → Course Q R O E) (os ps : List O) (x : Course Q R O E) (e : E) → Ends code (says os x) ps e → Begins os ps

  -- Behind what was said, x ends as it does by itself.
  abbrev pub SaysEnds : Type 0
  SaysEnds =
      (code : Q → Course Q R O E) (os ps : List O) (x : Course Q R O E) (e : E)
      → Ends code (says os x) (os ++ ps) e ↔ Ends code x ps e

  -- Where each call within a call weighs less than it and is made where it may be, and results fit, what gives no result
  -- has an end.
  abbrev pub HasEnd : Type 0
  HasEnd =
      (code : Q → Course Q R O E) (weight : Q → ℕ) (may : Q → Bool) (fits : Q → R → Bool)
      → ((q : Q) → IsTrue (may q) → Safe weight (λ q. IsTrue (may q)) (λ q r. IsTrue (fits q r)) (weight q) (λ r. IsTrue (fits q r)) (code q))
      → (w : ℕ) (x : Course Q R O E)
      → Safe weight (λ q. IsTrue (may q)) (λ q r. IsTrue (fits q r)) w (λ r. ⊥) x
      → (os : List O) × (e : E) × Ends code x os e

module _ (Q P R O E : Type 0) where
  -- Where y gives what x gives at every depth, each end of x is one of y.
  abbrev pub RefinedTo : Type 0
  RefinedTo =
      (code : Q → Course Q R O E) (other : P → Course P R O E) (x : Course Q R O E) (y : Course P R O E)
      → ((n : ℕ) → Refines code other n x y)
      → (os : List O) (e : E)
      → Ends code x os e
      → Ends other y os e

  -- And where x has an end, each end of y is one of x.
  abbrev pub RefinedBack : Type 0
  RefinedBack =
      (code : Q → Course Q R O E) (other : P → Course P R O E) (x : Course Q R O E) (y : Course P R O E)
      → ((n : ℕ) → Refines code other n x y)
      → (os ps : List O) (e f : E)
      → Ends code x os e
      → Ends other y ps f
      → Ends code x ps f
