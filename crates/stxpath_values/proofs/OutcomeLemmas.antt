-- Lemmas on faults and on tests of each item.
use Rattle.std.proofs.Common.{◌≡◌, ℕ, suc, ◌+◌, ◌<◌, Bool, true, false, ℤ, ◌+ℤ◌, List, ◌∷◌, length, get_or, drop, refl, ap, sym, ◌∙◌, add-one, drop-cons, arith, nat_lt, ◌≤◌, Option, Some, None, Result, Ok, Err}
use Rattle.std.proofs.Math.IntN.{+ℤ_assoc}
use Rattle.std.proofs.lemmas.Bool.Decides.{nat_tests}
use Rattle.stxpath_values.specs.Outcome.{some_holds, true_or, and_then, each, IsAnswer}
use Rattle.stxpath_values.specs.Numeral.{whole}
use Rattle.stxpath_values.specs.Conversion.{atom_whole, as_whole}
use Rattle.stxpath_values.specs.Functions.{total, with_whole_or_none, limited_list}
use Rattle.stxpath_values.specs.Lent.{IsSequence}
use Rattle.stxpath_values.specs.declared.lent.Sequence.{Sequence}
use Rattle.stxpath_values.specs.declared.value.Atom.{Atom}
use Rattle.stxpath_values.specs.declared.fault.EvalFault.{EvalFault}
use Rattle.stxpath_values.specs.declared.fault.EvalFault.TheVariants.{SequenceTooLong}
use Rattle.stxpath_values.specs.declared.fault.EvalStop.{EvalStop}
use Rattle.stxpath_values.specs.declared.fault.EvalStop.TheVariants as stop
use Rattle.stx_base.specs.declared.limits.Limits.{Limits}

module _ {A : Type 0} (test : A → Result Bool EvalFault) (xs : List A) (i : ℕ) (d : A) where
  -- an item of which the test doesn't hold decides nothing
  pub some_holds_on : i < length xs → test (get_or xs i d) ≡ Ok false → some_holds test (drop (i + 1) xs) ≡ some_holds test (drop i xs)
  some_holds_on h e = rw (add-one, drop-cons xs i d, e) refl

  -- one of which it holds decides
  pub some_holds_yes : i < length xs → test (get_or xs i d) ≡ Ok true → some_holds test (drop i xs) ≡ Ok true
  some_holds_yes h e = rw (drop-cons xs i d, e) refl

  -- and so does a fault
  pub some_holds_fault : (f : EvalFault) → i < length xs → test (get_or xs i d) ≡ Err f → some_holds test (drop i xs) ≡ Err f
  some_holds_fault f h e = rw (drop-cons xs i d, e) refl

-- what goes on from a value, and what is done with what that gives
pub and_then_ok : {A B C : Type 0} (r : Result A EvalFault) (f : A → B) (g : B → Result C EvalFault) (y : B) → and_then r (λ x. Ok (f x)) ≡ Ok y
    → and_then r (λ x. g (f x)) ≡ g y
and_then_ok (Ok x) f g y e = let same : f x ≡ y = cc in ap g same
and_then_ok (Err fault) f g y e = cc

pub and_then_err : {A B C : Type 0} (r : Result A EvalFault) (f : A → B) (g : B → Result C EvalFault) (e : EvalFault) → and_then r (λ x. Ok (f x)) ≡ Err e
    → and_then r (λ x. g (f x)) ≡ Err e
and_then_err (Ok x) f g e h = cc
and_then_err (Err fault) f g e h = let same : fault ≡ e = cc in ap Err same

-- the value of an item, and then those of the items behind it
pub each_step : {A B C : Type 0} (f : A → Result B EvalFault) (xs : List A) (i : ℕ) (d : A) (y : B) (next : List B → Result C EvalFault) → i < length xs
    → f (get_or xs i d) ≡ Ok y → and_then (each f (drop i xs)) next ≡ and_then (each f (drop (i + 1) xs)) (λ ys. next (y ∷ ys))
each_step {B = B} {C = C} f xs i d y next h e = rw (add-one, drop-cons xs i d, e) (go (each f (drop (suc i) xs)))
  where
    go : (r : Result (List B) EvalFault) → and_then (and_then r (λ ys. Ok (y ∷ ys))) next ≡ and_then r (λ ys. next (y ∷ ys))
    go (Ok ys) = refl
    go (Err fault) = refl

-- a sum so far and that of the items from here on are the sum with the next item and that of the items behind it
pub sum_step : (xs : List Atom) (i : ℕ) (d : Atom) (sum n : ℤ) → i < length xs → atom_whole (get_or xs i d) ≡ Ok n
    → and_then (each atom_whole (drop (i + 1) xs)) (λ zs. whole (sum +ℤ n +ℤ total zs)) ≡ and_then (each atom_whole (drop i xs)) (λ zs. whole (sum +ℤ total zs))
sum_step xs i d sum n h e =
    go (each atom_whole (drop (i + 1) xs)) ∙ sym (each_step atom_whole xs i d n (λ zs. whole (sum +ℤ total zs)) h e)
  where
    go : (r : Result (List ℤ) EvalFault) → and_then r (λ zs. whole (sum +ℤ n +ℤ total zs)) ≡ and_then r (λ zs. whole (sum +ℤ (n +ℤ total zs)))
    go (Ok zs) = ap whole (+ℤ_assoc sum n (total zs))
    go (Err fault) = refl

-- what follows from an argument that may be left out
pub whole_or_none_is : {A : Type 0} (o : Option (List Atom)) (z : Option ℤ) (next : Option ℤ → Result A EvalFault) → Ok z ≡ with_whole_or_none o (λ n. Ok n)
    → with_whole_or_none o next ≡ next z
whole_or_none_is None z next e = let same : None ≡ z = cc in ap next same
whole_or_none_is {A = A} (Some xs) z next e = go (as_whole xs) e
  where
    go : (r : Result ℤ EvalFault) → Ok z ≡ and_then r (λ n. Ok (Some n)) → and_then r (λ n. next (Some n)) ≡ next z
    go (Ok n) e = let same : Some n ≡ z = cc in ap next same
    go (Err fault) e = cc

-- a list within the limit, and one beyond it
pub list_within : (limits : Limits) (xs : List Atom) → length xs ≤ limits.sequence → limited_list limits xs ≡ Ok xs
list_within limits xs h = let no : nat_lt limits.sequence (length xs) ≡ false = grind (arith, nat_tests) in rw no refl

pub list_beyond : (limits : Limits) (xs : List Atom) → limits.sequence < length xs → limited_list limits xs ≡ Err SequenceTooLong
list_beyond limits xs h = let yes : nat_lt limits.sequence (length xs) ≡ true = grind (arith, nat_tests) in rw yes refl

-- a call that hands on the fault of another answers what goes on from that one's value
pub fault_answered : {A B : Type 0} (r : Result A EvalFault) (f : A → B) (g : B → Result (List Atom) EvalFault) (e : EvalStop) (answer : Result Sequence EvalStop) → answer ≡ Err e
    → IsAnswer {A = B} (Err e) (and_then r (λ x. Ok (f x))) → IsSequence answer (and_then r (λ x. g (f x)))
fault_answered r f g (stop.Fault fault) answer is h = rw is (and_then_err r f g fault h)
fault_answered r f g stop.Memory answer is h = rw is tt

-- a test of one item alone
pub only_holds : (r : Result Bool EvalFault) → and_then r (λ b. true_or b (Ok false)) ≡ r
only_holds (Ok true) = refl
only_holds (Ok false) = refl
only_holds (Err e) = refl
