-- What follows from what calls answer.
use Rattle.std.proofs.Common.{◌≡◌, ℕ, List, [], ◌∷◌, Result, Ok, Err, map, refl, ap, sym, subst}
use Rattle.stx_base.specs.declared.limits.Limits.{Limits}
use Rattle.stxpath_values.specs.Conversion.{atom_text}
use Rattle.stxpath_values.specs.Functions.{whole_text}
use Rattle.stxpath_values.specs.Outcome.{and_then, stopped, IsAnswer}
use Rattle.stxpath_values.specs.declared.fault.EvalFault.{EvalFault}
use Rattle.stxpath_values.specs.declared.fault.EvalStop.{EvalStop}
use Rattle.stxpath_values.specs.declared.fault.EvalStop.TheVariants as stop
use Rattle.stxpath_values.specs.declared.value.Atom.{Atom}
use Rattle.template_machine.specs.Values.{as_one}

-- what stops a value stops what follows from it
pub stops : {A B : Type 0} (e : EvalStop) (r : Result A EvalFault) (next : A → Result B EvalFault) → IsAnswer {A = A} (Err e) r → IsAnswer {A = B} (Err e) (and_then r next)
stops (stop.Fault fault) r next is = ap (λ r. and_then r next) is
stops stop.Memory r next is = tt

pub stops_at : {A B : Type 0} (answer : Result B EvalStop) (e : EvalStop) (r : Result A EvalFault) (next : A → Result B EvalFault) → answer ≡ Err e → IsAnswer {A = A} (Err e) r → IsAnswer answer (and_then r next)
stops_at {B = B} answer e r next is h = subst (λ a. IsAnswer {A = B} a (and_then r next)) (sym is) (stops e r next h)

-- what follows from a value is answered by what answers what follows
pub goes_on : {A B : Type 0} (r : Result A EvalFault) (x : A) (next : A → Result B EvalFault) (answer : Result B EvalStop) → r ≡ Ok x → IsAnswer answer (next x) → IsAnswer answer (and_then r next)
goes_on r x next answer is h = rw is h

-- what a call answers that wants no memory
pub is_stopped : {A : Type 0} (v : Result A EvalFault) → IsAnswer (stopped v) v
is_stopped (Ok x) = refl
is_stopped (Err f) = refl

-- what follows alike from a value is the same
pub alike : {A B : Type 0} (r : Result A EvalFault) (f g : A → Result B EvalFault) → ((x : A) → f x ≡ g x) → and_then r f ≡ and_then r g
alike (Ok x) f g same = same x
alike (Err e) f g same = refl

-- atoms as one text are their texts as one
pub as_whole : (limits : Limits) (separator : List ℕ) (xs : List Atom) → whole_text limits separator xs ≡ as_one limits separator (map atom_text xs)
as_whole limits separator [] = refl
as_whole limits separator (x ∷ []) = refl
as_whole limits separator (x ∷ y ∷ xs) = refl
