-- A value, or the fault that stands in its place.
use Rattle.std.specs.Prelude.{◌≡◌, List, [], ◌∷◌, Bool, true, false, Result, Ok, Err, ⊤}
use Rattle.stxpath_values.specs.declared.fault.EvalFault.{EvalFault}
use Rattle.stxpath_values.specs.declared.fault.EvalStop.{EvalStop}
use Rattle.stxpath_values.specs.declared.fault.EvalStop.TheVariants as stop

-- what follows from a value, or the value's fault
abbrev pub and_then : {A B : Type 0} → Result A EvalFault → (A → Result B EvalFault) → Result B EvalFault
and_then (Ok x) next = next x
and_then (Err fault) next = Err fault

-- what f gives of each item, or the fault of the first item of which it gives one
abbrev pub each : {A B : Type 0} → (A → Result B EvalFault) → List A → Result (List B) EvalFault
each f [] = Ok []
each f (x ∷ xs) = and_then (f x) (λ y. and_then (each f xs) (λ ys. Ok (y ∷ ys)))

-- true, or what else there is
abbrev pub true_or : Bool → Result Bool EvalFault → Result Bool EvalFault
true_or true other = Ok true
true_or false other = other

-- whether the test holds of some item: the first item of which it holds or has a fault decides
abbrev pub some_holds : {A : Type 0} → (A → Result Bool EvalFault) → List A → Result Bool EvalFault
some_holds test [] = Ok false
some_holds test (x ∷ xs) = and_then (test x) (λ holds. true_or holds (some_holds test xs))

-- what a call answers that wants no memory
abbrev pub stopped : {A : Type 0} → Result A EvalFault → Result A EvalStop
stopped (Ok x) = Ok x
stopped (Err fault) = Err (stop.Fault fault)

-- a call answers with the value, or with its fault, or memory was wanting
abbrev pub IsAnswer : {A : Type 0} → Result A EvalStop → Result A EvalFault → Type 0
IsAnswer (Ok x) value = value ≡ Ok x
IsAnswer (Err (stop.Fault fault)) value = value ≡ Err fault
IsAnswer (Err stop.Memory) value = ⊤
