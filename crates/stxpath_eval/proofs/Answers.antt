-- What follows from what calls answer.
use Rattle.std.proofs.Common.{◌≡◌, Bool, List, Option, Result, Ok, Err, refl, ap, sym, subst, ◌∙◌}
use Rattle.stxpath_values.specs.Outcome.{and_then, stopped, IsAnswer}
use Rattle.stxpath_eval.specs.Held.{IsHeld}
use Rattle.stxpath_eval.specs.Setting.{Setting}
use Rattle.stxpath_eval.specs.declared.held.Held.{Held}
use Rattle.stxpath_eval.specs.Steps.{Meaning}
use Rattle.stxpath_eval.specs.Value.{binary, decided, decided_or, value}
use Rattle.stxpath_syntax.specs.declared.expr.Bin.{Bin}
use Rattle.stxpath_syntax.specs.declared.expr.Expr.{Expr}
use Rattle.stxpath_values.specs.declared.value.Item.{Item}
use Rattle.stxpath_values.specs.declared.fault.EvalFault.{EvalFault}
use Rattle.stxpath_values.specs.declared.fault.EvalStop.{EvalStop}
use Rattle.stxpath_values.specs.declared.fault.EvalStop.TheVariants as stop

-- what is stopped stops what follows
pub stops : {A B : Type 0} (e : EvalStop) (r : Result A EvalFault) (next : A → Result B EvalFault) → IsAnswer {A = A} (Err e) r → IsAnswer {A = B} (Err e) (and_then r next)
stops (stop.Fault fault) r next is = ap (λ r. and_then r next) is
stops stop.Memory r next is = tt

-- what follows from a value is answered by what answers what follows
pub goes_on : {A B : Type 0} (r : Result A EvalFault) (x : A) (next : A → Result B EvalFault) (answer : Result B EvalStop) → r ≡ Ok x → IsAnswer answer (next x) → IsAnswer answer (and_then r next)
goes_on r x next answer is h = rw is h

-- what stops without memory being asked for stops what follows
pub stopped_stops : {A B : Type 0} (e : EvalStop) (v : Result A EvalFault) (next : A → Result B EvalFault) → Err e ≡ stopped v → IsAnswer {A = B} (Err e) (and_then v next)
stopped_stops e (Ok x) next is = cc
stopped_stops e (Err fault) next is = let same : e ≡ stop.Fault fault = cc in rw same refl

pub stopped_stops_at : {A B : Type 0} (answer : Result B EvalStop) (e : EvalStop) (v : Result A EvalFault) (next : A → Result B EvalFault) → answer ≡ Err e → Err e ≡ stopped v → IsAnswer answer (and_then v next)
stopped_stops_at {B = B} answer e v next is h = subst (λ a. IsAnswer {A = B} a (and_then v next)) (sym is) (stopped_stops e v next h)

pub stopped_on : {A B : Type 0} (x : A) (v : Result A EvalFault) (next : A → Result B EvalFault) (answer : Result B EvalStop) → Ok x ≡ stopped v → IsAnswer answer (next x) → IsAnswer answer (and_then v next)
stopped_on x (Ok y) next answer is h = let same : x ≡ y = cc in rw (← same) h
stopped_on x (Err fault) next answer is h = cc

pub stops_at : {A B : Type 0} (answer : Result B EvalStop) (e : EvalStop) (r : Result A EvalFault) (next : A → Result B EvalFault) → answer ≡ Err e → IsAnswer {A = A} (Err e) r → IsAnswer answer (and_then r next)
stops_at {B = B} answer e r next is h = subst (λ a. IsAnswer {A = B} a (and_then r next)) (sym is) (stops e r next h)

-- an expression of a form is answered by what answers the form's meaning
pub arm : (answer : Result Held EvalStop) (x y : Expr) (m : Meaning) (g : Setting) → x ≡ y → value y ≡ m → IsHeld answer (m g) → IsHeld answer (value x g)
arm answer x y m g is means h = subst (λ v. IsHeld answer (v g)) (sym (ap value is ∙ means)) h

-- an operator with two operands, of which the left one is evaluated, and asked whether it decides
pub binary_at : (g : Setting) (b : Bin) (x y : Meaning) (left : List Item) (d : Result (Option Bool) EvalFault) → x g ≡ Ok left → d ≡ decided b left
    → binary g b x y ≡ and_then d (decided_or g b left y)
binary_at g b x y left d is same =
    ap (λ r. and_then r (λ left. and_then (decided b left) (decided_or g b left y))) is ∙ ap (λ r. and_then r (decided_or g b left y)) (sym same)
