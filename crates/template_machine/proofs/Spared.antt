-- What is left of the fuel, and which steps want a document.
use Rattle.std.proofs.Common.{◌≡◌, ◌≢◌, ℕ, zero, suc, ◌<◌, ◌≤◌, List, Some, refl, ap, arith}
use Rattle.template_machine.specs.Between.{Burns}
use Rattle.template_machine.specs.Moments.{GoesOrWaits}
use Rattle.template_machine.specs.Steps.{fuel_begun, fuel_ended, one_less}
use Rattle.template_machine.specs.Stops.{turn_of}
use Rattle.template_machine.specs.Work.{AsksNone, Means, Stays, means_of}
use Rattle.template_machine.specs.declared.run.Run.{Run}
use Rattle.template_machine.specs.declared.run.Step.{Step}
use Rattle.template_machine.specs.declared.run.Step.TheVariants as step
use Rattle.template_machine.specs.declared.source.Origin.{Origin}
use Rattle.template_machine.specs.declared.source.Origin.TheVariants as origin
use Rattle.template_machine.specs.declared.stop.Stop.{Stop}
use Rattle.template_machine.specs.declared.stop.Stop.TheVariants as stop
use Rattle.template_machine.specs.declared.turn.Turn.{Turn}
use Rattle.template_machine.specs.declared.turn.Turn.TheVariants as turn
use Rattle.template_machine.proofs.Documents.{same_documents}

-- Fuel.

no_more : (n m : ℕ) → n ≡ m → n ≤ m
no_more n m e = omega (arith, e)

pub same_fuel : (r n : Run) → means_of n ≡ means_of r → n.fuel ≤ r.fuel
same_fuel r n e = no_more n.fuel r.fuel (ap (λ (m : Means). m.fuel) e)

pub means_stay : (r n : Run) → means_of n ≡ means_of r → Stays r n
means_stay r n e = record { still = same_documents r n e; spared = same_fuel r n e }

-- a node that is begun
one_fewer : (fuel left : ℕ) → one_less fuel ≡ Some left → left ≤ fuel
one_fewer zero left e = absurd (cc)
one_fewer (suc n) left e = let same : n ≡ left = cc in omega (arith, same)

pub begun_fuel : (whole fuel left : ℕ) (o : Origin) → fuel_begun whole fuel o ≡ Some left → left ≤ fuel_ended whole fuel o
begun_fuel whole fuel left origin.Main e = let same : whole ≡ left = cc in omega (arith, same)
begun_fuel whole fuel left (origin.Buffer id at) e = one_fewer fuel left e
begun_fuel whole fuel left (origin.Document at) e = one_fewer fuel left e

pub fuel_on : {a b n : ℕ} → n ≤ a → a ≤ b → n ≤ b
fuel_on less more = omega (arith, less, more)

pub fuel_less : {a b n : ℕ} → n < a → a ≤ b → n < b
fuel_less less more = omega (arith, less, more)

-- Answers.

pub burns_more : (t : Turn) (a b n : ℕ) → a ≤ b → Burns t a n → Burns t b n
burns_more turn.More a b n less h = omega (arith, less, h)
burns_more (turn.WantDocument name) a b n less h = omega (arith, less, h)
burns_more t a b n less h = tt

pub burns_not : (t : Turn) (a n : ℕ) → t ≢ turn.More → ((name : List ℕ) → t ≢ turn.WantDocument name) → Burns t a n
burns_not turn.More a n more want = absurd (more refl)
burns_not (turn.WantDocument name) a n more want = absurd (want name refl)
burns_not t a n more want = tt

pub stop_burns : (s : Stop) (a n : ℕ) → Burns (turn_of s) a n
stop_burns (stop.Fault f) a n = tt
stop_burns (stop.Spent at) a n = tt
stop_burns stop.Memory a n = tt

-- Steps.

pub goes_asks : (s : Step) (r : Run) → GoesOrWaits s r → AsksNone s
goes_asks step.More r h = tt
goes_asks step.Wait r h = tt
goes_asks step.Want r h = h
goes_asks step.Over r h = tt
