-- The numbers of the files that ids were given for, one act after another.
use Rattle.std.proofs.Common.{◌≡◌, ℕ, suc, ◌+◌, Bool, ◌==◌, List, [], ◌∷◌, ◌++◌, length, Option, Some, None, refl, sym, ap, ◌∙◌, arith}
use Rattle.std.proofs.lemmas.Bool.{eq-eqb, ne_eqb}
use Rattle.std.specs.Prelude.{if◌then◌else◌}
use Rattle.stx_base.specs.declared.limits.Limits.{Limits}
use Rattle.stx_host.specs.declared.act.Act.{Act}
use Rattle.stx_host.specs.declared.act.Act.TheVariants.{Open, Read, Close, Write}
use Rattle.sheet_files.specs.Acts.{opens}
use Rattle.sheet_files.specs.Held.{AreLimited, AreOfNumber}
use Rattle.sheet_files.specs.Steps.{AreCloses}
use Rattle.sheet_files.specs.Undecided.{number_behind, number_of}
use Rattle.sheet_files.specs.declared.going.Going.{Going}
use Rattle.sheet_files.proofs.Holding.{AllApart}

one_on : (count n : ℕ) → suc count + n ≡ count + suc n
one_on count n = omega arith

-- two stretches of time
pub number_more : (count : ℕ) (before : Option ℕ) (id : ℕ) (acts more : List Act) → number_behind count before id (acts ++ more) ≡ number_behind (count + length (opens acts)) (number_behind count before id acts) id more
number_more count before id [] more = ap (λ (n : ℕ). number_behind n before id more) (omega arith)
number_more count before id (Open doc k ∷ acts) more =
    let said = if k == id then Some count else before in
    number_more (suc count) said id acts more ∙ ap (λ (n : ℕ). number_behind n (number_behind (suc count) said id acts) id more) (one_on count (length (opens acts)))
number_more count before id (Read k got ∷ acts) more = number_more count before id acts more
number_more count before id (Close k ∷ acts) more = number_more count before id acts more
number_more count before id (Write lane len ∷ acts) more = number_more count before id acts more

-- acts that give no id
abbrev pub GivesNone : List Act → Type 0
GivesNone more = (count : ℕ) (before : Option ℕ) (id : ℕ) → number_behind count before id more ≡ before

pub closes_give_no_number : (closes : List Act) → AreCloses closes → GivesNone closes
closes_give_no_number [] are count before id = refl
closes_give_no_number (Close k ∷ closes) are count before id = closes_give_no_number closes are count before id
closes_give_no_number (Open doc k ∷ closes) are count before id = absurd are
closes_give_no_number (Read k got ∷ closes) are count before id = absurd are
closes_give_no_number (Write lane len ∷ closes) are count before id = absurd are

pub number_still : (acts more : List Act) (id : ℕ) → GivesNone more → number_of id (acts ++ more) ≡ number_of id acts
number_still acts more id none = number_more 0 None id acts more ∙ none (0 + length (opens acts)) (number_of id acts) id

pub numbers_still : (acts more : List Act) (going : List Going) → GivesNone more → AreOfNumber acts going → AreOfNumber (acts ++ more) going
numbers_still acts more [] none are = tt
numbers_still acts more (g ∷ going) none are = (number_still acts more g.id none ∙ are.0, numbers_still acts more going none are.1)

pub numbers_in_front : (acts : List Act) (front : List Going) (g : Going) → AreOfNumber acts (front ++ g ∷ []) → AreOfNumber acts front × (number_of g.id acts ≡ Some g.number)
numbers_in_front acts [] g are = (tt, are.0)
numbers_in_front acts (f ∷ front) g are = let r = numbers_in_front acts front g are.1 in ((are.0, r.0), r.1)

numbers_and : (acts : List Act) (front : List Going) (g : Going) → AreOfNumber acts front → number_of g.id acts ≡ Some g.number → AreOfNumber acts (front ++ g ∷ [])
numbers_and acts [] g are own = (own, tt)
numbers_and acts (f ∷ front) g are own = (are.0, numbers_and acts front g are.1 own)

-- the innermost file goes on
pub numbers_go : (acts more : List Act) (front : List Going) (g h : Going) → GivesNone more → h.id ≡ g.id → h.number ≡ g.number → AreOfNumber acts (front ++ g ∷ []) → AreOfNumber (acts ++ more) (front ++ h ∷ [])
numbers_go acts more front g h none id number are =
    let r = numbers_in_front acts front g are in
    numbers_and (acts ++ more) front h (numbers_still acts more front none r.0)
    (ap (λ (k : ℕ). number_of k (acts ++ more)) id ∙ number_still acts more g.id none ∙ r.1 ∙ ap (λ (n : ℕ). Some n) (sym number))

other_opened : (doc : Option ℕ) (id k count : ℕ) (before : Option ℕ) → (k ≡ id → ⊥) → number_behind count before k (Open doc id ∷ []) ≡ before
other_opened doc id k count before apart = ap (λ (b : Bool). if b then Some count else before) (ne_eqb id k (λ e. apart (sym e)))

-- an id was given, or a name is absent
pub numbers_apart : (acts : List Act) (doc : Option ℕ) (id : ℕ) (going : List Going) → AllApart id going → AreOfNumber acts going → AreOfNumber (acts ++ Open doc id ∷ []) going
numbers_apart acts doc id [] apart are = tt
numbers_apart acts doc id (g ∷ going) apart are =
    (number_more 0 None g.id acts (Open doc id ∷ []) ∙ other_opened doc id g.id (0 + length (opens acts)) (number_of g.id acts) apart.0 ∙ are.0, numbers_apart acts doc id going apart.1 are.1)

pub numbers_entered : (acts : List Act) (doc : Option ℕ) (going : List Going) (h : Going) → AllApart h.id going → h.number ≡ length (opens acts) → AreOfNumber acts going → AreOfNumber (acts ++ Open doc h.id ∷ []) (going ++ h ∷ [])
numbers_entered acts doc going h apart number are =
    numbers_and (acts ++ Open doc h.id ∷ []) going h (numbers_apart acts doc h.id going apart are)
    (number_more 0 None h.id acts (Open doc h.id ∷ []) ∙ ap (λ (b : Bool). if b then Some (0 + length (opens acts)) else number_of h.id acts) (eq-eqb h.id h.id refl) ∙ ap (λ (n : ℕ). Some n) (omega (arith, number)))

-- none of these is the id that stands for no document
pub apart_zero : (limits : Limits) (going : List Going) → AreLimited limits going → AllApart 0 going
apart_zero limits [] are = tt
apart_zero limits (g ∷ going) are = let some = are.0 in (λ e. absurd (omega (arith, e, some)), apart_zero limits going are.2)
