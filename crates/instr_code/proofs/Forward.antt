-- What comes of the instructions that are left at a place comes of the code from there.
use Rattle.std.proofs.Common.{◌≡◌, ℕ, zero, suc, ◌+◌, ◌<◌, ◌≤◌, List, [], ◌∷◌, length, Option, Some, None, refl, ap, sym, subst, ◌∙◌, arith}
use Rattle.std.proofs.lemmas.Option.{slice_get_within}
use Rattle.std.specs.List.{slice_get}
use Rattle.std.specs.Option.{option_map_or}
use Rattle.instr_code.specs.Acts.{Doing, Nested, Plain, turn_of}
use Rattle.instr_code.specs.Running.{At, Flat, Given, as_flat, flat_by, go_on, nested_by, operated}
use Rattle.instr_code.specs.Steps.{Body, Call, Other, Steps, Verdict, Holds, Fails, Stops, decided, renamed}
use Rattle.instr_code.specs.declared.code.Op.{Op}
use Rattle.instr_code.specs.declared.code.Op.TheVariants as op
use Rattle.instr_code.proofs.Opening.{Reaches, opening, opening_says, opens, reach_call, reach_says}
use Rattle.instr_code.proofs.Stepping.{In_loop, Jumps, Lands, LeadsOn, Nowhere, On_jump, Onward, Step, Turning, Turns}
use Rattle.sheet_model.specs.declared.instr.Instr.{Instr}
use Rattle.stx_base.specs.Course.{Course, Ret, Halt, Say, Ask, and_then, says, value, run}
use Rattle.stx_base.specs.Refinement.{Below, Refines}
use Rattle.stx_base.proofs.Course.{and_then_assoc, and_then_ret, and_then_says, below_trans}
use Rattle.stx_base.proofs.Refinement.{at_none, by_call, by_ret}

-- where a body's code begins, all of it is left
pub record Starts {Q S O E : Type 0} (body left : ℕ → Doing Q S O E) (start : ℕ → S → Flat Q S) (b : ℕ) : Type 0 where
  pub place : ℕ
  pub starts : (st : S) → start b st ≡ At place st
  pub whole : (st : S) → left place st ≡ body b st

module _ {Q S O E : Type 0} (steps : Steps Q S O E) (instrs : List Instr) (ops : List Op) (body left : ℕ → Doing Q S O E) (start : ℕ → S → Flat Q S) (stepping : (p : ℕ) → Step steps instrs ops left p) (starting : (b : ℕ) → Starts body left start b) where
  -- what comes of a course with so many calls opened comes of its code
  abbrev Knows : ℕ → Course (Nested Q S) S O E → Course (Flat Q S) S O E → Type 0
  Knows n x y = Reaches (flat_by steps instrs start ops) (opening (nested_by steps body) n x) y

  -- with so many calls, or fewer
  abbrev Behind : ℕ → (S → Course (Nested Q S) S O E) → (S → Course (Flat Q S) S O E) → Type 0
  Behind n k j = (i : ℕ) → i ≤ n → (st : S) → Knows i (k st) (j st)

  abbrev From : ℕ → ℕ → Type 0
  From n p =
      (i : ℕ) → i ≤ n → (k : S → Course (Nested Q S) S O E) (j : S → Course (Flat Q S) S O E) → Behind i k j → (st : S)
      → Knows i (and_then (left p st) k) (Ask (At p st) j)

  abbrev Single : ℕ → Type 0
  Single n =
      (x : Course (Call Q S) S O E) (i : ℕ) → i ≤ n → (k : S → Course (Nested Q S) S O E) (j : S → Course (Flat Q S) S O E) → Behind i k j
      → Knows i (and_then (renamed Plain x) k) (and_then (renamed (as_flat steps start) x) j)

  record All (n : ℕ) : Type 0 where
    single : Single n
    places : (p : ℕ) → From n p

  abbrev Before : ℕ → Type 0
  Before n = (i : ℕ) → i < n → All i

  fewer : (n i : ℕ) (k : S → Course (Nested Q S) S O E) (j : S → Course (Flat Q S) S O E) → i ≤ n → Behind n k j → Behind i k j
  fewer n i k j le b m l st = b m (omega arith) st

  call_to : (n i : ℕ) → i < n → Before n → (c : Call Q S) (k : S → Course (Nested Q S) S O E) (j : S → Course (Flat Q S) S O E) → Behind i k j
      → Knows (suc i) (Ask (Plain c) k) (Ask (as_flat steps start c) j)
  call_to n i lt before (Other q) k j b =
      reach_call (flat_by steps instrs start ops) (Given q) j (opening (nested_by steps body) i (and_then (renamed Plain (steps.given q)) k))
      ((before i lt).single (steps.given q) i (omega arith) k j b)
  call_to n i lt before (Body number st) k j b =
      let s = starting number in
      subst (λ q. Reaches (flat_by steps instrs start ops) (opening (nested_by steps body) i (and_then (nested_by steps body (Plain (Body number st))) k)) (Ask q j)) (sym (s.starts st))
      (subst (λ x. Reaches (flat_by steps instrs start ops) (opening (nested_by steps body) i (and_then x k)) (Ask (At s.place st) j)) (s.whole st)
      ((before i lt).places s.place i (omega arith) k j b st))

  single_to : (n : ℕ) → Before n → Single n
  single_to n before (Ret st) i le k j b = b i (omega arith) st
  single_to n before (Halt e) i le k j b = record { depth = 0; below = refl }
  single_to n before (Say o x) i le k j b =
      reach_says (flat_by steps instrs start ops) (o ∷ []) (opening (nested_by steps body) i (and_then (renamed Plain x) k)) (and_then (renamed (as_flat steps start) x) j)
      (single_to n before x i le k j b)
  single_to n before (Ask c g) zero le k j b = record { depth = 0; below = tt }
  single_to n before (Ask c g) (suc i) le k j b =
      call_to n i (omega arith) before c (λ st. and_then (renamed Plain (g st)) k) (λ st. and_then (renamed (as_flat steps start) (g st)) j)
      (λ m l st. single_to n before (g st) m (omega arith) k j (fewer (suc i) m k j (omega arith) b))

  said_to : (i : ℕ) (os : List O) (x : Course (Nested Q S) S O E) (y : Course (Flat Q S) S O E) (k : S → Course (Nested Q S) S O E) (j : S → Course (Flat Q S) S O E)
      → Knows i (and_then x k) (and_then y j) → Knows i (and_then (says os x) k) (and_then (says os y) j)
  said_to i os x y k j h =
      subst (λ z. Knows i z (and_then (says os y) j)) (sym (and_then_says os x k))
      (subst (λ z. Knows i (says os (and_then x k)) z) (sym (and_then_says os y j))
      (subst (λ a. Reaches (flat_by steps instrs start ops) a (says os (and_then y j))) (sym (opening_says (nested_by steps body) i os (and_then x k)))
      (reach_says (flat_by steps instrs start ops) os (opening (nested_by steps body) i (and_then x k)) (and_then y j) h)))

  abbrev Goes : (i p : ℕ) → (S → Course (Nested Q S) S O E) → (S → Course (Flat Q S) S O E) → Type 0
  Goes i p k j = (m : ℕ) → m ≤ i → (st : S) → Knows m (and_then (left p st) k) (Ask (At p st) j)

  decided_to : (i : ℕ) (v : Verdict S O E) (p q : ℕ) (k : S → Course (Nested Q S) S O E) (j : S → Course (Flat Q S) S O E) → Goes i p k j → Goes i q k j
      → Knows i (and_then (decided v (left p) (left q)) k) (and_then (decided v (go_on steps p) (go_on steps q)) j)
  decided_to i (Holds os st) p q k j yes_to no_to = said_to i os (left p st) (go_on steps p st) k j (yes_to i (omega arith) st)
  decided_to i (Fails os st) p q k j yes_to no_to = said_to i os (left q st) (go_on steps q st) k j (no_to i (omega arith) st)
  decided_to i (Stops os e) p q k j yes_to no_to = said_to i os (Halt e) (Halt e) k j (record { depth = 0; below = refl })

  -- a single step, and then on to a place
  then_to : (n : ℕ) → Single n → (x : Course (Call Q S) S O E) (i : ℕ) → i ≤ n → (p : ℕ) (k : S → Course (Nested Q S) S O E) (j : S → Course (Flat Q S) S O E)
      → Goes i p k j → Knows i (and_then (and_then (renamed Plain x) (left p)) k) (and_then (and_then (renamed (as_flat steps start) x) (go_on steps p)) j)
  then_to n single x i le p k j go =
      subst (λ z. Knows i z (and_then (and_then (renamed (as_flat steps start) x) (go_on steps p)) j)) (sym (and_then_assoc (renamed Plain x) (left p) k))
      (subst (λ z. Knows i (and_then (renamed Plain x) (λ st. and_then (left p st) k)) z) (sym (and_then_assoc (renamed (as_flat steps start) x) (go_on steps p) j))
      (single x i le (λ st. and_then (left p st) k) (λ st. and_then (go_on steps p st) j) go))

  -- Where an operation may lead from a place, more than so far: all that is known of there is known here.
  abbrev Reachable : (i : ℕ) (o : Op) (p : ℕ) → (S → Course (Nested Q S) S O E) → (S → Course (Flat Q S) S O E) → Type 0
  Reachable i (op.Open n to) p k j = Goes i (p + 1) k j × Goes i to k j
  Reachable i (op.Test n arm to) p k j = Goes i (p + 1) k j × Goes i to k j
  Reachable i (op.Turn n to) p k j = Goes i (p + 1) k j × Goes i to k j
  Reachable i (op.Jump to) p k j = Goes i to k j
  Reachable i op.Return p k j = Behind i k j
  Reachable i o p k j = Goes i (p + 1) k j

  -- where there is an instruction with the number it does so, else it is passed by
  found_to : (i p : ℕ) (c : Option Instr) (f : Instr → Course (Nested Q S) S O E) (g : Instr → Course (Flat Q S) S O E) (k : S → Course (Nested Q S) S O E) (j : S → Course (Flat Q S) S O E) (st : S)
      → ((x : Instr) → Knows i (and_then (f x) k) (and_then (g x) j)) → Goes i p k j
      → Knows i (and_then (option_map_or f c (left p st)) k) (and_then (option_map_or g c (go_on steps p st)) j)
  found_to i p None f g k j st does go = go i (omega arith) st
  found_to i p (Some x) f g k j st does go = does x

  operated_to : (n : ℕ) → Single n → (o : Op) (p i : ℕ) → i ≤ n → (k : S → Course (Nested Q S) S O E) (j : S → Course (Flat Q S) S O E) → Reachable i o p k j → (st : S)
      → Knows i (and_then (operated steps instrs Plain left o p st) k) (and_then (operated steps instrs (as_flat steps start) (go_on steps) o p st) j)
  operated_to n single (op.Do m) p i le k j go st = found_to i (p + 1) (slice_get instrs m) (λ x. and_then (renamed Plain (steps.single x st)) (left (p + 1))) (λ x. and_then (renamed (as_flat steps start) (steps.single x st)) (go_on steps (p + 1))) k j st
      (λ x. then_to n single (steps.single x st) i le (p + 1) k j go) go
  operated_to n single (op.Begin m) p i le k j go st = found_to i (p + 1) (slice_get instrs m) (λ x. and_then (renamed Plain (steps.begins x st)) (left (p + 1))) (λ x. and_then (renamed (as_flat steps start) (steps.begins x st)) (go_on steps (p + 1))) k j st
      (λ x. then_to n single (steps.begins x st) i le (p + 1) k j go) go
  operated_to n single (op.Open m to) p i le k j go st = found_to i (p + 1) (slice_get instrs m) (λ x. decided (steps.opens x st) (left (p + 1)) (left to)) (λ x. decided (steps.opens x st) (go_on steps (p + 1)) (go_on steps to)) k j st
      (λ x. decided_to i (steps.opens x st) (p + 1) to k j go.0 go.1) go.0
  operated_to n single (op.Close m) p i le k j go st = found_to i (p + 1) (slice_get instrs m) (λ x. and_then (renamed Plain (steps.closes x st)) (left (p + 1))) (λ x. and_then (renamed (as_flat steps start) (steps.closes x st)) (go_on steps (p + 1))) k j st
      (λ x. then_to n single (steps.closes x st) i le (p + 1) k j go) go
  operated_to n single (op.Test m arm to) p i le k j go st = found_to i (p + 1) (slice_get instrs m) (λ x. decided (steps.test x arm st) (left (p + 1)) (left to)) (λ x. decided (steps.test x arm st) (go_on steps (p + 1)) (go_on steps to)) k j st
      (λ x. decided_to i (steps.test x arm st) (p + 1) to k j go.0 go.1) go.0
  operated_to n single (op.Turn m to) p i le k j go st = found_to i (p + 1) (slice_get instrs m) (λ x. decided (steps.turn x st) (left (p + 1)) (left to)) (λ x. decided (steps.turn x st) (go_on steps (p + 1)) (go_on steps to)) k j st
      (λ x. decided_to i (steps.turn x st) (p + 1) to k j go.0 go.1) go.0
  operated_to n single (op.Jump to) p i le k j go st = go i (omega arith) st
  operated_to n single (op.Drop count) p i le k j go st = go i (omega arith) (steps.drops count st)
  operated_to n single op.Return p i le k j go st = go i (omega arith) st

  -- all places are known, or those behind one
  reachable_all : (i : ℕ) (o : Op) (p : ℕ) (k : S → Course (Nested Q S) S O E) (j : S → Course (Flat Q S) S O E) → Behind i k j → ((q : ℕ) → Goes i q k j)
      → Reachable i o p k j
  reachable_all i (op.Do m) p k j b go = go (p + 1)
  reachable_all i (op.Begin m) p k j b go = go (p + 1)
  reachable_all i (op.Open m to) p k j b go = (go (p + 1), go to)
  reachable_all i (op.Close m) p k j b go = go (p + 1)
  reachable_all i (op.Test m arm to) p k j b go = (go (p + 1), go to)
  reachable_all i (op.Turn m to) p k j b go = (go (p + 1), go to)
  reachable_all i (op.Jump to) p k j b go = go to
  reachable_all i (op.Drop count) p k j b go = go (p + 1)
  reachable_all i op.Return p k j b go = b

  reachable_on : (i : ℕ) (o : Op) (p : ℕ) (k : S → Course (Nested Q S) S O E) (j : S → Course (Flat Q S) S O E) → LeadsOn o p → Behind i k j
      → ((q : ℕ) → p < q → Goes i q k j) → Reachable i o p k j
  reachable_on i (op.Do m) p k j on b go = go (p + 1) (omega arith)
  reachable_on i (op.Begin m) p k j on b go = go (p + 1) (omega arith)
  reachable_on i (op.Open m to) p k j on b go = (go (p + 1) (omega arith), go to on)
  reachable_on i (op.Close m) p k j on b go = go (p + 1) (omega arith)
  reachable_on i (op.Test m arm to) p k j on b go = (go (p + 1) (omega arith), go to on)
  reachable_on i (op.Turn m to) p k j on b go = (go (p + 1) (omega arith), go to on)
  reachable_on i (op.Jump to) p k j on b go = go to on
  reachable_on i (op.Drop count) p k j on b go = go (p + 1) (omega arith)
  reachable_on i op.Return p k j on b go = b

  -- an operation at a place, where what is left there is what it does
  stepped : (i p : ℕ) (o : Op) (x : Course (Nested Q S) S O E) (k : S → Course (Nested Q S) S O E) (j : S → Course (Flat Q S) S O E) (st : S) → slice_get ops p ≡ Some o
      → Knows i x (and_then (operated steps instrs (as_flat steps start) (go_on steps) o p st) j) → Knows i x (Ask (At p st) j)
  stepped i p o x k j st is h =
      reach_call (flat_by steps instrs start ops) (At p st) j (opening (nested_by steps body) i x)
      (subst (λ c. Reaches (flat_by steps instrs start ops) (opening (nested_by steps body) i x) (and_then c j)) (sym (ap (λ c. option_map_or (λ o. operated steps instrs (as_flat steps start) (go_on steps) o p st) c (Ret st)) is)) h)

  abbrev Turn_to : ℕ → ℕ → Type 0
  Turn_to n p = Turning steps instrs ops left p → From n p

  -- the turns of a loop: its next one is a call
  turning_to : (n : ℕ) → Single n → Before n → (p : ℕ) → Turn_to n p
  turning_to n single before p t zero le k j b st =
      subst (λ x. Knows zero (and_then x k) (Ask (At p st) j)) (sym (t.asks st)) (record { depth = 0; below = tt })
  turning_to n single before p t (suc i) le k j b st =
      let x = turn_of steps t.loop st in
      let same : and_then (operated steps instrs Plain left t.op p st) k ≡ and_then x (λ r. and_then (t.behind r) k) =
      ap (λ y. and_then y k) (sym (t.does st)) ∙ and_then_assoc x t.behind k in
      let go : (q : ℕ) → Goes i q k j = λ q m l st. (before i (omega arith)).places q m l k j (fewer (suc i) m k j (omega arith) b) st in
      let all : Reachable i t.op p k j = reachable_all i t.op p k j (fewer (suc i) i k j (omega arith) b) go in
      subst (λ x. Knows (suc i) (and_then x k) (Ask (At p st) j)) (sym (t.asks st))
      (stepped i p t.op (and_then x (λ r. and_then (t.behind r) k)) k j st t.is
      (subst (λ y. Knows i y (and_then (operated steps instrs (as_flat steps start) (go_on steps) t.op p st) j)) same
      (operated_to n single t.op p i (omega arith) k j all st)))

  nowhere_to : (n p : ℕ) → slice_get ops p ≡ None → ((st : S) → left p st ≡ Ret st) → From n p
  nowhere_to n p none over i le k j b st =
      subst (λ x. Knows i (and_then x k) (Ask (At p st) j)) (sym (over st))
      (reach_call (flat_by steps instrs start ops) (At p st) j (opening (nested_by steps body) i (k st))
      (subst (λ c. Knows i (k st) (and_then c j)) (sym (ap (λ c. option_map_or (λ o. operated steps instrs (as_flat steps start) (go_on steps) o p st) c (Ret st)) none))
      (b i (omega arith) st)))

  onward_to : (n : ℕ) → Single n → (p : ℕ) (o : Op) → slice_get ops p ≡ Some o → ((st : S) → left p st ≡ operated steps instrs Plain left o p st) → LeadsOn o p
      → ((q : ℕ) → p < q → From n q) → From n p
  onward_to n single p o is same on next i le k j b st =
      let go : (q : ℕ) → p < q → Goes i q k j = λ q lt m l st. next q lt m (omega arith) k j (fewer i m k j l b) st in
      stepped i p o (and_then (left p st) k) k j st is
      (subst (λ x. Knows i (and_then x k) (and_then (operated steps instrs (as_flat steps start) (go_on steps) o p st) j)) (sym (same st))
      (operated_to n single o p i le k j (reachable_on i o p k j on b go) st))

  jump_to : (n p to : ℕ) → slice_get ops p ≡ Some (op.Jump to) → ((st : S) → left p st ≡ left to st) → From n to → From n p
  jump_to n p to is same far i le k j b st =
      stepped i p (op.Jump to) (and_then (left p st) k) k j st is
      (subst (λ x. Knows i (and_then x k) (Ask (At to st) j)) (sym (same st)) (far i le k j b st))

  landed_to : (n p to : ℕ) → Lands steps instrs ops left p to → ((q : ℕ) → Turn_to n q) → ((q : ℕ) → p < q → From n q) → From n to
  landed_to n p to (In_loop t) turn next = turn to t
  landed_to n p to (On_jump far is lt same) turn next = jump_to n to far is same (next far lt)

  step_to : (n p : ℕ) → Step steps instrs ops left p → Single n → ((q : ℕ) → Turn_to n q) → ((q : ℕ) → p < q → From n q) → From n p
  step_to n p (Nowhere none over) single turn next = nowhere_to n p none over
  step_to n p (Onward o is same on) single turn next = onward_to n single p o is same on next
  step_to n p (Turns t) single turn next = turn p t
  step_to n p (Jumps to is same lands) single turn next = jump_to n p to is same (landed_to n p to lands turn next)

  -- no operation stands behind the last
  past_to : (n p : ℕ) → length ops ≤ p → Step steps instrs ops left p → From n p
  past_to n p past (Nowhere none over) = nowhere_to n p none over
  past_to n p past (Onward o is same on) = absurd (omega (arith, slice_get_within ops p o is))
  past_to n p past (Turns t) = absurd (omega (arith, slice_get_within ops p t.op t.is))
  past_to n p past (Jumps to is same lands) = absurd (omega (arith, slice_get_within ops p (op.Jump to) is))

  -- from each place, by how many operations stand behind it
  place_to : (n : ℕ) → Single n → ((q : ℕ) → Turn_to n q) → (d p : ℕ) → length ops ≤ p + d → From n p
  place_to n single turn zero p near = past_to n p (omega arith) (stepping p)
  place_to n single turn (suc d) p near = step_to n p (stepping p) single turn (λ q lt. place_to n single turn d q (omega arith))

  all_to : (n : ℕ) → Before n → All n
  all_to n before =
      let single = single_to n before in
      record { single = single; places = λ p. place_to n single (turning_to n single before) (length ops) p (omega arith) }

  before_to : (n : ℕ) → Before n
  before_to zero i lt = absurd (omega arith)
  before_to (suc n) i lt = all_to i (λ m l. before_to n m (omega arith))

  pub left_runs : (p depth : ℕ) (st : S) → Refines (nested_by steps body) (flat_by steps instrs start ops) depth (left p st) (Ask (At p st) Ret)
  left_runs p depth st =
      let o = opens (nested_by steps body) depth (left p st) in
      let n = o.count in
      let r : Knows n (and_then (left p st) Ret) (Ask (At p st) Ret) =
      (all_to n (before_to n)).places p n (omega arith) (λ st. Ret st) (λ st. Ret st) (λ i le st. record { depth = 0; below = refl }) st in
      let known : Below (opening (nested_by steps body) n (left p st)) (value (run (flat_by steps instrs start ops) r.depth) (Ask (At p st) Ret)) =
      subst (λ x. Below (opening (nested_by steps body) n x) (value (run (flat_by steps instrs start ops) r.depth) (Ask (At p st) Ret))) (and_then_ret (left p st)) r.below in
      record { depth = r.depth; below = below_trans (value (run (nested_by steps body) depth) (left p st)) _ _ o.below known }

  -- a body by its number
  pub body_runs : (b depth : ℕ) (st : S) → Refines (nested_by steps body) (flat_by steps instrs start ops) depth (Ask (Plain (Body b st)) Ret) (Ask (start b st) Ret)
  body_runs b zero st = at_none (Plain (Body b st)) (λ r. Ret r) (Ask (start b st) Ret)
  body_runs b (suc n) st =
      let s = starting b in
      let known : Refines (nested_by steps body) (flat_by steps instrs start ops) n (nested_by steps body (Plain (Body b st))) (Ask (At s.place st) Ret) =
      subst (λ x. Refines (nested_by steps body) (flat_by steps instrs start ops) n x (Ask (At s.place st) Ret)) (s.whole st) (left_runs s.place n st) in
      subst (λ q. Refines (nested_by steps body) (flat_by steps instrs start ops) (suc n) (Ask (Plain (Body b st)) Ret) (Ask q Ret)) (sym (s.starts st))
      (by_call (Plain (Body b st)) (λ r. Ret r) (Ask (At s.place st) (λ r. Ret r)) (λ r. Ret r) known (λ r. by_ret (suc n) r))
