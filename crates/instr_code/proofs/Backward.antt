-- What comes of code comes of the instructions that are left where it goes on.
use Rattle.std.proofs.Common.{◌≡◌, ℕ, zero, suc, ◌+◌, List, Option, Some, None, ap, sym, subst}
use Rattle.std.specs.List.{slice_get}
use Rattle.std.specs.Option.{option_map_or}
use Rattle.instr_code.specs.Acts.{Again, Doing, Nested, Plain}
use Rattle.instr_code.specs.Running.{At, Flat, Given, as_flat, flat_by, go_on, nested_by, operated}
use Rattle.instr_code.specs.Steps.{Body, Call, Other, Steps, Verdict, Holds, Fails, Stops, decided, renamed}
use Rattle.instr_code.specs.declared.code.Op.{Op}
use Rattle.instr_code.specs.declared.code.Op.TheVariants as op
use Rattle.instr_code.proofs.Forward.{Starts}
use Rattle.instr_code.proofs.Stepping.{Jumps, Nowhere, Onward, Step, Turns}
use Rattle.sheet_model.specs.declared.instr.Instr.{Instr}
use Rattle.stx_base.specs.Course.{Course, Ret, Halt, Say, Ask, and_then}
use Rattle.stx_base.specs.Refinement.{Refines}
use Rattle.stx_base.proofs.Course.{and_then_ret}
use Rattle.stx_base.proofs.Refinement.{at_none, by_call, by_halt, by_other_call, by_ret, by_say, by_says, by_then}

module _ {Q S O E : Type 0} (steps : Steps Q S O E) (instrs : List Instr) (ops : List Op) (body left : ℕ → Doing Q S O E) (start : ℕ → S → Flat Q S) (stepping : (p : ℕ) → Step steps instrs ops left p) (starting : (b : ℕ) → Starts body left start b) where
  abbrev Back : ℕ → Course (Flat Q S) S O E → Course (Nested Q S) S O E → Type 0
  Back n x y = Refines (flat_by steps instrs start ops) (nested_by steps body) n x y

  abbrev Calls : ℕ → Type 0
  Calls n =
      (c : Call Q S) (k : S → Course (Flat Q S) S O E) (j : S → Course (Nested Q S) S O E) → ((st : S) → Back n (k st) (j st))
      → Back n (Ask (as_flat steps start c) k) (Ask (Plain c) j)

  abbrev Goes : ℕ → Type 0
  Goes n = (p : ℕ) (st : S) → Back n (go_on steps p st) (left p st)

  single_back : (n : ℕ) → Calls n → (x : Course (Call Q S) S O E) → Back n (renamed (as_flat steps start) x) (renamed Plain x)
  single_back n calls (Ret st) = by_ret n st
  single_back n calls (Halt e) = by_halt n e
  single_back n calls (Say o x) = by_say o (single_back n calls x)
  single_back n calls (Ask c g) =
      calls c (λ st. renamed (as_flat steps start) (g st)) (λ st. renamed Plain (g st)) (λ st. single_back n calls (g st))

  decided_back : (n : ℕ) → Goes n → (v : Verdict S O E) (p q : ℕ) → Back n (decided v (go_on steps p) (go_on steps q)) (decided v (left p) (left q))
  decided_back n go (Holds os st) p q = by_says os (go p st)
  decided_back n go (Fails os st) p q = by_says os (go q st)
  decided_back n go (Stops os e) p q = by_says os (by_halt n e)

  then_back : (n : ℕ) → Calls n → Goes n → (x : Course (Call Q S) S O E) (p : ℕ)
      → Back n (and_then (renamed (as_flat steps start) x) (go_on steps p)) (and_then (renamed Plain x) (left p))
  then_back n calls go x p = by_then (go_on steps p) (left p) (single_back n calls x) (go p)

  found_back : (n p : ℕ) → Goes n → (c : Option Instr) (f : Instr → Course (Flat Q S) S O E) (g : Instr → Course (Nested Q S) S O E) (st : S) → ((x : Instr) → Back n (f x) (g x))
      → Back n (option_map_or f c (go_on steps p st)) (option_map_or g c (left p st))
  found_back n p go None f g st does = go p st
  found_back n p go (Some x) f g st does = does x

  operated_back : (n : ℕ) → Calls n → Goes n → (o : Op) (p : ℕ) (st : S)
      → Back n (operated steps instrs (as_flat steps start) (go_on steps) o p st) (operated steps instrs Plain left o p st)
  operated_back n calls go (op.Do m) p st =
      found_back n (p + 1) go (slice_get instrs m) (λ x. and_then (renamed (as_flat steps start) (steps.single x st)) (go_on steps (p + 1))) (λ x. and_then (renamed Plain (steps.single x st)) (left (p + 1))) st
      (λ x. then_back n calls go (steps.single x st) (p + 1))
  operated_back n calls go (op.Begin m) p st =
      found_back n (p + 1) go (slice_get instrs m) (λ x. and_then (renamed (as_flat steps start) (steps.begins x st)) (go_on steps (p + 1))) (λ x. and_then (renamed Plain (steps.begins x st)) (left (p + 1))) st
      (λ x. then_back n calls go (steps.begins x st) (p + 1))
  operated_back n calls go (op.Close m) p st =
      found_back n (p + 1) go (slice_get instrs m) (λ x. and_then (renamed (as_flat steps start) (steps.closes x st)) (go_on steps (p + 1))) (λ x. and_then (renamed Plain (steps.closes x st)) (left (p + 1))) st
      (λ x. then_back n calls go (steps.closes x st) (p + 1))
  operated_back n calls go (op.Open m to) p st =
      found_back n (p + 1) go (slice_get instrs m) (λ x. decided (steps.opens x st) (go_on steps (p + 1)) (go_on steps to)) (λ x. decided (steps.opens x st) (left (p + 1)) (left to)) st
      (λ x. decided_back n go (steps.opens x st) (p + 1) to)
  operated_back n calls go (op.Test m arm to) p st =
      found_back n (p + 1) go (slice_get instrs m) (λ x. decided (steps.test x arm st) (go_on steps (p + 1)) (go_on steps to)) (λ x. decided (steps.test x arm st) (left (p + 1)) (left to)) st
      (λ x. decided_back n go (steps.test x arm st) (p + 1) to)
  operated_back n calls go (op.Turn m to) p st =
      found_back n (p + 1) go (slice_get instrs m) (λ x. decided (steps.turn x st) (go_on steps (p + 1)) (go_on steps to)) (λ x. decided (steps.turn x st) (left (p + 1)) (left to)) st
      (λ x. decided_back n go (steps.turn x st) (p + 1) to)
  operated_back n calls go (op.Jump to) p st = go to st
  operated_back n calls go (op.Drop count) p st = go (p + 1) (steps.drops count st)
  operated_back n calls go op.Return p st = by_ret n st

  some_op : (p : ℕ) (o : Op) (st : S) → slice_get ops p ≡ Some o
      → operated steps instrs (as_flat steps start) (go_on steps) o p st ≡ flat_by steps instrs start ops (At p st)
  some_op p o st is = sym (ap (λ c. option_map_or (λ o. operated steps instrs (as_flat steps start) (go_on steps) o p st) c (Ret st)) is)

  no_op : (p : ℕ) (st : S) → slice_get ops p ≡ None → Ret st ≡ flat_by steps instrs start ops (At p st)
  no_op p st none = sym (ap (λ c. option_map_or (λ o. operated steps instrs (as_flat steps start) (go_on steps) o p st) c (Ret st)) none)

  step_back : (n : ℕ) → Calls n → Goes n → (p : ℕ) (st : S) → Step steps instrs ops left p → Back n (flat_by steps instrs start ops (At p st)) (left p st)
  step_back n calls go p st (Nowhere none over) =
      subst (λ x. Back n x (left p st)) (no_op p st none) (subst (λ y. Back n (Ret st) y) (sym (over st)) (by_ret n st))
  step_back n calls go p st (Onward o is same on) =
      subst (λ x. Back n x (left p st)) (some_op p o st is)
      (subst (λ y. Back n (operated steps instrs (as_flat steps start) (go_on steps) o p st) y) (sym (same st)) (operated_back n calls go o p st))
  step_back n calls go p st (Turns t) =
      subst (λ x. Back n x (left p st)) (some_op p t.op st t.is)
      (subst (λ y. Back n (operated steps instrs (as_flat steps start) (go_on steps) t.op p st) y) (sym (t.asks st))
      (by_other_call (Again t.loop st) t.behind
      (subst (λ y. Back n (operated steps instrs (as_flat steps start) (go_on steps) t.op p st) y) (sym (t.does st)) (operated_back n calls go t.op p st))))
  step_back n calls go p st (Jumps to is same lands) =
      subst (λ x. Back n x (left p st)) (some_op p (op.Jump to) st is) (subst (λ y. Back n (go_on steps to st) y) (sym (same st)) (go to st))

  -- one call deeper

  calls_back : (n : ℕ) → Calls n → Goes n → Calls (suc n)
  calls_back n calls go (Other q) k j h =
      by_other_call (Plain (Other q)) j (by_call (Given q) k (renamed Plain (steps.given q)) j (single_back n calls (steps.given q)) h)
  calls_back n calls go (Body b st) k j h =
      let s = starting b in
      let known : Back n (flat_by steps instrs start ops (At s.place st)) (nested_by steps body (Plain (Body b st))) =
      subst (λ y. Back n (flat_by steps instrs start ops (At s.place st)) y) (s.whole st) (step_back n calls go s.place st (stepping s.place)) in
      subst (λ q. Back (suc n) (Ask q k) (Ask (Plain (Body b st)) j)) (sym (s.starts st))
      (by_other_call (Plain (Body b st)) j (by_call (At s.place st) k (nested_by steps body (Plain (Body b st))) j known h))

  goes_back : (n : ℕ) → Calls n → Goes n → Goes (suc n)
  goes_back n calls go p st =
      subst (λ y. Back (suc n) (go_on steps p st) y) (and_then_ret (left p st))
      (by_call (At p st) (λ r. Ret r) (left p st) (λ r. Ret r) (step_back n calls go p st (stepping p)) (λ r. by_ret (suc n) r))

  record Both (n : ℕ) : Type 0 where
    calls : Calls n
    goes : Goes n

  both_back : (n : ℕ) → Both n
  both_back zero = record {
    calls = λ c k j h. at_none (as_flat steps start c) k (Ask (Plain c) j);
    goes = λ p st. at_none (At p st) (λ r. Ret r) (left p st);
  }
  both_back (suc n) = let b = both_back n in record { calls = calls_back n b.calls b.goes; goes = goes_back n b.calls b.goes }

  pub code_runs : (p depth : ℕ) (st : S) → Refines (flat_by steps instrs start ops) (nested_by steps body) depth (Ask (At p st) Ret) (left p st)
  code_runs p depth st = (both_back depth).goes p st

  pub code_calls : (b depth : ℕ) (st : S) → Refines (flat_by steps instrs start ops) (nested_by steps body) depth (Ask (start b st) Ret) (Ask (Plain (Body b st)) Ret)
  code_calls b depth st = (both_back depth).calls (Body b st) (λ r. Ret r) (λ r. Ret r) (λ r. by_ret depth r)
