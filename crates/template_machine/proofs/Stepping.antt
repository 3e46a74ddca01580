-- What single operations do, beside what instructions do.
use Rattle.std.proofs.Common.{◌≡◌, ℕ, zero, suc, List, [], ◌∷◌, Option, Some, None, Result, Ok, Err, refl, sym, ap, subst}
use Rattle.stx_base.specs.Course.{Course, Ret, Halt, Say, Ask, and_then}
use Rattle.stx_base.proofs.Course.{funext}
use Rattle.stx_base.specs.declared.fault.Place.{Place}
use Rattle.stx_base.specs.declared.part.Part.{Part}
use Rattle.event_buffers.specs.Buffers.{refusal_at}
use Rattle.event_buffers.specs.declared.fault.BufferFault.{BufferFault}
use Rattle.instr_code.specs.Acts.{Nested, Plain}
use Rattle.instr_code.specs.Running.{as_flat, nested, start_of}
use Rattle.instr_code.specs.Running as running
use Rattle.instr_code.specs.Steps.{Call, Fails, Holds, Other, Stops, decided, renamed}
use Rattle.result_writer.specs.Target.{fault}
use Rattle.result_writer.specs.declared.fault.ResultFault.{ResultFault}
use Rattle.stxpath_values.specs.declared.fault.EvalFault.{EvalFault}
use Rattle.template_machine.specs.Acting.{put_parts}
use Rattle.template_machine.specs.Declaring.{at_start}
use Rattle.template_machine.specs.Ending.{Ending, Put, Said, Spent, buffer_code, code_of, fault_at}
use Rattle.template_machine.specs.Fuel.{spend}
use Rattle.template_machine.specs.Job.{Does, Given, Here, Job, State, single, with_state}
use Rattle.template_machine.specs.Meaning.{at_document, code}
use Rattle.template_machine.specs.Putting.{kept_in, put_out, put_to, puts, unless_fault, unless_refused}
use Rattle.template_machine.specs.Stepwise.{Outcome, Working, Working_does, begun, by_given, lifted, outcome_of, spends, spent, stands_at, steps_of, taken_in, valued, with_said}
use Rattle.template_machine.specs.Values.{got}
use Rattle.template_machine.proofs.Simulating.{Simulates, at_none, by_call, by_halt, by_other_call, by_ret, by_say}

-- where what calls do is carried along
abbrev pub carrier : Given → Working
carrier given = begun (at_document given) (single (at_start given))

-- What a run does with calls of another kind, each of which does what it does.
module _ (given : Given) {P : Type 0} (emb : Call Job Working → P) (other : P → Course P Working Said Ending) (each : (q : Job) → other (emb (Other q)) ≡ renamed emb (by_given (carrier given) (code given q))) where
  abbrev pub carried : Working → Does → Course P Working Said Ending
  carried w x = renamed emb (by_given w x)

  abbrev Stands : Working → Here → Working → Type 0
  Stands w r v = v ≡ stands_at w r

  copied_none : (x : Does) (w : Working) → Simulates (code given) other (Stands w) zero x (carried w x)
  copied_none (Ret a) w = by_ret zero a (stands_at w a) refl
  copied_none (Halt e) w = by_halt zero e
  copied_none (Say o x) w = by_say o (copied_none x w)
  copied_none (Ask q k) w = at_none q k (carried w (Ask q k))

  copied_more : (n : ℕ) → ((q : Job) → Simulates (code given) other (Stands (carrier given)) n (code given q) (carried (carrier given) (code given q)))
      → (x : Does) (w : Working) → Simulates (code given) other (Stands w) (suc n) x (carried w x)
  copied_more n h (Ret a) w = by_ret (suc n) a (stands_at w a) refl
  copied_more n h (Halt e) w = by_halt (suc n) e
  copied_more n h (Say o x) w = by_say o (copied_more n h x w)
  copied_more n h (Ask q k) w =
      let j : Working → Course P Working Said Ending = λ v. carried w (k v.here) in
      by_other_call (emb (Other q)) j
      (subst (λ y. Simulates (code given) other (Stands w) (suc n) (Ask q k) (and_then y j)) (sym (each q))
      (by_call q k (carried (carrier given) (code given q)) j (h q)
      (λ r v e. subst (λ z. Simulates (code given) other (Stands w) (suc n) (k r) (carried w (k z))) (sym (ap (λ (u : Working). u.here) e)) (copied_more n h (k r) w))))

  pub copied : (n : ℕ) (x : Does) (w : Working) → Simulates (code given) other (Stands w) n x (carried w x)
  copied zero x w = copied_none x w
  copied (suc n) x w = copied_more n (λ q. copied n (code given q) (carrier given)) x w

  -- and back

  abbrev Came : Working → Here → Type 0
  Came v r = v.here ≡ r

  back_none : (x : Does) (w : Working) → Simulates other (code given) Came zero (carried w x) x
  back_none (Ret a) w = by_ret zero (stands_at w a) a refl
  back_none (Halt e) w = by_halt zero e
  back_none (Say o x) w = by_say o (back_none x w)
  back_none (Ask q k) w = at_none (emb (Other q)) (λ v. carried w (k v.here)) (Ask q k)

  back_more : (n : ℕ) → ((q : Job) → Simulates other (code given) Came n (carried (carrier given) (code given q)) (code given q))
      → (x : Does) (w : Working) → Simulates other (code given) Came (suc n) (carried w x) x
  back_more n h (Ret a) w = by_ret (suc n) (stands_at w a) a refl
  back_more n h (Halt e) w = by_halt (suc n) e
  back_more n h (Say o x) w = by_say o (back_more n h x w)
  back_more n h (Ask q k) w =
      let j : Working → Course P Working Said Ending = λ v. carried w (k v.here) in
      by_other_call q k
      (by_call (emb (Other q)) j (code given q) k
      (subst (λ y. Simulates other (code given) Came n y (code given q)) (sym (each q)) (h q))
      (λ v r e. subst (λ z. Simulates other (code given) Came (suc n) (j v) (k z)) e (back_more n h (k v.here) w)))

  pub back : (n : ℕ) (x : Does) (w : Working) → Simulates other (code given) Came n (carried w x) x
  back zero x w = back_none x w
  back (suc n) x w = back_more n (λ q. back n (code given q) (carrier given)) x w

-- what is lifted is what is carried along
pub lifted_is : (given : Given) (x : Does) (w : Working) → lifted x (λ a. Ret (stands_at w a)) ≡ renamed (as_flat (steps_of given) (start_of (steps_of given) given.sheet)) (by_given w x)
lifted_is given (Ret a) w = refl
lifted_is given (Halt e) w = refl
lifted_is given (Say o x) w = ap (Say o) (lifted_is given x w)
lifted_is given (Ask q k) w = ap (Ask (running.Given q)) (funext (λ v. lifted_is given (k v.here) w))

module _ (given : Given) where
  abbrev pub nest : Nested Job Working → Course (Nested Job Working) Working Said Ending
  nest = nested (steps_of given) given.sheet

  abbrev pub Nest_does : Type 0
  Nest_does = Course (Nested Job Working) Working Said Ending

  abbrev pub Sim : (Here → Working → Type 0) → ℕ → Does → Nest_does → Type 0
  Sim Rel n x y = Simulates (code given) nest Rel n x y

  -- makes no call
  abbrev pub IsFree : Does → Type 0
  IsFree (Ret a) = Unit {0}
  IsFree (Halt e) = Unit {0}
  IsFree (Say o x) = IsFree x
  IsFree (Ask q k) = ⊥

  fault_free : (o : Option ResultFault) (at : Place) (x : Does) → IsFree x → IsFree (unless_fault o at x)
  fault_free None at x h = h
  fault_free (Some f) at x h = tt

  refused_free : (o : Option BufferFault) (at : Place) (x : Does) → IsFree x → IsFree (unless_refused o at x)
  refused_free None at x h = h
  refused_free (Some f) at x h = tt

  put_free : (targets : List ℕ) (at : Place) (p : Part) (st : State) (go : State → Does) → ((t : State) → IsFree (go t)) → IsFree (put_to given targets at p st go)
  put_free [] at p st go h = fault_free (fault given.limits.elements st.result p) at (Say (Put p) (go (put_out p st))) (h (put_out p st))
  put_free (id ∷ targets) at p st go h = refused_free (refusal_at st.buffers id p) at (go (kept_in id p st)) (h (kept_in id p st))

  puts_free : (at : Place) (ps : List Part) (st : State) (go : State → Does) → ((t : State) → IsFree (go t)) → IsFree (puts given at ps st go)
  puts_free at [] st go h = h st
  puts_free at (p ∷ ps) st go h = put_free st.targets at p st (λ t. puts given at ps t go) (λ t. puts_free at ps t go h)

  pub parts_free : (at : Place) (ps : List Part) (a : Here) → IsFree (put_parts given at ps a)
  parts_free at ps a = puts_free at ps a.state (λ st. Ret (with_state a st)) (λ t. tt)

  module _ (Rel : Here → Working → Type 0) (n : ℕ) (held failed : Working → Nest_does) where
    pub got_decided : {A : Type 0} (at : Place) (r : Result A EvalFault) (k : A → Does) (go : A → Outcome) → ((x : A) → Sim Rel n (k x) (decided (go x) held failed)) → Sim Rel n (got at r k) (decided (valued at r go) held failed)
    got_decided at (Ok x) k go g = g x
    got_decided at (Err f) k go g = by_halt n (fault_at (code_of f) at)

    pub spent_decided : (at : Place) (a : Here) (k : State → Does) (go : Here → Outcome) → ((st : State) → Sim Rel n (k st) (decided (go (with_state a st)) held failed)) → Sim Rel n (spend at a.state k) (decided (spent at a go) held failed)
    spent_decided at a k go g = of_fuel a.state.fuel where
      of_fuel : (m : ℕ) → Sim Rel n (elim m [ zero ↦ Halt (Spent at) | suc l ↦ k (record a.state { fuel = l }) ]) (decided (elim m [ zero ↦ Stops [] (Spent at) | suc l ↦ go (with_state a (record a.state { fuel = l })) ]) held failed)
      of_fuel zero = by_halt n (Spent at)
      of_fuel (suc l) = g (record a.state { fuel = l })

    said_decided : (o : Said) (v : Outcome) → Say o (decided v held failed) ≡ decided (with_said o v) held failed
    said_decided o (Holds os w) = refl
    said_decided o (Fails os w) = refl
    said_decided o (Stops os e) = refl

    pub outcome_decided : (x : Does) → IsFree x → (k : Here → Does) (go : Here → Outcome) → ((b : Here) → Sim Rel n (k b) (decided (go b) held failed)) → Sim Rel n (and_then x k) (decided (outcome_of x go) held failed)
    outcome_decided (Ret a) h k go g = g a
    outcome_decided (Halt e) h k go g = by_halt n e
    outcome_decided (Say o x) h k go g =
        subst (λ y. Sim Rel n (Say o (and_then x k)) y) (said_decided o (outcome_of x go)) (by_say o (outcome_decided x h k go g))
    outcome_decided (Ask q l) h k go g = absurd h

    pub refused_decided : (o : Option BufferFault) (at : Place) (x : Does) (go : Outcome) → Sim Rel n x (decided go held failed) → Sim Rel n (unless_refused o at x) (decided (taken_in o at go) held failed)
    refused_decided None at x go g = g
    refused_decided (Some f) at x go g = by_halt n (fault_at (buffer_code f) at)

  -- a unit is spent, and then something begins
  pub spends_begins : (Rel : Here → Working → Type 0) (n : ℕ) (at : Place) (w : Working) (k : State → Does) (begins : Working → Working_does) (go : Working → Nest_does)
      → ((st : State) → Sim Rel n (k st) (and_then (renamed Plain (begins (stands_at w (with_state w.here st)))) go))
      → Sim Rel n (spend at w.here.state k) (and_then (renamed Plain (and_then (spends at w) begins)) go)
  spends_begins Rel n at w k begins go g = of_fuel w.here.state.fuel where
    of_fuel : (m : ℕ) → Sim Rel n (elim m [ zero ↦ Halt (Spent at) | suc l ↦ k (record w.here.state { fuel = l }) ])
        (and_then (renamed Plain (and_then (by_given w (elim m [ zero ↦ Halt (Spent at) | suc l ↦ Ret (with_state w.here (record w.here.state { fuel = l })) ])) begins)) go)
    of_fuel zero = by_halt n (Spent at)
    of_fuel (suc l) = g (record w.here.state { fuel = l })
