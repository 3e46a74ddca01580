-- How much fuel and how many nodes are left: no call has more than the call that makes it.
use Rattle.std.proofs.Common.{◌≡◌, ℕ, zero, suc, ◌+◌, ◌≤◌, Bool, true, false, List, [], ◌∷◌, ◌++◌, Option, Some, None, Result, Ok as Fine, Err, refl, ◌∙◌, arith, if◌then◌else◌}
use Rattle.stx_base.specs.Course.{Halt}
use Rattle.stx_base.specs.Termination.{Safe}
use Rattle.stx_base.specs.declared.fault.Place.{Place}
use Rattle.stx_base.specs.declared.part.Part.{Part}
use Rattle.result_writer.specs.Target.{fault}
use Rattle.result_writer.specs.declared.fault.ResultFault.{ResultFault}
use Rattle.sheet_model.specs.declared.instr.WithParam.{WithParam}
use Rattle.sheet_model.specs.declared.sheet.Variable.{Variable}
use Rattle.stxpath_values.specs.declared.fault.EvalFault.{EvalFault}
use Rattle.xml_events.specs.Tree.{Mark, Fresh, Told, Begun, Stage, Waiting, Ready, Entered, Forest, End, Cut, Single, Nested}
use Rattle.event_buffers.specs.Buffers.{refusal_at}
use Rattle.event_buffers.specs.declared.fault.BufferFault.{BufferFault}
use Rattle.template_machine.specs.Declaring.{makes, makes_scope, ends_scope, binds, hands, with_variable, with_scope, parameter_value, new_value, commanded, kept, declaration_setting}
use Rattle.template_machine.specs.Ending.{Spent}
use Rattle.template_machine.specs.Fuel.{begin, ended, is_begun, is_entered, refuelled, skip, spend, when_ready}
use Rattle.template_machine.specs.Job.{Given, State, Source, Main, Opened, Here, Self, Job, Nodes, Body, Loop, Does}
use Rattle.template_machine.specs.Outcome.{own, end_own, size}
use Rattle.template_machine.specs.Putting.{kept_in, put_out, put_to, puts, unless_fault, unless_refused}
use Rattle.template_machine.specs.Values.{atoms_of, got, setting}
use Rattle.var_store.specs.Variables.{value_of}
use Rattle.var_store.specs.declared.bound.Bound.{Bound}

module _ (given : Given) where
  abbrev pub full : ℕ
  full = given.limits.fuel

  abbrev pub kids_size : Source → Option Forest → ℕ
  kids_size source None = 0
  kids_size source (Some kids) = size full source kids

  -- what is left where a body stands
  abbrev pub amount : Source → Here → ℕ
  amount source a = kids_size source a.kids + size full source a.left.coming + a.state.fuel

  abbrev pub weight : Job → ℕ
  weight (Nodes left asked st) = size full asked.level.source left.coming + st.fuel
  weight (Body is self a) = amount self.level.source a
  weight (Loop test is at self a) = amount self.level.source a

  abbrev pub Pre : Job → Type 0
  Pre (Nodes left asked st) = st.fuel ≤ full
  Pre (Body is self a) = a.state.fuel ≤ full
  Pre (Loop test is at self a) = a.state.fuel ≤ full

  -- at most so much is left
  abbrev pub Left : Source → ℕ → Here → Type 0
  Left source n b = (amount source b ≤ n) × (b.state.fuel ≤ full)

  abbrev pub Remaining : Source → ℕ → Here → Type 0
  Remaining source n b = (size full source b.left.coming + b.state.fuel ≤ n) × (b.state.fuel ≤ full)

  abbrev pub Post : Job → Here → Type 0
  Post (Nodes left asked st) b = Remaining asked.level.source (size full asked.level.source left.coming + st.fuel) b
  Post (Body is self a) b = Left self.level.source (amount self.level.source a) b
  Post (Loop test is at self a) b = Left self.level.source (amount self.level.source a) b

  abbrev pub Ok : ℕ → (Here → Type 0) → Does → Type 0
  Ok w P x = Safe weight Pre Post w P x

  module _ (w : ℕ) (P : Here → Type 0) where
    pub got_ok : {A : Type 0} (at : Place) (r : Result A EvalFault) (go : A → Does) → ((x : A) → Ok w P (go x)) → Ok w P (got at r go)
    got_ok at (Fine x) go h = h x
    got_ok at (Err f) go h = tt

    pub either_ok : (b : Bool) (x y : Does) → Ok w P x → Ok w P y → Ok w P (if b then x else y)
    either_ok true x y h k = h
    either_ok false x y h k = k

    pub fault_ok : (o : Option ResultFault) (at : Place) (x : Does) → Ok w P x → Ok w P (unless_fault o at x)
    fault_ok None at x h = h
    fault_ok (Some f) at x h = tt

    pub refused_ok : (o : Option BufferFault) (at : Place) (x : Does) → Ok w P x → Ok w P (unless_refused o at x)
    refused_ok None at x h = h
    refused_ok (Some f) at x h = tt

    put_ok : (targets : List ℕ) (at : Place) (p : Part) (st : State) (go : State → Does) → ((t : State) → t.fuel ≡ st.fuel → Ok w P (go t)) → Ok w P (put_to given targets at p st go)
    put_ok [] at p st go h = fault_ok (fault given.limits.elements st.result p) at _ (h (put_out p st) refl)
    put_ok (id ∷ targets) at p st go h = refused_ok (refusal_at st.buffers id p) at (go (kept_in id p st)) (h (kept_in id p st) refl)

    pub puts_ok : (at : Place) (ps : List Part) (st : State) (go : State → Does) → ((t : State) → t.fuel ≡ st.fuel → Ok w P (go t)) → Ok w P (puts given at ps st go)
    puts_ok at [] st go h = h st refl
    puts_ok at (p ∷ ps) st go h = put_ok st.targets at p st _ (λ t e. puts_ok at ps t go (λ u f. h u (f ∙ e)))

    pub makes_ok : (test : Variable → Bool) (earlier vs : List Variable) (self : Self) (st : State) (go : State → Does) → ((t : State) → t.fuel ≡ st.fuel → Ok w P (go t)) → Ok w P (makes given test earlier vs self st go)
    makes_ok test earlier [] self st go h = h st refl
    makes_ok test earlier (v ∷ vs) self st go h =
        either_ok (test v) _ _
        (got_ok v.at (new_value given (commanded given v) (kept given v st) v (declaration_setting given earlier v self st)) _
        (λ x. makes_ok test (earlier ++ v ∷ []) vs self (with_variable given v x st) go h))
        (makes_ok test (earlier ++ v ∷ []) vs self st go h)

    pub makes_scope_ok : (new : Bool) (group : ℕ) (self : Self) (st : State) (go : State → Does) → ((t : State) → t.fuel ≡ st.fuel → Ok w P (go t)) → Ok w P (makes_scope given new group self st go)
    makes_scope_ok false group self st go h = h st refl
    makes_scope_ok true group self st go h = makes_ok _ [] given.sheet.variables self (with_scope group st) go h

    -- only the locals are others
    pub binds_ok : (vs : List Variable) (handed : List Bound) (self : Self) (a : Here) (go : Here → Does) → ((ls : List Bound) → Ok w P (go (record a { locals = ls }))) → Ok w P (binds given vs handed self a go)
    binds_ok [] handed self a go h = h a.locals
    binds_ok (v ∷ vs) handed self a go h =
        got_ok v.at (parameter_value given (value_of v.name handed) v (setting given self a)) _
        (λ x. binds_ok vs handed self (record a { locals = a.locals ++ record { name = v.name; value = x } ∷ [] }) go h)

    pub hands_ok : (at : Place) (ps : List WithParam) (self : Self) (a : Here) (go : List Bound → Does) → ((bs : List Bound) → Ok w P (go bs)) → Ok w P (hands given at ps self a go)
    hands_ok at [] self a go h = h []
    hands_ok at (p ∷ ps) self a go h =
        got_ok at (atoms_of p.select (setting given self a)) _ (λ x. hands_ok at ps self a _ (λ bs. h (record { name = p.name; value = x } ∷ bs)))

    pub spend_ok : (at : Place) (st : State) (go : State → Does) → ((t : State) → t.fuel + 1 ≡ st.fuel → Ok w P (go t)) → Ok w P (spend at st go)
    spend_ok at st go h = of_fuel st.fuel refl where
      of_fuel : (n : ℕ) → n ≡ st.fuel → Ok w P (elim n [ zero ↦ Halt (Spent at) | suc n ↦ go (record st { fuel = n }) ])
      of_fuel zero e = tt
      of_fuel (suc n) e = h (record st { fuel = n }) (omega arith)

    pub begin_ok : (source : Source) (before : Bool) (st : State) (go : State → Does) → st.fuel ≤ full → ((t : State) → t.fuel ≤ full → t.fuel + 1 ≤ own full source before + st.fuel → Ok w P (go t)) → Ok w P (begin given source before st go)
    begin_ok Main true st go f h = h st f (omega arith)
    begin_ok Main false st go f h = h (refuelled given st) (omega arith) (omega arith)
    begin_ok (Opened d at n) true st go f h = h st f (omega arith)
    begin_ok (Opened d at n) false st go f h = spend_ok at st go (λ t e. h t (omega arith) (omega arith))

    pub ready_ok : (source : Source) (stage : Stage) (kids : Forest) (x : Does) → Ok w P x → Ok w P (when_ready source stage kids x)
    ready_ok source (Ready first) kids x h = h
    ready_ok source (Entered first) kids x h = h
    ready_ok source Waiting (Cut why) x h = tt
    ready_ok source Waiting (End m offset) x h = h
    ready_ok source Waiting (Single m leaf next) x h = h
    ready_ok source Waiting (Nested stage e kids next) x h = h

  pub ended_fits : (source : Source) (m : Mark) (st : State) → st.fuel ≤ full → ((ended given source m st).fuel ≤ full) × ((ended given source m st).fuel ≤ end_own full source (is_begun m) + st.fuel)
  ended_fits Main Begun st f = (f, omega arith)
  ended_fits Main Fresh st f = (omega arith, omega arith)
  ended_fits Main Told st f = (omega arith, omega arith)
  ended_fits (Opened d at n) Begun st f = (f, omega arith)
  ended_fits (Opened d at n) Fresh st f = (f, omega arith)
  ended_fits (Opened d at n) Told st f = (f, omega arith)

  pub scope_fuel : (new : Bool) (group : ℕ) (st : State) → (ends_scope given new group st).fuel ≡ st.fuel
  scope_fuel false group st = refl
  scope_fuel true group st = refl

  module _ (w : ℕ) (P : Here → Type 0) where
    pub skip_ok : (source : Source) (list : Forest) (st : State) (go : State → Does) → st.fuel ≤ full → ((t : State) → t.fuel ≤ full → t.fuel ≤ size full source list + st.fuel → Ok w P (go t)) → Ok w P (skip given source list st go)
    skip_ok source (End m offset) st go f h = let e = ended_fits source m st f in h _ e.0 e.1
    skip_ok source (Cut why) st go f h = tt
    skip_ok source (Single m leaf next) st go f h =
        begin_ok w P source (is_begun m) st (λ t. skip given source next t go) f (λ t g l. skip_ok source next t go g (λ u g' l'. h u g' (omega arith)))
    skip_ok source (Nested stage e kids next) st go f h =
        ready_ok w P source stage kids _
        (begin_ok w P source (is_entered stage) st (λ t. skip given source kids t (λ u. skip given source next u go)) f
        (λ t g l. skip_ok source kids t (λ u. skip given source next u go) g (λ u g' l'. skip_ok source next u go g' (λ v k m. h v k (omega arith)))))
