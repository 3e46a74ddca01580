-- What is left of a run is what the run still does.
use Rattle.var_store.specs.declared.bound.Bound.{Bound}
use Rattle.stxpath_values.specs.declared.value.Atom.{Atom}
use Rattle.stx_base.specs.declared.name.Name.{Name}
use Rattle.std.proofs.Common.{◌≡◌, inl, inr, ℕ, nat_lt, Bool, true, List, [], ◌∷◌, Option, Some, None, refl, sym, ap, ◌∙◌, if◌then◌else◌, ◌+◌, zero, suc}
use Rattle.stx_base.specs.Course.{Ask, Halt, Ret, Say, and_then}
use Rattle.stx_base.proofs.Course.{and_then_assoc, funext, unfolds}
use Rattle.stx_base.specs.declared.fault.Place.{Place}
use Rattle.stx_base.specs.declared.fault.RunCode.TheVariants as run_code
use Rattle.stx_base.specs.declared.part.Part.{Part}
use Rattle.result_writer.specs.Target.{fault}
use Rattle.result_writer.specs.declared.fault.ResultFault.{ResultFault}
use Rattle.sheet_model.specs.declared.instr.Instr.{Instr}
use Rattle.xml_events.specs.Tree.{Forest, Future}
use Rattle.template_machine.specs.Acting.{cut_to, put_around, siblings_of, asked_of, begins_reading, begins_writing, buffer_nodes, ends_reading, ends_writing, turns, with_local, writes}
use Rattle.event_buffers.specs.Buffers.{busy_at, read_at, refusal_at, unclosed_at}
use Rattle.event_buffers.specs.Forest.{forest}
use Rattle.event_buffers.specs.declared.fault.BufferFault.{BufferFault}
use Rattle.template_machine.specs.Ending.{fault_at, Spent}
use Rattle.template_machine.specs.Fuel.{skip, spend}
use Rattle.template_machine.specs.Job.{Asked, Body, Does, Given, Here, Nodes, Self, Source, State, with_state, Opened, sources_open, all_of, remains}
use Rattle.template_machine.specs.Meaning.{body, code, exec, siblings}
use Rattle.template_machine.specs.Passing.{finish, gone, node}
use Rattle.template_machine.specs.Putting.{kept_in, put_out, put_to, puts, unless_fault, unless_refused}
use Rattle.template_machine.specs.Resuming.{Resumes}
use Rattle.template_machine.proofs.Skipping.{Silent, skip_silent}
use Rattle.template_machine.specs.Waiting.{Wait, Parts, Region_of, Siblings_of, rest, Source_of, Spot, Turns, Written, beyond, here_at}

module _ (given : Given) where
  -- what follows parts moves behind them
  fault_then : (o : Option ResultFault) (at : Place) (x : Does) (k : Here → Does) → and_then (unless_fault o at x) k ≡ unless_fault o at (and_then x k)
  fault_then None at x k = refl
  fault_then (Some f) at x k = refl

  refused_then : (o : Option BufferFault) (at : Place) (x : Does) (k : Here → Does) → and_then (unless_refused o at x) k ≡ unless_refused o at (and_then x k)
  refused_then None at x k = refl
  refused_then (Some f) at x k = refl

  put_then : (targets : List ℕ) (at : Place) (p : Part) (st : State) (go : State → Does) (k : Here → Does) → and_then (put_to given targets at p st go) k ≡ put_to given targets at p st (λ t. and_then (go t) k)
  put_then [] at p st go k = fault_then (fault given.limits.elements st.result p) at (Say _ (go (put_out p st))) k
  put_then (id ∷ targets) at p st go k = refused_then (refusal_at st.buffers id p) at (go (kept_in id p st)) k

  pub puts_then : (at : Place) (ps : List Part) (st : State) (go : State → Does) (k : Here → Does) → and_then (puts given at ps st go) k ≡ puts given at ps st (λ t. and_then (go t) k)
  puts_then at [] st go k = refl
  puts_then at (p ∷ ps) st go k =
      put_then st.targets at p st (λ t. puts given at ps t go) k
      ∙ ap (put_to given st.targets at p st) (funext (λ t. puts_then at ps t go k))

  around_is : (at : Place) (before behind : List Part) (is : List Instr) (self : Self) (ws : List Wait) (f : Future) (a : Here) → and_then (put_around given at before is behind self a) (rest given ws f) ≡ puts given at before a.state (λ st. Ask (Body is self (with_state a st)) (rest given (Parts at behind ∷ ws) f))
  around_is at before behind is self ws f a =
      puts_then at before a.state (λ st. Ask (Body is self (with_state a st)) (λ b. puts given at behind b.state (λ st. Ret (with_state b st)))) (rest given ws f)
      ∙ ap (puts given at before a.state) (funext (λ st. ap (λ h. Ask (Body is self (with_state a st)) h) (funext (λ b. puts_then at behind b.state (λ st. Ret (with_state b st)) (rest given ws f)))))

  -- two ways to go on behind children that are skipped are one where they are one at the node without children
  finish_is : (source : Source) (a : Here) (h k : Here → Does) → ((st : State) → h (gone a st) ≡ k (gone a st)) → and_then (finish given source a) h ≡ and_then (finish given source a) k
  finish_is source a h k same = of_kids a.kids refl where
    over : (x y : Does) → x ≡ y → and_then y h ≡ and_then y k → and_then x h ≡ and_then x k
    over x y e s = ap (λ z. and_then z h) e ∙ s ∙ sym (ap (λ z. and_then z k) e)

    of_skip : (kids : Forest) → Silent given a.state (skip given source kids a.state) → and_then (skip given source kids a.state (λ st. Ret (gone a st))) h ≡ and_then (skip given source kids a.state (λ st. Ret (gone a st))) k
    of_skip kids (inl s) = over (skip given source kids a.state (λ st. Ret (gone a st))) (Halt s.0) (s.1 (λ st. Ret (gone a st))) refl
    of_skip kids (inr s) = over (skip given source kids a.state (λ st. Ret (gone a st))) (Ret (gone a (record a.state { fuel = s.0 }))) (s.1 (λ st. Ret (gone a st))) (same (record a.state { fuel = s.0 }))

    of_kids : (o : Option Forest) → a.kids ≡ o → and_then (elim o [ None ↦ Ret a | Some kids ↦ skip given source kids a.state (λ st. Ret (gone a st)) ]) h ≡ and_then (elim o [ None ↦ Ret a | Some kids ↦ skip given source kids a.state (λ st. Ret (gone a st)) ]) k
    of_kids None e =
        let g : gone a a.state ≡ a = ap (λ o. record a { kids = o }) (sym e) in
        sym (ap h g) ∙ same a.state ∙ ap k g
    of_kids (Some kids) e = of_skip kids (skip_silent given source kids a.state)

  region_is : (asked : Asked) (ws : List Wait) (f : Future) (a : Here) → and_then (siblings_of given asked a) (rest given ws f) ≡ and_then (finish given asked.level.source a) (rest given (Siblings_of asked ∷ Region_of a.locals ∷ ws) f)
  region_is asked ws f a =
      let on : Here → Does = λ b. Ask (Nodes b.left asked b.state) (λ c. Ret (record b { left = c.left; state = c.state })) in
      and_then_assoc (finish given asked.level.source a) on (rest given ws f)
      ∙ finish_is asked.level.source a (λ b. and_then (on b) (rest given ws f)) (rest given (Siblings_of asked ∷ Region_of a.locals ∷ ws) f) (λ st. refl)

  spend_then : (at : Place) (st : State) (go : State → Does) (k : Here → Does) → and_then (spend at st go) k ≡ spend at st (λ t. and_then (go t) k)
  spend_then at st go k = of_fuel st.fuel where
    of_fuel : (n : ℕ) → and_then (elim n [ zero ↦ Halt (Spent at) | suc m ↦ go (record st { fuel = m }) ]) k ≡ elim n [ zero ↦ Halt (Spent at) | suc m ↦ and_then (go (record st { fuel = m })) k ]
    of_fuel zero = refl
    of_fuel (suc n) = refl

  turn_is : (at : Place) (name : Name) (x : Atom) (xs : List Atom) (is : List Instr) (self : Self) (ws : List Wait) (f : Future) (a : Here) → and_then (turns given at name (x ∷ xs) is self a) (rest given ws f) ≡ spend at a.state (λ st. Ask (Body is self (with_local name (x ∷ []) (with_state a st))) (rest given (Turns at name xs is self a.locals ∷ ws) f))
  turn_is at name x xs is self ws f a =
      spend_then at a.state (λ st. Ask (Body is self (with_local name (x ∷ []) (with_state a st))) (λ b. turns given at name xs is self (cut_to a.locals b))) (rest given ws f)

  writing_is : (at : Place) (id : ℕ) (clear : Bool) (is : List Instr) (self : Self) (ws : List Wait) (f : Future) (a : Here) → busy_at a.state.buffers id ≡ None → and_then (writes given at (Some id) clear is self a) (rest given ws f) ≡ Ask (Body is self (with_state a (begins_writing id clear a.state))) (rest given (Written id at ∷ ws) f)
  writing_is at id clear is self ws f a e =
      let on : Here → Does = λ b. unless_refused (unclosed_at b.state.buffers id) at (Ret (with_state b (ends_writing id b.state))) in
      let ask = Ask (Body is self (with_state a (begins_writing id clear a.state))) on in
      ap (λ o. and_then (unless_refused o at ask) (rest given ws f)) e
      ∙ ap (λ h. Ask (Body is self (with_state a (begins_writing id clear a.state))) h)
      (funext (λ b. refused_then (unclosed_at b.state.buffers id) at (Ret (with_state b (ends_writing id b.state))) (rest given ws f)))

  reading_is : (at : Place) (base : ℕ) (handed : List Bound) (id : ℕ) (self : Self) (spot : Spot) (ws : List Wait) (f : Future) (st : State) → busy_at st.buffers id ≡ None → nat_lt (sources_open self.level.source) given.limits.sources ≡ true → let asked = asked_of given at base handed (Opened None at (sources_open self.level.source + 1)) in and_then (buffer_nodes given at base handed (Some id) self (here_at spot f st)) (rest given ws (beyond spot.spent f)) ≡ rest given (Siblings_of asked ∷ Source_of (Some id) spot ∷ ws) f (remains (all_of (forest (read_at (begins_reading id st).buffers id))) (begins_reading id st))
  reading_is at base handed id self spot ws f st e s =
      let asked = asked_of given at base handed (Opened None at (sources_open self.level.source + 1)) in
      let a = here_at spot f st in
      let k = rest given ws (beyond spot.spent f) in
      let read = begins_reading id st in
      let ask = Ask (Nodes (all_of (forest (read_at read.buffers id))) asked read) (λ b. Ret (with_state a (ends_reading id b.state))) in
      ap (λ o. and_then (unless_refused o at (if nat_lt (sources_open self.level.source) given.limits.sources then ask else Halt (fault_at run_code.TooManySources at))) k) e
      ∙ ap (λ t. and_then (if t then ask else Halt (fault_at run_code.TooManySources at)) k) s

pub resumes : (given : Given) → Resumes given
resumes given = record {
  starts = λ list f. refl;
  instruction = λ i is self before ws f a. and_then_assoc (exec given i self a) (body given is self) (λ b. rest given ws f (cut_to before b));
  list_over = λ self before ws f a. refl;
  list_begins = λ is self ws f a. unfolds (code given) (Body is self a) (rest given ws f) (and_then_assoc (body given is self a) (λ b. Ret (cut_to a.locals b)) (rest given ws f));
  around = around_is given;
  enters_body = λ handed t self ws f a st. refl;
  kids = λ twice asked earlier locals ws f st. refl;
  region = region_is given;
  taken = λ asked trail ws f a. and_then_assoc (node given asked trail a) (siblings asked) (rest given ws f);
  attribute = λ x earlier coming asked spot ws f a. refl;
  passed_over = λ source stage e list next earlier nodes locals ws f st. refl;
  passed_end = λ source m offset earlier nodes locals ws f st. refl;
  test_turn = λ test is at self ws f a. refl;
  item_turn = turn_is given;
  writing = writing_is given;
  reading = reading_is given;
  other_document = λ at base handed name self spot ws f st list. refl;
}
