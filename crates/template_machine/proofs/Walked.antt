-- Instructions that process nodes, by the values that they hand.
use Rattle.std.proofs.Common.{◌≡◌, ℕ, suc, ◌+◌, ◌-◌, List, [], ◌∷◌, ◌++◌, length, map, take, Option, Some, None, Result, Ok, Err, reverse, if◌then◌else◌, refl, ap, sym, subst, ◌∙◌, add-one, arith, length-append}
use Rattle.std.specs.Prelude.{OnOk, slice_get, unwrap_or}
use Rattle.std.specs.Option.{option_and_then, option_map, option_map_or}
use Rattle.std.proofs.lemmas.List.{length-map, reverse-append}
use Rattle.stx_base.specs.Course.{Halt, Ret}
use Rattle.stx_base.specs.declared.fault.Place.{Place}
use Rattle.stx_base.specs.declared.name.Name.{Name}
use Rattle.frame_stack.specs.Change.{locals_of, with_locals, with_pc}
use Rattle.frame_stack.specs.declared.frame.Frame.{Frame}
use Rattle.frame_stack.specs.declared.frame.Frame.TheVariants.{Attributes, Body, Call, Loop, Pass, Region, Skip, Source}
use Rattle.frame_stack.specs.declared.locals.Local.{Local}
use Rattle.instr_code.specs.Code.{code_of}
use Rattle.instr_code.specs.Running.{go_on}
use Rattle.instr_code.specs.declared.code.Code.{Code}
use Rattle.instr_code.specs.declared.code.Op.TheVariants as op
use Rattle.node_stack.specs.Path.{Node, Document, Element, PathNode, last_of}
use Rattle.node_stack.specs.Path as paths
use Rattle.node_stack.specs.Stack.{path}
use Rattle.result_writer.specs.Target.{Left}
use Rattle.sheet_model.specs.Parts.{handed, place}
use Rattle.sheet_model.specs.declared.instr.Instr.{Instr}
use Rattle.sheet_model.specs.declared.instr.Instr.TheOpen.{Instr-F}
use Rattle.sheet_model.specs.declared.instr.Instr.TheViews.{out-Instr}
use Rattle.sheet_model.specs.declared.instr.When.{When}
use Rattle.stxpath_values.specs.Outcome.{each}
use Rattle.stxpath_values.specs.declared.fault.EvalFault.{EvalFault}
use Rattle.stxpath_values.specs.declared.value.Atom.{Atom}
use Rattle.var_store.specs.declared.bound.Bound.{Bound}
use Rattle.template_machine.specs.Acting.{acts, asked_beside, asked_within, attributes_of, buffer_nodes, calls, condition, has_list, has_siblings, siblings_of}
use Rattle.template_machine.specs.Bodies.{frame_in, on_body, pc_in, pc_of}
use Rattle.template_machine.specs.Ending.{Faulted}
use Rattle.template_machine.specs.Finding.{base_of, buffer_seen, procedure_at, procedure_seen}
use Rattle.template_machine.specs.Fuel.{spend}
use Rattle.template_machine.specs.Declaring.{hands}
use Rattle.template_machine.specs.Job.{Does, Given, Here, Self, State, with_state}
use Rattle.template_machine.specs.Moments.{IsAtOp}
use Rattle.template_machine.specs.Passing.{again, children}
use Rattle.template_machine.specs.Programs.{done_by, instr_at}
use Rattle.template_machine.specs.Saying.{Carries, Gave, GoesAs, SeesAs, sight}
use Rattle.template_machine.specs.Seen.{named_of}
use Rattle.template_machine.specs.Shifting.{Hands, StandsAt, TakesBack, handed_value, unspent}
use Rattle.template_machine.specs.Steps.{one_less}
use Rattle.template_machine.specs.Still as still
use Rattle.template_machine.specs.Still.{aside_of, first_node, trail_of}
use Rattle.template_machine.specs.Stepwise.{Flat_does, Working, stands_at, steps_of}
use Rattle.template_machine.specs.Trail.{current}
use Rattle.template_machine.specs.Values.{got, setting}
use Rattle.template_machine.specs.declared.program.Program.{Program}
use Rattle.template_machine.specs.declared.run.Doing.TheVariants as doing
use Rattle.template_machine.specs.declared.run.Run.{Run}
use Rattle.template_machine.specs.declared.run.Running.{Running}
use Rattle.template_machine.specs.declared.stop.Stop.{Stop}
use Rattle.template_machine.specs.declared.stop.Stop.TheVariants as stop
use Rattle.template_machine.specs.Parameters.{named_values}
use Rattle.template_machine.proofs.Deciding.{all_rest, stopped}
use Rattle.template_machine.proofs.Fueled.{at_spent}
use Rattle.template_machine.proofs.Handed.{each_length, handed_seen, hands_each, taken_back}
use Rattle.template_machine.proofs.Proceeding.{done_in, goes_in, on_ok_by, unit_spent}
use Rattle.template_machine.proofs.Shifting.{leaves_on, left_so, left_with, own_aside, own_frame, own_locals}

-- What these instructions do, once their values are at hand.
abbrev pub after_hands : Given → Instr-F Instr When → Self → Here → List Bound → Does
after_hands given (Instr-F.CallProcedure name params at) self a values = calls given at values (procedure_at given.sheet (procedure_seen given.sheet self.group name)) self a
after_hands given (Instr-F.ProcessChildren group params at) self a values =
    if has_list (current self.trail) then children at (asked_within given at (base_of given.sheet group self.group) values self) a (λ b. Ret b) else Ret a
after_hands given (Instr-F.ProcessAttributes group params at) self a values =
    attributes_of given (asked_within given at (base_of given.sheet group self.group) values self) (current self.trail) a
after_hands given (Instr-F.ProcessSelf group params at) self a values = again given at (base_of given.sheet group self.group) values self a
after_hands given (Instr-F.ProcessSiblings going until group params at) self a values =
    if has_siblings (current self.trail)
    then siblings_of given (asked_beside given at (base_of given.sheet group self.group) values (condition self.group going until) self) a
    else Ret a
after_hands given (Instr-F.ProcessBuffer name group params at) self a values =
    buffer_nodes given at (base_of given.sheet group self.group) values (buffer_seen given.sheet self.group name) self a
after_hands given x self a values = Ret a

-- those that begin with handing them
abbrev pub HandsFirst : Instr-F Instr When → Type 0
HandsFirst (Instr-F.CallProcedure name params at) = Unit {0}
HandsFirst (Instr-F.ProcessChildren group params at) = Unit {0}
HandsFirst (Instr-F.ProcessAttributes group params at) = Unit {0}
HandsFirst (Instr-F.ProcessSelf group params at) = Unit {0}
HandsFirst (Instr-F.ProcessSiblings going until group params at) = Unit {0}
HandsFirst (Instr-F.ProcessBuffer name group params at) = Unit {0}
HandsFirst x = ⊥

hands_first : (given : Given) (x : Instr-F Instr When) (self : Self) (a : Here) → HandsFirst x → acts given x self a ≡ hands given (place x) (handed x) self a (after_hands given x self a)
hands_first given (Instr-F.CallProcedure name params at) self a first = refl
hands_first given (Instr-F.ProcessChildren group params at) self a first = refl
hands_first given (Instr-F.ProcessAttributes group params at) self a first = refl
hands_first given (Instr-F.ProcessSelf group params at) self a first = refl
hands_first given (Instr-F.ProcessSiblings going until group params at) self a first = refl
hands_first given (Instr-F.ProcessBuffer name group params at) self a first = refl
hands_first given x self a first = absurd first

module _ (given : Given) (p : Program) (r : Run) (n : ℕ) (i : Instr) (first : HandsFirst (out-Instr i)) where
  abbrev x : Instr-F Instr When
  x = out-Instr i

  abbrev given_now : Result (List (List Atom)) EvalFault
  given_now = each (handed_value (sight p r)) (handed x)

  -- an instruction of this kind, for a unit
  pub walks_by : (pc : ℕ) (w : Working) (left : Left) → slice_get (code_of given.sheet).instrs n ≡ Some i → w.here.state ≡ still.state_of given p (unspent r) left → SeesAs given p r w.self w.here
      → still.operates given p (op.Do n) pc w
      ≡ done_in given p w
      (got (place x) given_now (λ vs. after_hands given x w.self (with_state w.here (record w.here.state { fuel = r.fuel })) (named_values (handed x) vs)))
      (go_on (steps_of given) (pc + 1))
  walks_by pc w left is q sees =
      let go : Working → Flat_does = go_on (steps_of given) (pc + 1) in
      let now : State = record w.here.state { fuel = r.fuel } in
      let b : Here = with_state w.here now in
      ap (λ o. option_map_or (λ y. done_in given p w (spend (place (out-Instr y)) w.here.state (λ st. acts given (out-Instr y) w.self (with_state w.here st))) go) o (go w)) is
      ∙ ap (λ y. done_in given p w y go)
      (unit_spent given p (place x) w.here.state r.fuel (λ st. acts given x w.self (with_state w.here st)) (ap (λ (s : State). one_less s.fuel) q ∙ less r.fuel)
      ∙ hands_first given x w.self b first
      ∙ hands_each given (place x) (handed x) w.self b (after_hands given x w.self b)
      ∙ ap (λ v. got (place x) v (λ vs. after_hands given x w.self b (named_values (handed x) vs))) (handed_seen given p r w.self b (handed x) (record { way = sees.way; alike = sees.alike; is = sees.is })))
    where
      less : (m : ℕ) → one_less (m + 1) ≡ Some m
      less m = ap one_less (add-one m)

got_stops : (A : Type 0) {B : Type 0} (e : Stop) (at : Place) (v : Result B EvalFault) (go : B → Does) (y : Does) → Gave {A = B} at (Err e) v → GoesAs {A = A} (Err e) (got at v go) [] y
got_stops A (stop.Fault fault) at v go y gave = ap (λ x. got at x go) gave.1.0 ∙ ap (λ x. Halt (Faulted x)) (sym gave.1.1)
got_stops A (stop.Spent where_now) at v go y gave = absurd gave
got_stops A stop.Memory at v go y gave = (got at v go, refl)

-- A unit was spent, and the values can't be handed.
pub walk_refused : {A B : Type 0} (p : Program) (r new : Run) (running : Running) (n : ℕ) (i : Instr) (e : Stop) → IsAtOp p r running (op.Do n) → slice_get p.code.instrs n ≡ Some i
    → HandsFirst (out-Instr i) → Hands {A = B} p i (place (out-Instr i)) running.pc (Err e) r new → Carries {A = A} p (Err e) (unspent r) new
walk_refused {A} p r new running n i e at is first h = record {
  does = λ given of_sheet left f.
      leaves_on given p (λ l. l) (stopped A e) (unspent r) new running (op.Do n) (running.pc + 1) left left [] (at_spent p r (unspent r) running (op.Do n) refl at) of_sheet tt
      (all_rest r new r.fuel h.rest)
      (λ w st sees q.
      subst (λ y. GoesAs {A = A} (Err e) y [] (go_on (steps_of given) (running.pc + 1) (left_with w (locals_of st.body) w.turns (still.state_of given p new left))))
      (sym (walks_by given p r n i first running.pc w left (ap (λ (code : Code). slice_get code.instrs n) (sym of_sheet.code_is) ∙ is) q (record { way = sees.way; alike = sees.alike; is = sees.is })))
      (goes_any (stopped A e) e refl given p w _ (go_on (steps_of given) (running.pc + 1)) _
      (goes_in given p (stopped A e) w _ [] w.here (go_on (steps_of given) (running.pc + 1)) (got_stops A e (place (out-Instr i)) _ _ (Ret w.here) h.gave))))
      f;
} where
  goes_any : {A : Type 0} (res : Result A Stop) (e : Stop) → res ≡ Err e → (given : Given) (p : Program) (w : Working) (y : Flat_does) (k : Working → Flat_does) (z : Flat_does) → GoesAs res y [] (k (stands_at w w.here)) → GoesAs res y [] z
  goes_any (Ok a) e is given p w y k z h = absurd (cc)
  goes_any (Err (stop.Fault fault)) e is given p w y k z h = h
  goes_any (Err (stop.Spent place)) e is given p w y k z h = h
  goes_any (Err stop.Memory) e is given p w y k z h = h

-- Values that are handed and taken back leave the locals as they were.
back_again : (fs : List Frame) (x : Frame) (waiting : List Local) (left to : ℕ) → frame_in fs ≡ Some x → left + length waiting ≡ length (locals_of x ++ waiting)
    → on_body (with_locals (take left)) (on_body (λ f. with_locals (λ ls. ls ++ waiting) (with_pc to f)) fs) ≡ on_body (λ f. with_locals (λ l. l) (with_pc to f)) fs
back_again [] x waiting left to is e = refl
back_again (Loop turn ∷ fs) x waiting left to is e = ap (λ l. Loop turn ∷ l) (back_again fs x waiting left to is e)
back_again (Body template alternative pc own level spent ∷ fs) x waiting left to is e =
    let same : Body template alternative pc own level spent ≡ x = cc in
    ap (λ l. Body template alternative to l level spent ∷ fs) (taken_back own waiting left (e ∙ ap (λ y. length (locals_of y ++ waiting)) (sym same)))
back_again (Call procedure pc own level ∷ fs) x waiting left to is e =
    let same : Call procedure pc own level ≡ x = cc in
    ap (λ l. Call procedure to l level ∷ fs) (taken_back own waiting left (e ∙ ap (λ y. length (locals_of y ++ waiting)) (sym same)))
back_again (Region asked level ∷ fs) x waiting left to is e = refl
back_again (Attributes next asked ∷ fs) x waiting left to is e = refl
back_again (Source buffer next asked ∷ fs) x waiting left to is e = refl
back_again (Skip depth ∷ fs) x waiting left to is e = refl
back_again (Pass base level spent ∷ fs) x waiting left to is e = refl

frame_waits : (fs : List Frame) (x : Frame) (waiting : List Local) (pc to : ℕ) → frame_in fs ≡ Some x → pc_of x ≡ Some pc
    → (y : Frame) × ((frame_in (on_body (λ f. with_locals (λ ls. ls ++ waiting) (with_pc to f)) fs) ≡ Some y) × (locals_of y ≡ locals_of x ++ waiting) × (pc_of y ≡ Some to))
frame_waits [] x waiting pc to is at = absurd (cc)
frame_waits (Loop turn ∷ fs) x waiting pc to is at = frame_waits fs x waiting pc to is at
frame_waits (Body template alternative q own level spent ∷ fs) x waiting pc to is at =
    let same : Body template alternative q own level spent ≡ x = cc in (Body template alternative to (own ++ waiting) level spent, (refl, ap (λ y. locals_of y ++ waiting) same, refl))
frame_waits (Call procedure q own level ∷ fs) x waiting pc to is at =
    let same : Call procedure q own level ≡ x = cc in (Call procedure to (own ++ waiting) level, (refl, ap (λ y. locals_of y ++ waiting) same, refl))
frame_waits (f ∷ fs) x waiting pc to is at = let same : f ≡ x = cc in absurd (let e : pc_of f ≡ Some pc = ap pc_of same ∙ at in cc)

some_one : {A : Type 0} {x y : A} → Some x ≡ Some y → x ≡ y
some_one e = cc

-- the instruction that asked is the one that hands
asked_is : (p : Program) (pc n : ℕ) (i : Instr) → slice_get p.code.ops pc ≡ Some (op.Do n) → slice_get p.code.instrs n ≡ Some i → instr_at p.code pc ≡ Some i
asked_is p pc n i is there = ap (option_and_then (λ k. slice_get p.code.instrs k)) (ap (option_and_then done_by) is) ∙ there

-- Nothing is there to be processed: the body goes on.
pub nothing_walked : {A B : Type 0} (p : Program) (r mid new : Run) (running : Running) (n : ℕ) (i : Instr) (done : A) (handed_so : B) → IsAtOp p r running (op.Do n) → slice_get p.code.instrs n ≡ Some i
    → HandsFirst (out-Instr i) → Hands p i (place (out-Instr i)) running.pc (Ok handed_so) r mid → TakesBack p mid new
    → ((given : Given) (w : Working) (b : Here) (values : List Bound) → StandsAt given p (unspent r) w → after_hands given (out-Instr i) w.self b values ≡ Ret b)
    → Carries p (Ok done) (unspent r) new
nothing_walked p r mid new running n i done handed_so at is first h t nothing =
    let fs = reverse r.frames.frames in
    let to = running.pc + 1 in
    let x = frame_at fs running.pc at.pc in
    let y = frame_waits fs x.0 h.waiting running.pc to x.1.0 x.1.1 in
    let body_is : t.body ≡ y.0 = some_one (sym t.there ∙ ap frame_in h.behind ∙ y.1.0) in
    let pc_is : t.pc ≡ to = some_one (sym t.at ∙ ap (option_and_then pc_of) (ap frame_in h.behind ∙ y.1.0) ∙ y.1.2) in
    let before : running.pc ≡ t.pc - 1 = omega (arith, pc_is) in
    let instr_is : i ≡ t.instr = some_one (sym (asked_is p running.pc n i at.is is) ∙ ap (instr_at p.code) before ∙ t.is) in
    let many : length h.waiting ≡ length (handed (out-Instr i)) =
    sym (length-map h.waiting (λ (l : Local). l.value)) ∙ each_length (handed_value (sight p r)) (handed (out-Instr i)) (map (λ (l : Local). l.value) h.waiting) h.gave in
    let long : t.left + length h.waiting ≡ length (locals_of x.0 ++ h.waiting) =
    omega (arith, t.long, many, ap (λ (j : Instr). length (handed (out-Instr j))) instr_is, ap (λ (b : Frame). length (locals_of b)) body_is, ap length y.1.1) in
    let rest : new ≡ record r { frames = new.frames } =
    t.rest ∙ ap (λ (s : Run). record s { frames = new.frames; doing = doing.Body }) h.rest ∙ ap (λ d. record r { frames = new.frames; doing = d }) (sym at.doing) in
    record {
      does = λ given of_sheet left f.
          leaves_on given p (λ l. l) (Ok done) (unspent r) new running (op.Do n) to left left [] (at_spent p r (unspent r) running (op.Do n) refl at) of_sheet
          (t.behind ∙ ap (on_body (with_locals (take t.left))) h.behind ∙ back_again fs x.0 h.waiting t.left to x.1.0 long)
          (all_rest r new r.fuel rest)
          (λ w st sees q.
          let b : Here = with_state w.here (record w.here.state { fuel = r.fuel }) in
          let values : List Bound = named_values (handed (out-Instr i)) (map (λ (l : Local). l.value) h.waiting) in
          walks_by given p r n i first running.pc w left (ap (λ (code : Code). slice_get code.instrs n) (sym of_sheet.code_is) ∙ is) q (record { way = sees.way; alike = sees.alike; is = sees.is })
          ∙ ap (λ v. done_in given p w (got (place (out-Instr i)) v (λ vs. after_hands given (out-Instr i) w.self b (named_values (handed (out-Instr i)) vs))) (go_on (steps_of given) to)) h.gave
          ∙ ap (λ z. done_in given p w z (go_on (steps_of given) to)) (nothing given w b values st)
          ∙ left_so given to w (locals_of st.body) w.here.locals w.aside w.turns w.turns (record w.here.state { fuel = r.fuel }) (still.state_of given p new left)
          (own_locals given p (unspent r) w st) (own_aside given p (unspent r) w st) refl
          (ap (λ (s : State). record s { fuel = r.fuel }) q ∙ sym (ap (λ m. still.state_of given p m left) rest)))
          f;
    }
  where
    frame_at : (fs : List Frame) (pc : ℕ) → pc_in fs ≡ Some pc → (x : Frame) × ((frame_in fs ≡ Some x) × (pc_of x ≡ Some pc))
    frame_at fs pc at = by (frame_in fs) refl at
      where
        by : (o : Option Frame) → frame_in fs ≡ o → option_and_then pc_of o ≡ Some pc → (x : Frame) × ((frame_in fs ≡ Some x) × (pc_of x ≡ Some pc))
        by None there at = absurd (cc)
        by (Some x) there at = (x, (there, at))
