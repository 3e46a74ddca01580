-- Instructions round a list begin: what is put before it, and where the body goes on.
use Rattle.std.proofs.Common.{◌≡◌, ℕ, ◌+◌, true, List, [], ◌∷◌, ◌++◌, Option, Some, None, Result, Ok, Err, reverse, refl, ap, sym, subst, ◌∙◌}
use Rattle.std.specs.Prelude.{OnOk, slice_get}
use Rattle.std.specs.Option.{option_map_or}
use Rattle.stx_base.specs.Course.{Halt, Ret, Say, says}
use Rattle.stx_base.specs.declared.fault.Place.{Place}
use Rattle.stx_base.specs.declared.fault.RunCode.TheVariants as run_code
use Rattle.stx_base.specs.declared.name.Binding.{Binding}
use Rattle.stx_base.specs.declared.name.Name.{Name}
use Rattle.stx_base.specs.declared.part.Part.TheVariants as part
use Rattle.frame_stack.specs.Change.{locals_of, with_pc}
use Rattle.frame_stack.specs.declared.locals.Local.{Local}
use Rattle.instr_code.specs.Code.{code_of}
use Rattle.instr_code.specs.Running.{go_on}
use Rattle.instr_code.specs.Steps.{Fails, Holds, Stops, decided}
use Rattle.instr_code.specs.declared.code.Code.{Code}
use Rattle.instr_code.specs.declared.code.Op.TheVariants as op
use Rattle.result_writer.specs.Target.{Left, Target}
use Rattle.sheet_model.specs.Parts.{place}
use Rattle.sheet_model.specs.declared.instr.Instr.{Instr}
use Rattle.sheet_model.specs.declared.instr.Instr.TheOpen.{Instr-F}
use Rattle.sheet_model.specs.declared.instr.Instr.TheVariants as instr
use Rattle.sheet_model.specs.declared.instr.Instr.TheViews.{out-Instr, rolls-Element}
use Rattle.sheet_model.specs.declared.instr.When.{When}
use Rattle.stxpath_syntax.specs.declared.expr.Avt.{Avt}
use Rattle.stxpath_values.specs.declared.fault.EvalFault.{EvalFault}
use Rattle.stxpath_values.specs.declared.value.Atom.{Atom}
use Rattle.var_store.specs.Variables.{bound}
use Rattle.template_machine.specs.Acting.{named, put_parts}
use Rattle.template_machine.specs.Bodies.{on_body}
use Rattle.template_machine.specs.Ending.{Faulted, Said, Spent, fault_at}
use Rattle.template_machine.specs.Job.{Does, Given, Here, Self, State, with_state}
use Rattle.template_machine.specs.Moments.{IsAtOp}
use Rattle.template_machine.specs.Opening.{Opens}
use Rattle.template_machine.specs.Saying.{GoesAs, NamesAs, Puts, SeesAs, Steps}
use Rattle.template_machine.specs.Shifting.{with_more}
use Rattle.template_machine.specs.Steps.{one_less}
use Rattle.template_machine.specs.Still as still
use Rattle.template_machine.specs.Stepwise.{Flat_does, Outcome, Working, element_opens, opens_by, outcome_of, puts_aside, spent, stands_at, steps_of, tag_of, valued, with_said}
use Rattle.template_machine.specs.Values.{computed_name, got, namespace_text, setting, template_text}
use Rattle.template_machine.specs.declared.program.Program.{Program}
use Rattle.template_machine.specs.declared.putting.Putting.{Putting}
use Rattle.template_machine.specs.declared.run.Run.{Run}
use Rattle.template_machine.specs.declared.run.Running.{Running}
use Rattle.template_machine.specs.declared.stop.Stop.{Stop}
use Rattle.template_machine.specs.declared.stop.Stop.TheVariants as stop
use Rattle.template_machine.proofs.Closes.{puts_go}
use Rattle.template_machine.proofs.Aside.{aside_pushed, named_kept}
use Rattle.template_machine.proofs.Deciding.{all_rest, fuel_alone, none_left, stopped, unit_spent}
use Rattle.template_machine.proofs.Proceeding.{moves_on}
use Rattle.template_machine.proofs.Spelled.{out_is}
use Rattle.template_machine.proofs.Shifting.{leaves_on, left_so, left_with, own_aside, own_locals}

-- What makes no call, and then a verdict.

decided_said : (o : Said) (v : Outcome) (held failed : Working → Flat_does) → decided (with_said o v) held failed ≡ Say o (decided v held failed)
decided_said o (Holds os w) held failed = refl
decided_said o (Fails os w) held failed = refl
decided_said o (Stops os e) held failed = refl

decided_says : (said : List Said) (x : Does) (go : Here → Outcome) (held failed : Working → Flat_does)
    → decided (outcome_of (says said x) go) held failed ≡ says said (decided (outcome_of x go) held failed)
decided_says [] x go held failed = refl
decided_says (o ∷ said) x go held failed = decided_said o (outcome_of (says said x) go) held failed ∙ ap (Say o) (decided_says said x go held failed)

pub verdict_goes : {A : Type 0} (r : Result A Stop) (x : Does) (said : List Said) (b : Here) (go : Here → Outcome) (held failed : Working → Flat_does) → GoesAs r x said (Ret b)
    → GoesAs r (decided (outcome_of x go) held failed) said (decided (go b) held failed)
verdict_goes (Ok done) x said b go held failed e = ap (λ y. decided (outcome_of y go) held failed) e ∙ decided_says said (Ret b) go held failed
verdict_goes (Err (stop.Fault fault)) x said b go held failed e = ap (λ y. decided (outcome_of y go) held failed) e ∙ decided_says said (Halt (Faulted fault)) go held failed
verdict_goes (Err (stop.Spent at)) x said b go held failed e = ap (λ y. decided (outcome_of y go) held failed) e ∙ decided_says said (Halt (Spent at)) go held failed
verdict_goes (Err stop.Memory) x said b go held failed e =
    (decided (outcome_of e.0 go) held failed, ap (λ y. decided (outcome_of y go) held failed) e.1 ∙ decided_says said e.0 go held failed)

-- the fuel alone is another
pub fuel_and_put : (r s : Run) → s ≡ record r { fuel = s.fuel } → s ≡ record r { putting = s.putting; fuel = s.fuel }
fuel_and_put r s e = e ∙ sym (ap (λ (n : Run). record r { putting = n.putting; fuel = s.fuel }) e)

pub only_those : (r mid new : Run) (units : ℕ) → new ≡ record mid { frames = new.frames } → mid ≡ record r { putting = mid.putting; fuel = units }
    → new ≡ record r { frames = new.frames; store = new.store; putting = new.putting; fuel = new.fuel }
only_those r mid new units frames_alone puts_alone =
    let e = frames_alone ∙ ap (λ (m : Run). record m { frames = new.frames }) puts_alone in
    e ∙ sym (ap (λ (n : Run). record r { frames = new.frames; store = n.store; putting = n.putting; fuel = n.fuel }) e)

module _ {S : Type 0} (output : S → Target) (told : S → S → List Said → Type 0) (p : Program) where
  -- what an operation does that begins it
  pub opens_is : (given : Given) (n to pc : ℕ) (i : Instr) (w : Working) → slice_get (code_of given.sheet).instrs n ≡ Some i
      → still.operates given p (op.Open n to) pc w
      ≡ decided (spent (place (out-Instr i)) w.here (λ a. opens_by given (out-Instr i) w a)) (go_on (steps_of given) (pc + 1)) (go_on (steps_of given) to)
  opens_is given n to pc i w is =
      ap (λ o. option_map_or (λ x. decided (spent (place (out-Instr x)) w.here (λ a. opens_by given (out-Instr x) w a)) (go_on (steps_of given) (pc + 1)) (go_on (steps_of given) to)) o (go_on (steps_of given) (pc + 1) w)) is

  -- an instruction begins whose verdict sends the body to a place
  pub opens_on : {A : Type 0} (result : Result A Stop) (r mid new : Run) (running : Running) (n to dest units : ℕ) (i : Instr) (verdict : Working → Outcome) (out out_now : S)
      → IsAtOp p r running (op.Open n to) → slice_get p.code.instrs n ≡ Some i → one_less r.fuel ≡ Some units
      → Opens output told p (out-Instr i) verdict result (record r { fuel = units }) mid out out_now
      → ((given : Given) (w : Working) → decided (verdict w) (go_on (steps_of given) (running.pc + 1)) (go_on (steps_of given) to) ≡ go_on (steps_of given) dest w)
      → OnOk result (reverse new.frames.frames ≡ on_body (with_pc dest) (reverse r.frames.frames))
      → new ≡ record mid { frames = new.frames } → mid ≡ record r { putting = mid.putting; fuel = units } → Steps output told p result r new out out_now
  opens_on result r mid new running n to dest units i verdict out out_now at is less q leads behind frames_alone puts_alone = record {
    said = q.said;
    tells = q.tells;
    does = λ given of_sheet limit f.
        let left_now : Left = (output out_now).left in
        let rest : new ≡ record r { frames = new.frames; store = new.store; putting = new.putting; fuel = new.fuel } = only_those r mid new units frames_alone puts_alone in
        moves_on given p result r new running (op.Open n to) dest (output out).left left_now q.said at of_sheet behind rest
        (λ w sees here.
        let held : Working → Flat_does = go_on (steps_of given) (running.pc + 1) in
        let failed : Working → Flat_does = go_on (steps_of given) to in
        let a : Here = with_state w.here (record w.here.state { fuel = units }) in
        let code_is : slice_get (code_of given.sheet).instrs n ≡ Some i = ap (λ (code : Code). slice_get code.instrs n) (sym of_sheet.code_is) ∙ is in
        let so : still.operates given p (op.Open n to) running.pc w ≡ decided (opens_by given (out-Instr i) w a) held failed =
        opens_is given n to running.pc i w code_is
        ∙ ap (λ v. decided v held failed) (unit_spent (place (out-Instr i)) w.here units (λ a. opens_by given (out-Instr i) w a) (ap (λ (s : State). one_less s.fuel) here ∙ less)) in
        let now : still.state_of given p mid left_now ≡ still.state_of given p new left_now = sym (ap (λ (n : Run). still.state_of given p n left_now) frames_alone) in
        subst (λ y. GoesAs result y q.said (go_on (steps_of given) dest (stands_at w (with_state w.here (still.state_of given p new left_now))))) (sym so)
        (subst (λ (s : State). GoesAs result (decided (opens_by given (out-Instr i) w a) held failed) q.said (go_on (steps_of given) dest (stands_at w (with_state w.here s)))) now
        (subst (λ y. GoesAs result (decided (opens_by given (out-Instr i) w a) held failed) q.said y) (leads given (stands_at w (with_state w.here (still.state_of given p mid left_now))))
        (q.does given limit w a (record { way = sees.way; alike = sees.alike; is = sees.is }) (ap (λ (s : State). record s { fuel = units }) here) held failed))))
        f;
  }

-- A name that is computed, where a verdict follows.
module _ (given : Given) (at : Place) (name : Avt) (namespace : Option Avt) (scope : List Binding) (self : Self) (a : Here) where
  abbrev named_verdict : (Option Name → Outcome) → Outcome
  named_verdict go =
      valued at (template_text name (setting given self a)) (λ text.
      valued at (namespace_text namespace (setting given self a)) (λ uri.
      go (computed_name true scope uri text)))

  -- a name as it may be told by what is left
  abbrev with_name : Name → Here
  with_name n = record a { locals = bound n [] ∷ [] }

  abbrev by_name : (Option Name → Outcome) → Here → Outcome
  by_name go b = elim b.locals [ [] ↦ go None | (x ∷ xs) ↦ go (Some x.name) ]

  named_so : (go : Option Name → Outcome) → go None ≡ Stops [] (fault_at run_code.BadName at)
      → named_verdict go ≡ outcome_of (named given at true name namespace scope self a (λ n. Ret (with_name n))) (by_name go)
  named_so go none = by (template_text name (setting given self a)) (namespace_text namespace (setting given self a))
    where
      made : (m : Option Name) → go m ≡ outcome_of (elim m [ None ↦ Halt (fault_at run_code.BadName at) | Some n ↦ Ret (with_name n) ]) (by_name go)
      made None = none
      made (Some n) = refl

      by : (t : Result (List ℕ) EvalFault) (u : Result (Option (List ℕ)) EvalFault) → valued at t (λ text. valued at u (λ uri. go (computed_name true scope uri text)))
          ≡ outcome_of (got at t (λ text. got at u (λ uri. elim (computed_name true scope uri text) [ None ↦ Halt (fault_at run_code.BadName at) | Some n ↦ Ret (with_name n) ]))) (by_name go)
      by (Ok text) (Ok uri) = made (computed_name true scope uri text)
      by (Ok text) (Err fault) = refl
      by (Err fault) u = refl

  pub named_one : (p : Program) (r : Run) (n : Name) (go : Option Name → Outcome) → go None ≡ Stops [] (fault_at run_code.BadName at) → NamesAs at name namespace scope p r (Ok n)
      → SeesAs given p r self a → named_verdict go ≡ go (Some n)
  named_one p r n go none names sees = named_so go none ∙ ap (λ x. outcome_of x (by_name go)) (names given self a sees (λ n. Ret (with_name n)))

  pub named_none : (A : Type 0) (p : Program) (r : Run) (e : Stop) (go : Option Name → Outcome) (held failed : Working → Flat_does) (y : Flat_does) → go None ≡ Stops [] (fault_at run_code.BadName at)
      → NamesAs at name namespace scope p r (Err e) → SeesAs given p r self a → GoesAs {A = A} (Err e) (decided (named_verdict go) held failed) [] y
  named_none A p r (stop.Fault fault) go held failed y none names sees =
      ap (λ v. decided v held failed) (named_so go none ∙ ap (λ x. outcome_of x (by_name go)) (names given self a sees (λ n. Ret (with_name n))))
  named_none A p r (stop.Spent where_now) go held failed y none names sees =
      ap (λ v. decided v held failed) (named_so go none ∙ ap (λ x. outcome_of x (by_name go)) (names given self a sees (λ n. Ret (with_name n))))
  named_none A p r stop.Memory go held failed y none names sees = (decided (named_verdict go) held failed, refl)

module _ {S : Type 0} (output : S → Target) (told : S → S → List Said → Type 0) (p : Program) where
  abbrev element_at : Avt → Option Avt → List Binding → List Instr → Place → Instr-F Instr When
  element_at name namespace scope body at = Instr-F.Element name namespace scope body at

  -- an element whose name is computed stops before it has put anything
  pub element_stops : (A : Type 0) → ((s : S) → told s s []) → (name : Avt) (namespace : Option Avt) (scope : List Binding) (body : List Instr) (at : Place) (verdict : Working → Outcome) (e : Stop) (old : Run) (out : S)
      → NamesAs at name namespace scope p old (Err e) → Opens {A = A} output told p (element_at name namespace scope body at) verdict (Err e) old old out out
  element_stops A nothing name namespace scope body at verdict e old out names = record {
    said = [];
    tells = nothing out;
    does = λ given limit w a sees here held failed. named_none given at name namespace scope w.self a A p old e (λ o. element_opens given at o w a) held failed _ refl names sees;
  }

  -- or begins
  pub element_opens_so : {A : Type 0} (name : Avt) (namespace : Option Avt) (scope : List Binding) (body : List Instr) (at : Place) (n : Name) (r : Result A Stop) (old : Run) (now : Putting) (out out_now : S)
      → NamesAs at name namespace scope p old (Ok n) → Puts output told at (part.Start n [] ∷ []) r old.putting now out out_now
      → Opens output told p (element_at name namespace scope body at) (λ w. Holds [] (puts_aside (tag_of n) w)) r old (record old { putting = now }) out out_now
  element_opens_so name namespace scope body at n r old now out out_now names q = record {
    said = q.said;
    tells = q.tells;
    does = λ given limit w a sees here held failed.
        let new : Run = record old { putting = now } in
        let b : Here = with_state a (still.state_of given p new (output out_now).left) in
        let go : Here → Outcome = λ b. Holds [] (puts_aside (tag_of n) (stands_at w b)) in
        subst (λ v. GoesAs r (decided v held failed) q.said (decided (go b) held failed)) (sym (named_one given at name namespace scope w.self a p old n (λ o. element_opens given at o w a) refl names sees))
        (verdict_goes r (put_parts given at (part.Start n [] ∷ []) a) q.said b go held failed (puts_go output told p given at (part.Start n [] ∷ []) r old new out out_now a limit refl q here));
  }

  -- the body goes on with the name aside
  pub element_on : {A : Type 0} (result : Result A Stop) (r mid new : Run) (running : Running) (n to units : ℕ) (i : Instr) (tag : List Atom) (waiting : Local) (out out_now : S)
      → IsAtOp p r running (op.Open n to) → slice_get p.code.instrs n ≡ Some i → one_less r.fuel ≡ Some units → waiting.name.local ≡ [] → waiting.value ≡ tag
      → Opens output told p (out-Instr i) (λ w. Holds [] (puts_aside tag w)) result (record r { fuel = units }) mid out out_now
      → OnOk result (reverse new.frames.frames ≡ on_body (with_more waiting (running.pc + 1)) (reverse r.frames.frames))
      → new ≡ record mid { frames = new.frames } → mid ≡ record r { putting = mid.putting; fuel = units } → Steps output told p result r new out out_now
  element_on result r mid new running n to units i tag waiting out out_now at is less nameless value q behind frames_alone puts_alone = record {
    said = q.said;
    tells = q.tells;
    does = λ given of_sheet limit f.
        let left_now : Left = (output out_now).left in
        let more : List Local → List Local = λ ls. ls ++ waiting ∷ [] in
        let rest : new ≡ record r { frames = new.frames; store = new.store; putting = new.putting; fuel = new.fuel } = only_those r mid new units frames_alone puts_alone in
        leaves_on given p more result r new running (op.Open n to) (running.pc + 1) (output out).left left_now q.said at of_sheet behind rest
        (λ w st sees here.
        let held : Working → Flat_does = go_on (steps_of given) (running.pc + 1) in
        let failed : Working → Flat_does = go_on (steps_of given) to in
        let a : Here = with_state w.here (record w.here.state { fuel = units }) in
        let own : List Local = locals_of st.body in
        let now : State = still.state_of given p new left_now in
        let code_is : slice_get (code_of given.sheet).instrs n ≡ Some i = ap (λ (code : Code). slice_get code.instrs n) (sym of_sheet.code_is) ∙ is in
        let so : still.operates given p (op.Open n to) running.pc w ≡ decided (opens_by given (out-Instr i) w a) held failed =
        opens_is output told p given n to running.pc i w code_is
        ∙ ap (λ v. decided v held failed) (unit_spent (place (out-Instr i)) w.here units (λ a. opens_by given (out-Instr i) w a) (ap (λ (s : State). one_less s.fuel) here ∙ less)) in
        let same : still.state_of given p mid left_now ≡ now = sym (ap (λ (n : Run). still.state_of given p n left_now) frames_alone) in
        let left : held (puts_aside tag (stands_at w (with_state w.here (still.state_of given p mid left_now)))) ≡ held (left_with w (more own) w.turns now) =
        left_so given (running.pc + 1) w (more own) w.here.locals (tag ∷ w.aside) w.turns w.turns (still.state_of given p mid left_now) now
        (own_locals given p r w st ∙ sym (named_kept own waiting nameless))
        (ap (λ v. v ∷ w.aside) (sym value) ∙ ap (λ l. waiting.value ∷ l) (own_aside given p r w st) ∙ sym (aside_pushed own waiting nameless)) refl same in
        subst (λ y. GoesAs result y q.said (held (left_with w (more own) w.turns now))) (sym so)
        (subst (λ y. GoesAs result (decided (opens_by given (out-Instr i) w a) held failed) q.said y) left
        (q.does given limit w a (record { way = sees.way; alike = sees.alike; is = sees.is }) (ap (λ (s : State). record s { fuel = units }) here) held failed)))
        f;
  }

  -- no unit is left for it
  pub round_spent : {A : Type 0} → ((s : S) → told s s []) → (stop_is : Stop) (r new : Run) (running : Running) (n to : ℕ) (i : Instr) (at_place : Place) (out : S) → IsAtOp p r running (op.Open n to)
      → slice_get p.code.instrs n ≡ Some i → at_place ≡ place (out-Instr i) → stop_is ≡ stop.Spent at_place → r.fuel ≡ 0 → new ≡ record r { fuel = new.fuel }
      → Steps {A = A} output told p (Err stop_is) r new out out
  round_spent {A} nothing stop_is r new running n to i at_place out at is here spent_so none rest =
      subst (λ x. Steps {A = A} output told p (Err x) r new out out) (sym (spent_so ∙ ap (λ x. stop.Spent x) here)) (record {
        said = [];
        tells = nothing out;
        does = λ given of_sheet limit f.
            let left : Left = (output out).left in
            let held : Working → Flat_does = go_on (steps_of given) (running.pc + 1) in
            let failed : Working → Flat_does = go_on (steps_of given) to in
            moves_on given p (stopped A (stop.Spent (place (out-Instr i)))) r new running (op.Open n to) to left left [] at of_sheet tt (all_rest r new new.fuel (fuel_alone r new rest))
            (λ w sees q.
            opens_is output told p given n to running.pc i w (ap (λ (code : Code). slice_get code.instrs n) (sym of_sheet.code_is) ∙ is)
            ∙ ap (λ v. decided v held failed) (none_left (place (out-Instr i)) w.here (λ a. opens_by given (out-Instr i) w a) (ap (λ (s : State). s.fuel) q ∙ none)))
            f;
      })

  -- by the instruction that is found
  pub opens_for : {A : Type 0} (i : Instr) (name : Avt) (namespace : Option Avt) (scope : List Binding) (body : List Instr) (at where_now : Place) (verdict : Working → Outcome) (result : Result A Stop) (r s old mid : Run) (out out_now : S)
      → i ≡ instr.Element name namespace scope body at → where_now ≡ place (out-Instr i) → s ≡ r → mid ≡ old
      → Opens output told p (element_at name namespace scope body where_now) verdict result s old out out_now → Opens output told p (out-Instr i) verdict result r mid out out_now
  opens_for i name namespace scope body at where_now verdict result r s old mid out out_now is here before behind q =
      let same : out-Instr i ≡ Instr-F.Element name namespace scope body at = out_is i _ (Instr-F.Element name namespace scope body at) (rolls-Element name namespace scope body at) is in
      subst (λ n. Opens output told p (out-Instr i) verdict result r n out out_now) (sym behind)
      (subst (λ n. Opens output told p (out-Instr i) verdict result n old out out_now) before
      (subst (λ x. Opens output told p x verdict result s old out out_now) (sym same)
      (subst (λ k. Opens output told p (element_at name namespace scope body k) verdict result s old out out_now) (here ∙ ap place same) q)))

  -- memory is wanted once it has begun
  pub opens_memory : (A : Type 0) {B : Type 0} (x : Instr-F Instr When) (verdict : Working → Outcome) (done : B) (old mid : Run) (out out_now : S) → Opens output told p x verdict (Ok done) old mid out out_now
      → Opens {A = A} output told p x verdict (Err stop.Memory) old mid out out_now
  opens_memory A x verdict done old mid out out_now q = record {
    said = q.said;
    tells = q.tells;
    does = λ given limit w a sees here held failed.
        (decided (verdict (stands_at w (with_state a (still.state_of given p mid (output out_now).left)))) held failed, q.does given limit w a sees here held failed);
  }
