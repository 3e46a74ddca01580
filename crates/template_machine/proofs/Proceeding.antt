-- Operations of a body's code, by what is done of their instructions.
use Rattle.std.proofs.Common.{◌≡◌, ℕ, zero, suc, ◌+◌, Bool, true, false, not, ◌||◌, List, [], ◌∷◌, Some, None, Result, Ok, Err, reverse, refl, ap, sym, subst, ◌∙◌}
use Rattle.std.specs.Prelude.{OnOk, if◌then◌else◌, slice_get, unwrap_or}
use Rattle.std.specs.Option.{option_map_or}
use Rattle.stx_base.specs.Course.{Ask, Halt, Ret, Same, Say, and_then, says}
use Rattle.stx_base.proofs.Course.{and_then_says, same_equal, same_then, unfolds}
use Rattle.stx_base.specs.declared.fault.Place.{Place}
use Rattle.frame_stack.specs.Change.{locals_of, with_locals, with_pc}
use Rattle.frame_stack.specs.Stack.{FrameStack}
use Rattle.frame_stack.specs.declared.frame.Frame.{Frame}
use Rattle.frame_stack.specs.declared.frame.Frame.TheVariants.{Body, Call, Loop}
use Rattle.frame_stack.specs.declared.locals.Local.{Local}
use Rattle.instr_code.specs.Code.{code_of}
use Rattle.instr_code.specs.Running.{At, as_flat, go_on, start_of}
use Rattle.instr_code.specs.Steps.{renamed}
use Rattle.instr_code.specs.declared.code.Code.{Code}
use Rattle.instr_code.specs.declared.code.Op.{Op}
use Rattle.instr_code.specs.declared.code.Op.TheVariants as op
use Rattle.node_stack.specs.Path.{Node, PathNode, is_attribute}
use Rattle.result_writer.specs.Target.{Left, Target}
use Rattle.sheet_model.specs.Parts.{place}
use Rattle.sheet_model.specs.declared.instr.Instr.{Instr}
use Rattle.sheet_model.specs.declared.instr.Instr.TheViews.{out-Instr}
use Rattle.var_store.specs.Copies.{Stored}
use Rattle.xml_events.specs.Document.{inner, outer}
use Rattle.xml_events.specs.Tree.{Future}
use Rattle.template_machine.specs.Acting.{act}
use Rattle.template_machine.specs.Bodies.{on_body, pc_in, pc_of, spent_in}
use Rattle.template_machine.specs.Ending.{Faulted, Said, Spent}
use Rattle.template_machine.specs.Fuel.{spend}
use Rattle.template_machine.specs.Job.{Does, Given, Here, State, single, with_state}
use Rattle.template_machine.specs.Lists.{rest_of}
use Rattle.template_machine.specs.Moments.{IsAtOp}
use Rattle.template_machine.specs.Programs.{IsProgramOf}
use Rattle.template_machine.specs.Saying.{Acts, GivesText, GoesAs, Passes, Proceeds, SeesAs, Steps}
use Rattle.template_machine.specs.Steps.{one_less}
use Rattle.template_machine.specs.Still as still
use Rattle.template_machine.specs.Still.{Runs, Scene, below_loops, first_node}
use Rattle.template_machine.specs.Stepwise.{Flat_does, Working, by_given, flat_code, stands_at, steps_of}
use Rattle.template_machine.specs.Well.{is_again}
use Rattle.template_machine.specs.declared.program.Program.{Program}
use Rattle.template_machine.specs.declared.putting.Putting.{Putting}
use Rattle.template_machine.specs.declared.run.Doing.{Doing}
use Rattle.template_machine.specs.declared.run.Doing.TheVariants as doing
use Rattle.template_machine.specs.declared.run.Run.{Run}
use Rattle.template_machine.specs.declared.run.Running.{Running}
use Rattle.template_machine.specs.declared.source.Ahead.{Ahead}
use Rattle.template_machine.specs.declared.stop.Stop.{Stop}
use Rattle.template_machine.specs.declared.stop.Stop.TheVariants as stop
use Rattle.template_machine.proofs.Sighting.{sees_as}
use Rattle.template_machine.proofs.Stilled.{loops_rest, operations_go_on}

module _ (given : Given) (p : Program) where
  -- Where a run stops at an operation, all that follows it doesn't matter.
  module _ (X : Flat_does → Type 0) (each : (x y : Flat_does) → Same (flat_code given) x y → X y → X x) where
    at_stop : (o : Op) (pc : ℕ) (w : Working) (k : Working → Flat_does) → slice_get (code_of given.sheet).ops pc ≡ Some o
        → ((h : Working → Flat_does) → X (and_then (still.operates given p o pc w) h)) → X (Ask (At pc w) k)
    at_stop o pc w k is stops =
        each (Ask (At pc w) k) (and_then (still.operates given p o pc w) k)
        (unfolds (flat_code given) (At pc w) k (ap (λ x. and_then (option_map_or (λ y. still.operates given p y pc w) x (Ret w)) k) is)) (stops k)

    rest_stops : (b : Frame) (fs : List Frame) (pc : ℕ) (o : Op) (turns : List ℕ) (c : Scene) (f : Future) (a : Here) → pc_of b ≡ Some pc
        → slice_get (code_of given.sheet).ops pc ≡ Some o
        → ((h : Working → Flat_does) → X (and_then (still.operates given p o pc (still.working_in given p turns b fs c a)) h))
        → X (still.rest given p Runs turns (b ∷ fs) c f a)
    rest_stops (Body template alternative q own level spent) fs pc o turns c f a at is stops =
        let same : pc ≡ q = cc in
        let w = still.working_in given p turns (Body template alternative q own level spent) fs c a in
        let k : Here → Flat_does =
        still.template_over given p template (is_again level fs) c (still.rest given p still.Returns [] fs c f) (still.rest given p still.Lists [] fs (still.node_over c) f) in
        at_stop o q w (λ (u : Working). k u.here) (ap (slice_get (code_of given.sheet).ops) (sym same) ∙ is)
        (subst (λ n. (h : Working → Flat_does) → X (and_then (still.operates given p o n w) h)) same stops)
    rest_stops (Call procedure q own level) fs pc o turns c f a at is stops =
        let same : pc ≡ q = cc in
        let w = still.working_in given p turns (Call procedure q own level) fs c a in
        at_stop o q w (λ (u : Working). still.rest given p Runs [] fs c f u.here) (ap (slice_get (code_of given.sheet).ops) (sym same) ∙ is)
        (subst (λ n. (h : Working → Flat_does) → X (and_then (still.operates given p o n w) h)) same stops)
    rest_stops b fs pc o turns c f a at is stops = absurd (cc)

    goes_stops : (spent : Bool) (n : Node) (above : List PathNode) (f : Future) (k : Future → Here → Flat_does) (st : State)
        → ((g : Future) (a : Here) → a.state ≡ st → X (k g a)) → X (still.goes_on_at given p spent n above f k st)
    goes_stops spent n above f k st e = by (is_attribute (Some n)) (spent || not (still.has_kids n))
      where
        by : (alone b : Bool)
            → X (if alone then k f (single st) else if b then k (outer f) (record { kids = None; left = record { earlier = still.counts_of above; coming = inner f }; locals = []; state = st })
            else k (outer (outer f)) (record { kids = Some (inner f); left = record { earlier = still.counts_of above; coming = inner (outer f) }; locals = []; state = st }))
        by true b = e f (single st) refl
        by false true = e (outer f) (record { kids = None; left = record { earlier = still.counts_of above; coming = inner f }; locals = []; state = st }) refl
        by false false = e (outer (outer f)) (record { kids = Some (inner f); left = record { earlier = still.counts_of above; coming = inner (outer f) }; locals = []; state = st }) refl

    doing_stops : (d : Doing) (h : Ahead) (r : Run) (b : Frame) (fs : List Frame) (pc : ℕ) (o : Op) (turns : List ℕ) (left : Left) → d ≡ doing.Body → pc_of b ≡ Some pc
        → slice_get (code_of given.sheet).ops pc ≡ Some o
        → ((a : Here) → a.state ≡ still.state_of given p r left → (k : Working → Flat_does)
        → X (and_then (still.operates given p o pc (still.working_in given p turns b fs (still.scene_by given p h r) a)) k))
        → (f : Future) → X (still.doing_now given p d h (below_loops turns (b ∷ fs)) r left f)
    doing_stops doing.Body h r b fs pc o turns left doing_is at is stops f =
        let c = still.scene_by given p h r in
        goes_stops (unwrap_or (spent_in (below_loops turns (b ∷ fs))) true) (first_node c.nodes) (rest_of c.nodes) (still.lists_ahead given p h r f)
        (λ g. still.rest given p Runs [] (below_loops turns (b ∷ fs)) c g) (still.state_of given p r left)
        (λ g a q.
        subst X (sym (loops_rest given p turns [] (b ∷ fs) c g a)) (rest_stops b fs pc o turns c g a at is (stops a q)))
    doing_stops doing.List h r b fs pc o turns left doing_is at is stops f = absurd (cc)

    pub run_stops : (r : Run) (b : Frame) (fs : List Frame) (pc : ℕ) (o : Op) (turns : List ℕ) (left : Left) → r.doing ≡ doing.Body
        → reverse r.frames.frames ≡ below_loops turns (b ∷ fs) → pc_of b ≡ Some pc → slice_get (code_of given.sheet).ops pc ≡ Some o
        → ((a : Here) → a.state ≡ still.state_of given p r left → (k : Working → Flat_does)
        → X (and_then (still.operates given p o pc (still.working_in given p turns b fs (still.scene_by given p r.source.ahead r) a)) k))
        → (f : Future) → X (still.still given p r left f)
    run_stops r b fs pc o turns left doing_is before at is stops f =
        subst (λ l. X (still.doing_now given p r.doing r.source.ahead l r left f)) (sym before)
        (doing_stops r.doing r.source.ahead r b fs pc o turns left doing_is at is stops f)

  -- what a run does of a body's operation, it does
  module _ (r : Run) (frames : FrameStack) (store : Stored) (putting : Putting) (units : ℕ) (b : Frame) (fs : List Frame) (pc to : ℕ) (o : Op) (locals : List Local) (turns turns_now : List ℕ) (left left_now : Left) (said : List Said) where
    abbrev pub later : Run
    later = record r { frames = frames; store = store; putting = putting; fuel = units }

    abbrev pub moved : Frame
    moved = with_locals (λ l. locals) (with_pc to b)

    abbrev pub scene : Scene
    scene = still.scene_by given p r.source.ahead r

    pub operation_proceeds : {A : Type 0} (result : Result A Stop) → r.doing ≡ doing.Body → reverse r.frames.frames ≡ below_loops turns (b ∷ fs)
        → OnOk result (reverse frames.frames ≡ below_loops turns_now (moved ∷ fs)) → pc_of b ≡ Some pc → slice_get (code_of given.sheet).ops pc ≡ Some o
        → ((a : Here) → a.state ≡ still.state_of given p r left
        → GoesAs result (still.operates given p o pc (still.working_in given p turns b fs scene a)) said
        (go_on (steps_of given) to (still.working_in given p turns_now moved fs scene (record a { state = still.state_of given p later left_now }))))
        → (f : Future) → Proceeds given p result (still.still given p r left f) said (still.still given p later left_now f)
    operation_proceeds (Ok done) doing_is before behind at is does f =
        (operations_go_on given p r frames store putting units b fs pc to o locals turns turns_now left left_now [] said doing_is before behind at is does).law f
    operation_proceeds (Err (stop.Fault fault)) doing_is before behind at is does f =
        run_stops (λ x. Same (flat_code given) x (says said (Halt (Faulted fault)))) (λ x y s t. same_then s t) r b fs pc o turns left doing_is before at is
        (λ a q k. same_equal (flat_code given) (ap (λ x. and_then x k) (does a q) ∙ and_then_says said (Halt (Faulted fault)) k)) f
    operation_proceeds (Err (stop.Spent where_now)) doing_is before behind at is does f =
        run_stops (λ x. Same (flat_code given) x (says said (Halt (Spent where_now)))) (λ x y s t. same_then s t) r b fs pc o turns left doing_is before at is
        (λ a q k. same_equal (flat_code given) (ap (λ x. and_then x k) (does a q) ∙ and_then_says said (Halt (Spent where_now)) k)) f
    operation_proceeds (Err stop.Memory) doing_is before behind at is does f =
        run_stops (λ x. (y : Flat_does) × Same (flat_code given) x (says said y)) (λ x y s t. (t.0, same_then s t.1)) r b fs pc o turns left doing_is before at is
        (λ a q k. (and_then (does a q).0 k, same_equal (flat_code given) (ap (λ x. and_then x k) (does a q).1 ∙ and_then_says said (does a q).0 k))) f

-- The innermost body, below its loops.

pub found_body : (fs : List Frame) (pc : ℕ) → pc_in fs ≡ Some pc
    → (turns : List ℕ) × ((b : Frame) × ((gs : List Frame) × ((fs ≡ below_loops turns (b ∷ gs)) × (pc_of b ≡ Some pc))))
found_body [] pc at = absurd (cc)
found_body (Loop turn ∷ fs) pc at =
    let x = found_body fs pc at in (turn ∷ x.0, (x.1.0, (x.1.1.0, (ap (λ l. Loop turn ∷ l) x.1.1.1.0, x.1.1.1.1))))
found_body (Body template alternative q own level spent ∷ fs) pc at = ([], (Body template alternative q own level spent, (fs, (refl, at))))
found_body (Call procedure q own level ∷ fs) pc at = ([], (Call procedure q own level, (fs, (refl, at))))
found_body (x ∷ fs) pc at = absurd (cc)

pub below : (change : Frame → Frame) (turns : List ℕ) (b : Frame) (fs : List Frame) (pc : ℕ) → pc_of b ≡ Some pc
    → on_body change (below_loops turns (b ∷ fs)) ≡ below_loops turns (change b ∷ fs)
below change [] (Body template alternative q own level spent) fs pc at = refl
below change [] (Call procedure q own level) fs pc at = refl
below change [] b fs pc at = absurd (cc)
below change (n ∷ turns) b fs pc at = ap (λ l. Loop n ∷ l) (below change turns b fs pc at)

same_locals : (to : ℕ) (b : Frame) (pc : ℕ) → pc_of b ≡ Some pc → with_pc to b ≡ with_locals (λ l. locals_of b) (with_pc to b)
same_locals to (Body template alternative q own level spent) pc at = refl
same_locals to (Call procedure q own level) pc at = refl
same_locals to b pc at = absurd (cc)

-- An instruction in a row.

module _ (given : Given) (p : Program) where
  -- a body that is at another place with the same locals
  stays_in : (turns : List ℕ) (b : Frame) (fs : List Frame) (c : Scene) (a : Here) (pc to : ℕ) (now : State) → pc_of b ≡ Some pc
      → stands_at (still.working_in given p turns b fs c a) (with_state (still.working_in given p turns b fs c a).here now)
      ≡ still.working_in given p turns (with_locals (λ l. locals_of b) (with_pc to b)) fs c (record a { state = now })
  stays_in turns (Body template alternative q own level spent) fs c a pc to now at = refl
  stays_in turns (Call procedure q own level) fs c a pc to now at = refl
  stays_in turns b fs c a pc to now at = absurd (cc)

  -- what is done in a body's code, and then what follows
  abbrev pub done_in : Working → Does → (Working → Flat_does) → Flat_does
  done_in w x k = and_then (renamed (as_flat (steps_of given) (start_of (steps_of given) given.sheet)) (by_given w x)) k

  says_in : (w : Working) (said : List Said) (x : Does) (k : Working → Flat_does) → done_in w (says said x) k ≡ says said (done_in w x k)
  says_in w [] x k = refl
  says_in w (o ∷ said) x k = ap (Say o) (says_in w said x k)

  pub goes_in : {A : Type 0} (r : Result A Stop) (w : Working) (x : Does) (said : List Said) (a : Here) (k : Working → Flat_does) → GoesAs r x said (Ret a)
      → GoesAs r (done_in w x k) said (k (stands_at w a))
  goes_in (Ok done) w x said a k e = ap (λ y. done_in w y k) e ∙ says_in w said (Ret a) k
  goes_in (Err (stop.Fault fault)) w x said a k e = ap (λ y. done_in w y k) e ∙ says_in w said (Halt (Faulted fault)) k
  goes_in (Err (stop.Spent at)) w x said a k e = ap (λ y. done_in w y k) e ∙ says_in w said (Halt (Spent at)) k
  goes_in (Err stop.Memory) w x said a k e = (done_in w e.0 k, ap (λ y. done_in w y k) e.1 ∙ says_in w said e.0 k)

  -- a unit is spent
  pub unit_spent : (at : Place) (st : State) (units : ℕ) (go : State → Does) → one_less st.fuel ≡ Some units → spend at st go ≡ go (record st { fuel = units })
  unit_spent at st units go less = by st.fuel less
    where
      by : (n : ℕ) → one_less n ≡ Some units → elim n [ zero ↦ Halt (Spent at) | suc m ↦ go (record st { fuel = m }) ] ≡ go (record st { fuel = units })
      by zero less = absurd (cc)
      by (suc m) less = let same : m ≡ units = cc in ap (λ k. go (record st { fuel = k })) same

  pub none_left : (at : Place) (st : State) (go : State → Does) → st.fuel ≡ 0 → spend at st go ≡ Halt (Spent at)
  none_left at st go none = ap (λ (n : ℕ). elim n [ zero ↦ Halt (Spent at) | suc m ↦ go (record st { fuel = m }) ]) none

  do_goes : {A : Type 0} (r : Result A Stop) (n pc units : ℕ) (i : Instr) (w : Working) (said : List Said) (now : State) → slice_get (code_of given.sheet).instrs n ≡ Some i
      → one_less w.here.state.fuel ≡ Some units
      → GoesAs r (act given i w.self (with_state w.here (record w.here.state { fuel = units }))) said (Ret (with_state w.here now))
      → GoesAs r (still.operates given p (op.Do n) pc w) said (go_on (steps_of given) (pc + 1) (stands_at w (with_state w.here now)))
  do_goes r n pc units i w said now is less does =
      let k : Working → Flat_does = go_on (steps_of given) (pc + 1) in
      let go : State → Does = λ st. act given i w.self (with_state w.here st) in
      let single : still.operates given p (op.Do n) pc w ≡ done_in w (spend (place (out-Instr i)) w.here.state go) k =
      ap (λ o. option_map_or (λ x. done_in w (spend (place (out-Instr x)) w.here.state (λ st. act given x w.self (with_state w.here st))) k) o (k w)) is in
      let unit : done_in w (spend (place (out-Instr i)) w.here.state go) k ≡ done_in w (go (record w.here.state { fuel = units })) k =
      ap (λ x. done_in w x k) (unit_spent (place (out-Instr i)) w.here.state units go less) in
      subst (λ x. GoesAs r x said (k (stands_at w (with_state w.here now)))) (sym (single ∙ unit))
      (goes_in r w (go (record w.here.state { fuel = units })) said (with_state w.here now) k does)

  do_spent : (n pc : ℕ) (i : Instr) (w : Working) → slice_get (code_of given.sheet).instrs n ≡ Some i → w.here.state.fuel ≡ 0
      → still.operates given p (op.Do n) pc w ≡ Halt (Spent (place (out-Instr i)))
  do_spent n pc i w is none =
      let k : Working → Flat_does = go_on (steps_of given) (pc + 1) in
      ap (λ o. option_map_or (λ x. done_in w (spend (place (out-Instr x)) w.here.state (λ st. act given x w.self (with_state w.here st))) k) o (k w)) is
      ∙ ap (λ x. done_in w x k) (none_left (place (out-Instr i)) w.here.state (λ st. act given i w.self (with_state w.here st)) none)

some_same : {A : Type 0} {x y : A} → Some x ≡ Some y → x ≡ y
some_same e = cc

pub on_ok_by : {A B P Q : Type 0} (y : Result A B) → OnOk y P → (P → Q) → OnOk y Q
on_ok_by (Ok done) h go = go h
on_ok_by (Err e) h go = tt

module _ (given : Given) (p : Program) where
  -- the same with other loops
  turns_in : (turns_of : List ℕ → List ℕ) (turns : List ℕ) (b : Frame) (fs : List Frame) (c : Scene) (a : Here) (pc to : ℕ) (now : State) → pc_of b ≡ Some pc
      → (record (stands_at (still.working_in given p turns b fs c a) (with_state (still.working_in given p turns b fs c a).here now)) { turns = turns_of turns })
      ≡ still.working_in given p (turns_of turns) (with_locals (λ l. locals_of b) (with_pc to b)) fs c (record a { state = now })
  turns_in turns_of turns (Body template alternative q own level spent) fs c a pc to now at = refl
  turns_in turns_of turns (Call procedure q own level) fs c a pc to now at = refl
  turns_in turns_of turns b fs c a pc to now at = absurd (cc)

  -- a body that goes on at another place, with the locals that it had and with other loops
  pub moves_with : {A : Type 0} (turns_of : List ℕ → List ℕ) (result : Result A Stop) (r new : Run) (running : Running) (o : Op) (to : ℕ) (left left_now : Left) (said : List Said) → IsAtOp p r running o
      → IsProgramOf given.sheet given.limits p
      → ((turns : List ℕ) (b : Frame) (fs : List Frame) → reverse r.frames.frames ≡ below_loops turns (b ∷ fs) → pc_of b ≡ Some running.pc
      → OnOk result (reverse new.frames.frames ≡ below_loops (turns_of turns) (with_pc to b ∷ fs)))
      → new ≡ record r { frames = new.frames; store = new.store; putting = new.putting; fuel = new.fuel }
      → ((w : Working) → SeesAs given p r w.self w.here → w.here.state ≡ still.state_of given p r left
      → GoesAs result (still.operates given p o running.pc w) said
      (go_on (steps_of given) to (record (stands_at w (with_state w.here (still.state_of given p new left_now))) { turns = turns_of w.turns })))
      → (f : Future) → Proceeds given p result (still.still given p r left f) said (still.still given p new left_now f)
  moves_with turns_of result r new running o to left left_now said at of_sheet frames rest does f =
      let pc = running.pc in
      let x = found_body (reverse r.frames.frames) pc at.pc in
      let turns : List ℕ = x.0 in
      let b : Frame = x.1.0 in
      let fs : List Frame = x.1.1.0 in
      let at_pc : pc_of b ≡ Some pc = x.1.1.1.1 in
      let c : Scene = still.scene_by given p r.source.ahead r in
      let moved_frame : Frame = with_locals (λ l. locals_of b) (with_pc to b) in
      let op_is : slice_get (code_of given.sheet).ops pc ≡ Some o = ap (λ (code : Code). slice_get code.ops pc) (sym of_sheet.code_is) ∙ at.is in
      let frames_are : OnOk result (reverse new.frames.frames ≡ below_loops (turns_of turns) (moved_frame ∷ fs)) =
      on_ok_by result (frames turns b fs x.1.1.1.0 at_pc) (λ e. e ∙ ap (λ y. below_loops (turns_of turns) (y ∷ fs)) (same_locals to b pc at_pc)) in
      subst (λ (s : Run). Proceeds given p result (still.still given p r left f) said (still.still given p s left_now f)) (sym rest)
      (operation_proceeds given p r new.frames new.store new.putting new.fuel b fs pc to o (locals_of b) turns (turns_of turns) left left_now said result at.doing
      x.1.1.1.0 frames_are at_pc op_is
      (λ a q.
      let w : Working = still.working_in given p turns b fs c a in
      let now : State = still.state_of given p new left_now in
      subst (λ (s : Run). GoesAs result (still.operates given p o pc w) said
      (go_on (steps_of given) to (still.working_in given p (turns_of turns) moved_frame fs c (record a { state = still.state_of given p s left_now })))) rest
      (subst (λ (v : Working). GoesAs result (still.operates given p o pc w) said (go_on (steps_of given) to v)) (turns_in turns_of turns b fs c a pc to now at_pc)
      (does w (sees_as given p r running o at of_sheet turns b fs pc x.1.1.1.0 at_pc a (ap (λ (s : State). s.variables) q)) q)))
      f)

  -- and with the loops that it had
  pub moves_on : {A : Type 0} (result : Result A Stop) (r new : Run) (running : Running) (o : Op) (to : ℕ) (left left_now : Left) (said : List Said) → IsAtOp p r running o
      → IsProgramOf given.sheet given.limits p → OnOk result (reverse new.frames.frames ≡ on_body (with_pc to) (reverse r.frames.frames))
      → new ≡ record r { frames = new.frames; store = new.store; putting = new.putting; fuel = new.fuel }
      → ((w : Working) → SeesAs given p r w.self w.here → w.here.state ≡ still.state_of given p r left
      → GoesAs result (still.operates given p o running.pc w) said (go_on (steps_of given) to (stands_at w (with_state w.here (still.state_of given p new left_now)))))
      → (f : Future) → Proceeds given p result (still.still given p r left f) said (still.still given p new left_now f)
  moves_on result r new running o to left left_now said at of_sheet behind rest does f =
      moves_with (λ l. l) result r new running o to left left_now said at of_sheet
      (λ turns b fs before at_pc. on_ok_by result behind (λ e. e ∙ ap (on_body (with_pc to)) before ∙ below (with_pc to) turns b fs running.pc at_pc)) rest does f

module _ {S : Type 0} (output : S → Target) (told : S → S → List Said → Type 0) (p : Program) where
  -- an instruction that leaves the locals of its body as they were
  pub do_steps : {A : Type 0} (result : Result A Stop) (r new : Run) (running : Running) (n units : ℕ) (i : Instr) (out out_now : S) → IsAtOp p r running (op.Do n)
      → slice_get p.code.instrs n ≡ Some i → one_less r.fuel ≡ Some units
      → Acts output told p (out-Instr i) result (record r { fuel = units }) new out out_now
      → OnOk result (reverse new.frames.frames ≡ on_body (with_pc (running.pc + 1)) (reverse r.frames.frames))
      → new ≡ record r { frames = new.frames; store = new.store; putting = new.putting; fuel = new.fuel }
      → Steps output told p result r new out out_now
  do_steps result r new running n units i out out_now at is less acts_so behind rest = record {
    said = acts_so.said;
    tells = acts_so.tells;
    does = λ given of_sheet limit f.
        let left_now : Left = (output out_now).left in
        moves_on given p result r new running (op.Do n) (running.pc + 1) (output out).left left_now acts_so.said at of_sheet behind rest
        (λ w sees q.
        do_goes given p result n running.pc units i w acts_so.said (still.state_of given p new left_now)
        (ap (λ (code : Code). slice_get code.instrs n) (sym of_sheet.code_is) ∙ is) (ap (λ (s : State). one_less s.fuel) q ∙ less)
        (acts_so.does given limit w.self (with_state w.here (record w.here.state { fuel = units }))
        (record { way = sees.way; alike = sees.alike; is = sees.is }) (ap (λ (s : State). record s { fuel = units }) q)))
        f;
  }

  -- and where no unit is left
  pub do_stops : {A : Type 0} → ((s : S) → told s s []) → (r new : Run) (running : Running) (n : ℕ) (i : Instr) (out : S) → IsAtOp p r running (op.Do n)
      → slice_get p.code.instrs n ≡ Some i → r.fuel ≡ 0
      → Steps {A = A} output told p (Err (stop.Spent (place (out-Instr i)))) r new out out
  do_stops nothing r new running n i out at is none = record {
    said = [];
    tells = nothing out;
    does = λ given of_sheet limit f.
        let pc = running.pc in
        let left : Left = (output out).left in
        let x = found_body (reverse r.frames.frames) pc at.pc in
        let c : Scene = still.scene_by given p r.source.ahead r in
        let op_is : slice_get (code_of given.sheet).ops pc ≡ Some (op.Do n) = ap (λ (code : Code). slice_get code.ops pc) (sym of_sheet.code_is) ∙ at.is in
        let instr_is : slice_get (code_of given.sheet).instrs n ≡ Some i = ap (λ (code : Code). slice_get code.instrs n) (sym of_sheet.code_is) ∙ is in
        run_stops given p (λ y. Same (flat_code given) y (Halt (Spent (place (out-Instr i))))) (λ y z s t. same_then s t) r x.1.0 x.1.1.0 pc (op.Do n) x.0 left at.doing
        x.1.1.1.0 x.1.1.1.1 op_is
        (λ a q k. same_equal (flat_code given) (ap (λ y. and_then y k) (do_spent given p n pc i (still.working_in given p x.0 x.1.0 x.1.1.0 c a) instr_is (ap (λ (s : State). s.fuel) q ∙ none))))
        f;
  }

  -- a unit is spent, and then a text is given
  pub text_steps : {A : Type 0} (result : Result A Stop) (r s new : Run) (running : Running) (n : ℕ) (i : Instr) (out out_now : S) → IsAtOp p r running (op.Do n)
      → slice_get p.code.instrs n ≡ Some i → s ≡ record r { fuel = s.fuel } → one_less r.fuel ≡ Some s.fuel
      → (GivesText (out-Instr i) → Acts output told p (out-Instr i) result s new out out_now) → (GivesText (out-Instr i) → Passes running.pc result s new)
      → GivesText (out-Instr i) → Steps output told p result r new out out_now
  text_steps result r s new running n i out out_now at is rest less acts_so passes gives =
      let through = passes gives in
      do_steps result r new running n s.fuel i out out_now at is less
      (subst (λ (x : Run). Acts output told p (out-Instr i) result x new out out_now) rest (acts_so gives))
      (on_ok_by result through.behind (λ e. e ∙ ap (λ (x : Run). on_body (with_pc (running.pc + 1)) (reverse x.frames.frames)) rest))
      (through.rest ∙ ap (λ (x : Run). record x { frames = new.frames; store = new.store; putting = new.putting; fuel = new.fuel }) rest)

  pub unit_wanted : {A : Type 0} → ((s : S) → told s s []) → (stop_is : Stop) (r new : Run) (running : Running) (n : ℕ) (it : Instr) (at_place : Place) (out : S) → IsAtOp p r running (op.Do n)
      → slice_get p.code.instrs n ≡ Some it → at_place ≡ place (out-Instr it) → stop_is ≡ stop.Spent at_place → r.fuel ≡ 0
      → Steps {A = A} output told p (Err stop_is) r new out out
  unit_wanted {A} nothing stop_is r new running n it at_place out at is here spent_so none =
      subst (λ x. Steps {A = A} output told p (Err x) r new out out) (sym (spent_so ∙ ap (λ x. stop.Spent x) here)) (do_stops nothing r new running n it out at is none)
