-- An instruction acts once its unit was spent, and where it hands values they wait with its body.
use Rattle.std.proofs.Common.{◌≡◌, ℕ, zero, suc, ◌+◌, ◌-◌, Bool, true, false, not, ◌||◌, List, [], ◌∷◌, ◌++◌, All, drop, length, map, reverse, take, Option, Some, None, Result, Ok, Err, refl, ap, sym, subst, ◌∙◌, arith, length-append}
use Rattle.std.specs.Prelude.{OnOk, if◌then◌else◌, slice_get, unwrap_or}
use Rattle.std.specs.Option.{option_and_then, option_map_or}
use Rattle.std.proofs.Math.Seq.{drop-append_seam}
use Rattle.std.proofs.lemmas.List.{length-map}
use Rattle.stx_base.specs.Course.{Ask, Halt, Ret, Same, Say, and_then}
use Rattle.stx_base.proofs.Course.{funext, same_equal, same_then, unfolds}
use Rattle.stx_base.specs.declared.fault.Place.{Place}
use Rattle.frame_stack.specs.Change.{locals_of, with_locals, with_pc}
use Rattle.frame_stack.specs.declared.frame.Frame.{Frame}
use Rattle.frame_stack.specs.declared.frame.Frame.TheVariants.{Attributes, Body, Call, Loop, Pass, Region, Skip, Source}
use Rattle.frame_stack.specs.declared.locals.Local.{Local}
use Rattle.instr_code.specs.Code.{code_of}
use Rattle.instr_code.specs.Running.{At, go_on}
use Rattle.instr_code.specs.Running as running
use Rattle.instr_code.specs.declared.code.Code.{Code}
use Rattle.instr_code.specs.declared.code.Op.TheVariants as op
use Rattle.node_stack.specs.Path.{Node, PathNode, is_attribute}
use Rattle.result_writer.specs.Target.{Left, Target}
use Rattle.sheet_model.specs.Parts.{handed, place}
use Rattle.sheet_model.specs.declared.instr.Instr.{Instr}
use Rattle.sheet_model.specs.declared.instr.Instr.TheViews.{out-Instr}
use Rattle.sheet_model.specs.declared.instr.WithParam.{WithParam}
use Rattle.stxpath_values.specs.Outcome.{each}
use Rattle.stxpath_values.specs.declared.fault.EvalFault.{EvalFault}
use Rattle.stxpath_values.specs.declared.value.Atom.{Atom}
use Rattle.var_store.specs.declared.bound.Bound.{Bound}
use Rattle.xml_events.specs.Document.{inner, outer}
use Rattle.xml_events.specs.Tree.{Future}
use Rattle.template_machine.specs.Acting.{act}
use Rattle.template_machine.specs.Behind.{StepsFrom, acts_in, asks_at, body_behind, code_behind, handed_acts, instr_acts, lists_now, scene_now, whose_in}
use Rattle.template_machine.specs.Bodies.{level_of, on_body, pc_in, pc_of, spent_in}
use Rattle.template_machine.specs.Declaring.{hands}
use Rattle.template_machine.specs.Ending.{Ending, Faulted, Said}
use Rattle.template_machine.specs.Fuel.{spend}
use Rattle.template_machine.specs.Job.{Asked, Does, Given, Here, Self, State, single, with_state}
use Rattle.template_machine.specs.Lists.{rest_of}
use Rattle.template_machine.specs.Moments.{IsAtOp}
use Rattle.template_machine.specs.Onward.{StepsOn}
use Rattle.template_machine.specs.Programs.{IsProgramOf, done_by, instr_at}
use Rattle.template_machine.specs.Saying.{Gave, Proceeds, SeesAs, sight}
use Rattle.template_machine.specs.Seen.{named_of}
use Rattle.template_machine.specs.Shifting.{Hands, handed_value}
use Rattle.template_machine.specs.Steps.{one_less}
use Rattle.template_machine.specs.Still as still
use Rattle.template_machine.specs.Still.{Returns, Runs, Scene, aside_of, below_loops, first_node}
use Rattle.template_machine.specs.Stepwise.{Flat_does, Working, flat_code, lifted, stands_at, steps_of}
use Rattle.template_machine.specs.Values.{got, setting}
use Rattle.template_machine.specs.declared.program.Program.{Program}
use Rattle.template_machine.specs.declared.run.Doing.{Doing}
use Rattle.template_machine.specs.declared.run.Doing.TheVariants as doing
use Rattle.template_machine.specs.declared.run.Run.{Run}
use Rattle.template_machine.specs.declared.run.Running.{Running}
use Rattle.template_machine.specs.declared.run.Step.{Step}
use Rattle.template_machine.specs.declared.source.Ahead.{Ahead}
use Rattle.template_machine.specs.declared.stop.Stop.{Stop}
use Rattle.template_machine.specs.declared.stop.Stop.TheVariants as stop
use Rattle.template_machine.specs.Parameters.{named_values}
use Rattle.template_machine.proofs.Handed.{each_length, handed_seen, hands_each, own_named, taken_back, waiting_bounds}
use Rattle.template_machine.proofs.Localized.{Leaves, lifted_alike}
use Rattle.template_machine.proofs.Proceeding.{done_in, found_body, unit_spent}
use Rattle.template_machine.proofs.Sighting.{sees_as}
use Rattle.template_machine.proofs.Stilled.{goes_on_alike}

some_number : {x y : ℕ} → Some x ≡ Some y → x ≡ y
some_number e = cc

module _ (given : Given) (p : Program) where
  -- What a single operation does is done, and then the code goes on behind it.
  single_goes : (pc : ℕ) (w : Working) (x : Does) (k : Here → Flat_does)
      → and_then (done_in given p w x (go_on (steps_of given) (pc + 1))) (λ (v : Working). k v.here) ≡ code_behind given p pc w x k
  single_goes pc w (Ret a) k = refl
  single_goes pc w (Halt e) k = refl
  single_goes pc w (Say o x) k = ap (Say o) (single_goes pc w x k)
  single_goes pc w (Ask q h) k = ap (λ (r : Working → Flat_does). Ask (running.Given q) r) (funext (λ (v : Working). single_goes pc w (h v.here) k))

  -- The innermost body stands at the operation of an instruction: for a unit it acts.

  abbrev less_fuel : (units : ℕ) → Here → Here
  less_fuel units a = with_state a (record a.state { fuel = units })

  module _ (i : Instr) (n pc units : ℕ) (at : slice_get (code_of given.sheet).ops pc ≡ Some (op.Do n)) (is : slice_get (code_of given.sheet).instrs n ≡ Some i) where
    spends : (w : Working) (k : Here → Flat_does) → one_less w.here.state.fuel ≡ Some units
        → Same (flat_code given) (Ask (At pc w) (λ (v : Working). k v.here)) (code_behind given p pc w (act given i w.self (less_fuel units w.here)) k)
    spends w k less =
        let go : Working → Flat_does = go_on (steps_of given) (pc + 1) in
        unfolds (flat_code given) (At pc w) (λ (v : Working). k v.here)
        (ap (λ o. and_then (option_map_or (λ y. still.operates given p y pc w) o (Ret w)) (λ (v : Working). k v.here)) at
        ∙ ap (λ o. and_then (option_map_or (λ j. done_in given p w (spend (place (out-Instr j)) w.here.state (λ st. act given j w.self (with_state w.here st))) go) o (go w)) (λ (v : Working). k v.here)) is
        ∙ ap (λ x. and_then (done_in given p w x go) (λ (v : Working). k v.here))
        (unit_spent given p (place (out-Instr i)) w.here.state units (λ st. act given i w.self (with_state w.here st)) less)
        ∙ single_goes pc w (act given i w.self (less_fuel units w.here)) k)

    unit_there : (turns : List ℕ) (fs : List Frame) (c : Scene) (f : Future) (a : Here) → pc_in fs ≡ Some pc → one_less a.state.fuel ≡ Some units
        → Same (flat_code given) (still.rest given p Runs turns fs c f a) (acts_in given p i pc turns fs c f (less_fuel units a))
    unit_there turns [] c f a here less = absurd (cc)
    unit_there turns (Loop turn ∷ fs) c f a here less = unit_there (turns ++ turn ∷ []) fs c f a here less
    unit_there turns (Body template alternative q locals level spent ∷ fs) c f a here less =
        let b = Body template alternative q locals level spent in
        let same : q ≡ pc = some_number here in
        same_then (same_equal (flat_code given) (ap (λ m. Ask (At m (still.working_in given p turns b fs c a)) (λ (v : Working). body_behind given p b fs c f v.here)) same))
        (spends (still.working_in given p turns b fs c a) (body_behind given p b fs c f) less)
    unit_there turns (Call procedure q locals level ∷ fs) c f a here less =
        let b = Call procedure q locals level in
        let same : q ≡ pc = some_number here in
        same_then (same_equal (flat_code given) (ap (λ m. Ask (At m (still.working_in given p turns b fs c a)) (λ (v : Working). body_behind given p b fs c f v.here)) same))
        (spends (still.working_in given p turns b fs c a) (body_behind given p b fs c f) less)
    unit_there turns (Region asked level ∷ fs) c f a here less = absurd (cc)
    unit_there turns (Attributes next asked ∷ fs) c f a here less = absurd (cc)
    unit_there turns (Source buffer next asked ∷ fs) c f a here less = absurd (cc)
    unit_there turns (Skip depth ∷ fs) c f a here less = absurd (cc)
    unit_there turns (Pass base level spent ∷ fs) c f a here less = absurd (cc)

    unit_goes : (d : Doing) (h : Ahead) (r : Run) (left : Left) (f : Future) → d ≡ doing.Body → pc_in (reverse r.frames.frames) ≡ Some pc → one_less r.fuel ≡ Some units
        → Same (flat_code given) (still.doing_now given p d h (reverse r.frames.frames) r left f)
        (still.goes_on_at given p (unwrap_or (spent_in (reverse r.frames.frames)) true) (first_node (still.scene_by given p h r).nodes) (rest_of (still.scene_by given p h r).nodes) (still.lists_ahead given p h r f)
        (acts_in given p i pc [] (reverse r.frames.frames) (still.scene_by given p h r)) (still.state_of given p (record r { fuel = units }) left))
    unit_goes doing.Body h r left f doing_is here less =
        let fs = reverse r.frames.frames in
        let c = still.scene_by given p h r in
        goes_on_alike given p (unwrap_or (spent_in fs) true) (first_node c.nodes) (rest_of c.nodes) (still.lists_ahead given p h r f) (λ g. still.rest given p Runs [] fs c g)
        (acts_in given p i pc [] fs c) (still.state_of given p r left) (still.state_of given p (record r { fuel = units }) left) []
        (λ g a q.
        subst (λ (s : State). Same (flat_code given) (still.rest given p Runs [] fs c g a) (acts_in given p i pc [] fs c g (record a { state = s })))
        (ap (λ (s : State). record s { fuel = units }) q)
        (unit_there [] fs c g a here (ap (λ (s : State). one_less s.fuel) q ∙ less)))
    unit_goes doing.List h r left f doing_is here less = absurd (cc)

  pub unit_taken : (r : Run) (running : Running) (n units : ℕ) (i : Instr) (left : Left) (f : Future) → IsAtOp p r running (op.Do n) → IsProgramOf given.sheet given.limits p
      → slice_get p.code.instrs n ≡ Some i → one_less r.fuel ≡ Some units
      → Same (flat_code given) (still.still given p r left f) (instr_acts given p i running.pc (record r { fuel = units }) left f)
  unit_taken r running n units i left f at of_sheet is less =
      unit_goes i n running.pc units (ap (λ (code : Code). slice_get code.ops running.pc) (sym of_sheet.code_is) ∙ at.is)
      (ap (λ (code : Code). slice_get code.instrs n) (sym of_sheet.code_is) ∙ is) r.doing r.source.ahead r left f at.doing at.pc less

  -- What goes on as something else does, does so behind it.
  pub proceeds_by : {A : Type 0} (result : Result A Stop) (x y : Flat_does) (said : List Said) (follows : Flat_does) → Same (flat_code given) x y → Proceeds given p result y said follows
      → Proceeds given p result x said follows
  proceeds_by (Ok a) x y said follows s h = same_then s h
  proceeds_by (Err (stop.Fault fault)) x y said follows s h = same_then s h
  proceeds_by (Err (stop.Spent at)) x y said follows s h = same_then s h
  proceeds_by (Err stop.Memory) x y said follows s h = (h.0, same_then s h.1)

  -- Values are handed.

  -- a body behind its instruction, whose values wait
  abbrev pub with_waiting : (pc : ℕ) → List Local → Frame → Frame
  with_waiting pc waiting f = with_locals (λ ls. ls ++ waiting) (with_pc (pc + 1) f)

  spent_waits : (pc : ℕ) (waiting : List Local) (fs : List Frame) → spent_in (on_body (with_waiting pc waiting) fs) ≡ spent_in fs
  spent_waits pc waiting [] = refl
  spent_waits pc waiting (Loop turn ∷ fs) = spent_waits pc waiting fs
  spent_waits pc waiting (Body template alternative q locals level spent ∷ fs) = refl
  spent_waits pc waiting (Call procedure q locals level ∷ fs) = refl
  spent_waits pc waiting (Region asked level ∷ fs) = refl
  spent_waits pc waiting (Attributes next asked ∷ fs) = refl
  spent_waits pc waiting (Source buffer next asked ∷ fs) = refl
  spent_waits pc waiting (Skip depth ∷ fs) = refl
  spent_waits pc waiting (Pass base level spent ∷ fs) = refl

  whose_waits : (pc q : ℕ) (waiting : List Local) (fs : List Frame) (c : Scene) → pc_in fs ≡ Some q → whose_in given p (on_body (with_waiting pc waiting) fs) c ≡ whose_in given p fs c
  whose_waits pc q waiting [] c here = absurd (cc)
  whose_waits pc q waiting (Loop turn ∷ fs) c here = whose_waits pc q waiting fs c here
  whose_waits pc q waiting (Body template alternative own locals level spent ∷ fs) c here = refl
  whose_waits pc q waiting (Call procedure own locals level ∷ fs) c here = refl
  whose_waits pc q waiting (Region asked level ∷ fs) c here = absurd (cc)
  whose_waits pc q waiting (Attributes next asked ∷ fs) c here = absurd (cc)
  whose_waits pc q waiting (Source buffer next asked ∷ fs) c here = absurd (cc)
  whose_waits pc q waiting (Skip depth ∷ fs) c here = absurd (cc)
  whose_waits pc q waiting (Pass base level spent ∷ fs) c here = absurd (cc)

  locals_wait : (pc q : ℕ) (waiting : List Local) (fs : List Frame) → pc_in fs ≡ Some q → still.locals_in given p (on_body (with_waiting pc waiting) fs) ≡ still.locals_in given p fs ++ waiting
  locals_wait pc q waiting [] here = absurd (cc)
  locals_wait pc q waiting (Loop turn ∷ fs) here = locals_wait pc q waiting fs here
  locals_wait pc q waiting (Body template alternative own locals level spent ∷ fs) here = refl
  locals_wait pc q waiting (Call procedure own locals level ∷ fs) here = refl
  locals_wait pc q waiting (Region asked level ∷ fs) here = absurd (cc)
  locals_wait pc q waiting (Attributes next asked ∷ fs) here = absurd (cc)
  locals_wait pc q waiting (Source buffer next asked ∷ fs) here = absurd (cc)
  locals_wait pc q waiting (Skip depth ∷ fs) here = absurd (cc)
  locals_wait pc q waiting (Pass base level spent ∷ fs) here = absurd (cc)

  module _ (i : Instr) (pc : ℕ) (waiting : List Local) (there : instr_at p.code pc ≡ Some i) (long : length waiting ≡ length (handed (out-Instr i))) where
    -- without them its locals are as they were
    own_locals : (locals : List Local) → still.without_handed given p (instr_at p.code (pc + 1 - 1)) (locals ++ waiting) ≡ locals
    own_locals locals =
        let same : pc + 1 - 1 ≡ pc = omega arith in
        ap (λ m. still.without_handed given p (instr_at p.code m) (locals ++ waiting)) same
        ∙ ap (λ o. still.without_handed given p o (locals ++ waiting)) there
        ∙ taken_back locals waiting (length (locals ++ waiting) - length (handed (out-Instr i))) (omega (arith, long, length-append locals waiting))

    values_wait : (locals : List Local) → still.values_handed given p (instr_at p.code pc) (locals ++ waiting) ≡ named_values (handed (out-Instr i)) (map (λ (x : Local). x.value) waiting)
    values_wait locals =
        let n = length (locals ++ waiting) - length (handed (out-Instr i)) in
        let same : n ≡ length locals = omega (arith, long, length-append locals waiting) in
        ap (λ o. still.values_handed given p o (locals ++ waiting)) there
        ∙ ap (λ m. still.handed_bounds given p (handed (out-Instr i)) (drop m (locals ++ waiting))) same
        ∙ ap (still.handed_bounds given p (handed (out-Instr i))) (drop-append_seam locals waiting)
        ∙ waiting_bounds given p (handed (out-Instr i)) waiting

    abbrev goes_behind : (turns : List ℕ) → Self → List Local → (Here → Flat_does) → Here → Flat_does
    goes_behind turns self own k h =
        Ask (At (pc + 1) (record { self = self; here = record h { locals = named_of own }; aside = aside_of own; turns = turns })) (λ (v : Working). k v.here)

    acts_there : (turns : List ℕ) (fs : List Frame) (c : Scene) (f : Future) (a : Here) (x : Does) → pc_in fs ≡ Some pc
        → act given i (whose_in given p fs c) (record a { locals = named_of (still.locals_in given p fs) }) ≡ x
        → Leaves (λ h. h.locals ≡ named_of (still.locals_in given p fs)) x
        → acts_in given p i pc turns fs c f a ≡ lifted x (still.rest given p Returns turns (on_body (with_waiting pc waiting) fs) c f)
    acts_there turns [] c f a x here does leaves = absurd (cc)
    acts_there turns (Loop turn ∷ fs) c f a x here does leaves = acts_there (turns ++ turn ∷ []) fs c f a x here does leaves
    acts_there turns (Body template alternative q locals level spent ∷ fs) c f a x here does leaves =
        let b = Body template alternative q locals level spent in
        let w = still.working_in given p turns b fs c a in
        let k : Here → Flat_does = body_behind given p b fs c f in
        ap (λ y. code_behind given p pc w y k) does
        ∙ lifted_alike (λ h. h.locals ≡ named_of locals) x (λ h. Ask (At (pc + 1) (stands_at w h)) (λ (v : Working). k v.here))
        (still.rest given p Returns turns (Body template alternative (pc + 1) (locals ++ waiting) level spent ∷ fs) c f) leaves
        (λ h kept.
        ap (λ l. Ask (At (pc + 1) (stands_at w (record h { locals = l }))) (λ (v : Working). k v.here)) kept
        ∙ ap (λ ls. goes_behind turns w.self ls k h) (sym (own_locals locals)))
    acts_there turns (Call procedure q locals level ∷ fs) c f a x here does leaves =
        let b = Call procedure q locals level in
        let w = still.working_in given p turns b fs c a in
        let k : Here → Flat_does = body_behind given p b fs c f in
        ap (λ y. code_behind given p pc w y k) does
        ∙ lifted_alike (λ h. h.locals ≡ named_of locals) x (λ h. Ask (At (pc + 1) (stands_at w h)) (λ (v : Working). k v.here))
        (still.rest given p Returns turns (Call procedure (pc + 1) (locals ++ waiting) level ∷ fs) c f) leaves
        (λ h kept.
        ap (λ l. Ask (At (pc + 1) (stands_at w (record h { locals = l }))) (λ (v : Working). k v.here)) kept
        ∙ ap (λ ls. goes_behind turns w.self ls k h) (sym (own_locals locals)))
    acts_there turns (Region asked level ∷ fs) c f a x here does leaves = absurd (cc)
    acts_there turns (Attributes next asked ∷ fs) c f a x here does leaves = absurd (cc)
    acts_there turns (Source buffer next asked ∷ fs) c f a x here does leaves = absurd (cc)
    acts_there turns (Skip depth ∷ fs) c f a x here does leaves = absurd (cc)
    acts_there turns (Pass base level spent ∷ fs) c f a x here does leaves = absurd (cc)

  -- it stops where a value wasn't given
  pub stops_there : (i : Instr) (pc : ℕ) (turns : List ℕ) (fs : List Frame) (c : Scene) (f : Future) (a : Here) (e : Ending) → pc_in fs ≡ Some pc
      → act given i (whose_in given p fs c) (record a { locals = named_of (still.locals_in given p fs) }) ≡ Halt e → acts_in given p i pc turns fs c f a ≡ Halt e
  stops_there i pc turns [] c f a e here does = absurd (cc)
  stops_there i pc turns (Loop turn ∷ fs) c f a e here does = stops_there i pc (turns ++ turn ∷ []) fs c f a e here does
  stops_there i pc turns (Body template alternative q locals level spent ∷ fs) c f a e here does =
      let b = Body template alternative q locals level spent in
      ap (λ y. code_behind given p pc (still.working_in given p turns b fs c a) y (body_behind given p b fs c f)) does
  stops_there i pc turns (Call procedure q locals level ∷ fs) c f a e here does =
      let b = Call procedure q locals level in ap (λ y. code_behind given p pc (still.working_in given p turns b fs c a) y (body_behind given p b fs c f)) does
  stops_there i pc turns (Region asked level ∷ fs) c f a e here does = absurd (cc)
  stops_there i pc turns (Attributes next asked ∷ fs) c f a e here does = absurd (cc)
  stops_there i pc turns (Source buffer next asked ∷ fs) c f a e here does = absurd (cc)
  stops_there i pc turns (Skip depth ∷ fs) c f a e here does = absurd (cc)
  stops_there i pc turns (Pass base level spent ∷ fs) c f a e here does = absurd (cc)

  -- what is done behind the node of a body is the same where it is so in each state of that node
  pub goes_equal : (spent : Bool) (n : Node) (above : List PathNode) (f : Future) (k h : Future → Here → Flat_does) (st : State) → ((g : Future) (a : Here) → a.state ≡ st → k g a ≡ h g a)
      → still.goes_on_at given p spent n above f k st ≡ still.goes_on_at given p spent n above f h st
  goes_equal spent n above f k h st e = by (is_attribute (Some n)) (spent || not (still.has_kids n))
    where
      by : (alone b : Bool)
          → (if alone then k f (single st) else if b then k (outer f) (record { kids = None; left = record { earlier = still.counts_of above; coming = inner f }; locals = []; state = st })
          else k (outer (outer f)) (record { kids = Some (inner f); left = record { earlier = still.counts_of above; coming = inner (outer f) }; locals = []; state = st }))
          ≡ (if alone then h f (single st) else if b then h (outer f) (record { kids = None; left = record { earlier = still.counts_of above; coming = inner f }; locals = []; state = st })
          else h (outer (outer f)) (record { kids = Some (inner f); left = record { earlier = still.counts_of above; coming = inner (outer f) }; locals = []; state = st }))
      by true b = e f (single st) refl
      by false true = e (outer f) (record { kids = None; left = record { earlier = still.counts_of above; coming = inner f }; locals = []; state = st }) refl
      by false false = e (outer (outer f)) (record { kids = Some (inner f); left = record { earlier = still.counts_of above; coming = inner (outer f) }; locals = []; state = st }) refl

  pub goes_nowhere : (spent : Bool) (n : Node) (above : List PathNode) (f : Future) (x : Flat_does) (st : State) → still.goes_on_at given p spent n above f (λ g a. x) st ≡ x
  goes_nowhere spent n above f x st = by (is_attribute (Some n)) (spent || not (still.has_kids n)) where
    by : (alone b : Bool) → (if alone then x else if b then x else x) ≡ x
    by true b = refl
    by false true = refl
    by false false = refl

  -- What the innermost body sees.

  whose_below : (turns : List ℕ) (b : Frame) (fs : List Frame) (c : Scene) (pc : ℕ) → pc_of b ≡ Some pc
      → (whose_in given p (below_loops turns (b ∷ fs)) c ≡ still.self_of given p (unwrap_or (level_of b) 0) b fs c) × (still.locals_in given p (below_loops turns (b ∷ fs)) ≡ locals_of b)
  whose_below [] (Body template alternative q locals level spent) fs c pc at = (refl, refl)
  whose_below [] (Call procedure q locals level) fs c pc at = (refl, refl)
  whose_below [] b fs c pc at = absurd (cc)
  whose_below (n ∷ ns) b fs c pc at = whose_below ns b fs c pc at

  sees_there : (r : Run) (running : Running) (n : ℕ) → (at : IsAtOp p r running (op.Do n)) → IsProgramOf given.sheet given.limits p → (a : Here) → a.state.variables ≡ r.store
      → SeesAs given p r (whose_in given p (reverse r.frames.frames) (scene_now given p r)) (record a { locals = named_of (still.locals_in given p (reverse r.frames.frames)) })
  sees_there r running n at of_sheet a store =
      let x = found_body (reverse r.frames.frames) running.pc at.pc in
      let c = scene_now given p r in
      let w = whose_below x.0 x.1.0 x.1.1.0 c running.pc x.1.1.1.1 in
      let s = sees_as given p r running (op.Do n) at of_sheet x.0 x.1.0 x.1.1.0 running.pc x.1.1.1.0 x.1.1.1.1 a store in
      subst (λ (self : Self). SeesAs given p r self (record a { locals = named_of (still.locals_in given p (reverse r.frames.frames)) })) (sym (ap (λ l. whose_in given p l c) x.1.1.1.0 ∙ w.0))
      (subst (λ l. SeesAs given p r (still.self_of given p (unwrap_or (level_of x.1.0) 0) x.1.0 x.1.1.0 c) (record a { locals = named_of l })) (sym (ap (still.locals_in given p) x.1.1.1.0 ∙ w.1)) s)

  -- the instruction of an operation
  pub instr_there : (r : Run) (running : Running) (n : ℕ) (i : Instr) → IsAtOp p r running (op.Do n) → slice_get p.code.instrs n ≡ Some i → instr_at p.code running.pc ≡ Some i
  instr_there r running n i at is = ap (λ o. option_and_then (λ k. slice_get p.code.instrs k) (option_and_then done_by o)) at.is ∙ is

  -- What an instruction does with the values that it hands.
  module _ (r new : Run) (running : Running) (n : ℕ) (i : Instr) (spot : Place) (at : IsAtOp p r running (op.Do n)) (of_sheet : IsProgramOf given.sheet given.limits p)
      (is : slice_get p.code.instrs n ≡ Some i) (does : Asked → Self → Here → Does) where
    abbrev pub asked_there : Asked
    asked_there = asks_at given p running.pc (reverse new.frames.frames) (scene_now given p r)

    abbrev pub body_there : Self
    body_there = whose_in given p (reverse r.frames.frames) (scene_now given p r)

    abbrev here_of : Here → Here
    here_of a = record a { locals = named_of (still.locals_in given p (reverse r.frames.frames)) }

    -- it hands them, and then does something with what it asks
    abbrev pub HandsFirst : Type 0
    HandsFirst = (a : Here) → act given i body_there a ≡ hands given spot (handed (out-Instr i)) body_there a (λ bs. does (record asked_there { params = bs }) body_there a)

    pub values_seen : HandsFirst → (a : Here) → a.state.variables ≡ r.store
        → act given i body_there (here_of a) ≡ got spot (each (handed_value (sight p r)) (handed (out-Instr i))) (λ vs. does (record asked_there { params = named_values (handed (out-Instr i)) vs }) body_there (here_of a))
    values_seen first a store =
        let ps = handed (out-Instr i) in
        let go : List Bound → Does = λ bs. does (record asked_there { params = bs }) body_there (here_of a) in
        first (here_of a) ∙ hands_each given spot ps body_there (here_of a) go
        ∙ ap (λ v. got spot v (λ vs. go (named_values ps vs))) (handed_seen given p r body_there (here_of a) ps (sees_there r running n at of_sheet a store))

    module _ {A : Type 0} (done : A) (h : Hands p i spot running.pc (Ok done) r new) where
      many : length h.waiting ≡ length (handed (out-Instr i))
      many =
          sym (length-map h.waiting (λ (x : Local). x.value))
          ∙ each_length (handed_value (sight p r)) (handed (out-Instr i)) (map (λ (x : Local). x.value) h.waiting) h.gave

      abbrev frames_wait : reverse new.frames.frames ≡ on_body (with_waiting running.pc h.waiting) (reverse r.frames.frames)
      frames_wait = h.behind

      locals_there : still.locals_in given p (reverse new.frames.frames) ≡ still.locals_in given p (reverse r.frames.frames) ++ h.waiting
      locals_there = ap (still.locals_in given p) frames_wait ∙ locals_wait running.pc running.pc h.waiting (reverse r.frames.frames) at.pc

      params_there : asked_there.params ≡ named_values (handed (out-Instr i)) (map (λ (x : Local). x.value) h.waiting)
      params_there =
          ap (still.values_handed given p (instr_at p.code running.pc)) locals_there
          ∙ values_wait i running.pc h.waiting (instr_there r running n i at is) many (still.locals_in given p (reverse r.frames.frames))

      named_there : named_of (still.locals_in given p (reverse new.frames.frames)) ≡ named_of (still.locals_in given p (reverse r.frames.frames))
      named_there = ap named_of locals_there ∙ own_named (still.locals_in given p (reverse r.frames.frames)) h.waiting h.nameless

      whose_there : whose_in given p (reverse new.frames.frames) (scene_now given p r) ≡ body_there
      whose_there = ap (λ l. whose_in given p l (scene_now given p r)) frames_wait ∙ whose_waits running.pc running.pc h.waiting (reverse r.frames.frames) (scene_now given p r) at.pc

      spent_there : spent_in (reverse new.frames.frames) ≡ spent_in (reverse r.frames.frames)
      spent_there = ap spent_in frames_wait ∙ spent_waits running.pc h.waiting (reverse r.frames.frames)

      acts_now : HandsFirst → (a : Here) → a.state.variables ≡ r.store → act given i body_there (here_of a) ≡ does asked_there body_there (here_of a)
      acts_now first a store =
          let ps = handed (out-Instr i) in
          values_seen first a store
          ∙ ap (λ v. got spot v (λ vs. does (record asked_there { params = named_values ps vs }) body_there (here_of a))) h.gave
          ∙ ap (λ bs. does (record asked_there { params = bs }) body_there (here_of a)) (sym params_there)

      abbrev behind_it : Run → (own : List Bound) → Self → List Frame → Future → Here → Flat_does
      behind_it x own self gs g a =
          lifted (does (asks_at given p running.pc (reverse new.frames.frames) (scene_now given p x)) self (record a { locals = own })) (still.rest given p Returns [] gs (scene_now given p x) g)

      pub hands_ok : HandsFirst → ((a : Here) → Leaves (λ b. b.locals ≡ a.locals) (does asked_there body_there a)) → (left : Left) (f : Future)
          → instr_acts given p i running.pc r left f ≡ handed_acts given p does running.pc new left f
      hands_ok first leaves left f =
          let fs = reverse r.frames.frames in
          let gs = reverse new.frames.frames in
          let c = scene_now given p r in
          let own = named_of (still.locals_in given p gs) in
          goes_equal (unwrap_or (spent_in fs) true) (first_node c.nodes) (rest_of c.nodes) (lists_now given p r f) (acts_in given p i running.pc [] fs c)
          (behind_it r own (whose_in given p gs c) gs) (still.state_of given p r left)
          (λ g a q.
          acts_there i running.pc h.waiting (instr_there r running n i at is) many [] fs c g a (does asked_there body_there (here_of a)) at.pc
          (acts_now first a (ap (λ (s : State). s.variables) q)) (leaves (here_of a))
          ∙ ap (λ l. behind_it r (named_of (still.locals_in given p fs)) body_there l g a) (sym frames_wait)
          ∙ ap (λ (s : Self). behind_it r (named_of (still.locals_in given p fs)) s gs g a) (sym whose_there)
          ∙ ap (λ l. behind_it r l (whose_in given p gs c) gs g a) (sym named_there))
          ∙ ap (λ o. still.goes_on_at given p (unwrap_or o true) (first_node c.nodes) (rest_of c.nodes) (lists_now given p r f) (behind_it r own (whose_in given p gs c) gs) (still.state_of given p r left)) (sym spent_there)
          ∙ sym
          (ap (λ (x : Run).
          still.goes_on_at given p (unwrap_or (spent_in gs) true) (first_node (scene_now given p x).nodes) (rest_of (scene_now given p x).nodes) (lists_now given p x f)
          (behind_it x own (whose_in given p gs (scene_now given p x)) gs) (still.state_of given p x left)) h.rest)

    -- and it stops where one of them wasn't given
    pub hands_stop : (A : Type 0) (e : Stop) → HandsFirst → Gave {A = List (List Atom)} spot (Err e) (each (handed_value (sight p r)) (handed (out-Instr i))) → (left : Left) (f : Future) (follows : Flat_does)
        → Proceeds given p {A = A} (Err e) (instr_acts given p i running.pc r left f) [] follows
    hands_stop A (stop.Fault fault) first gave left f follows =
        let fs = reverse r.frames.frames in
        let c = scene_now given p r in
        let ps = handed (out-Instr i) in
        same_equal (flat_code given)
        (goes_equal (unwrap_or (spent_in fs) true) (first_node c.nodes) (rest_of c.nodes) (lists_now given p r f) (acts_in given p i running.pc [] fs c)
        (λ g a. Halt (Faulted fault)) (still.state_of given p r left)
        (λ g a q.
        stops_there i running.pc [] fs c g a (Faulted fault) at.pc
        (values_seen first a (ap (λ (s : State). s.variables) q)
        ∙ ap (λ v. got spot v (λ vs. does (record asked_there { params = named_values ps vs }) body_there (here_of a))) gave.1.0
        ∙ ap (λ x. Halt (Faulted x)) (sym gave.1.1)))
        ∙ goes_nowhere (unwrap_or (spent_in fs) true) (first_node c.nodes) (rest_of c.nodes) (lists_now given p r f) (Halt (Faulted fault)) (still.state_of given p r left))
    hands_stop A (stop.Spent place_of) first gave left f follows = absurd gave
    hands_stop A stop.Memory first gave left f follows = (instr_acts given p i running.pc r left f, same_equal (flat_code given) refl)

-- A step from where an instruction acts is one from before its unit was spent.
pub unit_steps : {S : Type 0} (output : S → Target) (told : S → S → List Said → Type 0) (p : Program) (result : Result Step Stop) (r s new : Run) (running : Running) (n : ℕ) (i : Instr) (out out_now : S)
    → IsAtOp p r running (op.Do n) → slice_get p.code.instrs n ≡ Some i → s ≡ record r { fuel = s.fuel } → one_less r.fuel ≡ Some s.fuel
    → StepsFrom output told p (λ given left f. instr_acts given p i running.pc s left f) result new out out_now → StepsOn output told p result r new out out_now
unit_steps output told p result r s new running n i out out_now at is rest less steps = record {
  said = steps.said;
  tells = steps.tells;
  alone = steps.alone;
  over = steps.over;
  does = λ given fresh program params limit f.
      let left = (output out).left in
      proceeds_by given p result (still.still given p r left f) (instr_acts given p i running.pc s left f) steps.said (still.still given p new (output out_now).left f)
      (subst (λ (x : Run). Same (flat_code given) (still.still given p r left f) (instr_acts given p i running.pc x left f)) (sym rest)
      (unit_taken given p r running n s.fuel i left f at program is less))
      (steps.does given fresh program params limit f);
}
