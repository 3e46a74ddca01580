-- Operations of a body's code that leave it other locals.
use Rattle.std.proofs.Common.{◌≡◌, ◌≢◌, ℕ, suc, ◌+◌, ◌-◌, false, List, [], ◌∷◌, ◌++◌, length, take, Some, Result, Ok, Err, reverse, inl, inr, refl, ap, sym, subst, ◌∙◌, arith, length-append}
use Rattle.std.specs.Prelude.{OnOk, slice_get}
use Rattle.std.specs.Option.{option_map}
use Rattle.frame_stack.specs.Change.{locals_of, with_locals, with_pc}
use Rattle.frame_stack.specs.declared.frame.Frame.{Frame}
use Rattle.frame_stack.specs.declared.frame.Frame.TheVariants.{Body, Call, Loop}
use Rattle.frame_stack.specs.declared.locals.Local.{Local}
use Rattle.instr_code.specs.Code.{code_of}
use Rattle.instr_code.specs.Running.{go_on}
use Rattle.instr_code.specs.declared.code.Code.{Code}
use Rattle.instr_code.specs.declared.code.Op.{Op}
use Rattle.instr_code.specs.declared.code.Op.TheVariants as op
use Rattle.result_writer.specs.Target.{Left}
use Rattle.stx_base.specs.declared.name.Name.{Name}
use Rattle.stxpath_values.specs.declared.value.Atom.{Atom}
use Rattle.var_store.specs.declared.bound.Bound.{Bound}
use Rattle.xml_events.specs.Tree.{Future}
use Rattle.template_machine.specs.Bodies.{frame_in, on_body, pc_of}
use Rattle.template_machine.specs.Called.{DeclaresNames}
use Rattle.template_machine.specs.Contexts.{AreNamed, Context, Items, Kind, Named, Station, Tag}
use Rattle.template_machine.specs.Ending.{Said}
use Rattle.template_machine.specs.Job.{Given, Here, State, with_state}
use Rattle.template_machine.specs.Moments.{IsAtOp}
use Rattle.template_machine.specs.Programs.{IsProgramOf}
use Rattle.template_machine.specs.Saying.{Carries, GoesAs, Proceeds, SeesAs}
use Rattle.template_machine.specs.Seen.{named_of}
use Rattle.template_machine.specs.Shifting.{HasLocals, StandsAt}
use Rattle.template_machine.specs.Standing.{Standing, standing_of}
use Rattle.template_machine.specs.Still as still
use Rattle.template_machine.specs.Still.{Scene, aside_of, below_loops}
use Rattle.template_machine.specs.Stepwise.{Working, steps_of, without_last}
use Rattle.template_machine.specs.Well.{AreOf}
use Rattle.template_machine.specs.declared.program.Program.{Program}
use Rattle.template_machine.specs.declared.run.Run.{Run}
use Rattle.template_machine.specs.declared.run.Running.{Running}
use Rattle.template_machine.specs.declared.stop.Stop.{Stop}
use Rattle.template_machine.proofs.Aside.{AreSaid, aside_uncut, named_cut}
use Rattle.template_machine.proofs.Moving.{BodyIs, alone, goes_at}
use Rattle.template_machine.proofs.Operating.{some_context}
use Rattle.template_machine.proofs.Deciding.{all_rest}
use Rattle.template_machine.proofs.Proceeding.{below, found_body, on_ok_by, operation_proceeds}
use Rattle.template_machine.proofs.Sighting.{sees_as}

-- The locals of the innermost body are of the kinds of its context.
pub locals_are : (p : Program) (stations : List Station) (loops : ℕ) (fs : List Frame) (c : Context) (s : Standing) (x : Frame) → frame_in fs ≡ Some x
    → BodyIs p stations loops false fs c s → AreOf (locals_of x) c.locals
locals_are p stations loops [] c s x is b = absurd b
locals_are p stations loops (Loop turn ∷ fs) c s x is b = locals_are p stations (suc loops) fs c s x is b
locals_are p stations loops (Body template alternative pc locals level spent ∷ fs) c s x is b =
    let same : Body template alternative pc locals level spent ≡ x = cc in
    subst (λ y. AreOf (locals_of y) c.locals) same (alone p stations locals c.locals b.locals_fit)
locals_are p stations loops (Call procedure pc locals level ∷ fs) c s x is b =
    let same : Call procedure pc locals level ≡ x = cc in
    subst (λ y. AreOf (locals_of y) c.locals) same (alone p stations locals c.locals b.locals_fit)
locals_are p stations loops (f ∷ fs) c s x is b = absurd b

-- Where its code runs.

pub own_locals : (given : Given) (p : Program) (r : Run) (w : Working) (st : StandsAt given p r w) → w.here.locals ≡ named_of (locals_of st.body)
own_locals given p r w st = ap (λ (v : Working). v.here.locals) st.is

pub own_aside : (given : Given) (p : Program) (r : Run) (w : Working) (st : StandsAt given p r w) → w.aside ≡ aside_of (locals_of st.body)
own_aside given p r w st = ap (λ (v : Working). v.aside) st.is

pub own_turns : (given : Given) (p : Program) (r : Run) (w : Working) (st : StandsAt given p r w) → w.turns ≡ st.turns
own_turns given p r w st = ap (λ (v : Working). v.turns) st.is

pub frame_there : (turns : List ℕ) (b : Frame) (fs : List Frame) (pc : ℕ) → pc_of b ≡ Some pc → frame_in (below_loops turns (b ∷ fs)) ≡ Some b
frame_there [] (Body template alternative q locals level spent) fs pc at = refl
frame_there [] (Call procedure q locals level) fs pc at = refl
frame_there [] b fs pc at = absurd (cc)
frame_there (n ∷ turns) b fs pc at = frame_there turns b fs pc at

pub own_frame : (given : Given) (p : Program) (r : Run) (w : Working) (st : StandsAt given p r w) → frame_in (reverse r.frames.frames) ≡ Some st.body
own_frame given p r w st = ap frame_in st.frames ∙ frame_there st.turns st.body st.below st.pc st.at

pub has_locals : (given : Given) (p : Program) (r : Run) (w : Working) (st : StandsAt given p r w) → HasLocals r (locals_of st.body)
has_locals given p r w st = ap (option_map locals_of) (own_frame given p r w st)

pub kinds_at : (given : Given) (p : Program) (r : Run) (running : Running) (o : Op) (w : Working) (at : IsAtOp p r running o) (st : StandsAt given p r w) (c : Context)
    → BodyIs p at.well.stations 0 false (reverse r.frames.frames) c (standing_of r) → AreOf (locals_of st.body) c.locals
kinds_at given p r running o w at st c b =
    locals_are p at.well.stations 0 (reverse r.frames.frames) c (standing_of r) st.body (own_frame given p r w st) b

-- where the body goes on, with these locals and loops
abbrev pub left_with : Working → List Local → (turns : List ℕ) → State → Working
left_with w locals turns st = record w {
  here = record w.here { locals = named_of locals; state = st };
  aside = aside_of locals;
  turns = turns;
}

-- what is left by parts
pub left_so : (given : Given) (to : ℕ) (w : Working) (locals : List Local) (bounds : List Bound) (aside : List (List Atom)) (turns turns_now : List ℕ) (st now : State)
    → bounds ≡ named_of locals → aside ≡ aside_of locals → turns ≡ turns_now → st ≡ now
    → go_on (steps_of given) to (record w { here = record w.here { locals = bounds; state = st }; aside = aside; turns = turns }) ≡ go_on (steps_of given) to (left_with w locals turns_now now)
left_so given to w locals bounds aside turns turns_now st now named beside loops state =
    ap (λ l. go_on (steps_of given) to (record w { here = record w.here { locals = l; state = st }; aside = aside; turns = turns })) named
    ∙ ap (λ l. go_on (steps_of given) to (record w { here = record w.here { locals = named_of locals; state = st }; aside = l; turns = turns })) beside
    ∙ ap (λ l. go_on (steps_of given) to (record w { here = record w.here { locals = named_of locals; state = st }; aside = aside_of locals; turns = l })) loops
    ∙ ap (λ s. go_on (steps_of given) to (record w { here = record w.here { locals = named_of locals; state = s }; aside = aside_of locals; turns = turns_now })) state

module _ (given : Given) (p : Program) where
  left_in : (more : List Local → List Local) (turns turns_now : List ℕ) (b : Frame) (fs : List Frame) (c : Scene) (a : Here) (pc to : ℕ) (now : State) → pc_of b ≡ Some pc
      → left_with (still.working_in given p turns b fs c a) (more (locals_of b)) turns_now now
      ≡ still.working_in given p turns_now (with_locals (λ l. more (locals_of b)) (with_pc to b)) fs c (record a { state = now })
  left_in more turns turns_now (Body template alternative q own level spent) fs c a pc to now at = refl
  left_in more turns turns_now (Call procedure q own level) fs c a pc to now at = refl
  left_in more turns turns_now b fs c a pc to now at = absurd (cc)

  -- a body that goes on at another place, with other locals and other loops
  pub leaves : {A : Type 0} (turns_of : List ℕ → List ℕ) (more : List Local → List Local) (result : Result A Stop) (r new : Run) (running : Running) (o : Op) (to : ℕ) (left left_now : Left) (said : List Said)
      → IsAtOp p r running o → IsProgramOf given.sheet given.limits p
      → ((turns : List ℕ) (b : Frame) (fs : List Frame) → reverse r.frames.frames ≡ below_loops turns (b ∷ fs) → pc_of b ≡ Some running.pc
      → OnOk result (reverse new.frames.frames ≡ below_loops (turns_of turns) (with_locals more (with_pc to b) ∷ fs)))
      → new ≡ record r { frames = new.frames; store = new.store; putting = new.putting; fuel = new.fuel }
      → ((w : Working) (st : StandsAt given p r w) → SeesAs given p r w.self w.here → w.here.state ≡ still.state_of given p r left
      → GoesAs result (still.operates given p o running.pc w) said
      (go_on (steps_of given) to (left_with w (more (locals_of st.body)) (turns_of w.turns) (still.state_of given p new left_now))))
      → (f : Future) → Proceeds given p result (still.still given p r left f) said (still.still given p new left_now f)
  leaves turns_of more result r new running o to left left_now said at of_sheet frames rest does f =
      let pc = running.pc in
      let x = found_body (reverse r.frames.frames) pc at.pc in
      let turns : List ℕ = x.0 in
      let b : Frame = x.1.0 in
      let fs : List Frame = x.1.1.0 in
      let before : reverse r.frames.frames ≡ below_loops turns (b ∷ fs) = x.1.1.1.0 in
      let at_pc : pc_of b ≡ Some pc = x.1.1.1.1 in
      let c : Scene = still.scene_by given p r.source.ahead r in
      let moved_frame : Frame = with_locals (λ l. more (locals_of b)) (with_pc to b) in
      let op_is : slice_get (code_of given.sheet).ops pc ≡ Some o = ap (λ (code : Code). slice_get code.ops pc) (sym of_sheet.code_is) ∙ at.is in
      let frames_are : OnOk result (reverse new.frames.frames ≡ below_loops (turns_of turns) (moved_frame ∷ fs)) =
      on_ok_by result (frames turns b fs before at_pc) (λ e. e ∙ ap (λ y. below_loops (turns_of turns) (y ∷ fs)) (moved_so more b pc to at_pc)) in
      subst (λ (s : Run). Proceeds given p result (still.still given p r left f) said (still.still given p s left_now f)) (sym rest)
      (operation_proceeds given p r new.frames new.store new.putting new.fuel b fs pc to o (more (locals_of b)) turns (turns_of turns) left left_now said result at.doing
      before frames_are at_pc op_is
      (λ a q.
      let w : Working = still.working_in given p turns b fs c a in
      let now : State = still.state_of given p new left_now in
      let st : StandsAt given p r w = record { body = b; turns = turns; below = fs; frames = before; pc = pc; at = at_pc; here = a; is = refl } in
      subst (λ (s : Run). GoesAs result (still.operates given p o pc w) said
      (go_on (steps_of given) to (still.working_in given p (turns_of turns) moved_frame fs c (record a { state = still.state_of given p s left_now })))) rest
      (subst (λ (v : Working). GoesAs result (still.operates given p o pc w) said (go_on (steps_of given) to v)) (left_in more turns (turns_of turns) b fs c a pc to now at_pc)
      (does w st (sees_as given p r running o at of_sheet turns b fs pc before at_pc a (ap (λ (s : State). s.variables) q)) q)))
      f)
    where
      moved_so : (more : List Local → List Local) (b : Frame) (pc to : ℕ) → pc_of b ≡ Some pc → with_locals more (with_pc to b) ≡ with_locals (λ l. more (locals_of b)) (with_pc to b)
      moved_so more (Body template alternative q own level spent) pc to at = refl
      moved_so more (Call procedure q own level) pc to at = refl
      moved_so more b pc to at = absurd (cc)

  -- and with the loops that it had
  pub leaves_on : {A : Type 0} (more : List Local → List Local) (result : Result A Stop) (r new : Run) (running : Running) (o : Op) (to : ℕ) (left left_now : Left) (said : List Said)
      → IsAtOp p r running o → IsProgramOf given.sheet given.limits p
      → OnOk result (reverse new.frames.frames ≡ on_body (λ f. with_locals more (with_pc to f)) (reverse r.frames.frames))
      → new ≡ record r { frames = new.frames; store = new.store; putting = new.putting; fuel = new.fuel }
      → ((w : Working) (st : StandsAt given p r w) → SeesAs given p r w.self w.here → w.here.state ≡ still.state_of given p r left
      → GoesAs result (still.operates given p o running.pc w) said
      (go_on (steps_of given) to (left_with w (more (locals_of st.body)) w.turns (still.state_of given p new left_now))))
      → (f : Future) → Proceeds given p result (still.still given p r left f) said (still.still given p new left_now f)
  leaves_on more result r new running o to left left_now said at of_sheet behind rest does f =
      leaves (λ l. l) more result r new running o to left left_now said at of_sheet
      (λ turns b fs before at_pc. on_ok_by result behind (λ e. e ∙ ap (on_body (λ f. with_locals more (with_pc to f))) before ∙ below (λ f. with_locals more (with_pc to f)) turns b fs running.pc at_pc)) rest does f

-- Locals that are taken off.

pub said_kinds : (p : Program) (ks : List Kind) → DeclaresNames p → AreNamed p.code ks → AreSaid ks
said_kinds p [] names h = tt
said_kinds p (Named name ∷ ks) names h = (names.variables name h.0, said_kinds p ks names h.1)
said_kinds p (Items ∷ ks) names h = absurd h
said_kinds p (Tag ∷ ks) names h = absurd h

pub drop_carries : {A : Type 0} (p : Program) (r new : Run) (running : Running) (count len : ℕ) (done : A) (at : IsAtOp p r running (op.Drop count)) → DeclaresNames p
    → ((c : Context) → BodyIs p at.well.stations 0 false (reverse r.frames.frames) c (standing_of r) → len + count ≡ length c.locals)
    → reverse new.frames.frames ≡ on_body (λ f. with_locals (take len) (with_pc (running.pc + 1) f)) (reverse r.frames.frames)
    → new ≡ record r { frames = new.frames } → Carries p (Ok done) r new
drop_carries p r new running count len done at names long behind rest = record {
  does = λ given of_sheet left f.
      leaves_on given p (take len) (Ok done) r new running (op.Drop count) (running.pc + 1) left left [] at of_sheet behind (all_rest r new r.fuel rest)
      (λ w st sees q.
      let x = some_context p r running (op.Drop count) at in
      let c : Context = x.0 in
      let g = goes_at p at.well.stations 0 false (reverse r.frames.frames) c (standing_of r) running.pc at.pc x.1 in
      let o = at.well.stand.leads running.pc (op.Drop count) c g.0 at.is g.1 in
      let kept : List Kind = o.0.locals in
      let gone : List Kind = o.1.0 in
      let kinds : c.locals ≡ kept ++ gone = ap (λ (y : Context). y.locals) o.1.1.0 in
      let own : List Local = locals_of st.body in
      let are : AreOf own (kept ++ gone) = subst (AreOf own) kinds (kinds_at given p r running (op.Drop count) w at st c x.1) in
      let said : AreSaid gone = said_kinds p gone names o.1.1.3 in
      let same : length kept ≡ len = omega (arith, long c x.1, ap length kinds, length-append kept gone, o.1.1.1) in
      let named : take (length w.here.locals - count) w.here.locals ≡ named_of (take len own) =
      ap (λ l. take (length l - count) l) (own_locals given p r w st)
      ∙ ap (λ n. take (length (named_of own) - n) (named_of own)) (sym o.1.1.1)
      ∙ sym (named_cut own kept gone are said) ∙ ap (λ n. named_of (take n own)) same in
      let aside : w.aside ≡ aside_of (take len own) = own_aside given p r w st ∙ sym (aside_uncut own kept gone are said) ∙ ap (λ n. aside_of (take n own)) same in
      let state : w.here.state ≡ still.state_of given p new left = q ∙ sym (ap (λ n. still.state_of given p n left) rest) in
      left_so given (running.pc + 1) w (take len own) _ w.aside w.turns w.turns w.here.state (still.state_of given p new left) named aside refl state)
      f;
}
