-- Elements whose names are computed: the name waits for their end.
use Rattle.std.proofs.Common.{◌≡◌, ℕ, suc, false, ◌+◌, ◌-◌, List, [], ◌∷◌, ◌++◌, length, map, take, Some, IsSome, Result, Ok, Err, reverse, refl, ap, sym, subst, ◌∙◌, arith, append-nil, length-append}
use Rattle.std.proofs.Math.Seq.{take-append_seam}
use Rattle.std.specs.Prelude.{OnOk, slice_get}
use Rattle.std.specs.Option.{option_map, option_map_or}
use Rattle.stx_base.specs.Course.{and_then}
use Rattle.stx_base.specs.declared.fault.Place.{Place}
use Rattle.stx_base.specs.declared.part.Part.TheVariants as part
use Rattle.frame_stack.specs.Change.{locals_of, with_locals, with_pc}
use Rattle.frame_stack.specs.declared.frame.Frame.{Frame}
use Rattle.frame_stack.specs.declared.locals.Local.{Local}
use Rattle.instr_code.specs.Code.{code_of}
use Rattle.instr_code.specs.Running.{as_flat, go_on, start_of}
use Rattle.instr_code.specs.Steps.{renamed}
use Rattle.instr_code.specs.declared.code.Code.{Code}
use Rattle.instr_code.specs.declared.code.Op.TheVariants as op
use Rattle.result_writer.specs.Target.{Left, Target}
use Rattle.sheet_model.specs.declared.instr.Instr.{Instr}
use Rattle.sheet_model.specs.declared.instr.Instr.TheOpen.{Instr-F}
use Rattle.sheet_model.specs.declared.instr.Instr.TheViews.{out-Instr}
use Rattle.sheet_model.specs.declared.instr.When.{When}
use Rattle.stxpath_values.specs.declared.value.Atom.{Atom}
use Rattle.template_machine.specs.Acting.{put_parts}
use Rattle.template_machine.specs.Bodies.{on_body}
use Rattle.template_machine.specs.Contexts.{AroundTag, Context, HasForm, Kind, Tag}
use Rattle.template_machine.specs.Ending.{Said}
use Rattle.template_machine.specs.Job.{Does, Given, Here, State, with_state}
use Rattle.template_machine.specs.Lists.{rest_of}
use Rattle.template_machine.specs.Moments.{IsAtOp}
use Rattle.template_machine.specs.Opening.{IsElementAt}
use Rattle.template_machine.specs.Saying.{GoesAs, Puts, SeesAs, Steps}
use Rattle.template_machine.specs.Seen.{named_of}
use Rattle.template_machine.specs.Shifting.{HasLocals, StandsAt}
use Rattle.template_machine.specs.Standing.{standing_of}
use Rattle.template_machine.specs.Still as still
use Rattle.template_machine.specs.Still.{aside_of}
use Rattle.template_machine.specs.Stepwise.{Flat_does, Working, by_given, closes_by, last_aside, stands_at, steps_of, tagged, takes_up}
use Rattle.template_machine.specs.Well.{AreOf}
use Rattle.template_machine.specs.declared.program.Program.{Program}
use Rattle.template_machine.specs.declared.run.Run.{Run}
use Rattle.template_machine.specs.declared.run.Running.{Running}
use Rattle.template_machine.specs.declared.stop.Stop.{Stop}
use Rattle.template_machine.proofs.Closes.{putting_rest, puts_go}
use Rattle.template_machine.proofs.Aside.{aside_pushed, named_kept}
use Rattle.template_machine.proofs.Enclosed.{before_tag}
use Rattle.template_machine.proofs.Moving.{goes_at}
use Rattle.template_machine.proofs.Operating.{at_place, some_context}
use Rattle.template_machine.proofs.Proceeding.{done_in, goes_in}
use Rattle.template_machine.proofs.Shifting.{has_locals, leaves_on, left_so, left_with, locals_are, own_aside, own_locals}

-- The name that waits is the last local.

pub record Waits (xs : List Local) : Type 0 where
  pub before : List Local
  pub waiting : Local
  pub are : xs ≡ before ++ waiting ∷ []
  pub nameless : waiting.name.local ≡ []

last_tag : (xs : List Local) (ks : List Kind) → AreOf xs (ks ++ Tag ∷ []) → Waits xs
last_tag [] [] h = absurd h
last_tag [] (k ∷ ks) h = absurd h
last_tag (x ∷ []) [] h = record { before = []; waiting = x; are = refl; nameless = h.0.0 }
last_tag (x ∷ y ∷ xs) [] h = absurd h.1
last_tag (x ∷ xs) (k ∷ ks) h =
    let w = last_tag xs ks h.1 in record { before = x ∷ w.before; waiting = w.waiting; are = ap (λ l. x ∷ l) w.are; nameless = w.nameless }

pub waits_at : (p : Program) (r : Run) (running : Running) (n : ℕ) (locals : List Local) → IsAtOp p r running (op.Close n) → HasForm p.code n AroundTag
    → option_map locals_of (slice_get r.frames.frames running.body) ≡ Some locals → Waits locals
waits_at p r running n locals at has is =
    let c = some_context p r running (op.Close n) at in
    let fs = reverse r.frames.frames in
    let g = goes_at p at.well.stations 0 false fs c.0 (standing_of r) running.pc at.pc c.1 in
    let o = before_tag p at.well.stations running.pc n c.0 at.well.stand at.is has g in
    let a = at_place p r running (op.Close n) at in
    let are : AreOf (locals_of a.0) (o.0.locals ++ Tag ∷ []) =
    subst (AreOf (locals_of a.0)) (ap (λ (x : Context). x.locals) o.1.0) (locals_are p at.well.stations 0 fs c.0 (standing_of r) a.0 a.1.0 c.1) in
    let same : locals_of a.0 ≡ locals = one (sym (ap (option_map locals_of) a.1.1) ∙ is) in
    last_tag locals o.0.locals (subst (λ l. AreOf l (o.0.locals ++ Tag ∷ [])) same are)
  where
    one : {x y : List Local} → Some x ≡ Some y → x ≡ y
    one e = cc

-- they are those of the innermost body
pub has_those : (p : Program) (r : Run) (running : Running) (n : ℕ) (locals : List Local) → IsAtOp p r running (op.Close n)
    → option_map locals_of (slice_get r.frames.frames running.body) ≡ Some locals → HasLocals r locals
has_those p r running n locals at is =
    let a = at_place p r running (op.Close n) at in ap (option_map locals_of) (a.1.0 ∙ sym a.1.1) ∙ is

last_value : (before : List Local) (x : Local) → slice_get (map (λ (l : Local). l.value) (before ++ x ∷ [])) (length before) ≡ Some x.value
last_value [] x = refl
last_value (y ∷ before) x = last_value before x

pub value_waits : (xs : List Local) (w : Waits xs) (n : ℕ) (v : List Atom) → n ≡ length xs - 1 → slice_get (map (λ (l : Local). l.value) xs) n ≡ Some v → v ≡ w.waiting.value
value_waits xs w n v last is =
    let same : n ≡ length w.before = omega (arith, last, ap length w.are, length-append w.before (w.waiting ∷ [])) in
    one
    (sym is ∙ ap (slice_get (map (λ (l : Local). l.value) xs)) same ∙ ap (λ l. slice_get (map (λ (x : Local). x.value) l) (length w.before)) w.are
    ∙ last_value w.before w.waiting)
  where
    one : {x y : List Atom} → Some x ≡ Some y → x ≡ y
    one e = cc

taken : (xs : List Local) (w : Waits xs) → take (length xs - 1) xs ≡ w.before
taken xs w =
    let same : length xs - 1 ≡ length w.before = omega (arith, ap length w.are, length-append w.before (w.waiting ∷ [])) in
    ap (λ n. take n xs) same ∙ ap (take (length w.before)) w.are ∙ take-append_seam w.before (w.waiting ∷ [])

module _ {S : Type 0} (output : S → Target) (told : S → S → List Said → Type 0) (p : Program) where
  -- how such an element ends
  element_ends : (given : Given) (i : Instr) (at : Place) (w : Working) → IsElementAt (out-Instr i) at
      → closes_by given (out-Instr i) w ≡ by_given (takes_up w) (put_parts given at (part.End (tagged (last_aside w.aside)) ∷ []) w.here)
  element_ends given i at w is = by (out-Instr i) is
    where
      by : (x : Instr-F Instr When) → IsElementAt x at → closes_by given x w ≡ by_given (takes_up w) (put_parts given at (part.End (tagged (last_aside w.aside)) ∷ []) w.here)
      by (Instr-F.Element name namespace scope body there) is = ap (λ k. by_given (takes_up w) (put_parts given k (part.End (tagged (last_aside w.aside)) ∷ []) w.here)) is
      by x is = absurd is

  pub element_closes : {A : Type 0} (result : Result A Stop) (r new : Run) (running : Running) (n : ℕ) (i : Instr) (at : Place) (locals : List Local) (t : Waits locals) (out out_now : S)
      → IsAtOp p r running (op.Close n) → slice_get p.code.instrs n ≡ Some i → IsElementAt (out-Instr i) at → HasLocals r locals
      → Puts output told at (part.End (tagged t.waiting.value) ∷ []) result r.putting new.putting out out_now
      → OnOk result (reverse new.frames.frames ≡ on_body (λ f. with_locals (take (length locals - 1)) (with_pc (running.pc + 1) f)) (reverse r.frames.frames))
      → new ≡ record r { frames = new.frames; putting = new.putting } → Steps output told p result r new out out_now
  element_closes result r new running n i at locals t out out_now at_op is element has q behind rest = record {
    said = q.said;
    tells = q.tells;
    does = λ given of_sheet limit f.
        let left_now : Left = (output out_now).left in
        let cut : List Local → List Local = take (length locals - 1) in
        let k : Working → Flat_does = go_on (steps_of given) (running.pc + 1) in
        leaves_on given p cut result r new running (op.Close n) (running.pc + 1) (output out).left left_now q.said at_op of_sheet behind (putting_rest r new rest)
        (λ w st sees here.
        let own : List Local = locals_of st.body in
        let own_is : own ≡ locals = one (sym (has_locals given p r w st) ∙ has) in
        let now : State = still.state_of given p new left_now in
        let aside_is : w.aside ≡ t.waiting.value ∷ aside_of t.before = own_aside given p r w st ∙ ap aside_of (own_is ∙ t.are) ∙ aside_pushed t.before t.waiting t.nameless in
        let locals_is : w.here.locals ≡ named_of t.before = own_locals given p r w st ∙ ap named_of (own_is ∙ t.are) ∙ named_kept t.before t.waiting t.nameless in
        let cut_is : cut own ≡ t.before = ap cut own_is ∙ taken locals t in
        let x : Does = put_parts given at (part.End (tagged t.waiting.value) ∷ []) w.here in
        let code_is : slice_get (code_of given.sheet).instrs n ≡ Some i = ap (λ (code : Code). slice_get code.instrs n) (sym of_sheet.code_is) ∙ is in
        let so : still.operates given p (op.Close n) running.pc w ≡ done_in given p (takes_up w) x k =
        ap (λ o. option_map_or (λ y. and_then (renamed (as_flat (steps_of given) (start_of (steps_of given) given.sheet)) (closes_by given (out-Instr y) w)) k) o (k w)) code_is
        ∙ ap (λ d. and_then (renamed (as_flat (steps_of given) (start_of (steps_of given) given.sheet)) d) k) (element_ends given i at w element)
        ∙ ap (λ l. done_in given p (takes_up w) (put_parts given at (part.End (tagged (last_aside l)) ∷ []) w.here) k) aside_is in
        let left : k (stands_at (takes_up w) (with_state w.here now)) ≡ k (left_with w (cut own) w.turns now) =
        left_so given (running.pc + 1) w (cut own) w.here.locals (rest_of w.aside) w.turns w.turns now now (locals_is ∙ ap named_of (sym cut_is))
        (ap rest_of aside_is ∙ ap aside_of (sym cut_is)) refl refl in
        subst (λ y. GoesAs result y q.said (k (left_with w (cut own) w.turns now))) (sym so)
        (subst (λ y. GoesAs result (done_in given p (takes_up w) x k) q.said y) left
        (goes_in given p result (takes_up w) x q.said (with_state w.here now) k (puts_go output told p given at (part.End (tagged t.waiting.value) ∷ []) result r new out out_now w.here limit rest q here))))
        f;
  }
    where
      one : {x y : List Local} → Some x ≡ Some y → x ≡ y
      one e = cc
