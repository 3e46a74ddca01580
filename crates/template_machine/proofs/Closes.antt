-- Instructions round a list: what is put behind it.
use Rattle.std.proofs.Common.{◌≡◌, ℕ, ◌+◌, List, [], ◌∷◌, ◌++◌, Option, Some, Result, Ok, Err, map, reverse, refl, ap, sym, subst, ◌∙◌}
use Rattle.std.specs.Prelude.{OnOk, slice_get}
use Rattle.std.proofs.lemmas.List.{map-append, reverse-append}
use Rattle.std.specs.Option.{option_map_or}
use Rattle.stx_base.specs.Course.{Ret, and_then}
use Rattle.stx_base.specs.declared.fault.Place.{Place}
use Rattle.stx_base.specs.declared.name.Name.{Name}
use Rattle.stx_base.specs.declared.part.Part.{Part}
use Rattle.stx_base.specs.declared.part.Part.TheVariants as part
use Rattle.frame_stack.specs.Change.{locals_of, with_locals, with_pc}
use Rattle.frame_stack.specs.declared.frame.Frame.{Frame}
use Rattle.frame_stack.specs.declared.frame.Frame.TheVariants.{Attributes, Body, Call, Loop, Pass, Region, Skip, Source}
use Rattle.instr_code.specs.Code.{code_of}
use Rattle.instr_code.specs.Running.{as_flat, go_on, start_of}
use Rattle.instr_code.specs.Steps.{renamed}
use Rattle.instr_code.specs.declared.code.Code.{Code}
use Rattle.instr_code.specs.declared.code.Op.{Op}
use Rattle.instr_code.specs.declared.code.Op.TheVariants as op
use Rattle.node_stack.specs.Open.{node_of}
use Rattle.node_stack.specs.Path.{Node, PathNode, current}
use Rattle.node_stack.specs.Stack.{path}
use Rattle.node_stack.specs.declared.node.NodeView.{NodeView}
use Rattle.node_stack.specs.declared.node.NodeView.TheVariants as view
use Rattle.result_writer.specs.Target.{Left, Target}
use Rattle.sheet_model.specs.declared.instr.Instr.{Instr}
use Rattle.sheet_model.specs.declared.instr.Instr.TheOpen.{Instr-F}
use Rattle.sheet_model.specs.declared.instr.Instr.TheVariants as instr
use Rattle.sheet_model.specs.declared.instr.Instr.TheViews.{out-Instr, rolls-Copy, rolls-Literal}
use Rattle.sheet_model.specs.declared.instr.LiteralAttr.{LiteralAttr}
use Rattle.stxpath_syntax.specs.declared.expr.Pattern.{Pattern}
use Rattle.xml_events.specs.Tree.{Future}
use Rattle.template_machine.specs.Acting.{put_parts}
use Rattle.template_machine.specs.Bodies.{on_body}
use Rattle.template_machine.specs.Ending.{Said}
use Rattle.template_machine.specs.Job.{Does, Given, Here, State, with_state}
use Rattle.template_machine.specs.Moments.{IsAtOp}
use Rattle.template_machine.specs.Putting.{puts}
use Rattle.template_machine.specs.Programs.{IsProgramOf}
use Rattle.template_machine.specs.Saying.{GoesAs, Proceeds, Puts, SeesAs, Steps, placed}
use Rattle.template_machine.specs.Still as still
use Rattle.template_machine.specs.Still.{state_of}
use Rattle.template_machine.specs.Stepwise.{Flat_does, Working, by_given, closes_by, copy_end, stands_at, steps_of}
use Rattle.template_machine.specs.declared.program.Program.{Program}
use Rattle.template_machine.specs.declared.run.Run.{Run}
use Rattle.template_machine.specs.declared.run.Running.{Running}
use Rattle.template_machine.specs.declared.stop.Stop.{Stop}
use Rattle.template_machine.specs.Shifting.{StandsAt}
use Rattle.template_machine.specs.Trail as trail
use Rattle.template_machine.specs.Ways.{first_in, here, stood, way_of}
use Rattle.template_machine.proofs.Proceeding.{done_in, goes_in, on_ok_by}
use Rattle.template_machine.proofs.Shifting.{leaves_on, left_with}
use Rattle.template_machine.proofs.Sighting.{front}
use Rattle.template_machine.proofs.Spelled.{out_is}
use Rattle.template_machine.proofs.Ways.{way_here}

pub moved_and_put : (old mid new : Run) → new ≡ record mid { frames = new.frames } → mid ≡ record old { putting = mid.putting } → new ≡ record old { frames = new.frames; putting = new.putting }
moved_and_put old mid new moved put =
    let e = moved ∙ ap (λ (m : Run). record m { frames = new.frames }) put in e ∙ sym (ap (λ (n : Run). record old { frames = new.frames; putting = n.putting }) e)

pub putting_alone : (old new : Run) → new ≡ record old { putting = new.putting } → new ≡ record old { frames = new.frames; putting = new.putting }
putting_alone old new e = e ∙ sym (ap (λ (n : Run). record old { frames = n.frames; putting = new.putting }) e)

-- frames and what was put are others alone
pub putting_rest : (old new : Run) → new ≡ record old { frames = new.frames; putting = new.putting }
    → new ≡ record old { frames = new.frames; store = new.store; putting = new.putting; fuel = new.fuel }
putting_rest old new e = e ∙ sym (ap (λ (n : Run). record old { frames = new.frames; store = n.store; putting = new.putting; fuel = n.fuel }) e)

-- The current node of a body.

pub reverse_map : {A B : Type 0} (xs : List A) (f : A → B) → reverse (map f xs) ≡ map f (reverse xs)
reverse_map [] f = refl
reverse_map (x ∷ xs) f =
    reverse-append (f x ∷ []) (map f xs) ∙ ap (λ l. l ++ f x ∷ []) (reverse_map xs f) ∙ sym (map-append f (reverse xs) (x ∷ []))
    ∙ ap (map f) (sym (reverse-append (x ∷ []) xs))

pub nodes_there : (given : Given) (p : Program) (r : Run) (running : Running) (o : Op) (w : Working) → IsAtOp p r running o → StandsAt given p r w
    → w.self.trail ≡ still.trail_of (reverse (path r.source.stack).nodes)
nodes_there given p r running o w at st =
    ap (λ (v : Working). v.self.trail) st.is ∙ ap still.trail_of (front r.source.ahead (reverse (path r.source.stack).nodes) given p (at.well.apart at.doing))

first_current : (l : List PathNode) (n : Node) → first_in (map stood l) ≡ Some n → trail.current (still.trail_of l) ≡ n
first_current [] n is = absurd (cc)
first_current (x ∷ xs) n is = one is
  where
    one : {a b : Node} → Some a ≡ Some b → a ≡ b
    one e = cc

pub node_there : (given : Given) (p : Program) (r : Run) (running : Running) (o : Op) (w : Working) (n : Node) → IsAtOp p r running o → StandsAt given p r w
    → current (path r.source.stack) ≡ Some n → trail.current w.self.trail ≡ n
node_there given p r running o w n at st is =
    let nodes = (path r.source.stack).nodes in
    ap trail.current (nodes_there given p r running o w at st)
    ∙ first_current (reverse nodes) n (ap first_in (sym (reverse_map nodes stood)) ∙ way_here (path r.source.stack) ∙ is)

-- A body that keeps its locals and its loops.

keeps_frames : (to : ℕ) (fs : List Frame) → on_body (with_pc to) fs ≡ on_body (λ f. with_locals (λ l. l) (with_pc to f)) fs
keeps_frames to [] = refl
keeps_frames to (Loop turn ∷ fs) = ap (λ l. Loop turn ∷ l) (keeps_frames to fs)
keeps_frames to (Body template alternative pc locals level spent ∷ fs) = refl
keeps_frames to (Call procedure pc locals level ∷ fs) = refl
keeps_frames to (Region asked level ∷ fs) = refl
keeps_frames to (Attributes next asked ∷ fs) = refl
keeps_frames to (Source buffer next asked ∷ fs) = refl
keeps_frames to (Skip depth ∷ fs) = refl
keeps_frames to (Pass base level spent ∷ fs) = refl

same_left : (given : Given) (p : Program) (r : Run) (w : Working) (now : State) (st : StandsAt given p r w) → stands_at w (with_state w.here now) ≡ left_with w (locals_of st.body) w.turns now
same_left given p r w now st = subst (λ (v : Working). stands_at v (with_state v.here now) ≡ left_with v (locals_of st.body) v.turns now) (sym st.is) refl

pub stays_on : {A : Type 0} (given : Given) (p : Program) (result : Result A Stop) (r new : Run) (running : Running) (o : Op) (to : ℕ) (left left_now : Left) (said : List Said) → IsAtOp p r running o
    → IsProgramOf given.sheet given.limits p → OnOk result (reverse new.frames.frames ≡ on_body (with_pc to) (reverse r.frames.frames))
    → new ≡ record r { frames = new.frames; store = new.store; putting = new.putting; fuel = new.fuel }
    → ((w : Working) → StandsAt given p r w → SeesAs given p r w.self w.here → w.here.state ≡ still.state_of given p r left
    → GoesAs result (still.operates given p o running.pc w) said (go_on (steps_of given) to (stands_at w (with_state w.here (still.state_of given p new left_now)))))
    → (f : Future) → Proceeds given p result (still.still given p r left f) said (still.still given p new left_now f)
stays_on given p result r new running o to left left_now said at of_sheet behind rest does f =
    leaves_on given p (λ l. l) result r new running o to left left_now said at of_sheet
    (on_ok_by result behind (λ e. e ∙ keeps_frames to (reverse r.frames.frames))) rest
    (λ w st sees here.
    subst (λ v. GoesAs result (still.operates given p o running.pc w) said (go_on (steps_of given) to v)) (same_left given p r w (still.state_of given p new left_now) st) (does w st sees here))
    f

module _ {S : Type 0} (output : S → Target) (told : S → S → List Said → Type 0) (p : Program) where
  -- parts that a run puts
  pub puts_go : {A : Type 0} (given : Given) (at : Place) (parts : List Part) (result : Result A Stop) (r new : Run) (out out_now : S) (a : Here) → (output out).limit ≡ given.limits.elements
      → new ≡ record r { frames = new.frames; putting = new.putting } → (q : Puts output told at parts result r.putting new.putting out out_now) → a.state ≡ state_of given p r (output out).left
      → GoesAs result (put_parts given at parts a) q.said (Ret (with_state a (state_of given p new (output out_now).left)))
  puts_go given at parts result r new out out_now a limit rest q here =
      let st : State = state_of given p r (output out).left in
      let go : State → Does = λ st. Ret (with_state a st) in
      let left : Left = (output out_now).left in
      let now : placed new.putting left st ≡ state_of given p new left = ap (λ (n : Run). state_of given p n left) (sym rest) in
      subst (λ y. GoesAs result (put_parts given at parts a) q.said (go y)) now
      (subst (λ y. GoesAs result (puts given at parts y go) q.said (go (placed new.putting left st))) (sym here) (q.does given limit st go))

  -- parts behind a list
  pub closes : {A : Type 0} (result : Result A Stop) (r new : Run) (running : Running) (n : ℕ) (i : Instr) (at : Place) (parts : List Part) (out out_now : S) → IsAtOp p r running (op.Close n)
      → slice_get p.code.instrs n ≡ Some i
      → ((given : Given) (w : Working) → StandsAt given p r w → closes_by given (out-Instr i) w ≡ by_given w (put_parts given at parts w.here))
      → Puts output told at parts result r.putting new.putting out out_now → OnOk result (reverse new.frames.frames ≡ on_body (with_pc (running.pc + 1)) (reverse r.frames.frames))
      → new ≡ record r { frames = new.frames; putting = new.putting }
      → Steps output told p result r new out out_now
  closes result r new running n i at parts out out_now at_op is closed q behind rest = record {
    said = q.said;
    tells = q.tells;
    does = λ given of_sheet limit f.
        let left_now : Left = (output out_now).left in
        let k : Working → Flat_does = go_on (steps_of given) (running.pc + 1) in
        stays_on given p result r new running (op.Close n) (running.pc + 1) (output out).left left_now q.said at_op of_sheet behind (putting_rest r new rest)
        (λ w st sees here.
        let x : Does = put_parts given at parts w.here in
        let code_is : slice_get (code_of given.sheet).instrs n ≡ Some i = ap (λ (code : Code). slice_get code.instrs n) (sym of_sheet.code_is) ∙ is in
        let so : still.operates given p (op.Close n) running.pc w ≡ done_in given p w x k =
        ap (λ o. option_map_or (λ y. and_then (renamed (as_flat (steps_of given) (start_of (steps_of given) given.sheet)) (closes_by given (out-Instr y) w)) k) o (k w)) code_is
        ∙ ap (λ d. and_then (renamed (as_flat (steps_of given) (start_of (steps_of given) given.sheet)) d) k) (closed given w st) in
        let now : Here = with_state w.here (state_of given p new left_now) in
        subst (λ y. GoesAs result y q.said (k (stands_at w now))) (sym so)
        (goes_in given p result w x q.said now k (puts_go given at parts result r new out out_now w.here limit rest q here)))
        f;
  }

  -- the end of a literal element
  pub literal_closes : {A : Type 0} (result : Result A Stop) (r new : Run) (running : Running) (n : ℕ) (i : Instr) (name : Name) (attrs : List LiteralAttr) (body : List Instr) (at : Place) (out out_now : S)
      → IsAtOp p r running (op.Close n) → slice_get p.code.instrs n ≡ Some i → i ≡ instr.Literal name attrs body at
      → Puts output told at (part.End name ∷ []) result r.putting new.putting out out_now → OnOk result (reverse new.frames.frames ≡ on_body (with_pc (running.pc + 1)) (reverse r.frames.frames))
      → new ≡ record r { frames = new.frames; putting = new.putting } → Steps output told p result r new out out_now
  literal_closes result r new running n i name attrs body at out out_now at_op is so q behind rest =
      let same : out-Instr i ≡ Instr-F.Literal name attrs body at = out_is i _ (Instr-F.Literal name attrs body at) (rolls-Literal name attrs body at) so in
      closes result r new running n i at (part.End name ∷ []) out out_now at_op is (λ given w st. ap (λ x. closes_by given x w) same) q behind rest

  -- and of a copy of the current node
  pub copy_closes : {A : Type 0} (result : Result A Stop) (r new : Run) (running : Running) (n : ℕ) (i : Instr) (attributes : Option Pattern) (body : List Instr) (at : Place) (node : Node) (out out_now : S)
      → IsAtOp p r running (op.Close n) → slice_get p.code.instrs n ≡ Some i → i ≡ instr.Copy attributes body at → current (path r.source.stack) ≡ Some node
      → Puts output told at (copy_end node) result r.putting new.putting out out_now → OnOk result (reverse new.frames.frames ≡ on_body (with_pc (running.pc + 1)) (reverse r.frames.frames))
      → new ≡ record r { frames = new.frames; putting = new.putting } → Steps output told p result r new out out_now
  copy_closes result r new running n i attributes body at node out out_now at_op is so here q behind rest =
      let same : out-Instr i ≡ Instr-F.Copy attributes body at = out_is i _ (Instr-F.Copy attributes body at) (rolls-Copy attributes body at) so in
      closes result r new running n i at (copy_end node) out out_now at_op is
      (λ given w st.
      ap (λ x. closes_by given x w) same
      ∙ ap (λ m. by_given w (put_parts given at (copy_end m) w.here)) (node_there given p r running (op.Close n) w node at_op st here)) q behind rest

-- The part behind a copy, by what is shown of the current node.

abbrev pub IsNoElement : NodeView → Type 0
IsNoElement (view.Element name attrs decls first) = ⊥
IsNoElement v = Unit {0}

pub ends_nothing : (v : NodeView) → IsNoElement v → copy_end (node_of v) ≡ []
ends_nothing (view.Element name attrs decls first) other = absurd other
ends_nothing view.Document other = refl
ends_nothing (view.Chars text) other = refl
ends_nothing (view.CData text) other = refl
ends_nothing (view.Comment text) other = refl
ends_nothing (view.Pi target text) other = refl
ends_nothing (view.Attribute a) other = refl
