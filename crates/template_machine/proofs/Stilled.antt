-- What is still done is done by going on.
use Rattle.std.proofs.Common.{◌≡◌, ℕ, ◌+◌, Bool, true, false, not, ◌||◌, List, [], ◌∷◌, ◌++◌, reverse, Some, None, refl, ap, sym, subst, ◌∙◌, append_assoc}
use Rattle.std.specs.Prelude.{if◌then◌else◌, slice_get, unwrap_or}
use Rattle.std.specs.Option.{option_map_or}
use Rattle.std.proofs.lemmas.List.{append-nil}
use Rattle.stx_base.specs.Course.{Ask, Ret, Same, and_then, says}
use Rattle.stx_base.proofs.Course.{and_then_says, same_equal, same_says, same_then, says_says, unfolds}
use Rattle.frame_stack.specs.Change.{with_locals, with_pc}
use Rattle.frame_stack.specs.Stack.{FrameStack}
use Rattle.frame_stack.specs.declared.frame.Frame.{Frame}
use Rattle.frame_stack.specs.declared.frame.Frame.TheVariants.{Body, Call, Loop}
use Rattle.frame_stack.specs.declared.locals.Local.{Local}
use Rattle.instr_code.specs.Code.{code_of}
use Rattle.instr_code.specs.declared.code.Op.{Op}
use Rattle.instr_code.specs.declared.code.Op.TheVariants as op
use Rattle.node_stack.specs.Path.{Node, PathNode, is_attribute}
use Rattle.result_writer.specs.Target.{Left}
use Rattle.xml_events.specs.Document.{inner, outer}
use Rattle.xml_events.specs.Tree.{Future}
use Rattle.template_machine.specs.Bodies.{on_body, pc_in, pc_of, spent_in}
use Rattle.template_machine.specs.Ending.{Said}
use Rattle.template_machine.specs.Job.{Given, Here, State, single}
use Rattle.template_machine.specs.Lists.{rest_of}
use Rattle.instr_code.specs.Running.{At, as_flat, go_on, operated, start_of}
use Rattle.template_machine.specs.Still as still
use Rattle.template_machine.specs.Still.{Goes, Runs, Scene, below_loops, first_node}
use Rattle.template_machine.specs.GoingOn.{JumpsGoOn, OperationsGoOn}
use Rattle.template_machine.specs.Stepwise.{Flat_does, Working, flat_code, steps_of}
use Rattle.template_machine.specs.Well.{is_again}
use Rattle.template_machine.specs.declared.program.Program.{Program}
use Rattle.template_machine.specs.declared.putting.Putting.{Putting}
use Rattle.template_machine.specs.declared.run.Doing.{Doing}
use Rattle.template_machine.specs.declared.run.Doing.TheVariants as doing
use Rattle.template_machine.specs.declared.run.Run.{Run}
use Rattle.template_machine.specs.declared.source.Ahead.{Ahead}
use Rattle.var_store.specs.Copies.{Stored}

module _ (given : Given) (p : Program) where
  -- a jump in code
  jumps_to : (pc to : ℕ) (w : Working) (k : Working → Flat_does) → slice_get (code_of given.sheet).ops pc ≡ Some (op.Jump to)
      → Same (flat_code given) (Ask (At pc w) k) (Ask (At to w) k)
  jumps_to pc to w k is =
      unfolds (flat_code given) (At pc w) k
      (ap (λ o. and_then (option_map_or (λ x. operated (steps_of given) (code_of given.sheet).instrs (as_flat (steps_of given) (start_of (steps_of given) given.sheet)) (go_on (steps_of given)) x pc w) o (Ret w)) k) is)

  jump_rest : (pc to : ℕ) → slice_get (code_of given.sheet).ops pc ≡ Some (op.Jump to) → (turns : List ℕ) (fs : List Frame) (c : Scene) (f : Future) (a : Here)
      → pc_in fs ≡ Some pc → Same (flat_code given) (still.rest given p Runs turns fs c f a) (still.rest given p Runs turns (on_body (with_pc to) fs) c f a)
  jump_rest pc to is turns [] c f a at = absurd (cc)
  jump_rest pc to is turns (Loop turn ∷ fs) c f a at = jump_rest pc to is (turns ++ turn ∷ []) fs c f a at
  jump_rest pc to is turns (Body template alternative q locals level spent ∷ fs) c f a at =
      let same : q ≡ pc = cc in
      jumps_to q to _ _ (ap (λ n. slice_get (code_of given.sheet).ops n) same ∙ is)
  jump_rest pc to is turns (Call procedure q locals level ∷ fs) c f a at =
      let same : q ≡ pc = cc in
      jumps_to q to _ _ (ap (λ n. slice_get (code_of given.sheet).ops n) same ∙ is)
  jump_rest pc to is turns (x ∷ fs) c f a at = absurd (cc)

  spent_jumps : (to : ℕ) (fs : List Frame) → spent_in (on_body (with_pc to) fs) ≡ spent_in fs
  spent_jumps to [] = refl
  spent_jumps to (Loop turn ∷ fs) = spent_jumps to fs
  spent_jumps to (Body template alternative q locals level spent ∷ fs) = refl
  spent_jumps to (Call procedure q locals level ∷ fs) = refl
  spent_jumps to (x ∷ fs) = refl

  pub goes_alike : (spent : Bool) (n : Node) (above : List PathNode) (f : Future) (k h : Future → Here → Flat_does) (st : State)
      → ((g : Future) (a : Here) → Same (flat_code given) (k g a) (h g a))
      → Same (flat_code given) (still.goes_on_at given p spent n above f k st) (still.goes_on_at given p spent n above f h st)
  goes_alike spent n above f k h st e = by (is_attribute (Some n)) (spent || not (still.has_kids n))
    where
      by : (alone b : Bool)
          → Same (flat_code given)
          (if alone then k f (single st) else if b then k (outer f) (record { kids = None; left = record { earlier = still.counts_of above; coming = inner f }; locals = []; state = st })
          else k (outer (outer f)) (record { kids = Some (inner f); left = record { earlier = still.counts_of above; coming = inner (outer f) }; locals = []; state = st }))
          (if alone then h f (single st) else if b then h (outer f) (record { kids = None; left = record { earlier = still.counts_of above; coming = inner f }; locals = []; state = st })
          else h (outer (outer f)) (record { kids = Some (inner f); left = record { earlier = still.counts_of above; coming = inner (outer f) }; locals = []; state = st }))
      by true b = e f _
      by false true = e (outer f) _
      by false false = e (outer (outer f)) _

  jump_done : (d : Doing) (h : Ahead) (r : Run) (frames : FrameStack) (pc to : ℕ) (fs : List Frame) → d ≡ doing.Body → pc_in fs ≡ Some pc
      → slice_get (code_of given.sheet).ops pc ≡ Some (op.Jump to) → (left : Left) (f : Future)
      → Same (flat_code given) (still.doing_now given p d h fs r left f)
      (still.doing_now given p d h (on_body (with_pc to) fs) (record r { frames = frames }) left f)
  jump_done doing.Body h r frames pc to fs is at code left f =
      let c = still.scene_by given p h r in
      let lists = still.lists_ahead given p h r f in
      let st = still.state_of given p r left in
      subst (λ o. Same (flat_code given) (still.doing_now given p doing.Body h fs r left f)
      (still.goes_on_at given p (unwrap_or o true) (first_node c.nodes) (rest_of c.nodes) lists (λ f. still.rest given p Runs [] (on_body (with_pc to) fs) c f) st))
      (sym (spent_jumps to fs))
      (goes_alike (unwrap_or (spent_in fs) true) (first_node c.nodes) (rest_of c.nodes) lists (λ f. still.rest given p Runs [] fs c f)
      (λ f. still.rest given p Runs [] (on_body (with_pc to) fs) c f) st (λ g a. jump_rest pc to code [] fs c g a at))
  jump_done doing.List h r frames pc to fs is at code left f = absurd (cc)

  pub jump_goes : (r : Run) (frames : FrameStack) (pc to : ℕ) → r.doing ≡ doing.Body → reverse frames.frames ≡ on_body (with_pc to) (reverse r.frames.frames)
      → pc_in (reverse r.frames.frames) ≡ Some pc → slice_get (code_of given.sheet).ops pc ≡ Some (op.Jump to) → (left : Left) (said : List Said)
      → Goes given p r left said (record r { frames = frames }) left said
  jump_goes r frames pc to is same at code left said = record {
    law = λ f.
        same_says said
        (subst (λ l. Same (flat_code given) (still.still given p r left f)
        (still.doing_now given p r.doing r.source.ahead l (record r { frames = frames }) left f)) (sym same)
        (jump_done r.doing r.source.ahead r frames pc to (reverse r.frames.frames) is at code left f));
  }

pub jumps_go_on : JumpsGoOn
jumps_go_on given p r frames pc to is same at code left said = jump_goes given p r frames pc to is same at code left said

-- Operations.

module _ (given : Given) (p : Program) where
  -- an operation that goes on at another place of the code
  steps_to : (o : Op) (pc to : ℕ) (w v : Working) (more : List Said) (k : Working → Flat_does) → slice_get (code_of given.sheet).ops pc ≡ Some o
      → still.operates given p o pc w ≡ says more (go_on (steps_of given) to v) → Same (flat_code given) (Ask (At pc w) k) (says more (Ask (At to v) k))
  steps_to o pc to w v more k is does =
      unfolds (flat_code given) (At pc w) k
      (ap (λ x. and_then (option_map_or (λ y. still.operates given p y pc w) x (Ret w)) k) is ∙ ap (λ y. and_then y k) does
      ∙ and_then_says more (go_on (steps_of given) to v) k)

  pub loops_rest : (turns over : List ℕ) (gs : List Frame) (c : Scene) (f : Future) (a : Here)
      → still.rest given p Runs over (below_loops turns gs) c f a ≡ still.rest given p Runs (over ++ turns) gs c f a
  loops_rest [] over gs c f a = ap (λ l. still.rest given p Runs l gs c f a) (sym (append-nil over))
  loops_rest (n ∷ ns) over gs c f a = loops_rest ns (over ++ n ∷ []) gs c f a ∙ ap (λ l. still.rest given p Runs l gs c f a) (append_assoc over (n ∷ []) ns)

  spent_loops : (turns : List ℕ) (gs : List Frame) → spent_in (below_loops turns gs) ≡ spent_in gs
  spent_loops [] gs = refl
  spent_loops (n ∷ ns) gs = spent_loops ns gs

  spent_moved : (b : Frame) (fs : List Frame) (to : ℕ) (locals : List Local) (pc : ℕ) → pc_of b ≡ Some pc → spent_in (with_locals (λ l. locals) (with_pc to b) ∷ fs) ≡ spent_in (b ∷ fs)
  spent_moved (Body template alternative q own level spent) fs to locals pc at = refl
  spent_moved (Call procedure q own level) fs to locals pc at = refl
  spent_moved b fs to locals pc at = absurd (cc)

  rest_steps : (b : Frame) (fs : List Frame) (pc to : ℕ) (o : Op) (locals : List Local) (turns turns_now : List ℕ) (more : List Said) (c : Scene) (f : Future) (a : Here) (now : State)
      → pc_of b ≡ Some pc → slice_get (code_of given.sheet).ops pc ≡ Some o
      → still.operates given p o pc (still.working_in given p turns b fs c a)
      ≡ says more (go_on (steps_of given) to (still.working_in given p turns_now (with_locals (λ l. locals) (with_pc to b)) fs c (record a { state = now })))
      → Same (flat_code given) (still.rest given p Runs turns (b ∷ fs) c f a)
      (says more (still.rest given p Runs turns_now (with_locals (λ l. locals) (with_pc to b) ∷ fs) c f (record a { state = now })))
  rest_steps (Body template alternative q own level spent) fs pc to o locals turns turns_now more c f a now at is does =
      let b = Body template alternative q own level spent in
      let same : pc ≡ q = cc in
      let w = still.working_in given p turns b fs c a in
      let v = still.working_in given p turns_now (Body template alternative to locals level spent) fs c (record a { state = now }) in
      let k : Here → Flat_does =
      still.template_over given p template (is_again level fs) c (still.rest given p still.Returns [] fs c f) (still.rest given p still.Lists [] fs (still.node_over c) f) in
      steps_to o q to w v more (λ (u : Working). k u.here) (ap (slice_get (code_of given.sheet).ops) (sym same) ∙ is)
      (subst (λ n. still.operates given p o n w ≡ says more (go_on (steps_of given) to v)) same does)
  rest_steps (Call procedure q own level) fs pc to o locals turns turns_now more c f a now at is does =
      let same : pc ≡ q = cc in
      let w = still.working_in given p turns (Call procedure q own level) fs c a in
      let v = still.working_in given p turns_now (Call procedure to locals level) fs c (record a { state = now }) in
      steps_to o q to w v more (λ (u : Working). still.rest given p Runs [] fs c f u.here) (ap (slice_get (code_of given.sheet).ops) (sym same) ∙ is)
      (subst (λ n. still.operates given p o n w ≡ says more (go_on (steps_of given) to v)) same does)
  rest_steps b fs pc to o locals turns turns_now more c f a now at is does = absurd (cc)

  pub goes_on_alike : (spent : Bool) (n : Node) (above : List PathNode) (f : Future) (k h : Future → Here → Flat_does) (st now : State) (more : List Said)
      → ((g : Future) (a : Here) → a.state ≡ st → Same (flat_code given) (k g a) (says more (h g (record a { state = now }))))
      → Same (flat_code given) (still.goes_on_at given p spent n above f k st) (says more (still.goes_on_at given p spent n above f h now))
  goes_on_alike spent n above f k h st now more e = by (is_attribute (Some n)) (spent || not (still.has_kids n))
    where
      by : (alone b : Bool)
          → Same (flat_code given)
          (if alone then k f (single st) else if b then k (outer f) (record { kids = None; left = record { earlier = still.counts_of above; coming = inner f }; locals = []; state = st })
          else k (outer (outer f)) (record { kids = Some (inner f); left = record { earlier = still.counts_of above; coming = inner (outer f) }; locals = []; state = st }))
          (says more (if alone then h f (single now) else if b then h (outer f) (record { kids = None; left = record { earlier = still.counts_of above; coming = inner f }; locals = []; state = now })
          else h (outer (outer f)) (record { kids = Some (inner f); left = record { earlier = still.counts_of above; coming = inner (outer f) }; locals = []; state = now })))
      by true b = e f (single st) refl
      by false true = e (outer f) (record { kids = None; left = record { earlier = still.counts_of above; coming = inner f }; locals = []; state = st }) refl
      by false false = e (outer (outer f)) (record { kids = Some (inner f); left = record { earlier = still.counts_of above; coming = inner (outer f) }; locals = []; state = st }) refl

  module _ (r : Run) (frames : FrameStack) (store : Stored) (putting : Putting) (units : ℕ) (b : Frame) (fs : List Frame) (pc to : ℕ) (o : Op) (locals : List Local) (turns turns_now : List ℕ) (left left_now : Left) (more : List Said) where
    abbrev later : Run
    later = record r { frames = frames; store = store; putting = putting; fuel = units }

    abbrev moved : Frame
    moved = with_locals (λ l. locals) (with_pc to b)

    operation_done : (d : Doing) (h : Ahead) → d ≡ doing.Body → pc_of b ≡ Some pc → slice_get (code_of given.sheet).ops pc ≡ Some o
        → ((a : Here) → a.state ≡ still.state_of given p r left
        → still.operates given p o pc (still.working_in given p turns b fs (still.scene_by given p h r) a)
        ≡ says more (go_on (steps_of given) to (still.working_in given p turns_now moved fs (still.scene_by given p h r) (record a { state = still.state_of given p later left_now }))))
        → (f : Future)
        → Same (flat_code given) (still.doing_now given p d h (below_loops turns (b ∷ fs)) r left f) (says more (still.doing_now given p d h (below_loops turns_now (moved ∷ fs)) later left_now f))
    operation_done doing.Body h doing_is at is does f =
        let c = still.scene_by given p h r in
        let lists = still.lists_ahead given p h r f in
        let st = still.state_of given p r left in
        let now = still.state_of given p later left_now in
        let old : Future → Here → Flat_does = λ g. still.rest given p Runs [] (below_loops turns (b ∷ fs)) c g in
        let new : Future → Here → Flat_does = λ g. still.rest given p Runs [] (below_loops turns_now (moved ∷ fs)) c g in
        let same : spent_in (below_loops turns_now (moved ∷ fs)) ≡ spent_in (below_loops turns (b ∷ fs)) =
        spent_loops turns_now (moved ∷ fs) ∙ spent_moved b fs to locals pc at ∙ sym (spent_loops turns (b ∷ fs)) in
        subst (λ x. Same (flat_code given) (still.doing_now given p doing.Body h (below_loops turns (b ∷ fs)) r left f)
        (says more (still.goes_on_at given p (unwrap_or x true) (first_node c.nodes) (rest_of c.nodes) lists new now)))
        (sym same)
        (goes_on_alike (unwrap_or (spent_in (below_loops turns (b ∷ fs))) true) (first_node c.nodes) (rest_of c.nodes) lists old new st now more
        (λ g a q.
        same_then (same_equal (flat_code given) (loops_rest turns [] (b ∷ fs) c g a))
        (same_then (rest_steps b fs pc to o locals turns turns_now more c g a now at is (does a q))
        (same_equal (flat_code given) (ap (says more) (sym (loops_rest turns_now [] (moved ∷ fs) c g (record a { state = now }))))))))
    operation_done doing.List h doing_is at is does f = absurd (cc)

    operation_goes : (said : List Said) → r.doing ≡ doing.Body → reverse r.frames.frames ≡ below_loops turns (b ∷ fs) → reverse frames.frames ≡ below_loops turns_now (moved ∷ fs)
        → pc_of b ≡ Some pc → slice_get (code_of given.sheet).ops pc ≡ Some o
        → ((a : Here) → a.state ≡ still.state_of given p r left
        → still.operates given p o pc (still.working_in given p turns b fs (still.scene_by given p r.source.ahead r) a)
        ≡ says more (go_on (steps_of given) to (still.working_in given p turns_now moved fs (still.scene_by given p r.source.ahead r) (record a { state = still.state_of given p later left_now }))))
        → Goes given p r left said later left_now (said ++ more)
    operation_goes said doing_is before behind at is does = record {
      law = λ f.
          same_then
          (same_says said
          (subst (λ l. Same (flat_code given) (still.doing_now given p r.doing r.source.ahead l r left f) (says more (still.still given p later left_now f))) (sym before)
          (subst (λ l. Same (flat_code given) (still.doing_now given p r.doing r.source.ahead (below_loops turns (b ∷ fs)) r left f) (says more (still.doing_now given p r.doing r.source.ahead l later left_now f))) (sym behind)
          (operation_done r.doing r.source.ahead doing_is at is does f))))
          (same_equal (flat_code given) (sym (says_says said more (still.still given p later left_now f))));
    }

pub operations_go_on : OperationsGoOn
operations_go_on given p r frames store putting units b fs pc to o locals turns turns_now left left_now said more doing_is before behind at is does =
    operation_goes given p r frames store putting units b fs pc to o locals turns turns_now left left_now more said doing_is before behind at is does
