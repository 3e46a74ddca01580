-- The body of a template is over, or of a procedure.
use Rattle.std.proofs.Common.{◌≡◌, ◌≢◌, ◌≤◌, ℕ, Bool, true, false, not, ◌||◌, List, [], ◌∷◌, ◌++◌, reverse, Option, Some, None, Result, Ok, refl, ap, sym, subst, ◌∙◌}
use Rattle.std.specs.Prelude.{if◌then◌else◌, option_map, slice_get, unwrap_or}
use Rattle.std.proofs.lemmas.Option.{slice_get-map}
use Rattle.std.specs.Option.{option_map_or}
use Rattle.stx_base.specs.Course.{Ask, Ret, Same, and_then}
use Rattle.stx_base.proofs.Course.{same_equal, same_then, unfolds}
use Rattle.frame_stack.specs.declared.frame.Frame.{Frame}
use Rattle.frame_stack.specs.declared.frame.Frame.TheVariants.{Attributes, Body, Call, Loop, Pass, Region, Skip, Source as Source_frame}
use Rattle.frame_stack.specs.declared.locals.Local.{Local}
use Rattle.event_buffers.specs.Buffers.{Buffers, on_group, taken_off}
use Rattle.instr_code.specs.Bare.{template_without_body}
use Rattle.instr_code.specs.Code.{code_of}
use Rattle.instr_code.specs.declared.code.Code.{Code}
use Rattle.instr_code.specs.Running.{At}
use Rattle.instr_code.specs.declared.code.Op.TheVariants as op
use Rattle.node_stack.specs.Path.{Node, PathNode, is_attribute}
use Rattle.result_writer.specs.Target.{Left}
use Rattle.xml_events.specs.Document.{inner, outer}
use Rattle.xml_events.specs.Tree.{Future}
use Rattle.template_machine.specs.Behind.{MovesFrom, body_done, lists_now, scene_now}
use Rattle.sheet_model.specs.declared.sheet.Sheet.{Sheet}
use Rattle.sheet_model.specs.declared.sheet.Template.{Template}
use Rattle.template_machine.specs.Bodies.{pc_in, skipped_in, spent_in}
use Rattle.template_machine.specs.Contexts.{Station}
use Rattle.template_machine.specs.Declaring.{ends_scope}
use Rattle.template_machine.specs.Job.{Given, Here, Main, State, single}
use Rattle.template_machine.specs.Lists.{rest_of}
use Rattle.template_machine.specs.Made.{LeavesScope}
use Rattle.template_machine.specs.Moments.{IsAtOp}
use Rattle.template_machine.specs.Ordinary.{AreUntouched, HeadIsCounted, IsAlone}
use Rattle.template_machine.specs.Passing.{finish}
use Rattle.template_machine.specs.Programs.{IsProgramOf}
use Rattle.template_machine.specs.Seen.{named_of}
use Rattle.template_machine.specs.Sources.{held_node}
use Rattle.template_machine.specs.Standing.{standing_of}
use Rattle.template_machine.specs.Still as still
use Rattle.template_machine.specs.Still.{Lists, Returns, Runs, Scene, first_node}
use Rattle.template_machine.specs.Stepwise.{Flat_does, Working, flat_code, lifted}
use Rattle.template_machine.specs.Variables.{unshadowed}
use Rattle.template_machine.specs.Ways.{Way}
use Rattle.template_machine.specs.Well.{CanTake, is_again}
use Rattle.template_machine.specs.declared.program.Program.{Program}
use Rattle.template_machine.specs.declared.run.Doing.TheVariants as doing
use Rattle.template_machine.specs.declared.run.Run.{Run}
use Rattle.template_machine.specs.declared.run.Running.{Running}
use Rattle.template_machine.specs.declared.run.Step.{Step}
use Rattle.template_machine.specs.declared.stop.Stop.{Stop}
use Rattle.var_store.specs.Copies.{Stored}
use Rattle.var_store.specs.declared.bound.Bound.{Bound}
use Rattle.template_machine.proofs.Ended.{TemplateFinds}
use Rattle.template_machine.proofs.Finished.{moves_by}
use Rattle.template_machine.proofs.Stilled.{goes_alike}
use Rattle.template_machine.proofs.Untouched.{untouched_to}
use Rattle.template_machine.proofs.Untaken.{left_untouched}

module _ (given : Given) (p : Program) where
  returns_over : (template alternative pc : ℕ) (locals : List Local) (level : ℕ) (spent : Bool) (gs : List Frame) (c : Scene) (f : Future) (a : Here)
      → slice_get (code_of given.sheet).ops pc ≡ Some op.Return
      → Same (flat_code given) (still.rest given p Runs [] (Body template alternative pc locals level spent ∷ gs) c f a)
      (still.template_over given p template (is_again level gs) c (still.rest given p Returns [] gs c f) (still.rest given p Lists [] gs (still.node_over c) f) a)
  returns_over template alternative pc locals level spent gs c f a is =
      let w : Working = still.working_in given p [] (Body template alternative pc locals level spent) gs c a in
      let k : Here → Flat_does = still.template_over given p template (is_again level gs) c (still.rest given p Returns [] gs c f) (still.rest given p Lists [] gs (still.node_over c) f) in
      unfolds (flat_code given) (At pc w) (λ (u : Working). k u.here)
      (ap (λ o. and_then (option_map_or (λ y. still.operates given p y pc w) o (Ret w)) (λ (u : Working). k u.here)) is)

  -- what a body leaves but its state isn't asked for
  ended_on : (spent : Bool) (n : Node) (above : List PathNode) (f : Future) (k : Future → Here → Flat_does) (end : State → State) (st : State)
      → still.goes_on_at given p spent n above f (λ f a. k f (record a { locals = []; state = end a.state })) st ≡ still.goes_on_at given p spent n above f k (end st)
  ended_on spent n above f k end st = by (is_attribute (Some n)) (spent || not (still.has_kids n))
    where
      by : (alone b : Bool)
          → (if alone then k f (single (end st)) else if b then k (outer f) (record { kids = None; left = record { earlier = still.counts_of above; coming = inner f }; locals = []; state = end st })
          else k (outer (outer f)) (record { kids = Some (inner f); left = record { earlier = still.counts_of above; coming = inner (outer f) }; locals = []; state = end st }))
          ≡ (if alone then k f (single (end st)) else if b then k (outer f) (record { kids = None; left = record { earlier = still.counts_of above; coming = inner f }; locals = []; state = end st })
          else k (outer (outer f)) (record { kids = Some (inner f); left = record { earlier = still.counts_of above; coming = inner (outer f) }; locals = []; state = end st }))
      by alone b = refl

  pub template_ends : (r s : Run) (template alternative pc : ℕ) (locals : List Local) (level : ℕ) (spent : Bool) (gs : List Frame) (left : Left) (f : Future)
      → r.doing ≡ doing.Body → reverse r.frames.frames ≡ Body template alternative pc locals level spent ∷ gs → slice_get (code_of given.sheet).ops pc ≡ Some op.Return
      → reverse s.frames.frames ≡ gs → s ≡ record r { frames = s.frames; store = s.store; putting = s.putting }
      → still.state_of given p s left ≡ still.scope_ends given p (still.template_of given p template) (still.state_of given p r left)
      → Same (flat_code given) (still.still given p r left f) (body_done given p (is_again level gs) spent s left f)
  template_ends r s template alternative pc locals level spent gs left f body before is after rest ended =
      let b = Body template alternative pc locals level spent in
      let c = scene_now given p r in
      let n = first_node c.nodes in
      let above = rest_of c.nodes in
      let lists = lists_now given p r f in
      let st = still.state_of given p r left in
      let over : Future → Here → Flat_does = λ f. still.template_over given p template (is_again level gs) c (still.rest given p Returns [] gs c f) (still.rest given p Lists [] gs (still.node_over c) f) in
      let then_so : List Frame → Future → Here → Flat_does = λ fs f a.
      if is_again level gs then still.rest given p Returns [] fs c f a else lifted (finish given Main a) (still.rest given p Lists [] fs (still.node_over c) f) in
      same_then
      (same_equal (flat_code given)
      (ap (λ d. still.doing_now given p d r.source.ahead (reverse r.frames.frames) r left f) body ∙ ap (λ fs. still.doing_now given p doing.Body r.source.ahead fs r left f) before))
      (same_then
      (goes_alike given p spent n above lists (λ f. still.rest given p Runs [] (b ∷ gs) c f) over st (λ g a. returns_over template alternative pc locals level spent gs c g a is))
      (same_equal (flat_code given)
      (ended_on spent n above lists (then_so gs) (still.scope_ends given p (still.template_of given p template)) st
      ∙ ap (λ x. still.goes_on_at given p spent n above lists (then_so gs) x) (sym ended)
      ∙ ap (λ fs. still.goes_on_at given p spent n above lists (then_so fs) (still.state_of given p s left)) (sym after)
      ∙ sym (ap (λ (x : Run).
      still.goes_on_at given p spent (first_node (scene_now given p x).nodes) (rest_of (scene_now given p x).nodes) (lists_now given p x f)
      (λ f a.
      if is_again level gs
      then still.rest given p Returns [] (reverse s.frames.frames) (scene_now given p x) f a
      else lifted (finish given Main a) (still.rest given p Lists [] (reverse s.frames.frames) (still.node_over (scene_now given p x)) f)) (still.state_of given p s left)) rest))))

  -- A procedure.

  locals_unseen : (turns : List ℕ) (gs : List Frame) (c : Scene) (f : Future) (a : Here) (locals : List Bound) (pc : ℕ) → pc_in gs ≡ Some pc
      → still.rest given p Runs turns gs c f (record a { locals = locals }) ≡ still.rest given p Runs turns gs c f a
  locals_unseen turns [] c f a locals pc at = absurd (cc)
  locals_unseen turns (Loop turn ∷ gs) c f a locals pc at = locals_unseen (turns ++ turn ∷ []) gs c f a locals pc at
  locals_unseen turns (Body template alternative q own level spent ∷ gs) c f a locals pc at = refl
  locals_unseen turns (Call procedure q own level ∷ gs) c f a locals pc at = refl
  locals_unseen turns (x ∷ gs) c f a locals pc at = absurd (cc)

  call_over : (procedure pc : ℕ) (locals : List Local) (level : ℕ) (gs : List Frame) (c : Scene) (f : Future) (a : Here) (below : ℕ) → slice_get (code_of given.sheet).ops pc ≡ Some op.Return
      → pc_in gs ≡ Some below → Same (flat_code given) (still.rest given p Runs [] (Call procedure pc locals level ∷ gs) c f a) (still.rest given p Runs [] gs c f a)
  call_over procedure pc locals level gs c f a below is at =
      let w : Working = still.working_in given p [] (Call procedure pc locals level) gs c a in
      same_then
      (unfolds (flat_code given) (At pc w) (λ (u : Working). still.rest given p Runs [] gs c f u.here)
      (ap (λ o. and_then (option_map_or (λ y. still.operates given p y pc w) o (Ret w)) (λ (u : Working). still.rest given p Runs [] gs c f u.here)) is))
      (same_equal (flat_code given) (locals_unseen [] gs c f a (named_of locals) below at))

  pub call_ends : (r s : Run) (procedure pc : ℕ) (locals : List Local) (level : ℕ) (gs : List Frame) (below : ℕ) (left : Left) (f : Future)
      → r.doing ≡ doing.Body → reverse r.frames.frames ≡ Call procedure pc locals level ∷ gs → slice_get (code_of given.sheet).ops pc ≡ Some op.Return → pc_in gs ≡ Some below
      → reverse s.frames.frames ≡ gs → s ≡ record r { frames = s.frames } → Same (flat_code given) (still.still given p r left f) (still.still given p s left f)
  call_ends r s procedure pc locals level gs below left f body before is at after rest =
      let c = scene_now given p r in
      same_then
      (same_equal (flat_code given)
      (ap (λ d. still.doing_now given p d r.source.ahead (reverse r.frames.frames) r left f) body ∙ ap (λ fs. still.doing_now given p doing.Body r.source.ahead fs r left f) before))
      (same_then
      (goes_alike given p (unwrap_or (spent_in gs) true) (first_node c.nodes) (rest_of c.nodes) (lists_now given p r f) (λ f. still.rest given p Runs [] (Call procedure pc locals level ∷ gs) c f)
      (λ f. still.rest given p Runs [] gs c f) (still.state_of given p r left) (λ g a. call_over procedure pc locals level gs c g a below is at))
      (same_equal (flat_code given)
      (ap (λ fs. still.doing_now given p doing.Body r.source.ahead fs r left f) (sym after)
      ∙ sym (ap (λ (x : Run). still.doing_now given p doing.Body x.source.ahead (reverse s.frames.frames) x left f) rest)
      ∙ sym (ap (λ d. still.doing_now given p d s.source.ahead (reverse s.frames.frames) s left f) (ap (λ (x : Run). x.doing) rest ∙ body)))))

  -- The sheet's templates, and those of a program.

  scope_by : (template : ℕ) (t : Template) (st : State) → IsProgramOf given.sheet given.limits p → slice_get p.sheet.templates template ≡ Some t
      → still.scope_ends given p (still.template_of given p template) st ≡ ends_scope given t.new_scope t.group st
  scope_by template t st program is =
      bare_scope (slice_get given.sheet.templates template)
      ∙ ap (λ o. still.scope_ends given p o st) (sym (slice_get-map template_without_body given.sheet.templates template) ∙ ap (λ (s : Sheet). slice_get s.templates template) (sym program.sheet_is) ∙ is)
    where
      bare_scope : (o : Option Template) → still.scope_ends given p o st ≡ still.scope_ends given p (option_map template_without_body o) st
      bare_scope None = refl
      bare_scope (Some x) = refl

  abbrev made_of : Left → ℕ → Stored → Buffers → List ℕ → State
  made_of left u v b ts = record { fuel = u; variables = v; buffers = b; result = left; targets = reverse ts }

  -- what leaving a scope leaves
  pub state_left : (r m : Run) (group : ℕ) (left : Left) → LeavesScope group r m → still.state_of given p m left ≡ ends_scope given true group (still.state_of given p r left)
  state_left r m group left leaves =
      ap (λ u. made_of left u m.store m.putting.buffers m.putting.targets) (ap (λ (x : Run). x.fuel) leaves.rest)
      ∙ ap (λ v. made_of left r.fuel v m.putting.buffers m.putting.targets) leaves.store
      ∙ ap (λ b. made_of left r.fuel (unshadowed r.store group) b m.putting.targets) leaves.buffers
      ∙ ap (λ ts. made_of left r.fuel (unshadowed r.store group) (on_group taken_off group r.putting.buffers) ts) leaves.targets

  pub template_ends_by : (r m : Run) (template alternative pc : ℕ) (locals : List Local) (level : ℕ) (spent : Bool) (gs : List Frame) (t : Template) (left : Left) (f : Future)
      → IsProgramOf given.sheet given.limits p → r.doing ≡ doing.Body → reverse r.frames.frames ≡ Body template alternative pc locals level spent ∷ gs → slice_get p.code.ops pc ≡ Some op.Return
      → slice_get p.sheet.templates template ≡ Some t → reverse m.frames.frames ≡ gs → m ≡ record r { frames = m.frames; store = m.store; putting = m.putting }
      → still.state_of given p m left ≡ ends_scope given t.new_scope t.group (still.state_of given p r left)
      → Same (flat_code given) (still.still given p r left f) (body_done given p (is_again level (reverse m.frames.frames)) spent m left f)
  template_ends_by r m template alternative pc locals level spent gs t left f program body before is there after rest ended =
      subst (λ b. Same (flat_code given) (still.still given p r left f) (body_done given p b spent m left f)) (ap (is_again level) (sym after))
      (template_ends r m template alternative pc locals level spent gs left f body before (ap (λ (code : Code). slice_get code.ops pc) (sym program.code_is) ∙ is) after rest
      (ended ∙ sym (scope_by template t (still.state_of given p r left) program there)))

some_number : {a b : ℕ} → Some a ≡ Some b → a ≡ b
some_number e = cc

-- what a template's end does, from what leaving its body does
pub template_moves : (p : Program) (r m s : Run) (running : Running) (template level : ℕ) (spent : Bool) (at : IsAtOp p r running op.Return)
    → (f : TemplateFinds p r at.well.stations template level spent) (t : Template) (result : Result Step Stop) → slice_get p.sheet.templates template ≡ Some t
    → reverse m.frames.frames ≡ f.frames → m ≡ record r { frames = m.frames; store = m.store; putting = m.putting }
    → ((given : Given) (left : Left) → still.state_of given p m left ≡ ends_scope given t.new_scope t.group (still.state_of given p r left))
    → MovesFrom p (λ given left g. body_done given p (is_again level (reverse m.frames.frames)) spent m left g) result s
    → MovesFrom p (λ given left g. still.still given p r left g) result s
template_moves p r m s running template level spent at f t result is after rest ended moves =
    let alternative = f.body.0 in
    let pc = f.body.1.0 in
    let locals = f.body.1.1.0 in
    let before : reverse r.frames.frames ≡ Body template alternative pc locals level spent ∷ f.frames = f.on_top ∙ ap (λ x. x ∷ f.frames) f.body.1.1.1 in
    let here : pc ≡ running.pc = some_number (sym (ap pc_in before) ∙ at.pc) in
    let code : slice_get p.code.ops pc ≡ Some op.Return = subst (λ n. slice_get p.code.ops n ≡ Some op.Return) (sym here) at.is in
    moves_by p (λ given left g. still.still given p r left g) (λ given left g. body_done given p (is_again level (reverse m.frames.frames)) spent m left g) result s
    (λ given program left g. template_ends_by given p r m template alternative pc locals level spent f.frames t left g program at.doing before code is after rest (ended given left)) moves

frames_kind : (fs : List Frame) (w : Way) (level : ℕ) → (is_again level fs ≡ false → CanTake fs w) → skipped_in fs ≡ None
frames_kind [] w level take_it = refl
frames_kind (Skip depth ∷ fs) w level take_it = absurd (take_it refl)
frames_kind (Loop turn ∷ fs) w level take_it = refl
frames_kind (Body template alternative pc locals own spent ∷ fs) w level take_it = refl
frames_kind (Call procedure pc locals own ∷ fs) w level take_it = refl
frames_kind (Region asked own ∷ fs) w level take_it = refl
frames_kind (Attributes next asked ∷ fs) w level take_it = refl
frames_kind (Source_frame buffer next asked ∷ fs) w level take_it = refl
frames_kind (Pass base own spent ∷ fs) w level take_it = refl

-- no list is passed over below a template's body
pub unskipped_below : (p : Program) (r m : Run) (stations : List Station) (template level : ℕ) (spent : Bool) → (f : TemplateFinds p r stations template level spent) → reverse m.frames.frames ≡ f.frames
    → skipped_in (reverse m.frames.frames) ≡ None
unskipped_below p r m stations template level spent f after = ap skipped_in after ∙ frames_kind f.frames (standing_of r).source.way level f.take

-- or no child is counted of a node whose children aren't gone
pub untouched_below : (p : Program) (r m : Run) (stations : List Station) (template level : ℕ) (spent : Bool) → (f : TemplateFinds p r stations template level spent) → reverse m.frames.frames ≡ f.frames
    → IsAlone p r → AreUntouched (reverse m.frames.frames) (still.nodes_of r.source)
untouched_below p r m stations template level spent f after alone =
    let b = f.body in
    let x = Body template b.0 b.1.0 b.1.1.0 level spent in
    let ns = still.nodes_of r.source in
    untouched_to f.frames (reverse m.frames.frames) ns ns (sym after) refl
    (left_untouched r template b.0 b.1.0 level spent b.1.1.0 f.frames f.take f.spent_is
    (untouched_to (reverse r.frames.frames) (x ∷ f.frames) ns ns (f.on_top ∙ ap (λ y. y ∷ f.frames) b.1.1.1) refl alone.untouched))

pub alone_left : (p : Program) (r m : Run) → m ≡ record r { frames = m.frames; store = m.store; putting = m.putting } → skipped_in (reverse m.frames.frames) ≡ None
    → AreUntouched (reverse m.frames.frames) (still.nodes_of r.source) → IsAlone p r → IsAlone p m
alone_left p r m rest unskipped untouched alone = record {
  origin = ap (λ (x : Run). x.source.origin) rest ∙ alone.origin;
  outer = ap (λ (x : Run). x.outer.items) rest ∙ alone.outer;
  aside = ap (λ (x : Run). x.aside.items) rest ∙ alone.aside;
  held = ap (λ (x : Run). held_node x.source) rest ∙ alone.held;
  counted = λ e. subst HeadIsCounted (sym (ap (λ (x : Run). still.nodes_of x.source) rest)) (alone.counted (sym (ap (λ (x : Run). x.source.ahead) rest) ∙ e));
  whole = λ e depth skipped. absurd (let no : None ≡ Some depth = sym unskipped ∙ skipped in cc);
  untouched =
      untouched_to (reverse m.frames.frames) (reverse m.frames.frames) (still.nodes_of r.source) (still.nodes_of m.source) refl (sym (ap (λ (x : Run). still.nodes_of x.source) rest)) untouched;
  fuel = subst (λ u. u ≤ p.limits.fuel) (sym (ap (λ (x : Run). x.fuel) rest)) alone.fuel;
}
