-- A head without a template is passed through.
use Rattle.std.proofs.Common.{◌≡◌, ◌≢◌, ◌≤◌, ◌⊎◌, inl, inr, ℕ, ◌+◌, ◌-◌, Bool, true, false, not, ◌||◌, ◌&&◌, List, [], ◌∷◌, ◌++◌, map, reverse, Option, Some, None, Result, Ok, Err, refl, ap, sym, subst, ◌∙◌}
use Rattle.std.specs.Prelude.{MatchBool, OnOk, if◌then◌else◌, option_map, slice_get}
use Rattle.std.proofs.lemmas.List.{reverse-reverse}
use Rattle.stx_base.specs.Course.{Ask, Halt, Ret, Same, Say, says}
use Rattle.stx_base.proofs.Course.{funext, same_equal, same_then}
use Rattle.stx_base.specs.declared.fault.Place.{Place}
use Rattle.stx_base.specs.declared.fault.RunCode.TheVariants.{Instances}
use Rattle.stx_base.specs.declared.name.Binding.{Binding}
use Rattle.stx_base.specs.declared.part.Part.{Part}
use Rattle.frame_stack.specs.Stack.{IsFull}
use Rattle.frame_stack.specs.declared.frame.Frame.{Frame}
use Rattle.frame_stack.specs.declared.frame.Frame.TheVariants.{Attributes, Body, Call, Loop, Pass, Region, Skip, Source}
use Rattle.instr_code.specs.Running as running
use Rattle.node_stack.specs.Path.{Attribute, CData, Chars, Comment, Document, Element, Node, PathNode, Pi, can_have_children, current, is_attribute}
use Rattle.node_stack.specs.Stack.{path, path_node}
use Rattle.node_stack.specs.declared.parked.Parked.{Parked}
use Rattle.result_writer.specs.Target.{Left, Target}
use Rattle.result_writer.specs.declared.fault.ResultFault.{ResultFault}
use Rattle.event_buffers.specs.declared.fault.BufferFault.{BufferFault}
use Rattle.event_buffers.specs.Buffers.{refusal_at}
use Rattle.result_writer.specs.Target as target
use Rattle.sheet_model.specs.Passing.{kinds}
use Rattle.sheet_model.specs.declared.pass.Kinds.{Kinds}
use Rattle.sheet_model.specs.declared.sheet.Group.{Group}
use Rattle.sheet_model.specs.declared.sheet.Sheet.{Sheet}
use Rattle.xml_events.specs.Document.{inner, outer}
use Rattle.xml_events.specs.Tree.{Future}
use Rattle.template_machine.specs.Behind.{MovesFrom, StepsFrom, body_done, lists_now, scene_now}
use Rattle.template_machine.specs.Bodies.{skipped_in}
use Rattle.template_machine.specs.Ending.{Put, Said}
use Rattle.template_machine.specs.Entering.{IsUncounted, first_parts, head_passed, pass_opened}
use Rattle.template_machine.specs.Job.{Asked, Does, Given, Here, Main, Nodes, State, all_of, with_state, single}
use Rattle.template_machine.specs.Lists.{rest_of}
use Rattle.template_machine.specs.Moments.{GoesOrWaits, HasHead}
use Rattle.template_machine.specs.Ordinary.{IsAlone}
use Rattle.template_machine.specs.Outcome.{AreNew}
use Rattle.template_machine.specs.Passing.{children, finish, gone, group_at, kinds_in, parts_before, parts_behind, pass_node, pass_of, passed_on, place_of}
use Rattle.template_machine.specs.Programs.{IsProgramOf}
use Rattle.template_machine.specs.Putting.{kept_in, put_out, put_to, puts, unless_fault, unless_refused}
use Rattle.template_machine.specs.Saying.{GoesAs, Proceeds, Puts, placed}
use Rattle.template_machine.specs.Sources.{held_node, scopes_on}
use Rattle.template_machine.specs.Sections.{IsHeldWell}
use Rattle.template_machine.specs.Standing.{Over, Unknown, front_of, known_now, standing_of}
use Rattle.template_machine.specs.Still as still
use Rattle.template_machine.specs.Still.{Lists, Returns, Scene, first_node, nodes_of, state_of, trail_of}
use Rattle.template_machine.specs.Stepwise.{Flat_does, Working, flat_code, lifted}
use Rattle.template_machine.specs.Stops.{fault}
use Rattle.template_machine.specs.Trail as trail
use Rattle.template_machine.specs.Trail.{Trail, scope_of}
use Rattle.template_machine.specs.Ways.{IsWay, Way, here, number_of, stood, way_of}
use Rattle.template_machine.specs.Ways as ways
use Rattle.template_machine.specs.Scopes.{in_force}
use Rattle.template_machine.specs.Well.{IsOpen, IsSettled, IsSourceWell, is_again}
use Rattle.template_machine.specs.declared.program.Program.{Program}
use Rattle.template_machine.specs.declared.run.Doing.TheVariants as doing
use Rattle.template_machine.specs.declared.run.Run.{Run}
use Rattle.template_machine.specs.declared.run.Step.{Step}
use Rattle.template_machine.specs.declared.run.Step.TheVariants as step
use Rattle.template_machine.specs.declared.source.Ahead.{Ahead}
use Rattle.template_machine.specs.declared.source.Ahead.TheVariants as ahead
use Rattle.template_machine.specs.declared.stop.Stop.{Stop}
use Rattle.template_machine.specs.declared.stop.Stop.TheVariants as stop
use Rattle.template_machine.proofs.Behind.{alone_on, gone_on, kids_on}
use Rattle.template_machine.proofs.Finished.{current_there, first_now}
use Rattle.template_machine.proofs.HeadTaken.{GoesOnBy, goes_so}
use Rattle.template_machine.proofs.Operated.{of_ok}
use Rattle.template_machine.proofs.PassedOn.{lifted_says, proceeds_on, stops_first}
use Rattle.template_machine.proofs.Nodes.{is_way}
use Rattle.template_machine.proofs.Closes.{reverse_map}
use Rattle.template_machine.proofs.Opening.{scope_of_way}
use Rattle.template_machine.proofs.Sighting.{front}
use Rattle.template_machine.proofs.Ways.{way_here}
use Rattle.template_machine.proofs.Untouched.{pass_frame, untouched_from, untouched_to}

-- What follows parts that are put may be said in one way or the other.
module _ (given : Given) (at : Place) where
  by_fault : (o : Option ResultFault) (x y : Does) (k l : Here → Flat_does) → lifted x k ≡ lifted y l → lifted (unless_fault o at x) k ≡ lifted (unless_fault o at y) l
  by_fault None x y k l e = e
  by_fault (Some f) x y k l e = refl

  by_refusal : (o : Option BufferFault) (x y : Does) (k l : Here → Flat_does) → lifted x k ≡ lifted y l → lifted (unless_refused o at x) k ≡ lifted (unless_refused o at y) l
  by_refusal None x y k l e = e
  by_refusal (Some f) x y k l e = refl

  put_alike : (ts : List ℕ) (p : Part) (st : State) (go on : State → Does) (k l : Here → Flat_does) → ((s : State) → lifted (go s) k ≡ lifted (on s) l)
      → lifted (put_to given ts at p st go) k ≡ lifted (put_to given ts at p st on) l
  put_alike [] p st go on k l e =
      by_fault (target.fault given.limits.elements st.result p) (Say (Put p) (go (put_out p st))) (Say (Put p) (on (put_out p st))) k l (ap (Say (Put p)) (e (put_out p st)))
  put_alike (id ∷ ts) p st go on k l e = by_refusal (refusal_at st.buffers id p) (go (kept_in id p st)) (on (kept_in id p st)) k l (e (kept_in id p st))

  pub puts_alike : (ps : List Part) (st : State) (go on : State → Does) (k l : Here → Flat_does) → ((s : State) → lifted (go s) k ≡ lifted (on s) l)
      → lifted (puts given at ps st go) k ≡ lifted (puts given at ps st on) l
  puts_alike [] st go on k l e = e st
  puts_alike (p ∷ ps) st go on k l e =
      put_alike st.targets p st (λ s. puts given at ps s go) (λ s. puts given at ps s on) k l (λ s. puts_alike ps s go on k l e)

pub first_as : (ns : List PathNode) → trail.current (trail_of ns) ≡ first_node ns
first_as [] = refl
first_as (x ∷ xs) = refl

-- Its children are processed.

pub opens_no_attribute : (n : Node) → can_have_children (Some n) ≡ true → is_attribute (Some n) ≡ false
opens_no_attribute (Attribute a) e = absurd (cc)
opens_no_attribute Document e = refl
opens_no_attribute (Element name attrs decls first) e = refl
opens_no_attribute (Chars text) e = absurd (cc)
opens_no_attribute (CData text) e = absurd (cc)
opens_no_attribute (Comment text) e = absurd (cc)
opens_no_attribute (Pi target text) e = absurd (cc)

pub unknown_by : (h : Ahead) (held : Option Parked) → h ≢ ahead.Here → (h ≡ ahead.Held → IsHeldWell held) → option_map path_node held ≡ None → front_of h held ≡ Unknown → h ≡ ahead.Nothing
unknown_by ahead.Nothing held apart well none front = refl
unknown_by ahead.Here held apart well none front = absurd (apart refl)
unknown_by ahead.Held None apart well none front = absurd (well refl)
unknown_by ahead.Held (Some x) apart well none front = absurd (cc)
unknown_by ahead.Ended held apart well none front = absurd (let no : Over ≡ Unknown = front in cc)

-- nothing is known of a head that has a list
pub head_unknown : (p : Program) (r : Run) → HasHead p r → IsAlone p r → can_have_children (current (path r.source.stack)) ≡ true → r.source.ahead ≡ ahead.Nothing
head_unknown p r h alone list =
    let t = current_there r in
    let w = (standing_of r).source.way in
    let kids : can_have_children (Some t.0) ≡ true = sym (ap can_have_children t.1) ∙ list in
    let leaf : is_attribute (here w) ≡ false = ap is_attribute (way_here (path r.source.stack) ∙ t.1) ∙ opens_no_attribute t.0 kids in
    let open_so : IsOpen w (known_now r).begun (known_now r).front =
    subst (λ b. MatchBool b (IsSettled (reverse r.frames.frames) (ways.left w) (known_now r).begun (known_now r).front) (IsOpen w (known_now r).begun (known_now r).front)) leaf h.head.fits in
    unknown_by r.source.ahead r.source.held h.apart h.steady.source.held alone.held open_so.0

pub nodes_there : (r : Run) → nodes_of r.source ≡ [] → ⊥
nodes_there r e =
    let none : (path r.source.stack).nodes ≡ [] = sym (reverse-reverse (path r.source.stack).nodes) ∙ ap reverse e in
    subst IsWay (ap (λ l. reverse (map stood l)) none) (is_way r.source.stack)

module _ (given : Given) (p : Program) (r n : Run) (base level : ℕ) (twice : Place) (h : HasHead p r) (alone : IsAlone p r) (uncounted : IsUncounted r) (list : can_have_children (current (path r.source.stack)) ≡ true)
    (unknown : r.source.ahead ≡ ahead.Nothing) (own : level ≡ number_of (way_of (path r.source.stack))) (pushed : reverse n.frames.frames ≡ Pass base level true ∷ reverse r.frames.frames)
    (rest : n ≡ record r { frames = n.frames; doing = doing.List }) (left : Left) (f : Future) where
  abbrev fs : List Frame
  fs = reverse r.frames.frames

  abbrev scene_in : List PathNode → Scene
  scene_in ns = record (scene_now given p r) { nodes = ns }

  abbrev st : State
  st = state_of given p r left

  -- by the nodes of its path
  abbrev opened_by : List PathNode → Flat_does
  opened_by ns =
      still.goes_on_at given p false (first_node ns) (rest_of ns) f
      (λ g a.
      lifted
      (children twice (passed_on given base Main (trail_of ns)) a (λ b.
      puts given (group_at given base) (parts_behind (kinds_in given base) (trail.current (trail_of ns))) b.state (λ s. Ret (with_state b s))))
      (still.rest given p Lists [] fs (still.node_over (scene_in ns)) g)) st

  abbrev now_by : List PathNode → Flat_does
  now_by ns =
      still.rest given p Lists [] (Pass base level true ∷ fs) (scene_in ns) (outer f)
      (record { kids = None; left = record { earlier = still.counts_of ns; coming = inner f }; locals = []; state = st })

  opened_there : (x : PathNode) (xs : List PathNode) → can_have_children (Some x.node) ≡ true → x.children.passing ≡ (λ t. 0) → is_again level fs ≡ false → opened_by (x ∷ xs) ≡ now_by (x ∷ xs)
  opened_there x xs kids none apart =
      let ns = x ∷ xs in
      let asked = passed_on given base Main (trail_of ns) in
      let parts = parts_behind (kinds_in given base) x.node in
      let over = still.rest given p Lists [] fs (still.node_over (scene_in ns)) (outer (outer f)) in
      let here_is : Here = record { kids = Some (inner f); left = record { earlier = still.counts_of xs; coming = inner (outer f) }; locals = []; state = st } in
      kids_on given p x.node xs f
      (λ g a.
      lifted (children twice asked a (λ b. puts given (group_at given base) parts b.state (λ s. Ret (with_state b s)))) (still.rest given p Lists [] fs (still.node_over (scene_in ns)) g)) st
      (opens_no_attribute x.node kids) kids
      ∙ ap (λ k. Ask (running.Given (Nodes (all_of (inner f)) asked st)) k)
      (funext (λ (w : Working).
      puts_alike given (group_at given base) parts w.here.state (λ s. Ret (with_state (gone here_is w.here.state) s)) (λ s. Ret (single s)) over
      (λ b. over (still.siblings_of given p xs (outer f) b.state)) (λ s. refl)))
      ∙ ap (λ e. Ask (running.Given (Nodes (record { earlier = e; coming = inner f }) asked st)) (λ (w : Working).
      lifted (puts given (group_at given base) parts w.here.state (λ s. Ret (single s))) (λ b. over (still.siblings_of given p xs (outer f) b.state)))) (sym none)
      ∙ ap (λ again. Ask (running.Given (Nodes (record { earlier = x.children.passing; coming = inner f }) asked st)) (λ (w : Working).
      lifted (puts given (group_at given base) parts w.here.state (λ s. Ret (single s))) (λ b.
      if again
      then still.rest given p Returns [] fs (scene_in ns) (outer (outer f)) (still.siblings_of given p xs (outer f) b.state)
      else over (still.siblings_of given p xs (outer f) b.state)))) (sym apart)

  opened_now : (ns : List PathNode) → nodes_of r.source ≡ ns → opened_by ns ≡ now_by ns
  opened_now ns e = by ns e
    where
      t : (n : Node) × (current (path r.source.stack) ≡ Some n)
      t = current_there r

      by : (ns : List PathNode) → nodes_of r.source ≡ ns → opened_by ns ≡ now_by ns
      by [] e = absurd (nodes_there r e)
      by (x ∷ xs) e =
          let first : x.node ≡ t.0 = sym (ap first_node e) ∙ first_now r t.0 t.1 in
          opened_there x xs (ap (λ m. can_have_children (Some m)) first ∙ sym (ap can_have_children t.1) ∙ list) (uncounted x xs e)
          (ap (λ m. is_again m fs) own ∙ h.head.apart)

  pub opens_as : pass_opened given p twice base r left f ≡ still.still given p n left f
  opens_as =
      let ns = nodes_of r.source in
      let same : still.path_before given p r.source.ahead ns ≡ ns = front r.source.ahead ns given p h.apart in
      ap (λ hd. still.goes_on_at given p false (first_node (still.path_before given p r.source.ahead ns)) (rest_of (still.path_before given p r.source.ahead ns)) (still.known_before given p hd ns (still.held_of given p r) f)
      (λ g a.
      lifted
      (children twice (passed_on given base Main (trail_of (still.path_before given p r.source.ahead ns))) a (λ b.
      puts given (group_at given base) (parts_behind (kinds_in given base) (trail.current (trail_of (still.path_before given p r.source.ahead ns)))) b.state (λ s. Ret (with_state b s))))
      (still.rest given p Lists [] fs (still.node_over (scene_in (still.path_before given p r.source.ahead ns))) g)) st) unknown
      ∙ ap opened_by same
      ∙ opened_now ns refl
      ∙ sym
      (ap (λ (x : Run). still.still given p x left f) rest
      ∙ ap (λ l. still.doing_now given p doing.List r.source.ahead l (record r { frames = n.frames; doing = doing.List }) left f) pushed
      ∙ ap (λ hd. still.doing_now given p doing.List hd (Pass base level true ∷ fs) (record r { frames = n.frames; doing = doing.List }) left f) unknown)

-- It stays in order.
opened_alone : (p : Program) (r n : Run) (base level : ℕ) → IsAlone p r → r.source.ahead ≡ ahead.Nothing → reverse n.frames.frames ≡ Pass base level true ∷ reverse r.frames.frames
    → n ≡ record r { frames = n.frames; doing = doing.List } → IsAlone p n
opened_alone p r n base level alone unknown pushed rest = record {
  origin = ap (λ (x : Run). x.source.origin) rest ∙ alone.origin;
  outer = ap (λ (x : Run). x.outer.items) rest ∙ alone.outer;
  aside = ap (λ (x : Run). x.aside.items) rest ∙ alone.aside;
  held = ap (λ (x : Run). held_node x.source) rest ∙ alone.held;
  counted = λ is. absurd (let no : ahead.Nothing ≡ ahead.Here = sym unknown ∙ sym (ap (λ (x : Run). x.source.ahead) rest) ∙ is in cc);
  whole = λ is depth skipped. absurd (let no : None ≡ Some depth = sym (ap skipped_in pushed) ∙ skipped in cc);
  untouched =
      untouched_to _ (reverse n.frames.frames) (nodes_of r.source) (nodes_of n.source) (sym pushed) (sym (ap (λ (x : Run). nodes_of x.source) rest))
      (untouched_from (reverse r.frames.frames) (Pass base level true ∷ reverse r.frames.frames) (nodes_of r.source) (λ a. pass_frame a base level true (reverse r.frames.frames)) alone.untouched);
  fuel = subst (λ u. u ≤ p.limits.fuel) (sym (ap (λ (x : Run). x.fuel) rest)) alone.fuel;
}

pub goes_only : (t : Step) (m : Run) → GoesOrWaits t m → t ≢ step.Over
goes_only step.More m goes e = absurd (cc)
goes_only step.Wait m goes e = absurd (cc)
goes_only step.Want m goes e = goes
goes_only step.Over m goes e = goes

pub opens_moves : (p : Program) (r n m : Run) (base level : ℕ) (twice : Place) (t : Step) → HasHead p r → IsAlone p r → IsUncounted r → can_have_children (current (path r.source.stack)) ≡ true
    → level ≡ number_of (way_of (path r.source.stack)) → reverse n.frames.frames ≡ Pass base level true ∷ reverse r.frames.frames → n ≡ record r { frames = n.frames; doing = doing.List }
    → GoesOrWaits t m → MovesFrom p (λ given left f. pass_opened given p twice base r left f) (Ok t) n
opens_moves p r n m base level twice t h alone uncounted list own pushed rest goes =
    let unknown = head_unknown p r h alone list in record {
      alone = opened_alone p r n base level alone unknown pushed rest;
      over = λ e. absurd (goes_only t m goes (of_ok (Ok _) refl e));
      does = λ given new program left f. same_equal (flat_code given) (opens_as given p r n base level twice h alone uncounted list unknown own pushed rest left f);
    }

-- a frame of a node that is passed through is no instance
pub pass_memory : (at : Place) (limit base level : ℕ) (spent : Bool) (frames : List Frame) (e : Stop) → (e ≡ stop.Memory) ⊎ ((e ≡ fault Instances at) × IsFull limit (Pass base level spent) frames) → e ≡ stop.Memory
pass_memory at limit base level spent frames e (inl memory) = memory
pass_memory at limit base level spent frames e (inr h) = absurd (let no : None ≡ Some h.1.0 = h.1.1 in cc)

-- The parts that come first, and what follows them.

module _ (p : Program) (r m : Run) (base : ℕ) (twice : Place) (g : Group) (is : slice_get p.sheet.groups base ≡ Some g) (h : HasHead p r) (n : Node) (there : current (path r.source.stack) ≡ Some n)
    (scope : List Binding) (bound : scope ≡ scope_of (trail_of (nodes_of r.source))) where
  module _ (given : Given) (program : IsProgramOf given.sheet given.limits p) (left : Left) (f : Future) where
    abbrev c : Scene
    c = scene_now given p r

    abbrev trail_now : Trail
    trail_now = trail_of c.nodes

    abbrev going : GoesOnBy given p false (first_node c.nodes) (rest_of c.nodes) (lists_now given p r f)
    going = goes_so given p false (first_node c.nodes) (rest_of c.nodes) (lists_now given p r f)

    abbrev behind : Here → Flat_does
    behind = still.rest given p Lists [] (reverse r.frames.frames) (still.node_over c) going.coming

    abbrev here_now : Here
    here_now = going.here (state_of given p r left)

    -- what follows the parts of a node
    abbrev then_children : Node → State → Does
    then_children x st =
        children twice (passed_on given base Main trail_now) (with_state here_now st) (λ b.
        puts given (group_at given base) (parts_behind (kinds_in given base) x) b.state (λ s. Ret (with_state b s)))

    abbrev then_go : Node → State → Does
    then_go Document st = then_children Document st
    then_go (Element name attrs decls first) st = then_children (Element name attrs decls first) st
    then_go x st = Ret (with_state here_now st)

    group_there : slice_get given.sheet.groups base ≡ Some g
    group_there = ap (λ (s : Sheet). slice_get s.groups base) (sym program.sheet_is) ∙ is

    nodes_same : c.nodes ≡ nodes_of r.source
    nodes_same = front r.source.ahead (nodes_of r.source) given p h.apart

    current_is : trail.current trail_now ≡ n
    current_is = first_as c.nodes ∙ ap first_node nodes_same ∙ first_now r n there

    scope_same : scope ≡ scope_of trail_now
    scope_same = bound ∙ ap (λ ns. scope_of (trail_of ns)) (sym nodes_same)

    abbrev put_first : Option Group → (scope : List Binding) → Node → State → Does
    put_first o sc x st = puts given (place_of o) (first_parts (pass_of given o) sc x) st (then_go x)

    by_node : (x : Node) → trail.current trail_now ≡ x
        → pass_node given twice base Main trail_now (trail.current trail_now) here_now ≡ put_first (slice_get given.sheet.groups base) (scope_of trail_now) x here_now.state
    by_node Document e =
        ap (λ y. pass_node given twice base Main trail_now y here_now) e
        ∙ ap (λ y. puts given (group_at given base) (parts_before (kinds_in given base) trail_now y) here_now.state (then_children y)) e
    by_node (Element name attrs decls first) e =
        ap (λ y. pass_node given twice base Main trail_now y here_now) e
        ∙ ap (λ y. puts given (group_at given base) (parts_before (kinds_in given base) trail_now y) here_now.state (then_children y)) e
    by_node (Chars text) e = ap (λ y. pass_node given twice base Main trail_now y here_now) e
    by_node (CData text) e = ap (λ y. pass_node given twice base Main trail_now y here_now) e
    by_node (Comment text) e = ap (λ y. pass_node given twice base Main trail_now y here_now) e
    by_node (Pi target_is text) e = ap (λ y. pass_node given twice base Main trail_now y here_now) e
    by_node (Attribute a) e = ap (λ y. pass_node given twice base Main trail_now y here_now) e

    pub passed_is : head_passed given p twice base r left f ≡ lifted (puts given g.at (first_parts (kinds g.pass) scope n) (state_of given p r left) (then_go n)) behind
    passed_is =
        going.goes
        (λ f a. lifted (pass_node given twice base Main trail_now (trail.current trail_now) a) (still.rest given p Lists [] (reverse r.frames.frames) (still.node_over c) f)) (state_of given p r left)
        ∙ ap (λ y. lifted y behind)
        (by_node n current_is
        ∙ ap (λ sc. put_first (slice_get given.sheet.groups base) sc n here_now.state) (sym scope_same)
        ∙ ap (λ o. put_first o scope n here_now.state) group_there
        ∙ ap (λ st. puts given g.at (first_parts (kinds g.pass) scope n) st (then_go n)) (going.same (state_of given p r left)))

    module _ (after : Run) (rest : after ≡ record r { putting = after.putting }) (left_now : Left) where
      abbrev behind_all : Future → Here → Flat_does
      behind_all g a = still.rest given p Lists [] (reverse r.frames.frames) (still.node_over c) g a

      -- its children
      opened_is : (x : Node) → trail.current trail_now ≡ x → lifted (then_children x (state_of given p after left_now)) behind ≡ pass_opened given p twice base after left_now f
      opened_is x e =
          let st = state_of given p (record r { putting = after.putting }) left_now in
          let ends = λ (y : Node) (b : Here). puts given (group_at given base) (parts_behind (kinds_in given base) y) b.state (λ s. Ret (with_state b s)) in
          ap (λ (y : Run). lifted (then_children x (state_of given p y left_now)) behind) rest
          ∙ ap (λ y. lifted (then_children y st) behind) (sym e)
          ∙ ap (λ b. lifted (children twice (passed_on given base Main trail_now) b (ends (trail.current trail_now))) behind) (going.other (state_of given p r left) st)
          ∙ sym (going.goes (λ g a. lifted (children twice (passed_on given base Main trail_now) a (ends (trail.current trail_now))) (behind_all g)) st)
          ∙ sym (ap (λ (y : Run). pass_opened given p twice base y left_now f) rest)

      leaf_finish : (k : Future → Here → Flat_does) (st : State) → still.has_kids (first_node c.nodes) ≡ false
          → still.goes_on_at given p false (first_node c.nodes) (rest_of c.nodes) (lists_now given p r f) (λ g a. lifted (finish given Main a) (k g)) st
          ≡ still.goes_on_at given p false (first_node c.nodes) (rest_of c.nodes) (lists_now given p r f) k st
      leaf_finish k st none = by (is_attribute (Some (first_node c.nodes))) refl
        where
          shut : false || not (still.has_kids (first_node c.nodes)) ≡ true
          shut = ap not none

          by : (b : Bool) → is_attribute (Some (first_node c.nodes)) ≡ b
              → still.goes_on_at given p false (first_node c.nodes) (rest_of c.nodes) (lists_now given p r f) (λ g a. lifted (finish given Main a) (k g)) st
              ≡ still.goes_on_at given p false (first_node c.nodes) (rest_of c.nodes) (lists_now given p r f) k st
          by true e =
              alone_on given p false (first_node c.nodes) (rest_of c.nodes) (lists_now given p r f) (λ g a. lifted (finish given Main a) (k g)) st e
              ∙ sym (alone_on given p false (first_node c.nodes) (rest_of c.nodes) (lists_now given p r f) k st e)
          by false e =
              gone_on given p false (first_node c.nodes) (rest_of c.nodes) (lists_now given p r f) (λ g a. lifted (finish given Main a) (k g)) st e shut
              ∙ sym (gone_on given p false (first_node c.nodes) (rest_of c.nodes) (lists_now given p r f) k st e shut)

      -- or nothing more
      left_is : still.has_kids (first_node c.nodes) ≡ false → behind (with_state here_now (state_of given p after left_now)) ≡ body_done given p false false after left_now f
      left_is none =
          let st = state_of given p (record r { putting = after.putting }) left_now in
          ap (λ (y : Run). behind (with_state here_now (state_of given p y left_now))) rest
          ∙ ap behind (going.other (state_of given p r left) st)
          ∙ sym (going.goes behind_all st)
          ∙ sym (leaf_finish behind_all st none)
          ∙ sym (ap (λ (y : Run). body_done given p false false y left_now f) rest)

      abbrev next_is : Flat_does
      next_is = lifted (then_go n (state_of given p after left_now)) behind

      goes_opened : can_have_children (Some n) ≡ true → next_is ≡ pass_opened given p twice base after left_now f
      goes_opened list = by n current_is list
        where
          by : (x : Node) → trail.current trail_now ≡ x → can_have_children (Some x) ≡ true → lifted (then_go x (state_of given p after left_now)) behind ≡ pass_opened given p twice base after left_now f
          by Document e l = opened_is Document e
          by (Element name attrs decls first) e l = opened_is (Element name attrs decls first) e
          by (Chars text) e l = absurd (cc)
          by (CData text) e l = absurd (cc)
          by (Comment text) e l = absurd (cc)
          by (Pi target_is text) e l = absurd (cc)
          by (Attribute a) e l = absurd (cc)

      goes_left : can_have_children (Some n) ≡ false → next_is ≡ body_done given p false false after left_now f
      goes_left leaf =
          by n leaf (ap still.has_kids (sym (first_as c.nodes) ∙ current_is) ∙ leaf)
        where
          by : (x : Node) → can_have_children (Some x) ≡ false → still.has_kids (first_node c.nodes) ≡ false → lifted (then_go x (state_of given p after left_now)) behind ≡ body_done given p false false after left_now f
          by Document l none = absurd (cc)
          by (Element name attrs decls first) l none = absurd (cc)
          by (Chars text) l none = left_is none
          by (CData text) l none = left_is none
          by (Comment text) l none = left_is none
          by (Pi target_is text) l none = left_is none
          by (Attribute a) l none = left_is none

  module _ {S : Type 0} (output : S → Target) (told : S → S → List Said → Type 0) (after : Run) (rest : after ≡ record r { putting = after.putting }) (out mid : S) where
    abbrev Parts : Result (Unit {0}) Stop → Type 0
    Parts result = Puts {A = Unit {0}} output told g.at (first_parts (kinds g.pass) scope n) result r.putting after.putting out mid

    said_first : (q : Parts (Ok tt)) (given : Given) (program : IsProgramOf given.sheet given.limits p) → (output out).limit ≡ given.limits.elements → (f : Future)
        → head_passed given p twice base r (output out).left f ≡ says q.said (next_is given program (output out).left f after rest (output mid).left)
    said_first q given program limit f =
        let left = (output out).left in
        let k = behind given program left f in
        let go = then_go given program left f n in
        passed_is given program left f
        ∙ ap (λ y. lifted y k) (q.does given limit (state_of given p r left) go)
        ∙ lifted_says q.said (go (placed after.putting (output mid).left (state_of given p r left))) k
        ∙ ap (λ st. says q.said (lifted (go st) k)) (sym (ap (λ (y : Run). state_of given p y (output mid).left) rest))

    module _ (now : Given → Left → Future → Flat_does)
        (same : (given : Given) (program : IsProgramOf given.sheet given.limits p) (left left_now : Left) (f : Future) → next_is given program left f after rest left_now ≡ now given left_now f) where
      put_then : (result : Result Step Stop) (s : Run) → Parts (Ok tt) → MovesFrom p now result s → StepsFrom output told p (λ given left f. head_passed given p twice base r left f) result s out mid
      put_then result s q moves = record {
        said = q.said;
        tells = q.tells;
        alone = moves.alone;
        over = moves.over;
        does = λ given new program params limit f.
            let left_now = (output mid).left in
            proceeds_on given p result (head_passed given p twice base r (output out).left f) (now given left_now f) q.said (still.still given p s left_now f)
            (same_equal (flat_code given) (said_first q given program limit f ∙ ap (says q.said) (same given program (output out).left left_now f)))
            (moves.does given new program left_now f);
      }

    pub passes_opened : can_have_children (Some n) ≡ true → (result : Result Step Stop) (s : Run) → Parts (Ok tt) → MovesFrom p (λ given left f. pass_opened given p twice base after left f) result s
        → StepsFrom output told p (λ given left f. head_passed given p twice base r left f) result s out mid
    passes_opened list result s q moves =
        put_then (λ given left f. pass_opened given p twice base after left f) (λ given program left left_now f. goes_opened given program left f after rest left_now list) result s q moves

    pub passes_left : can_have_children (Some n) ≡ false → (result : Result Step Stop) (s : Run) → Parts (Ok tt) → MovesFrom p (λ given left f. body_done given p false false after left f) result s
        → StepsFrom output told p (λ given left f. head_passed given p twice base r left f) result s out mid
    passes_left leaf result s q moves =
        put_then (λ given left f. body_done given p false false after left f) (λ given program left left_now f. goes_left given program left f after rest left_now leaf) result s q moves

    -- a part isn't put, or memory is wanting
    pub passes_stopped : (e : Stop) → Parts (Err e) → StepsFrom output told p (λ given left f. head_passed given p twice base r left f) (Err e) after out mid
    passes_stopped e q = record {
      said = q.said;
      tells = q.tells;
      alone = tt;
      over = λ x. absurd (cc);
      does = λ given new program params limit f.
          let left = (output out).left in
          let go = then_go given program left f n in
          stops_first given p e (head_passed given p twice base r left f) (puts given g.at (first_parts (kinds g.pass) scope n) (state_of given p r left) go) _ (behind given program left f) q.said
          (still.still given p after (output mid).left f) (same_equal (flat_code given) (passed_is given program left f)) (q.does given limit (state_of given p r left) go);
    }

-- What holds behind parts that were put.

pub alone_put : (p : Program) (r m : Run) → m ≡ record r { putting = m.putting } → IsAlone p r → IsAlone p m
alone_put p r m rest alone =
    subst (IsAlone p) (sym rest)
    (record { origin = alone.origin; outer = alone.outer; aside = alone.aside; held = alone.held; counted = alone.counted; whole = alone.whole; untouched = alone.untouched; fuel = alone.fuel })

pub uncounted_put : (r m : Run) → m ≡ record r { putting = m.putting } → IsUncounted r → IsUncounted m
uncounted_put r m rest fresh x xs e = fresh x xs (sym (ap (λ (y : Run). nodes_of y.source) rest) ∙ e)

pub leaf_shut : (m : Run) (b : Bool) → b ≡ can_have_children (current (path m.source.stack)) → b ≡ false → (can_have_children (current (path m.source.stack)) && not false) ≡ false
leaf_shut m b is none = ap (λ x. x && true) (sym is ∙ none)

pub no_document : (m : Run) → current (path m.source.stack) ≡ Some Document → can_have_children (current (path m.source.stack)) ≡ false → ⊥
no_document m is none = let no : true ≡ false = sym (ap can_have_children is) ∙ none in cc

-- the bindings in force at the current node, as its trail tells
pub scope_there : (r : Run) → IsSourceWell r.source → in_force r.source.bindings ≡ scope_of (trail_of (nodes_of r.source))
scope_there r well =
    let nodes = (path r.source.stack).nodes in
    ap in_force well.scopes ∙ ap (λ l. in_force (scopes_on l)) (reverse_map nodes stood) ∙ scope_of_way (reverse nodes)
