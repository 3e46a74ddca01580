-- Where a list is over, an instruction, a node or a body, what follows is what a run still does.
use Rattle.std.proofs.Common.{◌≡◌, ◌≢◌, ℕ, zero, suc, ◌+◌, ◌-◌, Bool, true, false, not, ◌||◌, List, [], ◌∷◌, ◌++◌, length, map, reverse, take, Option, Some, None, Ok, refl, ap, sym, subst, ◌∙◌}
use Rattle.std.specs.Prelude.{if◌then◌else◌, option_map, unwrap_or}
use Rattle.std.proofs.lemmas.List.{reverse-append, reverse-reverse}
use Rattle.stx_base.specs.Course.{Ask, Ret, Same, and_then}
use Rattle.stx_base.proofs.Course.{funext, same_equal, same_then, unfolds}
use Rattle.event_buffers.specs.Buffers.{Buffers}
use Rattle.frame_stack.specs.Change.{locals_of, with_locals}
use Rattle.frame_stack.specs.Stack.{FrameStack}
use Rattle.frame_stack.specs.declared.frame.Frame.{Frame}
use Rattle.frame_stack.specs.declared.frame.Frame.TheVariants.{Attributes, Body, Call, Loop, Pass, Region, Skip, Source as Source_frame}
use Rattle.frame_stack.specs.declared.locals.Local.{Local}
use Rattle.instr_code.specs.Running as running
use Rattle.node_stack.specs.Path.{Node, PathNode, can_have_children, is_attribute}
use Rattle.node_stack.specs.Stack.{path, path_node}
use Rattle.node_stack.specs.declared.parked.Parked.{Parked}
use Rattle.result_writer.specs.Target.{Left}
use Rattle.xml_events.specs.Document.{inner, outer}
use Rattle.xml_events.specs.Tree.{Begun, End, Forest, Future}
use Rattle.stx_base.specs.declared.node.NodeTest.{NodeTest}
use Rattle.template_machine.specs.Behind.{body_done, instr_done, list_done, lists_now, node_done, node_done_in, scene_now}
use Rattle.template_machine.specs.Bodies.{frame_in, on_body, pc_in, spent_in, takes_events}
use Rattle.template_machine.specs.Fuel.{skip}
use Rattle.template_machine.specs.Job as job
use Rattle.template_machine.specs.Job.{Given, Here, Main, Nodes, State, remains, single}
use Rattle.template_machine.specs.Lists.{rest_of}
use Rattle.template_machine.specs.Meaning.{nodes}
use Rattle.template_machine.specs.Passing.{finish, gone}
use Rattle.template_machine.specs.Programs.{instr_at}
use Rattle.template_machine.specs.Still as still
use Rattle.template_machine.specs.Still.{Lists, Returns, Runs, Scene, first_node, nodes_of}
use Rattle.template_machine.specs.Stepwise.{Flat_does, Working, flat_code, lifted}
use Rattle.template_machine.specs.Well.{is_again}
use Rattle.template_machine.specs.declared.program.Program.{Program}
use Rattle.template_machine.specs.declared.run.Doing.{Doing}
use Rattle.template_machine.specs.declared.run.Doing.TheVariants as doing
use Rattle.template_machine.specs.declared.run.Run.{Run}
use Rattle.template_machine.specs.declared.source.Ahead.{Ahead}
use Rattle.template_machine.specs.declared.source.Ahead.TheVariants as ahead
use Rattle.template_machine.specs.declared.source.Source.{Source}
use Rattle.template_machine.proofs.Hearing.{skip_then}

module _ (given : Given) (p : Program) where
  -- An instruction is over: the values that it handed wait no more.

  spent_cut : (change : List Local → List Local) (fs : List Frame) → spent_in (on_body (with_locals change) fs) ≡ spent_in fs
  spent_cut change [] = refl
  spent_cut change (Loop turn ∷ fs) = spent_cut change fs
  spent_cut change (Body template alternative pc locals level spent ∷ fs) = refl
  spent_cut change (Call procedure pc locals level ∷ fs) = refl
  spent_cut change (Region asked level ∷ fs) = refl
  spent_cut change (Attributes next asked ∷ fs) = refl
  spent_cut change (Source_frame buffer next asked ∷ fs) = refl
  spent_cut change (Skip depth ∷ fs) = refl
  spent_cut change (Pass base level spent ∷ fs) = refl

  -- so many locals of the innermost body are its own
  abbrev pub Own : (count : ℕ) → List Frame → Type 0
  Own n fs =
      (pc : ℕ) (locals : List Local) → pc_in fs ≡ Some pc → option_map locals_of (frame_in fs) ≡ Some locals
      → still.without_handed given p (instr_at p.code (pc - 1)) locals ≡ take n locals

  pub returns_on : (turns : List ℕ) (fs : List Frame) (c : Scene) (f : Future) (n pc : ℕ) → pc_in fs ≡ Some pc → Own n fs
      → still.rest given p Returns turns fs c f ≡ still.rest given p Runs turns (on_body (with_locals (take n)) fs) c f
  returns_on turns [] c f n pc at own = absurd (cc)
  returns_on turns (Loop turn ∷ fs) c f n pc at own = funext (λ a. ap (λ h. h a) (returns_on (turns ++ turn ∷ []) fs c f n pc at own))
  returns_on turns (Body template alternative q locals level spent ∷ fs) c f n pc at own =
      funext (λ a.
      ap (λ ls. still.body_goes given p turns (Body template alternative q locals level spent) q ls level fs c
      (still.template_over given p template (is_again level fs) c (still.rest given p Returns [] fs c f) (still.rest given p Lists [] fs (still.node_over c) f)) a)
      (own q locals refl refl))
  returns_on turns (Call procedure q locals level ∷ fs) c f n pc at own =
      funext (λ a. ap (λ ls. still.body_goes given p turns (Call procedure q locals level) q ls level fs c (still.rest given p Runs [] fs c f) a) (own q locals refl refl))
  returns_on turns (Region asked level ∷ fs) c f n pc at own = absurd (cc)
  returns_on turns (Attributes next asked ∷ fs) c f n pc at own = absurd (cc)
  returns_on turns (Source_frame buffer next asked ∷ fs) c f n pc at own = absurd (cc)
  returns_on turns (Skip depth ∷ fs) c f n pc at own = absurd (cc)
  returns_on turns (Pass base level spent ∷ fs) c f n pc at own = absurd (cc)

  pub instr_ends : (r s : Run) (n pc : ℕ) (left : Left) (f : Future) → pc_in (reverse r.frames.frames) ≡ Some pc → Own n (reverse r.frames.frames)
      → reverse s.frames.frames ≡ on_body (with_locals (take n)) (reverse r.frames.frames) → s ≡ record r { frames = s.frames; doing = doing.Body }
      → instr_done given p r left f ≡ still.still given p s left f
  instr_ends r s n pc left f at own cut rest =
      let fs = reverse r.frames.frames in
      let c = scene_now given p r in
      ap (λ o. still.goes_on_at given p (unwrap_or o true) (first_node c.nodes) (rest_of c.nodes) (lists_now given p r f) (λ f. still.rest given p Returns [] fs c f) (still.state_of given p r left))
      (sym (spent_cut (take n) fs))
      ∙ ap (λ k. still.goes_on_at given p (unwrap_or (spent_in (on_body (with_locals (take n)) fs)) true) (first_node c.nodes) (rest_of c.nodes) (lists_now given p r f) k (still.state_of given p r left))
      (funext (λ g. returns_on [] fs c g n pc at own))
      ∙ ap (λ gs. still.doing_now given p doing.Body r.source.ahead gs r left f) (sym cut)
      ∙ sym (ap (λ (x : Run). still.doing_now given p x.doing x.source.ahead (reverse s.frames.frames) x left f) rest)

  -- The children of a body's node are over.

  pub children_end : (turns : List ℕ) (fs : List Frame) (c : Scene) (f : Future) (earlier : NodeTest → ℕ) (st : State) (pc : ℕ) → pc_in fs ≡ Some pc
      → Same (flat_code given) (still.rest given p Lists turns fs c f (remains (record { earlier = earlier; coming = End Begun 0 }) st))
      (still.rest given p Returns turns fs c (outer f) (still.siblings_of given p (rest_of c.nodes) f st))
  children_end turns [] c f earlier st pc at = absurd (cc)
  children_end turns (Loop turn ∷ fs) c f earlier st pc at = children_end (turns ++ turn ∷ []) fs c f earlier st pc at
  children_end turns (Body template alternative q locals level spent ∷ fs) c f earlier st pc at = unfolds (flat_code given) _ _ refl
  children_end turns (Call procedure q locals level ∷ fs) c f earlier st pc at = unfolds (flat_code given) _ _ refl
  children_end turns (Region asked level ∷ fs) c f earlier st pc at = absurd (cc)
  children_end turns (Attributes next asked ∷ fs) c f earlier st pc at = absurd (cc)
  children_end turns (Source_frame buffer next asked ∷ fs) c f earlier st pc at = absurd (cc)
  children_end turns (Skip depth ∷ fs) c f earlier st pc at = absurd (cc)
  children_end turns (Pass base level spent ∷ fs) c f earlier st pc at = absurd (cc)

  -- a node whose children are gone goes on with its siblings
  pub gone_on : (spent : Bool) (n : Node) (above : List PathNode) (f : Future) (k : Future → Here → Flat_does) (st : State) → is_attribute (Some n) ≡ false → spent || not (still.has_kids n) ≡ true
      → still.goes_on_at given p spent n above f k st ≡ k (outer f) (still.siblings_of given p above f st)
  gone_on spent n above f k st node none = by (is_attribute (Some n)) (spent || not (still.has_kids n)) node none
    where
      by : (alone b : Bool) → alone ≡ false → b ≡ true
          → (if alone then k f (single st) else if b then k (outer f) (remains (record { earlier = still.counts_of above; coming = inner f }) st)
          else k (outer (outer f)) (record { kids = Some (inner f); left = record { earlier = still.counts_of above; coming = inner (outer f) }; locals = []; state = st }))
          ≡ k (outer f) (remains (record { earlier = still.counts_of above; coming = inner f }) st)
      by true b e t = absurd (cc)
      by false true e t = refl
      by false false e t = absurd (cc)

  pub alone_on : (spent : Bool) (n : Node) (above : List PathNode) (f : Future) (k : Future → Here → Flat_does) (st : State) → is_attribute (Some n) ≡ true
      → still.goes_on_at given p spent n above f k st ≡ k f (single st)
  alone_on spent n above f k st node = ap (λ b. if b then k f (single st) else if spent || not (still.has_kids n) then k (outer f) (still.siblings_of given p above f st)
      else k (outer (outer f)) (record { kids = Some (inner f); left = record { earlier = still.counts_of above; coming = inner (outer f) }; locals = []; state = st })) node

  pub kids_on : (n : Node) (above : List PathNode) (f : Future) (k : Future → Here → Flat_does) (st : State) → is_attribute (Some n) ≡ false → still.has_kids n ≡ true
      → still.goes_on_at given p false n above f k st
      ≡ k (outer (outer f)) (record { kids = Some (inner f); left = record { earlier = still.counts_of above; coming = inner (outer f) }; locals = []; state = st })
  kids_on n above f k st node kids = by (is_attribute (Some n)) (still.has_kids n) node kids
    where
      by : (alone b : Bool) → alone ≡ false → b ≡ true
          → (if alone then k f (single st) else if not b then k (outer f) (remains (record { earlier = still.counts_of above; coming = inner f }) st)
          else k (outer (outer f)) (record { kids = Some (inner f); left = record { earlier = still.counts_of above; coming = inner (outer f) }; locals = []; state = st }))
          ≡ k (outer (outer f)) (record { kids = Some (inner f); left = record { earlier = still.counts_of above; coming = inner (outer f) }; locals = []; state = st })
      by true b e t = absurd (cc)
      by false true e t = refl
      by false false e t = absurd (cc)

  pub list_ends_body : (r : Run) (pc : ℕ) (left : Left) (f : Future) → r.source.ahead ≡ ahead.Nothing → pc_in (reverse r.frames.frames) ≡ Some pc → spent_in (reverse r.frames.frames) ≡ Some true
      → is_attribute (Some (first_node (scene_now given p r).nodes)) ≡ false
      → Same (flat_code given) (list_done given p r left f) (instr_done given p r left f)
  list_ends_body r pc left f unknown at spent node =
      let fs = reverse r.frames.frames in
      let c = scene_now given p r in
      let st = still.state_of given p r left in
      same_then (children_end [] fs c f (still.counts_of c.nodes) st pc at)
      (same_equal (flat_code given)
      (sym
      (ap (λ h. still.goes_on_at given p (unwrap_or (spent_in fs) true) (first_node c.nodes) (rest_of c.nodes) (still.known_before given p h (nodes_of r.source) (still.held_of given p r) f) (λ f. still.rest given p Returns [] fs c f) st) unknown
      ∙ ap (λ o. still.goes_on_at given p (unwrap_or o true) (first_node c.nodes) (rest_of c.nodes) f (λ f. still.rest given p Returns [] fs c f) st) spent
      ∙ gone_on true (first_node c.nodes) (rest_of c.nodes) f (λ f. still.rest given p Returns [] fs c f) st node refl)))

  -- A node is over.

  abbrev scene_in : List PathNode → List (Option PathNode) → Scene
  scene_in nodes aside = record { nodes = nodes; source = job.Main; around = []; aside = aside }

  abbrev done_at : (events : Bool) → Ahead → List PathNode → (held : Option PathNode) → List (Option PathNode) → List Frame → State → Future → Flat_does
  done_at false h nodes held aside fs st f =
      still.rest given p Lists [] fs (still.node_over (scene_in (still.path_before given p h nodes) aside)) (still.known_before given p h nodes held f) (single st)
  done_at true h nodes held aside fs st f =
      still.rest given p Lists [] fs (still.node_over (scene_in (still.path_before given p h nodes) aside)) (outer (still.known_before given p h nodes held f))
      (still.siblings_of given p (rest_of (still.path_before given p h nodes)) (still.known_before given p h nodes held f) st)

  abbrev goes_at : (events : Bool) → Ahead → List PathNode → (held : Option PathNode) → List (Option PathNode) → List Frame → State → Future → Flat_does
  goes_at false h nodes held aside fs st f =
      still.rest given p Lists [] fs (scene_in (still.path_before given p h nodes) aside) (still.known_before given p h nodes held f) (single st)
  goes_at true h nodes held aside fs st f =
      still.rest given p Lists [] fs (scene_in (still.path_before given p h nodes) aside) (outer (still.known_before given p h nodes held f))
      (remains (record { earlier = still.before_front given p h nodes held; coming = inner (still.known_before given p h nodes held f) }) st)

  done_goes : (events : Bool) (h : Ahead) (nodes : List PathNode) (held now : Option PathNode) (aside : List (Option PathNode)) (fs : List Frame) (st : State) (f : Future)
      → h ≢ ahead.Here → h ≢ ahead.Held → done_at events h nodes held aside fs st f ≡ goes_at events h (rest_of nodes) now aside fs st f
  done_goes false ahead.Nothing nodes held now aside fs st f apart free = refl
  done_goes true ahead.Nothing nodes held now aside fs st f apart free = refl
  done_goes events ahead.Here nodes held now aside fs st f apart free = absurd (apart refl)
  done_goes events ahead.Held nodes held now aside fs st f apart free = absurd (free refl)
  done_goes false ahead.Ended nodes held now aside fs st f apart free = refl
  done_goes true ahead.Ended nodes held now aside fs st f apart free = refl

  node_done_at : (b : Bool) (r : Run) (left : Left) (f : Future)
      → node_done_in given p b (reverse r.frames.frames) r left f ≡ done_at b r.source.ahead (nodes_of r.source) (still.held_of given p r) (map (option_map path_node) (reverse r.aside.items)) (reverse r.frames.frames) (still.state_of given p r left) f
  node_done_at true r left f = refl
  node_done_at false r left f = refl

  list_goes_at : (b : Bool) (r : Run) (left : Left) (f : Future)
      → still.list_goes given p b r.source.ahead (reverse r.frames.frames) r left f ≡ goes_at b r.source.ahead (nodes_of r.source) (still.held_of given p r) (map (option_map path_node) (reverse r.aside.items)) (reverse r.frames.frames) (still.state_of given p r left) f
  list_goes_at true r left f = refl
  list_goes_at false r left f = refl

  pub node_ends : (r s : Run) (src : Source) (left : Left) (f : Future) → r.source.ahead ≢ ahead.Here → r.source.ahead ≢ ahead.Held → nodes_of src ≡ rest_of (nodes_of r.source)
      → src.ahead ≡ r.source.ahead → s ≡ record r { source = src; putting = s.putting; doing = doing.List } → s.putting.buffers ≡ r.putting.buffers → s.putting.targets ≡ r.putting.targets
      → node_done given p r left f ≡ still.still given p s left f
  node_ends r s src left f apart free gone front rest buffers targets =
      let fs = reverse r.frames.frames in
      let b = takes_events fs in
      let aside = map (option_map path_node) (reverse r.aside.items) in
      let st = still.state_of given p r left in
      let now = option_map path_node src.held in
      let made = λ (bs : Buffers) (ts : List ℕ). (record st { buffers = bs; targets = reverse ts }) in
      node_done_at b r left f
      ∙ done_goes b r.source.ahead (nodes_of r.source) (still.held_of given p r) now aside fs st f apart free
      ∙ ap (λ ns. goes_at b r.source.ahead ns now aside fs st f) (sym gone)
      ∙ ap (λ h. goes_at b h (nodes_of src) now aside fs st f) (sym front)
      ∙ ap (λ bs. goes_at b src.ahead (nodes_of src) now aside fs (made bs r.putting.targets) f) (sym buffers)
      ∙ ap (λ ts. goes_at b src.ahead (nodes_of src) now aside fs (made s.putting.buffers ts) f) (sym targets)
      ∙ sym (list_goes_at b (record r { source = src; putting = s.putting; doing = doing.List }) left f)
      ∙ sym (ap (λ (x : Run). still.still given p x left f) rest)

  -- A list that is passed over is over.
  pub skip_ends : (r s : Run) (gs : List Frame) (left : Left) (f : Future) → r.source.ahead ≡ ahead.Nothing → reverse r.frames.frames ≡ Skip 0 ∷ gs → reverse s.frames.frames ≡ gs
      → takes_events gs ≡ true → s ≡ record r { frames = s.frames } → list_done given p r left f ≡ node_done given p s left f
  skip_ends r s gs left f unknown before after takes rest =
      let c = scene_now given p r in
      let st = still.state_of given p r left in
      let over : Flat_does = still.rest given p Lists [] gs (still.node_over c) (outer f) (still.siblings_of given p (rest_of c.nodes) f st) in
      ap (λ fs. still.rest given p Lists [] fs c f (remains (record { earlier = still.counts_of c.nodes; coming = End Begun 0 }) st)) before
      ∙ ap (λ h. still.rest given p Lists [] gs (still.node_over c) (outer (still.known_before given p h (nodes_of r.source) (still.held_of given p r) f))
      (still.siblings_of given p (rest_of c.nodes) (still.known_before given p h (nodes_of r.source) (still.held_of given p r) f) st)) (sym unknown)
      ∙ ap (λ b. node_done_in given p b gs (record r { frames = s.frames }) left f) (sym takes)
      ∙ ap (λ hs. node_done_in given p (takes_events hs) hs (record r { frames = s.frames }) left f) (sym after)
      ∙ sym (ap (λ (x : Run). node_done_in given p (takes_events (reverse s.frames.frames)) (reverse s.frames.frames) x left f) rest)

  -- A body is over.

  -- another body goes on with its node
  pub body_ends_again : (r : Run) (spent : Bool) (left : Left) (f : Future) → spent_in (reverse r.frames.frames) ≡ Some spent
      → body_done given p true spent r left f ≡ instr_done given p r left f
  body_ends_again r spent left f same =
      let c = scene_now given p r in
      ap (λ o. still.goes_on_at given p (unwrap_or o true) (first_node c.nodes) (rest_of c.nodes) (lists_now given p r f) (λ f. still.rest given p Returns [] (reverse r.frames.frames) c f) (still.state_of given p r left))
      (sym same)

  -- the children of its node are skipped
  pub body_ends_open : (r s : Run) (left : Left) (f : Future) → is_attribute (Some (first_node (scene_now given p r).nodes)) ≡ false → still.has_kids (first_node (scene_now given p r).nodes) ≡ true
      → reverse s.frames.frames ≡ Skip 0 ∷ reverse r.frames.frames → s ≡ record r { frames = s.frames; doing = doing.List }
      → body_done given p false false r left f ≡ still.still given p s left f
  body_ends_open r s left f node kids pushed rest =
      let fs = reverse r.frames.frames in
      let c = scene_now given p r in
      let st = still.state_of given p r left in
      let g = lists_now given p r f in
      let behind : Future → Here → Flat_does = λ f. still.rest given p Lists [] fs (still.node_over c) f in
      let left_there : Here = record { kids = Some (inner g); left = record { earlier = still.counts_of (rest_of c.nodes); coming = inner (outer g) }; locals = []; state = st } in
      kids_on (first_node c.nodes) (rest_of c.nodes) g (λ f a. lifted (finish given Main a) (behind f)) st node kids
      ∙ skip_then given p (inner g) st (λ now. Ret (gone left_there now)) (behind (outer (outer g)))
      ∙ skips_on r.source.ahead
      ∙ ap (λ gs. still.doing_now given p doing.List r.source.ahead gs (record r { frames = s.frames; doing = doing.List }) left f) (sym pushed)
      ∙ sym (ap (λ (x : Run). still.doing_now given p x.doing x.source.ahead (reverse s.frames.frames) x left f) rest)
    where
      skips_on : (h : Ahead)
          → lifted (skip given Main (inner (still.known_before given p h (nodes_of r.source) (still.held_of given p r) f)) (still.state_of given p r left) (λ now. Ret (single now)))
          (λ b.
          still.rest given p Lists [] (reverse r.frames.frames) (still.node_over (still.scene_by given p h r)) (outer (outer (still.known_before given p h (nodes_of r.source) (still.held_of given p r) f)))
          (remains (record { earlier = still.counts_of (rest_of (still.scene_by given p h r).nodes); coming = inner (outer (still.known_before given p h (nodes_of r.source) (still.held_of given p r) f)) }) b.state))
          ≡ still.doing_now given p doing.List h (Skip 0 ∷ reverse r.frames.frames) (record r { frames = s.frames; doing = doing.List }) left f
      skips_on h = refl

  -- the node is over
  pub body_ends_node : (r : Run) (spent : Bool) (left : Left) (f : Future) → is_attribute (Some (first_node (scene_now given p r).nodes)) ≡ false
      → spent || not (still.has_kids (first_node (scene_now given p r).nodes)) ≡ true
      → body_done given p false spent r left f ≡ node_done_in given p true (reverse r.frames.frames) r left f
  body_ends_node r spent left f node none =
      let c = scene_now given p r in
      gone_on spent (first_node c.nodes) (rest_of c.nodes) (lists_now given p r f)
      (λ f a. lifted (finish given Main a) (still.rest given p Lists [] (reverse r.frames.frames) (still.node_over c) f)) (still.state_of given p r left) node none

  pub body_ends_attribute : (r : Run) (spent : Bool) (left : Left) (f : Future) → is_attribute (Some (first_node (scene_now given p r).nodes)) ≡ true
      → body_done given p false spent r left f ≡ node_done_in given p false (reverse r.frames.frames) r left f
  body_ends_attribute r spent left f node =
      let c = scene_now given p r in
      alone_on spent (first_node c.nodes) (rest_of c.nodes) (lists_now given p r f)
      (λ f a. lifted (finish given Main a) (still.rest given p Lists [] (reverse r.frames.frames) (still.node_over c) f)) (still.state_of given p r left) node
