-- Runs that read the main document alone.
use Rattle.std.proofs.Common.{◌≡◌, ◌≢◌, ℕ, zero, suc, ◌-◌, take, drop, Bool, true, false, not, ◌||◌, List, [], ◌∷◌, ◌++◌, reverse, map, Option, Some, None, refl, ap, sym, ◌∙◌}
use Rattle.std.specs.Prelude.{if◌then◌else◌, unwrap_or}
use Rattle.std.specs.Option.{option_map}
use Rattle.stx_base.specs.Course.{Ask, Ret}
use Rattle.stx_base.proofs.Course.{funext}
use Rattle.stx_base.specs.declared.node.NodeTest.TheVariants as test
use Rattle.frame_stack.specs.declared.frame.Frame.{Frame}
use Rattle.frame_stack.specs.declared.frame.Frame.TheVariants.{Attributes, Body, Call, Loop, Pass, Region, Skip, Source as Source_frame}
use Rattle.frame_stack.specs.declared.locals.Local.{Local}
use Rattle.instr_code.specs.Running.{At}
use Rattle.instr_code.specs.Running as running
use Rattle.node_stack.specs.Path.{PathNode, attributes, is_attribute}
use Rattle.node_stack.specs.Stack.{path, path_node}
use Rattle.node_stack.specs.declared.parked.Parked.{Parked}
use Rattle.result_writer.specs.Target.{Left}
use Rattle.xml_events.specs.Document.{inner, outer}
use Rattle.xml_events.specs.Tree.{Begun, End, Future}
use Rattle.template_machine.specs.Between.{IsAsking, lists_in}
use Rattle.template_machine.specs.Bodies.{active_in, spent_in, takes_events}
use Rattle.template_machine.specs.Contexts.{Station}
use Rattle.template_machine.specs.Documents.{open_before, open_in}
use Rattle.template_machine.specs.Giving.{RunsInOrder}
use Rattle.template_machine.specs.Job as job
use Rattle.template_machine.specs.Job.{Condition, Given, Here, Main, Nodes, Self, State, remains, single}
use Rattle.template_machine.specs.Laws.{AskingIsOpen}
use Rattle.template_machine.specs.Listed.{AreInOrder}
use Rattle.template_machine.specs.Lists.{rest_of}
use Rattle.template_machine.specs.Ordinary.{IsAlone}
use Rattle.template_machine.specs.Passing as passing
use Rattle.template_machine.specs.Programs.{instr_at}
use Rattle.template_machine.specs.Putting.{puts}
use Rattle.template_machine.specs.Seen.{named_of}
use Rattle.template_machine.specs.Sources.{held_node}
use Rattle.template_machine.specs.Standing.{known_now, standing_of}
use Rattle.template_machine.specs.Steps.{group_of, test_in}
use Rattle.template_machine.specs.Still as still
use Rattle.template_machine.specs.Still.{Lists, Mode, Returns, Runs, Scene, aside_of, counts_of, first_node, has_kids, nodes_of, trail_of}
use Rattle.template_machine.specs.Stepwise.{Flat_does, Working, lifted}
use Rattle.template_machine.specs.Well.{GoesOn, is_again}
use Rattle.template_machine.specs.declared.machine.Machine.{Machine}
use Rattle.template_machine.specs.declared.program.Program.{Program}
use Rattle.template_machine.specs.declared.run.Doing.{Doing}
use Rattle.template_machine.specs.declared.run.Doing.TheVariants as doing
use Rattle.template_machine.specs.declared.run.Run.{Run}
use Rattle.template_machine.specs.declared.source.Ahead.{Ahead}
use Rattle.template_machine.specs.declared.source.Ahead.TheVariants as ahead
use Rattle.template_machine.specs.declared.source.Origin.{Origin}
use Rattle.template_machine.specs.declared.source.Origin.TheVariants as origin
use Rattle.template_machine.specs.declared.source.Source as sources
use Rattle.template_machine.proofs.InOrder.{alone_there, in_order}
use Rattle.run_future.specs.Remaining as future
use Rattle.run_future.specs.Remaining.{Ground, ToCome, documents_around, document_of, head_of, lists_of, buffers_around, source_of, remaining_in}
use Rattle.run_future.specs.Laws.{DoesAsAlone, DoesAsAloneAnywhere, HeadIsInList, IsOfMain}

-- the main document alone is read
abbrev pub alone_ground : List PathNode → Option PathNode → Future → Ground
alone_ground nodes head f = record { here = record { source = Main; nodes = nodes; head = head; lists = f }; around = []; aside = [] }

abbrev pub alone_scene : List PathNode → Scene
alone_scene nodes = record { nodes = nodes; source = Main; around = []; aside = [] }

-- with these nodes beside its path
abbrev pub beside : List (Option Parked) → List PathNode → Scene
beside l nodes = record (alone_scene nodes) { aside = map (option_map path_node) (reverse l) }

module _ (given : Given) (p : Program) where
  -- No region is open.

  no_conditions : (level : ℕ) (fs : List Frame) → AreInOrder fs → still.conditions_of given p level fs ≡ []
  no_conditions level [] order = refl
  no_conditions level (Loop turn ∷ fs) order = no_conditions level fs order
  no_conditions level (Body template alternative pc locals own spent ∷ fs) order = no_conditions level fs order
  no_conditions level (Call procedure pc locals own ∷ fs) order = no_conditions level fs order
  no_conditions level (Attributes next asked ∷ fs) order = no_conditions level fs order
  no_conditions level (Region asked own ∷ fs) order = absurd order
  no_conditions level (Source_frame buffer next asked ∷ fs) order = absurd order
  no_conditions level (Skip depth ∷ fs) order = no_conditions level fs order
  no_conditions level (Pass base own spent ∷ fs) order = no_conditions level fs order

  no_regions : (level : ℕ) (fs : List Frame) → AreInOrder fs → future.conditions_in given p level fs ≡ []
  no_regions level [] order = refl
  no_regions level (Loop turn ∷ fs) order = no_regions level fs order
  no_regions level (Body template alternative pc locals own spent ∷ fs) order = no_regions level fs order
  no_regions level (Call procedure pc locals own ∷ fs) order = no_regions level fs order
  no_regions level (Attributes next asked ∷ fs) order = refl
  no_regions level (Region asked own ∷ fs) order = absurd order
  no_regions level (Source_frame buffer next asked ∷ fs) order = absurd order
  no_regions level (Skip depth ∷ fs) order = no_regions level fs order
  no_regions level (Pass base own spent ∷ fs) order = no_regions level fs order

  -- a body with these conditions goes on
  abbrev goes_with : List Condition → (turns : List ℕ) → Frame → (pc : ℕ) → List Local → (level : ℕ) → List Frame → List PathNode → (Here → Flat_does) → Here → Flat_does
  goes_with conditions turns b pc locals level fs nodes k a =
      Ask (At pc (record {
        self = record {
          group = unwrap_or (group_of p.sheet b) 0;
          test = unwrap_or (test_in p.sheet (b ∷ fs)) test.Document;
          active = active_in level (b ∷ fs);
          level = record { conditions = conditions; instances = still.instances_in given p level (b ∷ fs); source = Main };
          trail = trail_of nodes;
        };
        here = record a { locals = named_of locals };
        aside = aside_of locals;
        turns = turns;
      })) (λ (w : Working). k w.here)

  body_alike : (turns : List ℕ) (b : Frame) (pc : ℕ) (locals : List Local) (level : ℕ) (fs : List Frame) (nodes : List PathNode) (f : Future) (k : Here → Flat_does) (a : Here) → AreInOrder (b ∷ fs)
      → future.body_goes given p turns b pc locals level fs (alone_ground nodes None f) k a ≡ still.body_goes given p turns b pc locals level fs (alone_scene nodes) k a
  body_alike turns b pc locals level fs nodes f k a order =
      ap (λ conditions. goes_with conditions turns b pc locals level fs nodes k a) (no_regions level (b ∷ fs) order ∙ sym (no_conditions level (b ∷ fs) order))

  abbrev gone_here : List PathNode → Future → State → Here
  gone_here nodes f st = remains (record { earlier = counts_of (rest_of nodes); coming = inner f }) st

  abbrev kids_here : List PathNode → Future → State → Here
  kids_here nodes f st = record (gone_here nodes (outer f) st) { kids = Some (inner f) }

  -- a body's node goes on alike
  goes_alike : (spent : Bool) (nodes : List PathNode) (f : Future) (k : Ground → Here → Flat_does) (h : Future → Here → Flat_does) (st : State)
      → ((g : Future) → k (alone_ground nodes None g) ≡ h g)
      → future.goes_on_at given p spent (alone_ground nodes None f) k st ≡ still.goes_on_at given p spent (first_node nodes) (rest_of nodes) f h st
  goes_alike spent nodes f k h st e = by (is_attribute (Some (first_node nodes))) (spent || not (has_kids (first_node nodes)))
    where
      by : (attribute closed : Bool)
          → (if attribute then k (alone_ground nodes None f) (single st) else if closed then k (alone_ground nodes None (outer f)) (gone_here nodes f st) else k (alone_ground nodes None (outer (outer f))) (kids_here nodes f st))
          ≡ (if attribute then h f (single st) else if closed then h (outer f) (gone_here nodes f st) else h (outer (outer f)) (kids_here nodes f st))
      by true closed = ap (λ x. x (single st)) (e f)
      by false true = ap (λ x. x (gone_here nodes f st)) (e (outer f))
      by false false = ap (λ x. x (kids_here nodes f st)) (e (outer (outer f)))

  abbrev passes : (level : ℕ) → List Frame → List PathNode → Future → (base : ℕ) → Here → (back behind : Here → Flat_does) → Flat_does
  passes level fs nodes f base a back behind =
      Ask (running.Given (Nodes a.left (passing.passed_on given base Main (trail_of nodes)) a.state)) (λ (w : Working).
      lifted (puts given (passing.group_at given base) (passing.parts_behind (passing.kinds_in given base) (first_node nodes)) w.here.state (λ st. Ret (single st))) (λ b.
      if is_again level fs
      then back (still.siblings_of given p (rest_of nodes) f b.state)
      else behind (still.siblings_of given p (rest_of nodes) f b.state)))

  -- and so do all frames
  pub alike : (mode : Mode) (turns : List ℕ) (fs : List Frame) (nodes : List PathNode) (f : Future) → AreInOrder fs
      → future.rest given p mode turns fs (alone_ground nodes None f) ≡ still.rest given p mode turns fs (alone_scene nodes) f
  alike mode turns [] nodes f order = funext (λ a. refl)
  alike mode turns (Loop turn ∷ fs) nodes f order = funext (λ a. ap (λ h. h a) (alike mode (turns ++ turn ∷ []) fs nodes f order))
  alike Runs turns (Body template alternative pc locals level spent ∷ fs) nodes f order =
      funext (λ a.
      body_alike turns (Body template alternative pc locals level spent) pc locals level fs nodes f
      (still.template_over given p template (is_again level fs) (alone_scene nodes) (future.rest given p Returns [] fs (alone_ground nodes None f)) (future.rest given p Lists [] fs (alone_ground (rest_of nodes) None f))) a order
      ∙ ap (λ back. still.body_goes given p turns (Body template alternative pc locals level spent) pc locals level fs (alone_scene nodes)
      (still.template_over given p template (is_again level fs) (alone_scene nodes) back (future.rest given p Lists [] fs (alone_ground (rest_of nodes) None f))) a)
      (alike Returns [] fs nodes f order)
      ∙ ap (λ behind. still.body_goes given p turns (Body template alternative pc locals level spent) pc locals level fs (alone_scene nodes)
      (still.template_over given p template (is_again level fs) (alone_scene nodes) (still.rest given p Returns [] fs (alone_scene nodes) f) behind) a)
      (alike Lists [] fs (rest_of nodes) f order))
  alike Returns turns (Body template alternative pc locals level spent ∷ fs) nodes f order =
      let own = still.without_handed given p (instr_at p.code (pc - 1)) locals in
      funext (λ a.
      body_alike turns (Body template alternative pc locals level spent) pc own level fs nodes f
      (still.template_over given p template (is_again level fs) (alone_scene nodes) (future.rest given p Returns [] fs (alone_ground nodes None f)) (future.rest given p Lists [] fs (alone_ground (rest_of nodes) None f))) a order
      ∙ ap (λ back. still.body_goes given p turns (Body template alternative pc locals level spent) pc own level fs (alone_scene nodes)
      (still.template_over given p template (is_again level fs) (alone_scene nodes) back (future.rest given p Lists [] fs (alone_ground (rest_of nodes) None f))) a)
      (alike Returns [] fs nodes f order)
      ∙ ap (λ behind. still.body_goes given p turns (Body template alternative pc locals level spent) pc own level fs (alone_scene nodes)
      (still.template_over given p template (is_again level fs) (alone_scene nodes) (still.rest given p Returns [] fs (alone_scene nodes) f) behind) a)
      (alike Lists [] fs (rest_of nodes) f order))
  alike Lists turns (Body template alternative pc locals level spent ∷ fs) nodes f order =
      let own = still.without_handed given p (instr_at p.code (pc - 1)) locals in
      funext (λ a.
      ap (λ k. still.children_go given p pc locals (alone_scene nodes) f k a)
      (funext (λ g. funext (λ b.
      body_alike turns (Body template alternative pc locals level spent) pc own level fs nodes g
      (still.template_over given p template (is_again level fs) (alone_scene nodes) (future.rest given p Returns [] fs (alone_ground nodes None g)) (future.rest given p Lists [] fs (alone_ground (rest_of nodes) None g))) b order
      ∙ ap (λ back. still.body_goes given p turns (Body template alternative pc locals level spent) pc own level fs (alone_scene nodes)
      (still.template_over given p template (is_again level fs) (alone_scene nodes) back (future.rest given p Lists [] fs (alone_ground (rest_of nodes) None g))) b)
      (alike Returns [] fs nodes g order)
      ∙ ap (λ behind. still.body_goes given p turns (Body template alternative pc locals level spent) pc own level fs (alone_scene nodes)
      (still.template_over given p template (is_again level fs) (alone_scene nodes) (still.rest given p Returns [] fs (alone_scene nodes) g) behind) b)
      (alike Lists [] fs (rest_of nodes) g order)))))
  alike Runs turns (Call procedure pc locals level ∷ fs) nodes f order =
      funext (λ a.
      body_alike turns (Call procedure pc locals level) pc locals level fs nodes f (future.rest given p Runs [] fs (alone_ground nodes None f)) a order
      ∙ ap (λ back. still.body_goes given p turns (Call procedure pc locals level) pc locals level fs (alone_scene nodes) back a) (alike Runs [] fs nodes f order))
  alike Returns turns (Call procedure pc locals level ∷ fs) nodes f order =
      let own = still.without_handed given p (instr_at p.code (pc - 1)) locals in
      funext (λ a.
      body_alike turns (Call procedure pc locals level) pc own level fs nodes f (future.rest given p Runs [] fs (alone_ground nodes None f)) a order
      ∙ ap (λ back. still.body_goes given p turns (Call procedure pc locals level) pc own level fs (alone_scene nodes) back a) (alike Runs [] fs nodes f order))
  alike Lists turns (Call procedure pc locals level ∷ fs) nodes f order =
      let own = still.without_handed given p (instr_at p.code (pc - 1)) locals in
      funext (λ a.
      ap (λ k. still.children_go given p pc locals (alone_scene nodes) f k a)
      (funext (λ g. funext (λ b.
      body_alike turns (Call procedure pc locals level) pc own level fs nodes g (future.rest given p Runs [] fs (alone_ground nodes None g)) b order
      ∙ ap (λ back. still.body_goes given p turns (Call procedure pc locals level) pc own level fs (alone_scene nodes) back b) (alike Runs [] fs nodes g order)))))
  alike mode turns (Region asked level ∷ fs) nodes f order = absurd order
  alike mode turns (Source_frame buffer next asked ∷ fs) nodes f order = absurd order
  alike mode turns (Attributes next asked ∷ fs) nodes f order =
      let attrs = attributes (Some (first_node nodes)) in
      funext (λ a.
      ap (λ k. lifted (passing.attributes given (take next attrs) (drop next attrs)
      (still.asked_by given p asked (still.locals_in given p fs) (job.fresh Main) (trail_of nodes)) a.state (λ st. Ret (single st))) k)
      (funext (λ b. goes_alike (unwrap_or (spent_in fs) true) nodes f (future.rest given p Returns [] fs) (still.rest given p Returns [] fs (alone_scene nodes)) b.state (λ g. alike Returns [] fs nodes g order))))
  alike mode turns (Skip depth ∷ fs) nodes f order =
      funext (λ a.
      ap (λ k. still.skips given p depth Main a.left.coming f a.state k)
      (funext (λ g. funext (λ st. ap (λ h. h (still.siblings_of given p (rest_of nodes) g st)) (alike Lists [] fs (rest_of nodes) (outer g) order)))))
  alike mode turns (Pass base level spent ∷ fs) nodes f order =
      funext (λ a.
      ap (λ back. passes level fs nodes f base a back (future.rest given p Lists [] fs (alone_ground (rest_of nodes) None (outer f)))) (alike Returns [] fs nodes (outer f) order)
      ∙ ap (λ behind. passes level fs nodes f base a (still.rest given p Returns [] fs (alone_scene nodes) (outer f)) behind) (alike Lists [] fs (rest_of nodes) (outer f) order))

  -- Runs.

  -- as it is said of them where nothing waits beside the path
  abbrev still_lists : (events : Bool) → Ahead → List Frame → List PathNode → Option PathNode → Future → State → Flat_does
  still_lists false h fs nodes held f st =
      still.rest given p Lists [] fs (alone_scene (still.path_before given p h nodes)) (still.known_before given p h nodes held f) (single st)
  still_lists true h fs nodes held f st =
      still.rest given p Lists [] fs (alone_scene (still.path_before given p h nodes)) (outer (still.known_before given p h nodes held f))
      (remains (record { earlier = still.before_front given p h nodes held; coming = inner (still.known_before given p h nodes held f) }) st)

  abbrev still_goes : Doing → Ahead → List Frame → List PathNode → Option PathNode → Future → State → Flat_does
  still_goes doing.Body h fs nodes held f st =
      still.goes_on_at given p (unwrap_or (spent_in fs) true) (first_node (still.path_before given p h nodes)) (rest_of (still.path_before given p h nodes))
      (still.known_before given p h nodes held f) (λ f. still.rest given p Runs [] fs (alone_scene (still.path_before given p h nodes)) f) st
  still_goes doing.List h fs nodes held f st = still_lists (takes_events fs) h fs nodes held f st

  -- and as it is said here
  abbrev ground_at : Ahead → List PathNode → Option PathNode → Future → Ground
  ground_at h nodes held f = alone_ground (still.path_before given p h nodes) (head_of h nodes held) (still.known_before given p h nodes held f)

  counts_alike : (h : Ahead) (nodes : List PathNode) (held : Option PathNode) → still.before_held given p (head_of h nodes held) (counts_of (still.path_before given p h nodes)) ≡ still.before_front given p h nodes held
  counts_alike ahead.Nothing nodes held = refl
  counts_alike ahead.Here [] held = refl
  counts_alike ahead.Here (x ∷ xs) held = refl
  counts_alike ahead.Held nodes held = refl
  counts_alike ahead.Ended nodes held = refl

  no_head : (h : Ahead) (nodes : List PathNode) (held : Option PathNode) → held ≡ None → h ≢ ahead.Here → head_of h nodes held ≡ None
  no_head ahead.Nothing nodes held none apart = refl
  no_head ahead.Here nodes held none apart = absurd (apart refl)
  no_head ahead.Held nodes held none apart = none
  no_head ahead.Ended nodes held none apart = refl

  run_alike : (d : Doing) (events : Bool) (h : Ahead) (fs : List Frame) (nodes : List PathNode) (held : Option PathNode) (f : Future) (st : State)
      → takes_events fs ≡ events → held ≡ None → (h ≡ ahead.Here → (d ≡ doing.List) × (events ≡ true)) → AreInOrder fs
      → future.goes_on given p d fs (ground_at h nodes held f) st ≡ still_goes d h fs nodes held f st
  run_alike doing.Body events h fs nodes held f st is none looked order =
      ap (λ head. future.goes_on given p doing.Body fs (alone_ground (still.path_before given p h nodes) head (still.known_before given p h nodes held f)) st)
      (no_head h nodes held none (λ e. let no : doing.Body ≡ doing.List = (looked e).0 in cc))
      ∙ goes_alike (unwrap_or (spent_in fs) true) (still.path_before given p h nodes) (still.known_before given p h nodes held f) (future.rest given p Runs [] fs)
      (still.rest given p Runs [] fs (alone_scene (still.path_before given p h nodes))) st (λ g. alike Runs [] fs (still.path_before given p h nodes) g order)
  run_alike doing.List true h fs nodes held f st is none looked order =
      ap (λ b. future.list_goes given p b fs (ground_at h nodes held f) st) is
      ∙ ap (λ counts. future.rest given p Lists [] fs (alone_ground (still.path_before given p h nodes) None (outer (still.known_before given p h nodes held f)))
      (remains (record { earlier = counts; coming = inner (still.known_before given p h nodes held f) }) st)) (counts_alike h nodes held)
      ∙ ap (λ k. k (remains (record { earlier = still.before_front given p h nodes held; coming = inner (still.known_before given p h nodes held f) }) st))
      (alike Lists [] fs (still.path_before given p h nodes) (outer (still.known_before given p h nodes held f)) order)
      ∙ sym (ap (λ b. still_lists b h fs nodes held f st) is)
  run_alike doing.List false h fs nodes held f st is none looked order =
      ap (λ b. future.list_goes given p b fs (ground_at h nodes held f) st) is
      ∙ ap (λ head. future.rest given p Lists [] fs (alone_ground (still.path_before given p h nodes) head (still.known_before given p h nodes held f)) (single st))
      (no_head h nodes held none (λ e. let no : false ≡ true = (looked e).1 in cc))
      ∙ ap (λ k. k (single st)) (alike Lists [] fs (still.path_before given p h nodes) (still.known_before given p h nodes held f) order)
      ∙ sym (ap (λ b. still_lists b h fs nodes held f st) is)

  -- the main document alone is told of
  abbrev ground_with : (o : Origin) (begun : ℕ) (outer : List sources.Source) (aside : List (Option Parked)) → Run → List ToCome → Ground
  ground_with o begun outer aside r ds =
      let around = future.readings given p (buffers_around o r.putting.buffers) (reverse outer) (documents_around o begun ds) in
      record {
        here = record {
          source = source_of o (document_of o begun ds) around;
          nodes = still.path_before given p r.source.ahead (nodes_of r.source);
          head = head_of r.source.ahead (nodes_of r.source) (held_node r.source);
          lists = still.known_before given p r.source.ahead (nodes_of r.source) (held_node r.source) (lists_of o begun r.source.next r.putting.buffers (document_of o begun ds));
        };
        around = around;
        aside = map (option_map path_node) (reverse aside);
      }

  ground_alone : (r : Run) (begun : ℕ) (ds : List ToCome) → IsAlone p r → r.source.begun ≡ begun
      → future.ground_of given p r ds ≡ ground_with origin.Main begun [] [] r ds
  ground_alone r begun ds alone is =
      ap (λ o. ground_with o r.source.begun r.outer.items r.aside.items r ds) alone.origin
      ∙ ap (λ n. ground_with origin.Main n r.outer.items r.aside.items r ds) is
      ∙ ap (λ l. ground_with origin.Main begun l r.aside.items r ds) alone.outer
      ∙ ap (λ l. ground_with origin.Main begun [] l r ds) alone.aside

  still_alone : (d : Doing) (h : Ahead) (fs : List Frame) (r : Run) (left : Left) (f : Future) → r.aside.items ≡ []
      → still_goes d h fs (nodes_of r.source) (held_node r.source) f (still.state_of given p r left) ≡ still.doing_now given p d h fs r left f
  still_alone doing.Body h fs r left f none =
      sym (ap (λ l. still.goes_on_at given p (unwrap_or (spent_in fs) true) (first_node (still.path_before given p h (nodes_of r.source))) (rest_of (still.path_before given p h (nodes_of r.source)))
      (still.lists_ahead given p h r f) (λ f. still.rest given p Runs [] fs (beside l (still.path_before given p h (nodes_of r.source))) f)
      (still.state_of given p r left)) none)
  still_alone doing.List h fs r left f none = by (takes_events fs)
    where
      by : (b : Bool) → still_lists b h fs (nodes_of r.source) (held_node r.source) f (still.state_of given p r left) ≡ still.list_goes given p b h fs r left f
      by false =
          sym (ap (λ l. still.rest given p Lists [] fs (beside l (still.path_before given p h (nodes_of r.source)))
          (still.lists_ahead given p h r f) (single (still.state_of given p r left))) none)
      by true =
          sym (ap (λ l. still.rest given p Lists [] fs (beside l (still.path_before given p h (nodes_of r.source)))
          (outer (still.lists_ahead given p h r f))
          (remains (record { earlier = still.before_front given p h (nodes_of r.source) (held_node r.source); coming = inner (still.lists_ahead given p h r f) }) (still.state_of given p r left))) none)

  pub run_alone : (r : Run) (begun : ℕ) (left : Left) (ds : List ToCome) (f : Future) → IsAlone p r → AreInOrder (reverse r.frames.frames) → HeadIsInList r → r.source.begun ≡ begun
      → lists_of origin.Main begun r.source.next r.putting.buffers (document_of origin.Main begun ds) ≡ f
      → remaining_in given p r left ds ≡ still.still given p r left f
  run_alone r begun left ds f alone order looked is come =
      let g = lists_of origin.Main begun r.source.next r.putting.buffers (document_of origin.Main begun ds) in
      let fs = reverse r.frames.frames in
      let st = still.state_of given p r left in
      ap (λ x. future.goes_on given p r.doing fs x st) (ground_alone r begun ds alone is)
      ∙ run_alike r.doing (takes_events fs) r.source.ahead fs (nodes_of r.source) (held_node r.source) g st refl alone.held looked order
      ∙ still_alone r.doing r.source.ahead fs r left g alone.aside
      ∙ ap (λ x. still.still given p r left x) come

-- of a machine that asks for an event of it
in_main : (m : Machine) → IsAsking m → RunsInOrder m → IsOfMain m.program m.run
in_main m asks order = record {
  alone = order.alone;
  order = by m.program asks.wants.well.stations m.run.doing m.run.source.ahead m.run asks.wants.doing asks.wants.ahead asks.wants.well.goes_on order.alone;
  looked = λ here. absurd (let no : ahead.Here ≡ ahead.Nothing = sym here ∙ asks.wants.ahead in cc);
}
  where
    by : (p : Program) (stations : List Station) (d : Doing) (h : Ahead) (r : Run) → d ≡ doing.List → h ≡ ahead.Nothing
        → GoesOn p stations d h (reverse r.frames.frames) (standing_of r) (known_now r) → IsAlone p r → AreInOrder (reverse r.frames.frames)
    by p stations doing.Body h r list none goes alone = absurd (cc)
    by p stations doing.List ahead.Nothing r list none goes alone = in_order p stations 0 true (reverse r.frames.frames) (standing_of r) goes.well (alone_there p r alone)
    by p stations doing.List h r list none goes alone = absurd (cc)

some_begun : (n : ℕ) → n ≢ 0 → (k : ℕ) × (n ≡ suc k)
some_begun zero some = absurd (some refl)
some_begun (suc k) some = (k, refl)

pub anywhere : DoesAsAloneAnywhere
anywhere given p r main left d = (
  λ going. let begun = some_begun r.source.begun going in run_alone given p r (suc begun.0) left (d ∷ []) d.lists main.alone main.order main.looked begun.1 refl,
  λ over. run_alone given p r 0 left [] (End Begun 0 ∷ []) main.alone main.order main.looked over refl,
)

-- it is open, as one document is
open_there : AskingIsOpen → (m : Machine) → IsAsking m → RunsInOrder m → m.run.source.begun ≢ 0
open_there opened m asks order none =
    opened m asks
    (ap (λ (l : List sources.Source). map lists_in (open_in (m.run.source ∷ reverse l))) order.alone.outer
    ∙ ap (λ o. map lists_in (open_before o (path m.run.source.stack).limit m.run.source.begun [])) order.alone.origin
    ∙ ap (λ n. map lists_in (open_before origin.Main (path m.run.source.stack).limit n [])) none)

pub as_alone : AskingIsOpen → DoesAsAlone
as_alone opened given m asks order left d = (anywhere given m.program m.run (in_main m asks order) left d).0 (open_there opened m asks order)
