-- Open lists that go on.
use Rattle.std.proofs.Common.{◌≡◌, ℕ, zero, suc, ◌-◌, take, drop, Bool, true, false, not, ◌||◌, List, [], ◌∷◌, ◌++◌, reverse, Option, Some, None, refl, ap, sym, subst, ◌∙◌}
use Rattle.std.specs.Prelude.{if◌then◌else◌, slice_get, unwrap_or}
use Rattle.stx_base.specs.Course.{Ask, Halt, Ret, Same, and_then, says}
use Rattle.stx_base.proofs.Course.{funext, same_call, same_equal, same_then, unfolds}
use Rattle.frame_stack.specs.declared.frame.Frame.{Frame}
use Rattle.frame_stack.specs.declared.frame.Frame.TheVariants.{Attributes, Body, Call, Loop, Pass, Region, Skip, Source}
use Rattle.instr_code.specs.Running as running
use Rattle.instr_code.specs.Running.{as_flat, start_of}
use Rattle.instr_code.specs.Steps.{renamed}
use Rattle.stx_base.specs.declared.node.NodeTest.{NodeTest}
use Rattle.node_stack.specs.Counts.{Counts}
use Rattle.node_stack.specs.Path.{PathNode, attributes}
use Rattle.result_writer.specs.Target.{Left}
use Rattle.xml_events.specs.Document.{inner, outer}
use Rattle.xml_events.specs.Tree.{Cut, Forest, Future, Nested, Waiting, Why}
use Rattle.template_machine.specs.Bodies.{spent_in, takes_events}
use Rattle.template_machine.specs.Contexts.{Station}
use Rattle.template_machine.specs.Declaring.{at_start}
use Rattle.template_machine.specs.Fuel.{skip, unready}
use Rattle.template_machine.specs.Giving.{EndsAtCut, StopsAt}
use Rattle.template_machine.specs.Job as job
use Rattle.template_machine.specs.Job.{Asked, Does, Given, Here, Main, Nodes, Siblings, State, single}
use Rattle.template_machine.specs.Listed.{AreInOrder, CountsAreUnseen, ListsGoOnAlike, TakenAlike, TakesList}
use Rattle.template_machine.specs.Lists.{rest_of}
use Rattle.template_machine.specs.Meaning.{at_document, nodes}
use Rattle.template_machine.specs.Moments.{WantsEvent}
use Rattle.template_machine.specs.Passing as passing
use Rattle.template_machine.specs.Programs.{instr_at}
use Rattle.template_machine.specs.Putting.{puts}
use Rattle.template_machine.specs.Standing.{Front, Standing, known_now, standing_of}
use Rattle.template_machine.specs.Still as still
use Rattle.template_machine.specs.Still.{Lists, Mode, Returns, Runs, Scene}
use Rattle.template_machine.specs.Stepwise.{Flat_does, Working, begun, by_given, flat_code, lifted, steps_of}
use Rattle.template_machine.specs.Ways.{Way}
use Rattle.template_machine.specs.Well.{AreWell, GoesOn, ListFits, is_again}
use Rattle.template_machine.specs.declared.program.Program.{Program}
use Rattle.template_machine.specs.declared.run.Doing.{Doing}
use Rattle.template_machine.specs.declared.run.Doing.TheVariants as doing
use Rattle.template_machine.specs.declared.run.Run.{Run}
use Rattle.template_machine.specs.declared.source.Ahead.{Ahead}
use Rattle.template_machine.specs.declared.source.Ahead.TheVariants as ahead

-- frames of which the innermost list is of nodes, below the loops of a body
abbrev pub IsList : List Frame → Type 0
IsList [] = ⊥
IsList (Loop turn ∷ fs) = IsList fs
IsList (Attributes next asked ∷ fs) = ⊥
IsList (f ∷ fs) = Unit {0}

module _ (p : Program) (stations : List Station) where
  below_loop : (loops : ℕ) (fs : List Frame) (s : Standing) → AreWell p stations (suc loops) true fs s → IsList fs
  below_loop loops [] s w = absurd (let no : suc loops ≡ 0 = w.0 in cc)
  below_loop loops (Loop turn ∷ fs) s w = below_loop (suc loops) fs s w
  below_loop loops (Attributes next asked ∷ fs) s w = absurd (let no : suc loops ≡ 0 = w.0 in cc)
  below_loop loops (Body template alternative pc locals level spent ∷ fs) s w = tt
  below_loop loops (Call procedure pc locals level ∷ fs) s w = tt
  below_loop loops (Region asked level ∷ fs) s w = tt
  below_loop loops (Source buffer next asked ∷ fs) s w = tt
  below_loop loops (Skip depth ∷ fs) s w = tt
  below_loop loops (Pass base level spent ∷ fs) s w = tt

  pub is_list : (fs : List Frame) (s : Standing) (w : Way) (n : ℕ) (front : Front) → AreWell p stations 0 true fs s → takes_events fs ≡ true → ListFits fs w n front → IsList fs
  is_list [] s w n front well takes fits = fits
  is_list (Loop turn ∷ fs) s w n front well takes fits = below_loop 0 fs s well
  is_list (Attributes next asked ∷ fs) s w n front well takes fits = absurd (cc)
  is_list (Body template alternative pc locals level spent ∷ fs) s w n front well takes fits = tt
  is_list (Call procedure pc locals level ∷ fs) s w n front well takes fits = tt
  is_list (Region asked level ∷ fs) s w n front well takes fits = tt
  is_list (Source buffer next asked ∷ fs) s w n front well takes fits = tt
  is_list (Skip depth ∷ fs) s w n front well takes fits = tt
  is_list (Pass base level spent ∷ fs) s w n front well takes fits = tt

module _ (given : Given) (p : Program) where
  abbrev code_of_run : Does → Flat_does
  code_of_run x = renamed (as_flat (steps_of given) (start_of (steps_of given) given.sheet)) (by_given (begun (at_document given) (single (at_start given))) x)

  abbrev asks_nodes : Siblings → Asked → State → (Working → Flat_does) → Flat_does
  asks_nodes left asked st k = Ask (running.Given (Nodes left asked st)) k

  -- Lists whose nodes are taken alike go on alike.

  asked_alike : (a b : Here) (asked : Asked) (k : Working → Flat_does) → asked.level.source ≡ Main → TakenAlike given a b
      → Same (flat_code given) (asks_nodes a.left asked a.state k) (asks_nodes b.left asked b.state k)
  asked_alike a b asked k main alike =
      same_call (flat_code given) (running.Given (Nodes a.left asked a.state)) (running.Given (Nodes b.left asked b.state)) k (ap code_of_run (alike asked main))

  pub lists_alike : (turns : List ℕ) (fs : List Frame) (c : Scene) (f : Future) (a b : Here) → TakesList fs → c.source ≡ Main → TakenAlike given a b
      → Same (flat_code given) (still.rest given p Lists turns fs c f a) (still.rest given p Lists turns fs c f b)
  lists_alike turns [] c f a b list main alike = absurd list
  lists_alike turns (Loop turn ∷ fs) c f a b list main alike = lists_alike (turns ++ turn ∷ []) fs c f a b list main alike
  lists_alike turns (Attributes next asked ∷ fs) c f a b list main alike = absurd list
  lists_alike turns (Skip depth ∷ fs) c f a b list main alike = absurd list
  lists_alike turns (Body template alternative pc locals level spent ∷ fs) c f a b list main alike = asked_alike a b _ _ main alike
  lists_alike turns (Call procedure pc locals level ∷ fs) c f a b list main alike = asked_alike a b _ _ main alike
  lists_alike turns (Region asked level ∷ fs) c f a b list main alike = asked_alike a b _ _ main alike
  lists_alike turns (Source buffer next asked ∷ fs) c f a b list main alike = asked_alike a b _ _ main alike
  lists_alike turns (Pass base level spent ∷ fs) c f a b list main alike = asked_alike a b _ _ main alike

  -- Nothing more is to come.

  nodes_stop : (earlier : NodeTest → ℕ) (list : Forest) (asked : Asked) (st : State) (why : Why) → StopsAt why list → asked.level.source ≡ Main
      → nodes given earlier list asked st ≡ Halt (unready Main why)
  nodes_stop earlier (Cut w) asked st why same main = ap (λ s. Halt (unready s w)) main ∙ ap (λ x. Halt (unready Main x)) same
  nodes_stop earlier (Nested Waiting e (Cut w) next) asked st why same main = ap (λ s. Halt (unready s w)) main ∙ ap (λ x. Halt (unready Main x)) same
  nodes_stop earlier list asked st why same main = absurd same

  asked_cut : (left : Siblings) (asked : Asked) (st : State) (k : Working → Flat_does) (why : Why) → StopsAt why left.coming → asked.level.source ≡ Main
      → Same (flat_code given) (asks_nodes left asked st k) (Halt (unready Main why))
  asked_cut left asked st k why cut main =
      unfolds (flat_code given) (running.Given (Nodes left asked st)) k (ap (λ x. and_then (code_of_run x) k) (nodes_stop left.earlier left.coming asked st why cut main))

  skip_stops : (list : Forest) (st : State) (go : State → Does) (why : Why) (c : job.Source) → StopsAt why list → c ≡ Main → skip given c list st go ≡ Halt (unready Main why)
  skip_stops (Cut w) st go why c same main = ap (λ s. Halt (unready s w)) main ∙ ap (λ x. Halt (unready Main x)) same
  skip_stops (Nested Waiting e (Cut w) next) st go why c same main = ap (λ s. Halt (unready s w)) main ∙ ap (λ x. Halt (unready Main x)) same
  skip_stops list st go why c same main = absurd same

  skip_cut : (depth : ℕ) (c : job.Source) (list : Forest) (f : Future) (st : State) (k : Future → State → Flat_does) (why : Why) → StopsAt why list → c ≡ Main
      → still.skips given p depth c list f st k ≡ Halt (unready Main why)
  skip_cut zero c list f st k why cut main = ap (λ x. lifted x (λ b. k f b.state)) (skip_stops list st (λ st. Ret (single st)) why c cut main)
  skip_cut (suc n) c list f st k why cut main =
      ap (λ x. lifted x (λ b. still.skips given p n c (inner f) (outer f) b.state k)) (skip_stops list st (λ st. Ret (single st)) why c cut main)

  pub at_cut : (turns : List ℕ) (fs : List Frame) (c : Scene) (f : Future) (a : Here) (why : Why) → IsList fs → c.source ≡ Main → StopsAt why a.left.coming
      → Same (flat_code given) (still.rest given p Lists turns fs c f a) (Halt (unready Main why))
  at_cut turns [] c f a why list main cut = absurd list
  at_cut turns (Loop turn ∷ fs) c f a why list main cut = at_cut (turns ++ turn ∷ []) fs c f a why list main cut
  at_cut turns (Attributes next asked ∷ fs) c f a why list main cut = absurd list
  at_cut turns (Skip depth ∷ fs) c f a why list main cut = same_equal (flat_code given) (skip_cut depth c.source a.left.coming f a.state _ why cut main)
  at_cut turns (Body template alternative pc locals level spent ∷ fs) c f a why list main cut = asked_cut a.left _ a.state _ why cut main
  at_cut turns (Call procedure pc locals level ∷ fs) c f a why list main cut = asked_cut a.left _ a.state _ why cut main
  at_cut turns (Region asked level ∷ fs) c f a why list main cut = asked_cut a.left _ a.state _ why cut main
  at_cut turns (Source buffer next asked ∷ fs) c f a why list main cut = asked_cut a.left _ a.state _ why cut main
  at_cut turns (Pass base level spent ∷ fs) c f a why list main cut = asked_cut a.left _ a.state _ why cut main

  waits_cut : (d : Doing) (h : Ahead) (fs : List Frame) (r : Run) (left : Left) (f : Future) (why : Why) → d ≡ doing.List → h ≡ ahead.Nothing → takes_events fs ≡ true → IsList fs → StopsAt why (inner f)
      → Same (flat_code given) (still.doing_now given p d h fs r left f) (Halt (unready Main why))
  waits_cut doing.Body h fs r left f why list_is none takes list cut = absurd (cc)
  waits_cut doing.List ahead.Nothing fs r left f why list_is none takes list cut =
      same_then (same_equal (flat_code given) (ap (λ b. still.list_goes given p b ahead.Nothing fs r left f) takes))
      (at_cut [] fs (still.scene_by given p ahead.Nothing r) (outer f) _ why list refl cut)
  waits_cut doing.List h fs r left f why list_is none takes list cut = absurd (cc)

  -- What is counted in the innermost list is told by where the list goes on.

  abbrev counted_so : Counts → PathNode → List PathNode → Scene → Scene
  counted_so counts x xs c = record c { nodes = record x { children = counts } ∷ xs }

  abbrev as_it_is : PathNode → List PathNode → Scene → Scene
  as_it_is x xs c = record c { nodes = x ∷ xs }

  pub counts_unseen : (mode : Mode) (turns : List ℕ) (fs : List Frame) (counts : Counts) (x : PathNode) (xs : List PathNode) (c : Scene) (f : Future) → AreInOrder fs
      → still.rest given p mode turns fs (counted_so counts x xs c) f ≡ still.rest given p mode turns fs (as_it_is x xs c) f
  counts_unseen mode turns [] counts x xs c f in_order = funext (λ a. refl)
  counts_unseen mode turns (Loop turn ∷ fs) counts x xs c f in_order = funext (λ a. ap (λ h. h a) (counts_unseen mode (turns ++ turn ∷ []) fs counts x xs c f in_order))
  counts_unseen Runs turns (Body template alternative pc locals level spent ∷ fs) counts x xs c f in_order =
      funext (λ a.
      ap (λ back. still.body_goes given p turns (Body template alternative pc locals level spent) pc locals level fs (as_it_is x xs c)
      (still.template_over given p template (is_again level fs) (as_it_is x xs c) back (still.rest given p Lists [] fs (still.node_over (as_it_is x xs c)) f)) a)
      (counts_unseen Returns [] fs counts x xs c f in_order))
  counts_unseen Returns turns (Body template alternative pc locals level spent ∷ fs) counts x xs c f in_order =
      funext (λ a.
      ap (λ back. still.body_goes given p turns (Body template alternative pc locals level spent) pc (still.without_handed given p (instr_at p.code (pc - 1)) locals) level fs (as_it_is x xs c)
      (still.template_over given p template (is_again level fs) (as_it_is x xs c) back (still.rest given p Lists [] fs (still.node_over (as_it_is x xs c)) f)) a)
      (counts_unseen Returns [] fs counts x xs c f in_order))
  counts_unseen Lists turns (Body template alternative pc locals level spent ∷ fs) counts x xs c f in_order =
      funext (λ a.
      ap (λ back. still.children_go given p pc locals (as_it_is x xs c) f (λ g.
      still.body_goes given p turns (Body template alternative pc locals level spent) pc (still.without_handed given p (instr_at p.code (pc - 1)) locals) level fs (as_it_is x xs c)
      (still.template_over given p template (is_again level fs) (as_it_is x xs c) (back g) (still.rest given p Lists [] fs (still.node_over (as_it_is x xs c)) g))) a)
      (funext (λ g. counts_unseen Returns [] fs counts x xs c g in_order)))
  counts_unseen Runs turns (Call procedure pc locals level ∷ fs) counts x xs c f in_order =
      funext (λ a.
      ap (λ back. still.body_goes given p turns (Call procedure pc locals level) pc locals level fs (as_it_is x xs c) back a) (counts_unseen Runs [] fs counts x xs c f in_order))
  counts_unseen Returns turns (Call procedure pc locals level ∷ fs) counts x xs c f in_order =
      funext (λ a.
      ap (λ back. still.body_goes given p turns (Call procedure pc locals level) pc (still.without_handed given p (instr_at p.code (pc - 1)) locals) level fs (as_it_is x xs c) back a)
      (counts_unseen Runs [] fs counts x xs c f in_order))
  counts_unseen Lists turns (Call procedure pc locals level ∷ fs) counts x xs c f in_order =
      funext (λ a.
      ap (λ back. still.children_go given p pc locals (as_it_is x xs c) f (λ g.
      still.body_goes given p turns (Call procedure pc locals level) pc (still.without_handed given p (instr_at p.code (pc - 1)) locals) level fs (as_it_is x xs c) (back g)) a)
      (funext (λ g. counts_unseen Runs [] fs counts x xs c g in_order)))
  counts_unseen mode turns (Region asked level ∷ fs) counts x xs c f in_order = absurd in_order
  counts_unseen mode turns (Source buffer next asked ∷ fs) counts x xs c f in_order = absurd in_order
  counts_unseen mode turns (Attributes next asked ∷ fs) counts x xs c f in_order =
      let attrs = attributes (Some (still.first_node (x ∷ xs))) in
      funext (λ a.
      ap (λ k. lifted (passing.attributes given (take next attrs) (drop next attrs)
      (still.asked_by given p asked (still.locals_in given p fs) (job.fresh c.source) (still.trail_of (x ∷ xs))) a.state (λ st. Ret (single st)))
      (λ b. still.goes_on_at given p (unwrap_or (spent_in fs) true) (still.first_node (x ∷ xs)) (rest_of (x ∷ xs)) f k b.state))
      (funext (λ g. counts_unseen Returns [] fs counts x xs c g in_order)))
  counts_unseen mode turns (Skip depth ∷ fs) counts x xs c f in_order = funext (λ a. refl)
  counts_unseen mode turns (Pass base level spent ∷ fs) counts x xs c f in_order =
      funext (λ a.
      ap (λ back. Ask (running.Given (Nodes a.left (passing.passed_on given base c.source (still.trail_of (x ∷ xs))) a.state)) (λ (w : Working).
      lifted (puts given (passing.group_at given base) (passing.parts_behind (passing.kinds_in given base) (still.first_node (x ∷ xs))) w.here.state (λ st. Ret (single st))) (λ b.
      if is_again level fs
      then back (outer f) (still.siblings_of given p (rest_of (x ∷ xs)) f b.state)
      else still.rest given p Lists [] fs (still.node_over (as_it_is x xs c)) (outer f) (still.siblings_of given p (rest_of (x ∷ xs)) f b.state))))
      (funext (λ g. counts_unseen Returns [] fs counts x xs c g in_order)))

pub lists_go_on_alike : ListsGoOnAlike
lists_go_on_alike given p turns fs c f a b list main alike = lists_alike given p turns fs c f a b list main alike

pub counts_are_unseen : CountsAreUnseen
counts_are_unseen given p mode turns fs counts x xs c f in_order = counts_unseen given p mode turns fs counts x xs c f in_order

pub ends_at_cut : EndsAtCut
ends_at_cut given m asking left why f cut =
    let p = m.program in
    let r = m.run in
    let goes = list_there p r asking.wants in
    waits_cut given p r.doing r.source.ahead (reverse r.frames.frames) r left f why asking.wants.doing asking.wants.ahead asking.wants.list goes cut
  where
    by : (p : Program) (stations : List Station) (d : Doing) (h : Ahead) (r : Run) → d ≡ doing.List → h ≡ ahead.Nothing → takes_events (reverse r.frames.frames) ≡ true
        → GoesOn p stations d h (reverse r.frames.frames) (standing_of r) (known_now r) → IsList (reverse r.frames.frames)
    by p stations doing.Body h r list_is none takes goes = absurd (cc)
    by p stations doing.List ahead.Nothing r list_is none takes goes =
        is_list p stations (reverse r.frames.frames) (standing_of r) (standing_of r).source.way (known_now r).begun (known_now r).front goes.well takes goes.fits
    by p stations doing.List h r list_is none takes goes = absurd (cc)

    list_there : (p : Program) (r : Run) → WantsEvent p r → IsList (reverse r.frames.frames)
    list_there p r wants = by p wants.well.stations r.doing r.source.ahead r wants.doing wants.ahead wants.list wants.well.goes_on
