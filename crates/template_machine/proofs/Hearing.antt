-- What a run does on an event of the main document and then on what is to come, it does on that once the event was taken.
use Rattle.std.proofs.Common.{◌≡◌, ◌≢◌, ◌≤◌, ◌+◌, inl, inr, ℕ, zero, suc, Bool, true, false, List, [], ◌∷◌, ◌++◌, reverse, Option, Some, None, refl, ap, sym, subst, ◌∙◌, map, arith}
use Rattle.std.specs.Prelude.{if◌then◌else◌, IfErr, IfOk, Result, Ok, Err, option_map}
use Rattle.std.proofs.lemmas.List.{reverse-append, reverse-reverse}
use Rattle.stx_base.specs.Course.{Halt, Ret, Same}
use Rattle.stx_base.specs.Spare.{Kept}
use Rattle.stx_base.specs.declared.limits.Limits.{Limits}
use Rattle.stx_base.specs.declared.node.First.{First}
use Rattle.stx_base.specs.declared.node.NodeTest.{NodeTest}
use Rattle.stx_base.proofs.Course.{funext, same_equal, same_then}
use Rattle.event_buffers.specs.Buffers.{Buffers}
use Rattle.frame_stack.specs.Stack.{FrameStack}
use Rattle.frame_stack.specs.declared.frame.Frame.{Frame}
use Rattle.frame_stack.specs.declared.frame.Frame.TheVariants.{Attributes, Body, Call, Loop, Pass, Region, Skip, Source as Source_frame}
use Rattle.node_stack.specs.Counts.{counted, none, raised}
use Rattle.node_stack.specs.Path.{Element as Element_node, Node, Path, PathNode, can_have_children, current, entered, is_attribute, kind_of, last_of, with_child}
use Rattle.node_stack.specs.Stack.{path, path_node}
use Rattle.node_stack.specs.Test.{passes}
use Rattle.node_stack.specs.declared.parked.Parked.{Parked}
use Rattle.node_stack.specs.declared.stack.NodeStack.{NodeStack}
use Rattle.result_writer.specs.Target.{Left}
use Rattle.xml_events.specs.Document.{inner, outer}
use Rattle.xml_events.specs.Tree as tree
use Rattle.xml_events.specs.declared.event.Event.{Event}
use Rattle.xml_events.specs.Tree.{Begun, CData, Chars, Comment, Element, End, Entered, Forest, Future, Leaf, Nested, Pi, Ready, Single, Told}
use Rattle.template_machine.specs.Bodies.{skipped_in, takes_events}
use Rattle.template_machine.specs.Fuel.{begin, end_now, refuelled, skip}
use Rattle.template_machine.specs.Heard.{Hears, HearsAll, Listens, MayEnd, Skips, end_first, leaf_first, start_first}
use Rattle.template_machine.specs.Job as job
use Rattle.template_machine.specs.Job.{Asked, Does, Given, Here, Main, State, remains, single}
use Rattle.template_machine.specs.Listed.{AreInOrder, TakenAlike, TakesList}
use Rattle.template_machine.specs.Lists.{rest_of}
use Rattle.template_machine.specs.Meaning.{head}
use Rattle.template_machine.specs.Moments.{HasTold}
use Rattle.template_machine.specs.Ordinary.{AreUntouched, HeadIsCounted, IsAlone, is_on_attribute, spent_of}
use Rattle.template_machine.specs.Programs.{IsProgramOf}
use Rattle.template_machine.specs.Sources.{held_node}
use Rattle.template_machine.specs.Steps.{fuel_begun, fuel_ended}
use Rattle.template_machine.specs.Still as still
use Rattle.template_machine.specs.Still.{Lists, Scene, nodes_of}
use Rattle.template_machine.specs.Stepwise.{Flat_does, flat_code, lifted}
use Rattle.template_machine.specs.Trail.{leaf_node, without_place}
use Rattle.template_machine.specs.declared.program.Program.{Program}
use Rattle.template_machine.specs.declared.putting.Putting.{Putting}
use Rattle.template_machine.specs.declared.run.Doing.{Doing}
use Rattle.template_machine.specs.declared.run.Doing.TheVariants as doing
use Rattle.template_machine.specs.declared.run.Run.{Run}
use Rattle.template_machine.specs.declared.source.Ahead.{Ahead}
use Rattle.template_machine.specs.declared.source.Ahead.TheVariants as ahead
use Rattle.template_machine.specs.declared.source.Origin.{Origin}
use Rattle.template_machine.specs.declared.source.Origin.TheVariants as origin
use Rattle.template_machine.specs.declared.source.Source.{Source}
use Rattle.template_machine.specs.declared.stop.Stop.{Stop}
use Rattle.template_machine.specs.declared.stop.Stop.TheVariants as stop
use Rattle.template_machine.specs.Well.{AreGone}
use Rattle.var_store.specs.Copies.{Stored}
use Rattle.template_machine.proofs.Listing.{counts_unseen, lists_alike}
use Rattle.template_machine.proofs.Skipping.{Silent, skip_silent}
use Rattle.template_machine.proofs.Untouched.{gone_not, skip_deeper, untouched_from, untouched_here, untouched_to}

-- A child of the current node, the nodes from the current one on.

abbrev pub child_of : Node → PathNode → PathNode
child_of n x = record { node = n; earlier = x.children.passing; children = none; waited = false }

abbrev pub counted_in : Node → PathNode → PathNode
counted_in n x = record x { children = counted (kind_of n) x.children }

child_ended : (n : Node) (ys : List PathNode) (x : PathNode) → with_child n (ys ++ x ∷ []) ≡ ys ++ counted_in n x ∷ child_of n x ∷ []
child_ended n [] x = refl
child_ended n (y ∷ []) x = refl
child_ended n (y ∷ z ∷ ys) x = ap (λ l. y ∷ l) (child_ended n (z ∷ ys) x)

pub nodes_entered : (n : Node) (ns : List PathNode) (x : PathNode) (xs : List PathNode) → reverse ns ≡ x ∷ xs
    → reverse (with_child n ns) ≡ child_of n x ∷ counted_in n x ∷ xs
nodes_entered n ns x xs e =
    let last : ns ≡ reverse xs ++ x ∷ [] = sym (reverse-reverse ns) ∙ ap reverse e ∙ reverse-append (x ∷ []) xs in
    ap (λ l. reverse (with_child n l)) last ∙ ap reverse (child_ended n (reverse xs) x) ∙ reverse-append (reverse xs) (counted_in n x ∷ child_of n x ∷ [])
    ∙ ap (λ l. child_of n x ∷ counted_in n x ∷ l) (reverse-reverse xs)

-- a node that may have children is there
pub nodes_there : (ns : List PathNode) → can_have_children (option_map (λ (y : PathNode). y.node) (last_of ns)) ≡ true
    → (x : PathNode) × ((xs : List PathNode) × (reverse ns ≡ x ∷ xs))
nodes_there ns may = by (reverse ns) refl
  where
    by : (l : List PathNode) → reverse ns ≡ l → (x : PathNode) × ((xs : List PathNode) × (reverse ns ≡ x ∷ xs))
    by [] e =
        let none_there : ns ≡ [] = sym (reverse-reverse ns) ∙ ap reverse e in
        absurd (let no : can_have_children (option_map (λ (y : PathNode). y.node) (last_of [])) ≡ true = subst (λ l. can_have_children (option_map (λ (y : PathNode). y.node) (last_of l)) ≡ true) none_there may in cc)
    by (x ∷ xs) e = (x, (xs, e))

module _ (given : Given) (p : Program) where
  abbrev scene_of : List PathNode → List (Option PathNode) → Scene
  scene_of nodes aside = record { nodes = nodes; source = job.Main; around = []; aside = aside }

  -- what a list does that goes on, by what is known of its front
  abbrev lists_at : Ahead → List PathNode → (held : Option PathNode) → List (Option PathNode) → List Frame → State → Future → Flat_does
  lists_at h nodes held aside fs st f =
      still.rest given p Lists [] fs (scene_of (still.path_before given p h nodes) aside) (outer (still.known_before given p h nodes held f))
      (remains (record { earlier = still.before_front given p h nodes held; coming = inner (still.known_before given p h nodes held f) }) st)

  abbrev aside_in : Run → List (Option PathNode)
  aside_in r = map (option_map path_node) (reverse r.aside.items)

  pub still_lists : (r : Run) (h : Ahead) (nodes : List PathNode) (fs : List Frame) (left : Left) (f : Future) → r.doing ≡ doing.List → r.source.ahead ≡ h → nodes_of r.source ≡ nodes
      → reverse r.frames.frames ≡ fs → takes_events fs ≡ true
      → still.still given p r left f ≡ lists_at h nodes (still.held_of given p r) (aside_in r) fs (still.state_of given p r left) f
  still_lists r h nodes fs left f list here path_is frames_are takes =
      ap (λ d. still.doing_now given p d r.source.ahead (reverse r.frames.frames) r left f) list
      ∙ ap (λ gs. still.list_goes given p (takes_events gs) r.source.ahead gs r left f) frames_are
      ∙ ap (λ b. still.list_goes given p b r.source.ahead fs r left f) takes
      ∙ ap (λ g. lists_at g (nodes_of r.source) (still.held_of given p r) (aside_in r) fs (still.state_of given p r left) f) here
      ∙ ap (λ ns. lists_at h ns (still.held_of given p r) (aside_in r) fs (still.state_of given p r left) f) path_is

  pub takes_of : (fs : List Frame) → TakesList fs → takes_events fs ≡ true
  takes_of [] list = refl
  takes_of (Attributes next asked ∷ fs) list = absurd list
  takes_of (Loop turn ∷ fs) list = refl
  takes_of (Body template alternative pc locals level spent ∷ fs) list = refl
  takes_of (Call procedure pc locals level ∷ fs) list = refl
  takes_of (Region asked level ∷ fs) list = refl
  takes_of (Source_frame buffer next asked ∷ fs) list = refl
  takes_of (Skip depth ∷ fs) list = refl
  takes_of (Pass base level spent ∷ fs) list = refl

  -- Taken alike.

  pub leaf_alike : (leaf : Leaf) (next : Forest) (early earlier : NodeTest → ℕ) (st : State) → early ≡ earlier
      → TakenAlike given (remains (record { earlier = earlier; coming = Single Told leaf next }) st)
      (remains (record { earlier = early; coming = Single Begun (without_place leaf) next }) (refuelled given st))
  leaf_alike leaf next early earlier st same asked main =
      ap (λ s. begin given s false st (λ st. head given (leaf_node leaf) None (Single Begun (without_place leaf) next) next earlier asked st)) main ∙ by leaf
    where
      by : (l : Leaf)
          → head given (leaf_node l) None (Single Begun (without_place l) next) next earlier asked (refuelled given st)
          ≡ head given (leaf_node (without_place l)) None (Single Begun (without_place (without_place l)) next) next early asked (refuelled given st)
      by (Chars offset text) = ap (λ e. head given (leaf_node (Chars 0 text)) None (Single Begun (Chars 0 text) next) next e asked (refuelled given st)) (sym same)
      by (CData offset text) = ap (λ e. head given (leaf_node (CData 0 text)) None (Single Begun (CData 0 text) next) next e asked (refuelled given st)) (sym same)
      by (Comment offset text) = ap (λ e. head given (leaf_node (Comment 0 text)) None (Single Begun (Comment 0 text) next) next e asked (refuelled given st)) (sym same)
      by (Pi offset target text) = ap (λ e. head given (leaf_node (Pi 0 target text)) None (Single Begun (Pi 0 target text) next) next e asked (refuelled given st)) (sym same)

  abbrev placeless : Element → Element
  placeless e = record { offset = 0; name = e.name; attrs = e.attrs; decls = e.decls }

  pub start_alike : (e : Element) (first : First) (kids next : Forest) (early earlier : NodeTest → ℕ) (st : State) → early ≡ earlier
      → TakenAlike given (remains (record { earlier = earlier; coming = Nested (Ready first) e kids next }) st)
      (remains (record { earlier = early; coming = Nested (Entered first) (placeless e) kids next }) (refuelled given st))
  start_alike e first kids next early earlier st same asked main =
      ap (λ s. begin given s false st (λ st. head given (Element_node e.name e.attrs e.decls first) (Some kids) (Nested (Entered first) (placeless e) kids next) next earlier asked st)) main
      ∙ ap (λ x. head given (Element_node e.name e.attrs e.decls first) (Some kids) (Nested (Entered first) (placeless e) kids next) next x asked (refuelled given st)) (sym same)

  pub end_alike : (offset : ℕ) (earlier : NodeTest → ℕ) (st : State)
      → TakenAlike given (remains (record { earlier = earlier; coming = End Told offset }) st) (remains (record { earlier = earlier; coming = End Begun 0 }) (refuelled given st))
  end_alike offset earlier st asked main =
      ap (λ s. Ret (remains (record { earlier = earlier; coming = End Begun 0 }) (end_now given s st))) main

  -- what is before a head that was taken as the current node
  pub earlier_kept : (n : Node) (x : PathNode) (xs : List PathNode) → still.before_head given p (child_of n x) (still.counts_of (counted_in n x ∷ xs)) ≡ x.children.passing
  earlier_kept n x xs = funext (λ t. by (passes t (kind_of n)) (raised (x.children.passing t)) (x.children.passing t))
    where
      by : (b : Bool) (more k : ℕ) → (if b then k else (if b then more else k)) ≡ k
      by true more k = refl
      by false more k = refl

  pub here_goes : (fs : List Frame) (n : Node) (x : PathNode) (xs : List PathNode) (aside : List (Option PathNode)) (f : Future) (a b : Here)
      → TakesList fs → AreInOrder fs → TakenAlike given a b
      → Same (flat_code given) (still.rest given p Lists [] fs (scene_of (x ∷ xs) aside) f a) (still.rest given p Lists [] fs (scene_of (counted_in n x ∷ xs) aside) f b)
  here_goes fs n x xs aside f a b takes order alike =
      same_then (lists_alike given p [] fs (scene_of (x ∷ xs) aside) f a b takes refl alike)
      (same_equal (flat_code given) (ap (λ h. h b) (sym (counts_unseen given p Lists [] fs (counted (kind_of n) x.children) x xs (scene_of [] aside) f order))))

  -- A head is taken as the current node.

  leaf_front : (leaf : Leaf) (f : Future) → still.in_front given p (leaf_node leaf) f ≡ Single Begun (without_place leaf) (inner f) ∷ outer f
  leaf_front (Chars offset text) f = refl
  leaf_front (CData offset text) f = refl
  leaf_front (Comment offset text) f = refl
  leaf_front (Pi offset target text) f = refl

  pub leaf_here : (fs : List Frame) (leaf : Leaf) (x : PathNode) (xs : List PathNode) (held now : Option PathNode) (aside : List (Option PathNode)) (st : State) (f : Future)
      → TakesList fs → AreInOrder fs
      → Same (flat_code given) (lists_at ahead.Nothing (x ∷ xs) held aside fs st (leaf_first leaf f))
      (lists_at ahead.Here (child_of (leaf_node leaf) x ∷ counted_in (leaf_node leaf) x ∷ xs) now aside fs (refuelled given st) f)
  leaf_here fs leaf x xs held now aside st f takes order =
      let n = leaf_node leaf in
      let early = still.before_head given p (child_of n x) (still.counts_of (counted_in n x ∷ xs)) in
      same_then
      (here_goes fs n x xs aside (outer f) (remains (record { earlier = x.children.passing; coming = Single Told leaf (inner f) }) st)
      (remains (record { earlier = early; coming = Single Begun (without_place leaf) (inner f) }) (refuelled given st)) takes order
      (leaf_alike leaf (inner f) early x.children.passing st (earlier_kept n x xs)))
      (same_equal (flat_code given)
      (ap (λ (g : Future). still.rest given p Lists [] fs (scene_of (counted_in n x ∷ xs) aside) (outer g) (remains (record { earlier = early; coming = inner g }) (refuelled given st)))
      (sym (leaf_front leaf f))))

  pub start_here : (fs : List Frame) (e : Element) (first : First) (x : PathNode) (xs : List PathNode) (held now : Option PathNode) (aside : List (Option PathNode)) (st : State) (f : Future)
      → TakesList fs → AreInOrder fs
      → Same (flat_code given) (lists_at ahead.Nothing (x ∷ xs) held aside fs st (start_first e first f))
      (lists_at ahead.Here (child_of (Element_node e.name e.attrs e.decls first) x ∷ counted_in (Element_node e.name e.attrs e.decls first) x ∷ xs) now aside fs (refuelled given st) f)
  start_here fs e first x xs held now aside st f takes order =
      let n = Element_node e.name e.attrs e.decls first in
      let early = still.before_head given p (child_of n x) (still.counts_of (counted_in n x ∷ xs)) in
      here_goes fs n x xs aside (outer (outer f)) (remains (record { earlier = x.children.passing; coming = Nested (Ready first) e (inner f) (inner (outer f)) }) st)
      (remains (record { earlier = early; coming = Nested (Entered first) (placeless e) (inner f) (inner (outer f)) }) (refuelled given st)) takes order
      (start_alike e first (inner f) (inner (outer f)) early x.children.passing st (earlier_kept n x xs))

  -- A list is found ended.
  pub end_here : (fs : List Frame) (offset : ℕ) (nodes : List PathNode) (held : Option PathNode) (aside : List (Option PathNode)) (st : State) (f : Future)
      → TakesList fs
      → Same (flat_code given) (lists_at ahead.Nothing nodes held aside fs st (end_first offset f)) (lists_at ahead.Ended nodes held aside fs (refuelled given st) f)
  end_here fs offset nodes held aside st f takes =
      lists_alike given p [] fs (scene_of nodes aside) f (remains (record { earlier = still.counts_of nodes; coming = End Told offset }) st)
      (remains (record { earlier = still.counts_of nodes; coming = End Begun 0 }) (refuelled given st)) takes refl (end_alike offset (still.counts_of nodes) st)

  -- Nodes that are skipped.

  -- what follows a list that is passed over may wait
  pub skip_then : (list : Forest) (st : State) (go : State → Does) (k : Here → Flat_does)
      → lifted (skip given Main list st go) k ≡ lifted (skip given Main list st (λ st. Ret (single st))) (λ b. lifted (go b.state) k)
  skip_then list st go k = by (skip_silent given Main list st)
    where
      by : Silent given st (skip given Main list st) → lifted (skip given Main list st go) k ≡ lifted (skip given Main list st (λ st. Ret (single st))) (λ b. lifted (go b.state) k)
      by (inl (e, halts)) = ap (λ x. lifted x k) (halts go) ∙ sym (ap (λ x. lifted x (λ b. lifted (go b.state) k)) (halts (λ st. Ret (single st))))
      by (inr (fuel, goes)) = ap (λ x. lifted x k) (goes go) ∙ sym (ap (λ x. lifted x (λ b. lifted (go b.state) k)) (goes (λ st. Ret (single st))))

  skips_leaf : (depth : ℕ) (leaf : Leaf) (next : Forest) (f : Future) (st : State) (k : Future → State → Flat_does)
      → still.skips given p depth Main (Single Told leaf next) f st k ≡ still.skips given p depth Main next f (refuelled given st) k
  skips_leaf zero leaf next f st k = refl
  skips_leaf (suc n) leaf next f st k = refl

  skips_start : (depth : ℕ) (e : Element) (first : First) (kids next : Forest) (f : Future) (st : State) (k : Future → State → Flat_does)
      → still.skips given p depth Main (Nested (Ready first) e kids next) f st k ≡ still.skips given p (suc depth) Main kids (next ∷ f) (refuelled given st) k
  skips_start zero e first kids next f st k =
      skip_then kids (refuelled given st) (λ st. skip given Main next st (λ st. Ret (single st))) (λ b. k f b.state)
  skips_start (suc n) e first kids next f st k =
      skip_then kids (refuelled given st) (λ st. skip given Main next st (λ st. Ret (single st))) (λ b. still.skips given p n Main (inner f) (outer f) b.state k)

  abbrev skipped_behind : List PathNode → List (Option PathNode) → List Frame → Future → State → Flat_does
  skipped_behind nodes aside fs f st =
      still.rest given p Lists [] fs (still.node_over (scene_of nodes aside)) (outer f) (still.siblings_of given p (rest_of nodes) f st)

  pub skipped_leaf : (depth : ℕ) (leaf : Leaf) (nodes : List PathNode) (held : Option PathNode) (aside : List (Option PathNode)) (fs : List Frame) (st : State) (f : Future)
      → lists_at ahead.Nothing nodes held aside (Skip depth ∷ fs) st (leaf_first leaf f) ≡ lists_at ahead.Nothing nodes held aside (Skip depth ∷ fs) (refuelled given st) f
  skipped_leaf depth leaf nodes held aside fs st f = skips_leaf depth leaf (inner f) (outer f) st (skipped_behind nodes aside fs)

  pub skipped_start : (depth : ℕ) (e : Element) (first : First) (nodes : List PathNode) (held : Option PathNode) (aside : List (Option PathNode)) (fs : List Frame) (st : State) (f : Future)
      → lists_at ahead.Nothing nodes held aside (Skip depth ∷ fs) st (start_first e first f) ≡ lists_at ahead.Nothing nodes held aside (Skip (suc depth) ∷ fs) (refuelled given st) f
  skipped_start depth e first nodes held aside fs st f = skips_start depth e first (inner f) (inner (outer f)) (outer (outer f)) st (skipped_behind nodes aside fs)

  pub skipped_end : (depth offset : ℕ) (nodes : List PathNode) (held : Option PathNode) (aside : List (Option PathNode)) (fs : List Frame) (st : State) (f : Future)
      → lists_at ahead.Nothing nodes held aside (Skip (suc depth) ∷ fs) st (end_first offset f) ≡ lists_at ahead.Nothing nodes held aside (Skip depth ∷ fs) (refuelled given st) f
  skipped_end depth offset nodes held aside fs st f = refl

  pub skipped_over : (offset : ℕ) (nodes : List PathNode) (held : Option PathNode) (aside : List (Option PathNode)) (fs : List Frame) (st : State) (f : Future)
      → lists_at ahead.Nothing nodes held aside (Skip 0 ∷ fs) st (end_first offset f) ≡ lists_at ahead.Ended nodes held aside (Skip 0 ∷ fs) (refuelled given st) f
  skipped_over offset nodes held aside fs st f = refl

  pub started_deeper : (depth : ℕ) (e : Element) (first : First) (nodes : List PathNode) (held : Option PathNode) (aside : List (Option PathNode)) (fs : List Frame) (st : State) (f : Future)
      → lists_at ahead.Nothing nodes held aside (Skip depth ∷ fs) st (start_first e first f) ≡ lists_at ahead.Nothing nodes held aside (Skip (depth + 1) ∷ fs) (refuelled given st) f
  started_deeper depth e first nodes held aside fs st f =
      let more : suc depth ≡ depth + 1 = omega arith in
      skipped_start depth e first nodes held aside fs st f ∙ ap (λ d. lists_at ahead.Nothing nodes held aside (Skip d ∷ fs) (refuelled given st) f) more

  pub ended_deeper : (depth less offset : ℕ) (nodes : List PathNode) (held : Option PathNode) (aside : List (Option PathNode)) (fs : List Frame) (st : State) (f : Future) → depth ≡ less + 1
      → lists_at ahead.Nothing nodes held aside (Skip depth ∷ fs) st (end_first offset f) ≡ lists_at ahead.Nothing nodes held aside (Skip less ∷ fs) (refuelled given st) f
  ended_deeper depth less offset nodes held aside fs st f one =
      let more : depth ≡ suc less = omega (arith, one) in
      ap (λ d. lists_at ahead.Nothing nodes held aside (Skip d ∷ fs) st (end_first offset f)) more ∙ skipped_end less offset nodes held aside fs st f

  -- Runs.

  abbrev state_made : (units : ℕ) → Stored → Buffers → (targets : List ℕ) → Left → State
  state_made units variables buffers targets left =
      record { fuel = units; variables = variables; buffers = buffers; result = left; targets = reverse targets }

  pub refuelled_state : (r s : Run) (left : Left) → s.fuel ≡ given.limits.fuel → s.store ≡ r.store → s.putting.buffers ≡ r.putting.buffers → s.putting.targets ≡ r.putting.targets
      → still.state_of given p s left ≡ refuelled given (still.state_of given p r left)
  refuelled_state r s left full store buffers targets =
      ap (λ u. state_made u s.store s.putting.buffers s.putting.targets left) full
      ∙ ap (λ v. state_made given.limits.fuel v s.putting.buffers s.putting.targets left) store
      ∙ ap (λ b. state_made given.limits.fuel r.store b s.putting.targets left) buffers
      ∙ ap (λ t. state_made given.limits.fuel r.store r.putting.buffers t left) targets

  -- where all but the fuel and what is known of the front is as it was
  pub lists_after : (r s : Run) (h : Ahead) (nodes : List PathNode) (fs : List Frame) (left : Left) (f : Future) → s.doing ≡ doing.List → s.source.ahead ≡ h → nodes_of s.source ≡ nodes
      → reverse s.frames.frames ≡ fs → takes_events fs ≡ true → s.aside.items ≡ r.aside.items → s.fuel ≡ given.limits.fuel → s.store ≡ r.store → s.putting.buffers ≡ r.putting.buffers
      → s.putting.targets ≡ r.putting.targets
      → still.still given p s left f ≡ lists_at h nodes (still.held_of given p s) (aside_in r) fs (refuelled given (still.state_of given p r left)) f
  lists_after r s h nodes fs left f list here path_is frames_are takes aside full store buffers targets =
      still_lists s h nodes fs left f list here path_is frames_are takes
      ∙ ap (λ (l : List (Option Parked)). lists_at h nodes (still.held_of given p s) (map (option_map path_node) (reverse l)) fs (still.state_of given p s left) f) aside
      ∙ ap (λ st. lists_at h nodes (still.held_of given p s) (aside_in r) fs st f) (refuelled_state r s left full store buffers targets)

-- What the methods do.

-- a head became the current node
pub record TookHead (p : Program) (n : Node) (r s : Run) : Type 0 where
  pub path_is : path s.source.stack ≡ entered n (path r.source.stack)
  pub ahead : s.source.ahead ≡ ahead.Here
  pub held : held_node s.source ≡ held_node r.source
  pub origin : s.source.origin ≡ r.source.origin
  pub rest : s ≡ record r { source = s.source; putting = s.putting; fuel = s.fuel }
  pub buffers : s.putting.buffers ≡ r.putting.buffers
  pub targets : s.putting.targets ≡ r.putting.targets
  pub fuel : s.fuel ≡ p.limits.fuel

-- all is as it was, but what is known of the front, the frames and the fuel
pub record StayedAt (p : Program) (h : Ahead) (r s : Run) : Type 0 where
  pub rest : s ≡ record r { frames = s.frames; source = s.source; fuel = s.fuel }
  pub stack : s.source.stack ≡ r.source.stack
  pub held : s.source.held ≡ r.source.held
  pub origin : s.source.origin ≡ r.source.origin
  pub ahead : s.source.ahead ≡ h
  pub fuel : s.fuel ≡ p.limits.fuel

full_by : (p : Program) (given : Given) (units : ℕ) → IsProgramOf given.sheet given.limits p → units ≡ p.limits.fuel → units ≡ given.limits.fuel
full_by p given units program full = full ∙ ap (λ (l : Limits). l.fuel) program.limits_are

all_full : (units limit : ℕ) → units ≡ limit → units ≤ limit
all_full units limit e = omega (arith, e)

leaf_apart : (leaf : Leaf) → is_attribute (Some (leaf_node leaf)) ≡ false
leaf_apart (tree.Chars offset text) = refl
leaf_apart (tree.CData offset text) = refl
leaf_apart (tree.Comment offset text) = refl
leaf_apart (tree.Pi offset target text) = refl

-- the children are gone of the bodies whose lists go on
takes_gone : (fs : List Frame) → TakesList fs → AreGone fs → spent_of false fs ≡ Some false → ⊥
takes_gone [] takes gone e = takes
takes_gone (Attributes next asked ∷ fs) takes gone e = takes
takes_gone (f ∷ fs) takes gone e = gone_not (f ∷ fs) gone e

took_alone : (p : Program) (n : Node) (r s : Run) → IsAlone p r → TookHead p n r s → HeadIsCounted (nodes_of s.source) → AreUntouched (reverse r.frames.frames) (nodes_of s.source)
    → IsAlone p s
took_alone p n r s alone took counted untouched = record {
  counted = λ e. counted;
  origin = took.origin ∙ alone.origin;
  outer = ap (λ (x : Run). x.outer.items) took.rest ∙ alone.outer;
  aside = ap (λ (x : Run). x.aside.items) took.rest ∙ alone.aside;
  held = took.held ∙ alone.held;
  whole = λ e. absurd (let no : ahead.Here ≡ ahead.Ended = sym took.ahead ∙ e in cc);
  untouched =
      untouched_to (reverse r.frames.frames) (reverse s.frames.frames) (nodes_of s.source) (nodes_of s.source) (sym (ap (λ (x : Run). reverse x.frames.frames) took.rest)) refl untouched;
  fuel = all_full s.fuel p.limits.fuel took.fuel;
}

stayed_alone : (p : Program) (h : Ahead) (r s : Run) → IsAlone p r → StayedAt p h r s
    → h ≢ ahead.Here → (h ≡ ahead.Ended → (depth : ℕ) → skipped_in (reverse s.frames.frames) ≡ Some depth → depth ≡ 0)
    → ((a : Bool) → spent_of a (reverse s.frames.frames) ≡ spent_of a (reverse r.frames.frames)) → IsAlone p s
stayed_alone p h r s alone stayed apart whole same = record {
  counted = λ e. absurd (apart (sym stayed.ahead ∙ e));
  origin = stayed.origin ∙ alone.origin;
  outer = ap (λ (x : Run). x.outer.items) stayed.rest ∙ alone.outer;
  aside = ap (λ (x : Run). x.aside.items) stayed.rest ∙ alone.aside;
  held = ap (λ (x : Option Parked). option_map path_node x) stayed.held ∙ alone.held;
  whole = λ e. whole (sym stayed.ahead ∙ e);
  untouched =
      untouched_to (reverse s.frames.frames) (reverse s.frames.frames) (nodes_of r.source) (nodes_of s.source) refl (sym (ap (λ (x : NodeStack). reverse (path x).nodes) stayed.stack))
      (untouched_from (reverse r.frames.frames) (reverse s.frames.frames) (nodes_of r.source) (λ a e. sym (same a) ∙ e) alone.untouched);
  fuel = all_full s.fuel p.limits.fuel stayed.fuel;
}

module _ (p : Program) (r s : Run) (n : Node) (listens : Listens p r) (took : TookHead p n r s) (may : can_have_children (current (path r.source.stack)) ≡ true) where
  abbrev there : (x : PathNode) × ((xs : List PathNode) × (reverse (path r.source.stack).nodes ≡ x ∷ xs))
  there = nodes_there (path r.source.stack).nodes may

  path_now : nodes_of s.source ≡ child_of n there.0 ∷ counted_in n there.0 ∷ there.1.0
  path_now = ap (λ (q : Path). reverse q.nodes) took.path_is ∙ nodes_entered n (path r.source.stack).nodes there.0 there.1.0 there.1.1

  counted_now : HeadIsCounted (nodes_of s.source)
  counted_now = subst HeadIsCounted (sym path_now) ((λ t pass. ap (λ b. if b then raised (there.0.children.passing t) else there.0.children.passing t) pass), refl)

  untouched_now : is_attribute (Some n) ≡ false → AreUntouched (reverse r.frames.frames) (nodes_of s.source)
  untouched_now node =
      untouched_here (reverse r.frames.frames) (nodes_of s.source) (ap is_on_attribute path_now ∙ node) (takes_gone (reverse r.frames.frames) listens.takes listens.gone)

  after_head : (given : Given) (program : IsProgramOf given.sheet given.limits p) (left : Left) (f : Future)
      → still.still given p s left f
      ≡ lists_at given p ahead.Here (child_of n there.0 ∷ counted_in n there.0 ∷ there.1.0) (still.held_of given p s) (aside_in given p r) (reverse r.frames.frames)
      (refuelled given (still.state_of given p r left)) f
  after_head given program left f =
      lists_after given p r s ahead.Here (child_of n there.0 ∷ counted_in n there.0 ∷ there.1.0) (reverse r.frames.frames) left f (ap (λ (x : Run). x.doing) took.rest ∙ listens.doing) took.ahead path_now
      (ap (λ (x : Run). reverse x.frames.frames) took.rest) (takes_of given p (reverse r.frames.frames) listens.takes) (ap (λ (x : Run). x.aside.items) took.rest) (full_by p given s.fuel program took.fuel) (ap (λ (x : Run). x.store) took.rest) took.buffers took.targets

  before_head : (given : Given) (left : Left) (f : Future)
      → still.still given p r left f
      ≡ lists_at given p ahead.Nothing (there.0 ∷ there.1.0) (still.held_of given p r) (aside_in given p r) (reverse r.frames.frames) (still.state_of given p r left) f
  before_head given left f = still_lists given p r ahead.Nothing (there.0 ∷ there.1.0) (reverse r.frames.frames) left f listens.doing listens.ahead there.1.1 refl
      (takes_of given p (reverse r.frames.frames) listens.takes)

pub leaf_heard : (p : Program) (r s : Run) (leaf : Leaf) → Listens p r → TookHead p (leaf_node leaf) r s → can_have_children (current (path r.source.stack)) ≡ true
    → HearsAll p (leaf_first leaf) r s
leaf_heard p r s leaf listens took may = record {
  alone = took_alone p (leaf_node leaf) r s listens.alone took (counted_now p r s (leaf_node leaf) listens took may)
      (untouched_now p r s (leaf_node leaf) listens took may (leaf_apart leaf));
  does = λ given program left f.
      let t = there p r s (leaf_node leaf) listens took may in
      same_then (same_equal (flat_code given) (before_head p r s (leaf_node leaf) listens took may given left (leaf_first leaf f)))
      (same_then
      (leaf_here given p (reverse r.frames.frames) leaf t.0 t.1.0 (still.held_of given p r) (still.held_of given p s) (aside_in given p r) (still.state_of given p r left) f listens.takes listens.order)
      (same_equal (flat_code given) (sym (after_head p r s (leaf_node leaf) listens took may given program left f))));
}

pub start_heard : (p : Program) (r s : Run) (e : Element) (first : First) → Listens p r → TookHead p (Element_node e.name e.attrs e.decls first) r s
    → can_have_children (current (path r.source.stack)) ≡ true → HearsAll p (start_first e first) r s
start_heard p r s e first listens took may = record {
  alone = took_alone p (Element_node e.name e.attrs e.decls first) r s listens.alone took (counted_now p r s (Element_node e.name e.attrs e.decls first) listens took may)
      (untouched_now p r s (Element_node e.name e.attrs e.decls first) listens took may refl);
  does = λ given program left f.
      let n = Element_node e.name e.attrs e.decls first in
      let t = there p r s n listens took may in
      same_then (same_equal (flat_code given) (before_head p r s n listens took may given left (start_first e first f)))
      (same_then
      (start_here given p (reverse r.frames.frames) e first t.0 t.1.0 (still.held_of given p r) (still.held_of given p s) (aside_in given p r) (still.state_of given p r left) f listens.takes listens.order)
      (same_equal (flat_code given) (sym (after_head p r s n listens took may given program left f))));
}

module _ (p : Program) (r s : Run) (h : Ahead) (fs : List Frame) (stayed : StayedAt p h r s) (list : r.doing ≡ doing.List) (frames_are : reverse s.frames.frames ≡ fs) (takes : takes_events fs ≡ true) where
  after_list : (given : Given) (program : IsProgramOf given.sheet given.limits p) (left : Left) (f : Future)
      → still.still given p s left f
      ≡ lists_at given p h (nodes_of r.source) (still.held_of given p s) (aside_in given p r) fs (refuelled given (still.state_of given p r left)) f
  after_list given program left f =
      lists_after given p r s h (nodes_of r.source) fs left f (ap (λ (x : Run). x.doing) stayed.rest ∙ list) stayed.ahead
      (ap (λ (x : NodeStack). reverse (path x).nodes) stayed.stack) frames_are takes (ap (λ (x : Run). x.aside.items) stayed.rest) (full_by p given s.fuel program stayed.fuel)
      (ap (λ (x : Run). x.store) stayed.rest) (ap (λ (x : Run). x.putting.buffers) stayed.rest) (ap (λ (x : Run). x.putting.targets) stayed.rest)

  held_still : (given : Given) → still.held_of given p s ≡ still.held_of given p r
  held_still given = ap (λ (x : Option Parked). option_map path_node x) stayed.held

-- the innermost list is passed over
pub skipped_frames : (fs : List Frame) (depth : ℕ) → skipped_in fs ≡ Some depth → (others : List Frame) × (fs ≡ Skip depth ∷ others)
skipped_frames [] depth e = absurd (cc)
skipped_frames (Skip own ∷ fs) depth e = let same : own ≡ depth = cc in (fs, ap (λ n. Skip n ∷ fs) same)
skipped_frames (f ∷ fs) depth e = absurd (cc)

module _ (p : Program) (r s : Run) (depth now : ℕ) (skips : Skips p depth r) (stayed : StayedAt p ahead.Nothing r s) (to : (d : ℕ) (gs : List Frame) → reverse r.frames.frames ≡ Skip d ∷ gs → reverse s.frames.frames ≡ Skip now ∷ gs) where
  abbrev skipping : (others : List Frame) × (reverse r.frames.frames ≡ Skip depth ∷ others)
  skipping = skipped_frames (reverse r.frames.frames) depth skips.skipped

  pub skip_heard : (heard : Future → Future)
      → ((given : Given) (held : Option PathNode) (aside : List (Option PathNode)) (fs : List Frame) (st : State) (f : Future)
      → lists_at given p ahead.Nothing (nodes_of r.source) held aside (Skip depth ∷ fs) st (heard f) ≡ lists_at given p ahead.Nothing (nodes_of r.source) held aside (Skip now ∷ fs) (refuelled given st) f)
      → HearsAll p heard r s
  skip_heard heard alike = record {
    alone = stayed_alone p ahead.Nothing r s skips.alone stayed (λ e. cc) (λ e. absurd (let no : ahead.Nothing ≡ ahead.Ended = e in cc))
        (λ a. ap (spent_of a) (to depth skipping.0 skipping.1) ∙ skip_deeper a now depth skipping.0 ∙ sym (ap (spent_of a) skipping.1));
    does = λ given program left f.
        same_equal (flat_code given)
        (still_lists given p r ahead.Nothing (nodes_of r.source) (Skip depth ∷ skipping.0) left (heard f) skips.doing skips.ahead refl skipping.1 refl
        ∙ alike given (still.held_of given p r) (aside_in given p r) skipping.0 (still.state_of given p r left) f
        ∙ sym (after_list p r s ahead.Nothing (Skip now ∷ skipping.0) stayed skips.doing (to depth skipping.0 skipping.1) refl given program left f
        ∙ ap (λ o. lists_at given p ahead.Nothing (nodes_of r.source) o (aside_in given p r) (Skip now ∷ skipping.0) (refuelled given (still.state_of given p r left)) f)
        (held_still p r s ahead.Nothing (Skip now ∷ skipping.0) stayed skips.doing (to depth skipping.0 skipping.1) refl given)));
  }

unskipped : (fs : List Frame) → TakesList fs → skipped_in fs ≡ None
unskipped [] list = refl
unskipped (Attributes next asked ∷ fs) list = refl
unskipped (Loop turn ∷ fs) list = refl
unskipped (Body template alternative pc locals level spent ∷ fs) list = refl
unskipped (Call procedure pc locals level ∷ fs) list = refl
unskipped (Region asked level ∷ fs) list = refl
unskipped (Source_frame buffer next asked ∷ fs) list = refl
unskipped (Skip depth ∷ fs) list = absurd list
unskipped (Pass base level spent ∷ fs) list = refl

pub end_heard : (p : Program) (r s : Run) (offset : ℕ) → MayEnd p r → StayedAt p ahead.Ended r s → reverse s.frames.frames ≡ reverse r.frames.frames → HearsAll p (end_first offset) r s
end_heard p r s offset (inl listens) stayed frames_are = record {
  alone =
      stayed_alone p ahead.Ended r s listens.alone stayed (λ e. cc)
      (λ e depth skipped. absurd (let no : None ≡ Some depth = sym (unskipped (reverse r.frames.frames) listens.takes) ∙ ap skipped_in (sym frames_are) ∙ skipped in cc))
      (λ a. ap (spent_of a) frames_are);
  does = λ given program left f.
      same_then
      (same_equal (flat_code given) (still_lists given p r ahead.Nothing (nodes_of r.source) (reverse r.frames.frames) left (end_first offset f) listens.doing listens.ahead refl refl
      (takes_of given p (reverse r.frames.frames) listens.takes)))
      (same_then
      (end_here given p (reverse r.frames.frames) offset (nodes_of r.source) (still.held_of given p s) (aside_in given p r) (still.state_of given p r left) f listens.takes)
      (same_equal (flat_code given) (sym (after_list p r s ahead.Ended (reverse r.frames.frames) stayed listens.doing frames_are (takes_of given p (reverse r.frames.frames) listens.takes) given program left f))));
}
end_heard p r s offset (inr skips) stayed frames_are = record {
  alone =
      stayed_alone p ahead.Ended r s skips.alone stayed (λ e. cc)
      (λ e depth skipped. let same : Some 0 ≡ Some depth = sym skips.skipped ∙ ap skipped_in (sym frames_are) ∙ skipped in cc)
      (λ a. ap (spent_of a) frames_are);
  does = λ given program left f.
      let at = skipped_frames (reverse r.frames.frames) 0 skips.skipped in
      same_equal (flat_code given)
      (still_lists given p r ahead.Nothing (nodes_of r.source) (Skip 0 ∷ at.0) left (end_first offset f) skips.doing skips.ahead refl at.1 refl
      ∙ skipped_over given p offset (nodes_of r.source) (still.held_of given p s) (aside_in given p r) at.0 (still.state_of given p r left) f
      ∙ sym (after_list p r s ahead.Ended (Skip 0 ∷ at.0) stayed skips.doing (frames_are ∙ at.1) refl given program left f));
}

pub main_there : (p : Program) (r : Run) → MayEnd p r → r.source.origin ≡ origin.Main
main_there p r (inl listens) = listens.alone.origin
main_there p r (inr skips) = skips.alone.origin

-- where a method may want memory
pub hears_if : {A : Type 0} (p : Program) (heard : Future → Future) (result : Result A Stop) (r s : Run) (P : Type 0) → IfOk result (λ done. P) → IfErr result (λ e. e ≡ stop.Memory)
    → (P → HearsAll p heard r s) → Hears p heard result r s
hears_if p heard (Ok done) r s P ok err hears = let h = hears ok in record { alone = h.alone; does = h.does }
hears_if p heard (Err stop.Memory) r s P ok err hears = record { alone = tt; does = λ given program left f. (still.still given p r left (heard f), same_equal (flat_code given) refl) }
hears_if p heard (Err (stop.Fault fault)) r s P ok err hears = absurd (cc)
hears_if p heard (Err (stop.Spent at)) r s P ok err hears = absurd (cc)

-- in the main document no unit is wanting for a node that begins
pub never_spent : (whole fuel : ℕ) (o : Origin) → o ≡ origin.Main → fuel_begun whole fuel o ≡ None → ⊥
never_spent whole fuel o main none = absurd (let no : Some whole ≡ None = sym (ap (fuel_begun whole fuel) main) ∙ none in cc)

pub begun_full : (whole fuel now : ℕ) (o : Origin) → o ≡ origin.Main → fuel_begun whole fuel o ≡ Some now → now ≡ whole
begun_full whole fuel now o main begun = let same : Some whole ≡ Some now = sym (ap (fuel_begun whole fuel) main) ∙ begun in cc

pub ended_full : (whole fuel : ℕ) (o : Origin) → o ≡ origin.Main → fuel_ended whole fuel o ≡ whole
ended_full whole fuel o main = ap (fuel_ended whole fuel) main

-- By the steps of a method.

module _ (p : Program) (n : Node) (r m : Run) (src : Source) (same : m ≡ record r { fuel = m.fuel }) (main : r.source.origin ≡ origin.Main)
    (begun : fuel_begun p.limits.fuel r.fuel r.source.origin ≡ Some m.fuel) (path_is : path src.stack ≡ entered n (path m.source.stack)) (here : src.ahead ≡ ahead.Here)
    (held : held_node src ≡ held_node m.source) (from_there : src.origin ≡ m.source.origin) where
  pub took_leaf : TookHead p n r (record m { source = src })
  took_leaf =
      subst (λ (x : Run). TookHead p n r (record x { source = src })) (sym same)
      (record {
        path_is = path_is ∙ ap (λ (x : Run). entered n (path x.source.stack)) same;
        ahead = here;
        held = held ∙ ap (λ (x : Run). held_node x.source) same;
        origin = from_there ∙ ap (λ (x : Run). x.source.origin) same;
        rest = refl;
        buffers = refl;
        targets = refl;
        fuel = begun_full p.limits.fuel r.fuel m.fuel r.source.origin main begun;
      })

  pub took_node : (put : Putting) → put ≡ record m.putting { is_told = put.is_told } → TookHead p n r (record m { source = src; putting = put })
  took_node put seen =
      subst (λ (x : Run). TookHead p n r (record x { source = src; putting = put })) (sym same)
      (record {
        path_is = path_is ∙ ap (λ (x : Run). entered n (path x.source.stack)) same;
        ahead = here;
        held = held ∙ ap (λ (x : Run). held_node x.source) same;
        origin = from_there ∙ ap (λ (x : Run). x.source.origin) same;
        rest = refl;
        buffers = ap (λ (x : Putting). x.buffers) seen ∙ ap (λ (x : Run). x.putting.buffers) same;
        targets = ap (λ (x : Putting). x.targets) seen ∙ ap (λ (x : Run). x.putting.targets) same;
        fuel = begun_full p.limits.fuel r.fuel m.fuel r.source.origin main begun;
      })

pub found_ended : (p : Program) (r m : Run) → r.source.origin ≡ origin.Main → m ≡ record r { fuel = fuel_ended p.limits.fuel r.fuel r.source.origin }
    → StayedAt p ahead.Ended r (record m { source = record m.source { ahead = ahead.Ended } })
found_ended p r m main same =
    subst (λ (x : Run). StayedAt p ahead.Ended r (record x { source = record x.source { ahead = ahead.Ended } })) (sym same)
    (record { rest = refl; stack = refl; held = refl; origin = refl; ahead = refl; fuel = ended_full p.limits.fuel r.fuel r.source.origin main })

pub found_frames : (r m : Run) (units : ℕ) → m ≡ record r { fuel = units } → reverse m.frames.frames ≡ reverse r.frames.frames
found_frames r m units same = ap (λ (x : Run). reverse x.frames.frames) same

-- where a list is passed over
pub passed_over : (p : Program) (r m n : Run) (units : ℕ) → r.source.ahead ≡ ahead.Nothing → m ≡ record r { fuel = units } → units ≡ p.limits.fuel → n ≡ record m { frames = n.frames }
    → StayedAt p ahead.Nothing r n
passed_over p r m n units unknown same full rest =
    let whole : n ≡ record r { frames = n.frames; fuel = units } = rest ∙ ap (λ (x : Run). record x { frames = n.frames }) same in
    record {
      rest = whole ∙ sym (ap (λ (x : Run). record r { frames = n.frames; source = x.source; fuel = x.fuel }) whole);
      stack = ap (λ (x : Run). x.source.stack) whole;
      held = ap (λ (x : Run). x.source.held) whole;
      origin = ap (λ (x : Run). x.source.origin) whole;
      ahead = ap (λ (x : Run). x.source.ahead) whole ∙ unknown;
      fuel = ap (λ (x : Run). x.fuel) whole ∙ full;
    }

pub deepened : (r m n : Run) (units now : ℕ) → m ≡ record r { fuel = units }
    → ((d : ℕ) (gs : List Frame) → reverse m.frames.frames ≡ Skip d ∷ gs → reverse n.frames.frames ≡ Skip now ∷ gs)
    → (d : ℕ) (gs : List Frame) → reverse r.frames.frames ≡ Skip d ∷ gs → reverse n.frames.frames ≡ Skip now ∷ gs
deepened r m n units now same to d gs is = to d gs (found_frames r m units same ∙ is)

pub skips_told : (p : Program) (e : Event) (r : Run) (depth : ℕ) → HasTold p e r → IsAlone p r → skipped_in (reverse r.frames.frames) ≡ Some depth → Skips p depth r
skips_told p e r depth told alone skipped = record { alone = alone; doing = told.doing; ahead = told.ahead; skipped = skipped }

-- Room for texts to come isn't seen.

module _ (given : Given) (p : Program) (s : Run) (spare : Kept) (left : Left) (f : Future) where
  list_spare : (b : Bool) (h : Ahead) (fs : List Frame) → still.list_goes given p b h fs s left f ≡ still.list_goes given p b h fs (record s { putting = record s.putting { spare = spare } }) left f
  list_spare true h fs = refl
  list_spare false h fs = refl

  spare_unseen : (d : Doing) (h : Ahead) (fs : List Frame)
      → still.doing_now given p d h fs s left f ≡ still.doing_now given p d h fs (record s { putting = record s.putting { spare = spare } }) left f
  spare_unseen doing.Body h fs = refl
  spare_unseen doing.List h fs = list_spare (takes_events fs) h fs

  pub still_spare : still.still given p s left f ≡ still.still given p (record s { putting = record s.putting { spare = spare } }) left f
  still_spare = spare_unseen s.doing s.source.ahead (reverse s.frames.frames)

pub spare_heard : {A : Type 0} (p : Program) (heard : Future → Future) (result : Result A Stop) (r s : Run) (spare : Kept) → Hears p heard result r s
    → Hears p heard result r (record s { putting = record s.putting { spare = spare } })
spare_heard p heard (Ok done) r s spare h = record {
  alone = record { origin = h.alone.origin; outer = h.alone.outer; aside = h.alone.aside; held = h.alone.held; counted = h.alone.counted; whole = h.alone.whole; untouched = h.alone.untouched; fuel = h.alone.fuel };
  does = λ given program left f. same_then (h.does given program left f) (same_equal (flat_code given) (still_spare given p s spare left f));
}
spare_heard p heard (Err (stop.Fault fault)) r s spare h = record { alone = tt; does = h.does }
spare_heard p heard (Err (stop.Spent at)) r s spare h = record { alone = tt; does = h.does }
spare_heard p heard (Err stop.Memory) r s spare h = record { alone = tt; does = h.does }

-- for want of memory anything may follow
pub memory_heard : (A : Type 0) (p : Program) (heard : Future → Future) (e : Stop) (r s : Run) → e ≡ stop.Memory → Hears {A = A} p heard (Err e) r s
memory_heard A p heard e r s is =
    subst (λ x. Hears {A = A} p heard (Err x) r s) (sym is)
    (record { alone = tt; does = λ given program left f. (still.still given p r left (heard f), same_equal (flat_code given) refl) })
