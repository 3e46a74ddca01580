-- What is told to the innermost list.
use Rattle.std.proofs.Common.{◌≡◌, ℕ, ◌+◌, ◌-◌, ◌<◌, ◌≤◌, true, false, List, [], ◌∷◌, map, reverse, Some, None, IsSome, refl, ap, sym, subst, ◌∙◌, arith}
use Rattle.std.specs.Prelude.{MatchBool}
use Rattle.std.proofs.lemmas.Bool.{false≢true}
use Rattle.frame_stack.specs.declared.frame.Frame.{Frame}
use Rattle.frame_stack.specs.declared.frame.Frame.TheVariants.{Attributes, Skip}
use Rattle.node_stack.specs.Path as paths
use Rattle.node_stack.specs.Path.{Node, can_end, can_have_children, current, depth, is_attribute, is_element}
use Rattle.node_stack.specs.Stack.{path}
use Rattle.node_stack.specs.Open.{leaf_of}
use Rattle.node_stack.specs.declared.node.Leaf.{Leaf}
use Rattle.node_stack.specs.declared.node.Leaf.TheVariants as leaf
use Rattle.xml_events.specs.declared.event.Event.{Event}
use Rattle.template_machine.specs.Bodies.{skipped_in, takes_events}
use Rattle.template_machine.specs.Contexts.{Station}
use Rattle.template_machine.specs.Scopes.{Scopes}
use Rattle.template_machine.specs.Sources.{within_node}
use Rattle.template_machine.specs.Standing.{Known, Over, Standing, Unknown, front_of, known_now, known_of, room_of, standing_of, stream_of, with_way}
use Rattle.template_machine.specs.Ways.{Way, entered, left, way_of, lists_on}
use Rattle.template_machine.specs.Moments.{HasTold, ListIsOver, SkipEnds, SkipsOn, TakesHead}
use Rattle.template_machine.specs.Well.{AreWell, HasList, IsOpen, IsSettled, IsSourceWell, IsSteady, IsWell, ListFits, SkipFront, TellWithin}
use Rattle.template_machine.specs.declared.program.Program.{Program}
use Rattle.template_machine.specs.declared.run.Doing.TheVariants as doing
use Rattle.template_machine.specs.declared.run.Run.{Run}
use Rattle.template_machine.specs.declared.source.Ahead.TheVariants as ahead
use Rattle.template_machine.specs.declared.source.Source as sources
use Rattle.template_machine.proofs.Going.{SameBut, same_standing, same_steady, same_within, well_head_at, well_list_at}
use Rattle.template_machine.proofs.Headed.{head_there, list_ends, list_node, list_parts}
use Rattle.template_machine.proofs.Nodes.{is_way}
use Rattle.template_machine.proofs.Sourcing.{room_same, source_entered, source_stays, stream_parts}
use Rattle.template_machine.proofs.Tops.{skip_top}
use Rattle.template_machine.proofs.Ways.{counted_list, entered_room, has_node, one_element, open_more, way_depth, way_entered, way_here}
use Rattle.template_machine.specs.Sections.{HoldsSection}
use Rattle.template_machine.proofs.Shelved.{stands_still}

-- a node that can end is no attribute
pub ends_leaf : (x : Node) → can_end (Some x) ≡ true → is_attribute (Some x) ≡ false
ends_leaf (paths.Attribute a) e = absurd (false≢true e)
ends_leaf n e = refl

-- and isn't the document node
pub ends_apart : (x : Node) → can_end (Some x) ≡ true → x ≡ paths.Document → ⊥
ends_apart x e is = false≢true (sym (ap (λ y. can_end (Some y)) is) ∙ e)

-- what is known where nothing is
pub known_nothing : (r : Run) → r.source.ahead ≡ ahead.Nothing → known_now r ≡ record { front = Unknown; begun = r.source.begun }
known_nothing r e = ap (λ a. record { front = front_of a r.source.held; begun = r.source.begun }) e

-- an event of a head
pub takes_head : (p : Program) (r : Run) (e : Event) (x : Node) → (h : HasTold p e r) → skipped_in (reverse r.frames.frames) ≡ None → can_end (Some x) ≡ true
    → counted_list x + h.before ≡ r.source.begun → HoldsSection x → TakesHead p x r
takes_head p r e x h none end more section =
    let fs = reverse r.frames.frames in
    let s = standing_of r in
    record {
      steady = h.steady;
      stations = h.stations;
      stand = h.stand;
      doing = h.doing;
      list = (list_parts fs s.source.way h.before Unknown h.list none h.fits).0;
      section = section;
      head = head_there p h.stations fs s x h.before r.source.begun h.well h.list none h.fits end (ends_leaf x end) more;
    }

-- with other fuel
pub takes_still : (p : Program) (r : Run) (x : Node) (k : ℕ) → TakesHead p x r → TakesHead p x (record r { fuel = k })
takes_still p r x k h = record {
  steady = steady_still p r k h.steady;
  stations = h.stations;
  stand = h.stand;
  doing = h.doing;
  list = h.list;
  section = h.section;
  head = h.head;
}
  where
    steady_still : (p : Program) (r : Run) (k : ℕ) → IsSteady p r → IsSteady p (record r { fuel = k })
    steady_still p r k s = same_steady p r (record r { fuel = k }) s (record { outer = refl; aside = refl; store = refl; putting = stands_still r.putting }) s.source s.within

pub skips_still : (p : Program) (r : Run) (depth k : ℕ) → SkipsOn p depth r → SkipsOn p depth (record r { fuel = k })
skips_still p r depth k h = record {
  steady =
      same_steady p r (record r { fuel = k }) h.steady (record { outer = refl; aside = refl; store = refl; putting = stands_still r.putting })
      h.steady.source h.steady.within;
  stations = h.stations;
  stand = h.stand;
  doing = h.doing;
  ahead = h.ahead;
  skipped = h.skipped;
  well = h.well;
  begun = h.begun;
}

-- The head is the current node.
pub arrives : (p : Program) (r n : Run) (x : Node) → TakesHead p x r → SameBut r n → reverse n.frames.frames ≡ reverse r.frames.frames
    → path n.source.stack ≡ paths.entered x (path r.source.stack) → n.source.bindings ≡ within_node x r.source.bindings → n.source.ahead ≡ ahead.Here
    → n.source.origin ≡ r.source.origin → (n.source.begun ≡ r.source.begun) × (n.source.next ≡ r.source.next) → n.doing ≡ r.doing
    → IsWell p n × (n.doing ≡ doing.List)
arrives p r n x h same frames is scopes at origin counts doing =
    let s = standing_of r in
    let v = s.source.way in
    let node = list_node v h.list in
    let has = has_node (path r.source.stack) node.0 (sym (way_here (path r.source.stack)) ∙ node.1) in
    let way : way_of (path n.source.stack) ≡ entered x v = ap way_of is ∙ way_entered x (path r.source.stack) has in
    let o : IsOpen (entered x v) r.source.begun Unknown =
    subst (λ b. MatchBool b (IsSettled (reverse r.frames.frames) (left (entered x v)) r.source.begun Unknown) (IsOpen (entered x v) r.source.begun Unknown)) (ends_leaf x h.head.end)
    h.head.there.fits in
    let limit : (path n.source.stack).limit ≡ (path r.source.stack).limit = ap (λ (w : Way). w.limit) way in
    let source = source_entered r.source n.source x h.steady.source way scopes (λ e. absurd (not_held (sym at ∙ e)))
    (entered_room x v r.source.begun v.limit (ends_apart x h.head.end) (is_way r.source.stack) o.1 h.steady.source.counted)
    (subst (λ b. b ≤ v.limit + 1) (sym counts.0) h.steady.source.counted) h.section in
    let stand = same_standing r n (record { origin = r.source.origin; way = entered x v }) same (stream_parts n.source r.source.origin (entered x v) origin way) in
    let known : known_now n ≡ record { front = Unknown; begun = r.source.begun } =
    ap (λ a. record { front = front_of a n.source.held; begun = n.source.begun }) at ∙ ap (λ b. record { front = Unknown; begun = b }) counts.0 in (
      well_head_at p n h.stations (reverse r.frames.frames) (with_way (entered x v) s) (record { front = Unknown; begun = r.source.begun }) h.stand
          (same_steady p r n h.steady same source (same_within p r n h.steady frames (room_same r.source n.source limit counts.0 counts.1)))
          (doing ∙ h.doing) at frames stand known h.head,
      doing ∙ h.doing,
    )
  where
    not_held : ahead.Here ≡ ahead.Held → ⊥
    not_held e = cc

-- The list is found over.
pub finds_end : (p : Program) (r n : Run) → ListIsOver p r → SameBut r n → reverse n.frames.frames ≡ reverse r.frames.frames → path n.source.stack ≡ path r.source.stack
    → n.source.bindings ≡ r.source.bindings → n.source.ahead ≡ ahead.Ended → n.source.origin ≡ r.source.origin
    → (n.source.begun ≡ r.source.begun) × (n.source.next ≡ r.source.next) → n.doing ≡ doing.List → IsWell p n
finds_end p r n h same frames is scopes at origin counts doing =
    let s = standing_of r in
    let v = s.source.way in
    let source = source_stays r.source n.source h.steady.source is scopes (λ e. absurd (not_held (sym at ∙ e)))
    (subst (λ b. b ≤ v.limit + 1) (sym counts.0) h.steady.source.counted) in
    let stand = same_standing r n s.source same (stream_parts n.source r.source.origin v origin (ap way_of is)) in
    let known : known_now n ≡ record { front = Over; begun = r.source.begun } =
    ap (λ a. record { front = front_of a n.source.held; begun = n.source.begun }) at ∙ ap (λ b. record { front = Over; begun = b }) counts.0 in
    well_list_at p n h.stations (reverse r.frames.frames) s (record { front = Over; begun = r.source.begun }) h.stand
    (same_steady p r n h.steady same source (same_within p r n h.steady frames (room_same r.source n.source (ap (λ (q : paths.Path). q.limit) is) counts.0 counts.1)))
    doing (λ e. not_here (sym at ∙ e)) frames stand known (record { well = h.well; fits = h.fits })
  where
    not_held : ahead.Ended ≡ ahead.Held → ⊥
    not_held e = cc

    not_here : ahead.Ended ≡ ahead.Here → ⊥
    not_here e = cc

-- an event that ends the list
over_by : (fs : List Frame) (w : Way) (n m : ℕ) → takes_events fs ≡ true → skipped_in fs ≡ None → ListFits fs w n Unknown → lists_on (left w) ≡ m → ListFits fs w m Over
over_by [] w n m takes none h o = absurd h
over_by (Attributes next asked ∷ fs) w n m takes none h o = absurd (false≢true takes)
over_by (Skip depth ∷ fs) w n m takes none h o = absurd (cc)
over_by (f ∷ fs) w n m takes none h o = (h.0, h.1, o)

pub told_over : (p : Program) (r : Run) (e : Event) → (h : HasTold p e r) → skipped_in (reverse r.frames.frames) ≡ None → r.source.begun ≡ h.before - 1 → ListIsOver p r
told_over p r e h none less =
    let fs = reverse r.frames.frames in
    let w = (standing_of r).source.way in
    let l = list_parts fs w h.before Unknown h.list none h.fits in
    let ended = list_ends w h.before l.0 l.2 in
    record {
      steady = h.steady;
      stations = h.stations;
      stand = h.stand;
      ahead = h.ahead;
      list = h.list;
      well = h.well;
      fits = over_by fs w h.before r.source.begun h.list none h.fits (ended ∙ sym less);
    }

-- An event in a list that is skipped.
skip_room : (fs : List Frame) (w : Way) (n depth : ℕ) → skipped_in fs ≡ Some depth → ListFits fs w n Unknown → lists_on w + depth ≡ n
skip_room fs w n depth is h =
    let t = skip_top fs (subst (λ o. IsSome o) (sym is) refl) in
    let fits : SkipFront t.0 w n Unknown = subst (λ l. ListFits l w n Unknown) t.1.1 h in
    let same : t.0 ≡ depth = same_depth (sym (ap skipped_in t.1.1) ∙ is) in
    omega (arith, fits, same)
  where
    same_depth : {a b : ℕ} → Some a ≡ Some b → a ≡ b
    same_depth e = cc

pub told_skips : (p : Program) (r : Run) (e : Event) (depth more : ℕ) → (h : HasTold p e r) → skipped_in (reverse r.frames.frames) ≡ Some depth
    → more + h.before ≡ r.source.begun → SkipsOn p (depth + more) r
told_skips p r e depth more h is counted = record {
  steady = h.steady;
  stations = h.stations;
  stand = h.stand;
  doing = h.doing;
  ahead = h.ahead;
  skipped = subst (λ o. IsSome o) (sym is) refl;
  well = h.well;
  begun = omega (arith, skip_room (reverse r.frames.frames) (standing_of r).source.way h.before depth is h.fits, counted);
}

skip_list : (p : Program) (stations : List Station) (fs : List Frame) (s : Standing) → IsSome (skipped_in fs) → AreWell p stations 0 true fs s → HasList s.source.way
skip_list p stations [] s some w = absurd (false≢true some)
skip_list p stations (Skip depth ∷ fs) s some w = w.1
skip_list p stations (f ∷ fs) s some w = absurd (false≢true some)

pub told_skip_ends : (p : Program) (r : Run) (e : Event) (depth : ℕ) → (h : HasTold p e r) → skipped_in (reverse r.frames.frames) ≡ Some depth
    → r.source.begun ≡ h.before - 1 → SkipEnds p depth r
told_skip_ends p r e depth h is less =
    let fs = reverse r.frames.frames in
    let w = (standing_of r).source.way in
    let room = skip_room fs w h.before depth is h.fits in
    let has = skip_list p h.stations fs (standing_of r) (subst (λ o. IsSome o) (sym is) refl) h.well in
    record {
      steady = h.steady;
      stations = h.stations;
      stand = h.stand;
      doing = h.doing;
      ahead = h.ahead;
      skipped = is;
      well = h.well;
      deep = λ more. omega (arith, room, less, more);
      over = λ none. let fits : lists_on w ≡ h.before = omega (arith, room, none) in list_ends w h.before has fits ∙ sym less;
    }

pub skip_goes_on : (p : Program) (r : Run) (depth : ℕ) → (h : SkipEnds p depth r) → 0 < depth → SkipsOn p (depth - 1) r
skip_goes_on p r depth h more = record {
  steady = h.steady;
  stations = h.stations;
  stand = h.stand;
  doing = h.doing;
  ahead = h.ahead;
  skipped = subst (λ o. IsSome o) (sym h.skipped) refl;
  well = h.well;
  begun = h.deep more;
}

pub skip_is_over : (p : Program) (r : Run) (depth : ℕ) → (h : SkipEnds p depth r) → depth ≡ 0 → ListIsOver p r
skip_is_over p r depth h none =
    let fs = reverse r.frames.frames in
    let w = (standing_of r).source.way in
    let t = skip_top fs (subst (λ o. IsSome o) (sym h.skipped) refl) in
    record {
      steady = h.steady;
      stations = h.stations;
      stand = h.stand;
      ahead = h.ahead;
      list = subst (λ l. takes_events l ≡ true) (sym t.1.1) refl;
      well = h.well;
      fits = subst (λ l. ListFits l w r.source.begun Over) (sym t.1.1) (h.over none);
    }

-- So many elements are open from here on.
pub skips_to : (p : Program) (r n : Run) (depth : ℕ) → SkipsOn p depth r → SameBut r n → n.source ≡ r.source → n.doing ≡ r.doing
    → ((d : ℕ) (gs : List Frame) → reverse r.frames.frames ≡ Skip d ∷ gs → reverse n.frames.frames ≡ Skip depth ∷ gs) → IsWell p n × (n.doing ≡ doing.List)
skips_to p r n depth h same source doing frames =
    let fs = reverse r.frames.frames in
    let s = standing_of r in
    let t = skip_top fs h.skipped in
    let d = t.0 in
    let gs = t.1.0 in
    let new : reverse n.frames.frames ≡ Skip depth ∷ gs = frames d gs t.1.1 in
    let k : Known = record { front = Unknown; begun = r.source.begun } in
    let w : AreWell p h.stations 0 true (Skip d ∷ gs) s = subst (λ l. AreWell p h.stations 0 true l s) t.1.1 h.well in
    let within = subst (λ l. TellWithin l (room_of r.source ∷ map room_of (reverse r.outer.items)) s.shelves) t.1.1 h.steady.within in
    let steady = same_steady p r n h.steady same (subst IsSourceWell (sym source) h.steady.source)
    (subst (λ l. TellWithin l (room_of n.source ∷ map room_of (reverse r.outer.items)) s.shelves) (sym new)
    (subst (λ (x : sources.Source). TellWithin (Skip depth ∷ gs) (room_of x ∷ map room_of (reverse r.outer.items)) s.shelves) (sym source) within)) in (
      well_list_at p n h.stations (Skip depth ∷ gs) s k h.stand steady (doing ∙ h.doing) (λ e. not_here (sym (ap (λ (x : sources.Source). x.ahead) source ∙ h.ahead) ∙ e)) new
          (same_standing r n s.source same (ap stream_of source)) (ap (λ (x : sources.Source). known_of x) source ∙ known_nothing r h.ahead)
          (record { well = w; fits = h.begun }),
      doing ∙ h.doing,
    )
  where
    not_here : ahead.Nothing ≡ ahead.Here → ⊥
    not_here e = cc

-- fuel is spent or refilled
pub takes_at : (p : Program) (r m : Run) (x : Node) (k : ℕ) → m ≡ record r { fuel = k } → TakesHead p x r → TakesHead p x m
takes_at p r m x k e h = subst (TakesHead p x) (sym e) (takes_still p r x k h)

pub skips_at : (p : Program) (r m : Run) (depth k : ℕ) → m ≡ record r { fuel = k } → SkipsOn p depth r → SkipsOn p depth m
skips_at p r m depth k e h = subst (SkipsOn p depth) (sym e) (skips_still p r depth k h)

-- the list of the head, and room for it
pub takes_list : (p : Program) (r : Run) (x : Node) → TakesHead p x r → can_have_children (current (path r.source.stack)) ≡ true
takes_list p r x h = sym (ap can_have_children (way_here (path r.source.stack))) ∙ h.list

pub takes_room : (p : Program) (r : Run) (x : Node) → TakesHead p x r → is_element x ≡ true → depth (path r.source.stack) < (path r.source.stack).limit
takes_room p r x h e =
    let v = (standing_of r).source.way in
    let o : IsOpen (entered x v) r.source.begun Unknown =
    subst (λ b. MatchBool b (IsSettled (reverse r.frames.frames) (left (entered x v)) r.source.begun Unknown) (IsOpen (entered x v) r.source.begun Unknown)) (ends_leaf x h.head.end)
    h.head.there.fits in
    omega (
      arith,
      entered_room x v r.source.begun v.limit (ends_apart x h.head.end) (is_way r.source.stack) o.1 h.steady.source.counted,
      open_more x v,
      one_element x e,
      way_depth (path r.source.stack),
    )

pub leaf_scopes : (l : Leaf) (scopes : Scopes) → within_node (leaf_of l) scopes ≡ scopes
leaf_scopes (leaf.Chars text) scopes = refl
leaf_scopes (leaf.CData text) scopes = refl
leaf_scopes (leaf.Comment text) scopes = refl
leaf_scopes (leaf.Pi target text) scopes = refl

pub leaf_ends : (l : Leaf) → (can_end (Some (leaf_of l)) ≡ true) × (counted_list (leaf_of l) ≡ 0)
leaf_ends (leaf.Chars text) = (refl, refl)
leaf_ends (leaf.CData text) = (refl, refl)
leaf_ends (leaf.Comment text) = (refl, refl)
leaf_ends (leaf.Pi target text) = (refl, refl)

-- a leaf in a list that is skipped
pub told_skips_leaf : (p : Program) (r : Run) (e : Event) (depth : ℕ) → (h : HasTold p e r) → skipped_in (reverse r.frames.frames) ≡ Some depth
    → h.before ≡ r.source.begun → SkipsOn p depth r
told_skips_leaf p r e depth h is counted =
    let same : depth + 0 ≡ depth = omega arith in subst (λ d. SkipsOn p d r) same (told_skips p r e depth 0 h is (omega (arith, counted)))
