-- What a list that goes on comes to.
use Rattle.std.proofs.Common.{◌≡◌, ◌≢◌, ℕ, zero, suc, ◌+◌, ◌<◌, ◌≤◌, Bool, true, List, [], ◌∷◌, length, map, reverse, Option, Some, None, IsSome, refl, ap, sym, subst, ◌∙◌, arith}
use Rattle.std.specs.Prelude.{MatchBool, is_none}
use Rattle.std.specs.List.{slice_get}
use Rattle.std.specs.Option.{option_map}
use Rattle.std.proofs.lemmas.Bool.{false≢true}
use Rattle.stx_base.specs.declared.name.Attr.{Attr}
use Rattle.frame_stack.specs.declared.frame.Frame.{Frame}
use Rattle.frame_stack.specs.declared.frame.Frame.TheVariants.{Body, Call, Attributes, Loop, Region, Skip}
use Rattle.node_stack.specs.Path as paths
use Rattle.node_stack.specs.Path.{Node, PathNode, Attribute, attributes, can_end, current, depth, is_attribute, is_element, last_of, parked}
use Rattle.node_stack.specs.Stack.{path, path_node}
use Rattle.node_stack.specs.declared.parked.Parked.{Parked}
use Rattle.template_machine.specs.Asking.{HasAsker}
use Rattle.template_machine.specs.Bodies.{level_in, next_in, skipped_in, takes_events}
use Rattle.template_machine.specs.Contexts.{Station}
use Rattle.template_machine.specs.Sources.{around_node, held_node, within_node}
use Rattle.template_machine.specs.Standing.{Known, Over, Standing, Unknown, Waits, front_of, known_now, known_of, node_over, room_of, rooms_of, standing_of, with_way}
use Rattle.template_machine.specs.Ways.{Way, entered, first_in, here, left, lists_on, open_on, way_of}
use Rattle.template_machine.specs.Moments.{HasHead, HeadIsLooked, ListIsOver, RegionIsOver}
use Rattle.template_machine.specs.Well.{AreWell, AsksBefore, CanReturn, GoesOn, HasList, HeadIsThere, IsFrontFor, IsOpen, IsSettled, IsWaiting, IsWell, ListFits, ListGoesOn, NodeIsThere, StandOnRegion, TakeNodes, TellWithin}
use Rattle.template_machine.specs.declared.program.Program.{Program}
use Rattle.template_machine.specs.declared.run.Doing.TheVariants as doing
use Rattle.template_machine.specs.declared.run.Run.{Run}
use Rattle.template_machine.specs.declared.source.Ahead.{Ahead}
use Rattle.template_machine.specs.declared.source.Ahead.TheVariants as ahead
use Rattle.template_machine.specs.declared.source.Source as sources
use Rattle.template_machine.proofs.Arriving.{ends_leaf, ends_apart}
use Rattle.template_machine.proofs.Asking.{AreBased, has_asker, list_asked}
use Rattle.template_machine.proofs.Going.{SameBut, same_standing, same_steady, same_within, waits_by, well_head_at}
use Rattle.template_machine.proofs.Headed.{held_there, list_parts, noskip_of}
use Rattle.template_machine.proofs.Sourcing.{known_parts, open_here, room_same, source_entered, source_left, source_stays, still_held, stream_parts, first_section, held_by, is_held}
use Rattle.template_machine.proofs.Streams.{attributes_end}
use Rattle.template_machine.proofs.Taken.{source_standing, source_steady}
use Rattle.template_machine.proofs.Tops.{attributes_top}
use Rattle.template_machine.proofs.Ways.{entered_room, one_element, open_more, way_attribute, way_here, way_left, way_resumed}
use Rattle.template_machine.specs.Sections.{HoldsSection, IsHeldWell}
use Rattle.template_machine.proofs.Shelved.{stands_still}
use Rattle.template_machine.proofs.Nodes.{is_way}

-- a run whose list goes on
pub list_goes : (p : Program) (r : Run) (w : IsWell p r) → r.doing ≡ doing.List
    → GoesOn p w.stations doing.List r.source.ahead (reverse r.frames.frames) (standing_of r) (known_now r)
list_goes p r w is = subst (λ d. GoesOn p w.stations d r.source.ahead (reverse r.frames.frames) (standing_of r) (known_now r)) is w.goes_on

pub list_there : (p : Program) (stations : List Station) (a : Ahead) (fs : List Frame) (s : Standing) (k : Known) → a ≢ ahead.Here → GoesOn p stations doing.List a fs s k
    → ListGoesOn p stations fs s k
list_there p stations ahead.Here fs s k apart g = absurd (apart refl)
list_there p stations ahead.Nothing fs s k apart g = g
list_there p stations ahead.Held fs s k apart g = g
list_there p stations ahead.Ended fs s k apart g = g

-- attributes come from their element: no head is the current node
takes_no_next : (fs : List Frame) (next : ℕ) → takes_events fs ≡ true → next_in fs ≡ Some next → ⊥
takes_no_next fs next t e = false≢true (sym (ap is_none e) ∙ t)

attributes_apart : (p : Program) (stations : List Station) (a : Ahead) (fs : List Frame) (s : Standing) (k : Known) (next : ℕ) → next_in fs ≡ Some next
    → GoesOn p stations doing.List a fs s k → a ≢ ahead.Here
attributes_apart p stations ahead.Here fs s k next e g is = takes_no_next fs next (noskip_of fs (left s.source.way) g.list).0 e
attributes_apart p stations ahead.Nothing fs s k next e g is = cc
attributes_apart p stations ahead.Held fs s k next e g is = cc
attributes_apart p stations ahead.Ended fs s k next e g is = cc

pub record AttributesGoOn (p : Program) (r : Run) (stations : List Station) (next : ℕ) : Type 0 where
  pub apart : r.source.ahead ≢ ahead.Here
  pub asked : ℕ
  pub frames : List Frame
  pub is : reverse r.frames.frames ≡ Attributes next asked ∷ frames
  pub list : ListGoesOn p stations (Attributes next asked ∷ frames) (standing_of r) (known_now r)

pub attributes_go_on : (p : Program) (r : Run) (w : IsWell p r) (next : ℕ) → r.doing ≡ doing.List → next_in (reverse r.frames.frames) ≡ Some next
    → AttributesGoOn p r w.stations next
attributes_go_on p r w next is at =
    let fs = reverse r.frames.frames in
    let s = standing_of r in
    let g = list_goes p r w is in
    let apart = attributes_apart p w.stations r.source.ahead fs s (known_now r) next at g in
    let t = attributes_top fs next at in
    record {
      apart = apart;
      asked = t.0;
      frames = t.1.0;
      is = t.1.1;
      list = subst (λ l. ListGoesOn p w.stations l s (known_now r)) t.1.1 (list_there p w.stations r.source.ahead fs s (known_now r) apart g);
    }

attribute_there : (xs : List Attr) (n : ℕ) → n < length xs → (a : Attr) × (slice_get xs n ≡ Some a)
attribute_there [] n h = absurd (omega (arith, h))
attribute_there (x ∷ xs) zero h = (x, refl)
attribute_there (x ∷ xs) (suc n) h = attribute_there xs n (omega (arith, h))

-- The next attribute is the current node.
pub attribute_taken : (p : Program) (r n : Run) (w : IsWell p r) (next : ℕ) → (g : AttributesGoOn p r w.stations next)
    → next < length (attributes (current (path r.source.stack))) → SameBut r n → path n.source.stack ≡ paths.at_attribute next (path r.source.stack)
    → n.source ≡ record r.source { stack = n.source.stack } → reverse n.frames.frames ≡ Attributes (next + 1) g.asked ∷ g.frames → HasHead p n
attribute_taken p r n w next g there same is source frames =
    let s = standing_of r in
    let v = s.source.way in
    let a = attribute_there (attributes (current (path r.source.stack))) next there in
    let x : Node = Attribute a.0 in
    let way : way_of (path n.source.stack) ≡ entered x v = ap way_of is ∙ way_attribute next (path r.source.stack) a.0 a.1 in
    let limit : (path n.source.stack).limit ≡ (path r.source.stack).limit = ap (λ (u : Way). u.limit) way in
    let ahead : n.source.ahead ≡ r.source.ahead = ap (λ (y : sources.Source). y.ahead) source in
    let held : held_node n.source ≡ held_node r.source = ap held_node source in
    let begun : n.source.begun ≡ r.source.begun = ap (λ (y : sources.Source). y.begun) source in
    let next_same : n.source.next ≡ r.source.next = ap (λ (y : sources.Source). y.next) source in
    let origin : n.source.origin ≡ r.source.origin = ap (λ (y : sources.Source). y.origin) source in
    let well = source_entered r.source n.source x w.steady.source way (ap (λ (y : sources.Source). y.bindings) source) (still_held r.source n.source w.steady.source ahead held)
    (omega (arith, open_more x v, w.steady.source.room)) (subst (λ b. b ≤ v.limit + 1) (sym begun) w.steady.source.counted) tt in
    let stand = same_standing r n (record { origin = r.source.origin; way = entered x v }) same (stream_parts n.source r.source.origin (entered x v) origin way) in
    let known = known_parts n.source r.source.ahead r.source.held r.source.begun ahead held begun in
    let within : TellWithin (Attributes next g.asked ∷ g.frames) (rooms_of r) s.shelves = subst (λ l. TellWithin l (rooms_of r) s.shelves) g.is w.steady.within in
    let many : length (attributes (here v)) ≡ length (attributes (current (path r.source.stack))) = ap (λ o. length (attributes o)) (way_here (path r.source.stack)) in
    let head : HeadIsThere p w.stations (Attributes (next + 1) g.asked ∷ g.frames) (with_way (entered x v) s) (known_now r) = record {
      well = (refl, g.list.well.1, omega (arith, many, there), g.list.well.3);
      head = refl;
      apart = refl;
      take = refl;
      fits = g.list.fits.1;
    } in
    record {
      steady =
          same_steady p r n w.steady same well
          (subst (λ l. TellWithin l (room_of n.source ∷ map room_of (reverse r.outer.items)) s.shelves) (sym frames)
          (subst (λ y. TellWithin g.frames (y ∷ map room_of (reverse r.outer.items)) s.shelves) (sym (room_same r.source n.source limit begun next_same)) within));
      stations = w.stations;
      stand = w.stand;
      apart = λ e. g.apart (sym ahead ∙ e);
      head =
          subst (λ l. HeadIsThere p w.stations l (standing_of n) (known_now n)) (sym frames)
          (subst (λ y. HeadIsThere p w.stations (Attributes (next + 1) g.asked ∷ g.frames) y (known_now n)) (sym stand)
          (subst (HeadIsThere p w.stations (Attributes (next + 1) g.asked ∷ g.frames) (with_way (entered x v) s)) (sym known) head));
    }

-- Attributes are over, and the body waits.
pub asks_level : (fs : List Frame) (asked : ℕ) → AsksBefore fs asked → IsSome (level_in fs)
asks_level [] asked a = absurd a
asks_level (Loop turn ∷ fs) asked a = asks_level fs asked a
asks_level (Body template alternative pc locals level spent ∷ fs) asked a = refl
asks_level (Call procedure pc locals level ∷ fs) asked a = refl
asks_level (f ∷ fs) asked a = absurd a

pub attributes_over : (p : Program) (r n : Run) (w : IsWell p r) (next : ℕ) → (g : AttributesGoOn p r w.stations next) → SameBut r n → n.source ≡ r.source
    → reverse n.frames.frames ≡ g.frames → IsWaiting p n
attributes_over p r n w next g same source frames =
    let s = standing_of r in
    let within : TellWithin g.frames (rooms_of r) s.shelves = subst (λ l. TellWithin l (rooms_of r) s.shelves) g.is w.steady.within in
    waits_by p n w.stations g.frames s (known_now r) w.stand (source_steady p r n g.frames w.steady same source frames within)
    (λ e. g.apart (sym (ap (λ (x : sources.Source). x.ahead) source) ∙ e)) frames (source_standing r n same source) (ap known_of source)
    (attributes_end p w.stations g.frames s next g.asked (known_now r) (asks_level g.frames g.asked g.list.well.1) g.list)

-- A head that is held.

waits_noskip : (fs : List Frame) (w : Way) (n : ℕ) (x : Node) → ListFits fs w n (Waits x) → takes_events fs ≡ true → skipped_in fs ≡ None
waits_noskip [] w n x h t = refl
waits_noskip (Attributes next asked ∷ fs) w n x h t = absurd (false≢true t)
waits_noskip (Skip depth ∷ fs) w n x h t = absurd h
waits_noskip (f ∷ fs) w n x h t = refl

pub record HoldsHead (p : Program) (r : Run) (stations : List Station) : Type 0 where
  pub node : Parked
  pub is : r.source.held ≡ Some node
  pub section : HoldsSection (path_node node).node
  pub list : HasList (standing_of r).source.way
  pub can : CanReturn (path_node node).node (standing_of r).source.way
  pub room : lists_on (entered (path_node node).node (standing_of r).source.way) ≡ r.source.begun
  pub head :
      NodeIsThere p stations (reverse r.frames.frames) (with_way (entered (path_node node).node (standing_of r).source.way) (standing_of r))
      (record { front = Unknown; begun = r.source.begun })

some_parked : (o : Option Parked) → IsSome o → (q : Parked) × (o ≡ Some q)
some_parked None e = absurd (false≢true e)
some_parked (Some q) e = (q, refl)

pub holds_head : (p : Program) (r : Run) (w : IsWell p r) → r.doing ≡ doing.List → r.source.ahead ≡ ahead.Held → takes_events (reverse r.frames.frames) ≡ true
    → HoldsHead p r w.stations
holds_head p r w is at events =
    let fs = reverse r.frames.frames in
    let s = standing_of r in
    let v = s.source.way in
    let q = some_parked r.source.held (is_held r.source.held (w.steady.source.held at)) in
    let x = (path_node q.0).node in
    let k : Known = record { front = Waits x; begun = r.source.begun } in
    let known : known_now r ≡ k =
    ap (λ a. record { front = front_of a r.source.held; begun = r.source.begun }) at
    ∙ ap (λ o. record { front = front_of ahead.Held o; begun = r.source.begun }) q.1 in
    let g : GoesOn p w.stations doing.List ahead.Held fs s k =
    subst (GoesOn p w.stations doing.List ahead.Held fs s) known (subst (λ a. GoesOn p w.stations doing.List a fs s (known_now r)) at (list_goes p r w is)) in
    let none = waits_noskip fs v r.source.begun x g.fits events in
    let l = list_parts fs v r.source.begun (Waits x) events none g.fits in
    record {
      node = q.0;
      is = q.1;
      section = subst IsHeldWell q.1 (w.steady.source.held at);
      list = l.0;
      can = l.2.0;
      room = l.2.1;
      head = held_there p w.stations fs s x r.source.begun g.well events none g.fits (ends_leaf x l.2.0.end);
    }

-- is the current node again
pub head_resumed : (p : Program) (r n : Run) (w : IsWell p r) → (h : HoldsHead p r w.stations) → SameBut r n → reverse n.frames.frames ≡ reverse r.frames.frames
    → path n.source.stack ≡ paths.resumed (path_node h.node) (path r.source.stack) → n.source.bindings ≡ within_node (path_node h.node).node r.source.bindings
    → n.source.ahead ≡ ahead.Here → n.source.origin ≡ r.source.origin → (n.source.begun ≡ r.source.begun) × (n.source.next ≡ r.source.next) → n.doing ≡ doing.List → IsWell p n
head_resumed p r n w h same frames is scopes at origin counts doing =
    let s = standing_of r in
    let v = s.source.way in
    let x = (path_node h.node).node in
    let way : way_of (path n.source.stack) ≡ entered x v = ap way_of is ∙ way_resumed (path_node h.node) (path r.source.stack) in
    let limit : (path n.source.stack).limit ≡ (path r.source.stack).limit = ap (λ (u : Way). u.limit) way in
    let source = source_entered r.source n.source x w.steady.source way scopes (λ e. absurd (not_held (sym at ∙ e)))
    (entered_room x v r.source.begun v.limit (ends_apart x h.can.end) (is_way r.source.stack) h.room w.steady.source.counted)
    (subst (λ b. b ≤ v.limit + 1) (sym counts.0) w.steady.source.counted) h.section in
    let stand = same_standing r n (record { origin = r.source.origin; way = entered x v }) same (stream_parts n.source r.source.origin (entered x v) origin way) in
    let known : known_now n ≡ record { front = Unknown; begun = r.source.begun } =
    ap (λ a. record { front = front_of a n.source.held; begun = n.source.begun }) at ∙ ap (λ b. record { front = Unknown; begun = b }) counts.0 in
    well_head_at p n w.stations (reverse r.frames.frames) (with_way (entered x v) s) (record { front = Unknown; begun = r.source.begun }) w.stand
    (same_steady p r n w.steady same source (same_within p r n w.steady frames (room_same r.source n.source limit counts.0 counts.1))) doing at frames stand known h.head
  where
    not_held : ahead.Here ≡ ahead.Held → ⊥
    not_held e = cc

-- The list has ended.
pub list_ended : (p : Program) (r : Run) (w : IsWell p r) → r.doing ≡ doing.List → r.source.ahead ≡ ahead.Ended → takes_events (reverse r.frames.frames) ≡ true
    → ListIsOver p (record r { source = record r.source { ahead = ahead.Nothing } })
list_ended p r w is at events =
    let fs = reverse r.frames.frames in
    let s = standing_of r in
    let n = record r { source = record r.source { ahead = ahead.Nothing } } in
    let but : SameBut r n = record { outer = refl; aside = refl; store = refl; putting = stands_still r.putting } in
    let k : Known = record { front = Over; begun = r.source.begun } in
    let known : known_now r ≡ k = ap (λ a. record { front = front_of a r.source.held; begun = r.source.begun }) at in
    let g : GoesOn p w.stations doing.List ahead.Ended fs s k =
    subst (GoesOn p w.stations doing.List ahead.Ended fs s) known (subst (λ a. GoesOn p w.stations doing.List a fs s (known_now r)) at (list_goes p r w is)) in
    record {
      steady =
          same_steady p r n w.steady but (source_stays r.source n.source w.steady.source refl refl (λ e. absurd (not_held e)) w.steady.source.counted) w.steady.within;
      stations = w.stations;
      stand = w.stand;
      ahead = refl;
      list = events;
      well = g.well;
      fits = g.fits;
    }
  where
    not_held : ahead.Nothing ≡ ahead.Held → ⊥
    not_held e = cc

-- The head is looked at.
pub head_looked : (p : Program) (r : Run) (w : IsWell p r) → r.doing ≡ doing.List → r.source.ahead ≡ ahead.Here
    → HeadIsLooked p (record r { source = record r.source { ahead = ahead.Nothing } })
head_looked p r w is at =
    let fs = reverse r.frames.frames in
    let s = standing_of r in
    let n = record r { source = record r.source { ahead = ahead.Nothing } } in
    let but : SameBut r n = record { outer = refl; aside = refl; store = refl; putting = stands_still r.putting } in
    let known : known_now r ≡ record { front = Unknown; begun = r.source.begun } = ap (λ a. record { front = front_of a r.source.held; begun = r.source.begun }) at in
    let g : NodeIsThere p w.stations fs s (record { front = Unknown; begun = r.source.begun }) =
    subst (NodeIsThere p w.stations fs s) known (subst (λ a. GoesOn p w.stations doing.List a fs s (known_now r)) at (list_goes p r w is)) in
    record {
      steady =
          same_steady p r n w.steady but (source_stays r.source n.source w.steady.source refl refl (λ e. absurd (not_held e)) w.steady.source.counted) w.steady.within;
      stations = w.stations;
      stand = w.stand;
      ahead = refl;
      head = g;
    }
  where
    not_held : ahead.Nothing ≡ ahead.Held → ⊥
    not_held e = cc

-- A head that is looked at is taken.
pub looked_head : (p : Program) (r : Run) → HeadIsLooked p r → HasHead p r
looked_head p r h = record {
  steady = h.steady;
  stations = h.stations;
  stand = h.stand;
  apart = λ e. not_here (sym h.ahead ∙ e);
  head = h.head.there;
}
  where
    not_here : ahead.Nothing ≡ ahead.Here → ⊥
    not_here e = cc

-- Or it ends a region, and is held.

put_back : (w : Way) (x : Node) → here w ≡ Some x → entered x (left w) ≡ w
put_back w x e = by_nodes w.limit w.nodes e
  where
    by_nodes : (limit : ℕ) (nodes : List Node) → first_in nodes ≡ Some x → entered x (left (record { limit = limit; nodes = nodes })) ≡ record { limit = limit; nodes = nodes }
    by_nodes limit [] e = absurd (cc)
    by_nodes limit (y ∷ ys) e = let same : y ≡ x = cc in ap (λ z. record { limit = limit; nodes = z ∷ ys }) (sym same)

region_takes : (fs : List Frame) (w : Way) → StandOnRegion fs → TakeNodes fs w → HasList w
region_takes [] w on t = absurd on
region_takes (Region asked level ∷ fs) w on t = t
region_takes (f ∷ fs) w on t = absurd on

can_return : (x : Node) (w : Way) (b : Bool) → is_element x ≡ b → HasList (left w) → can_end (Some x) ≡ true → here w ≡ Some x → open_on w ≤ w.limit → CanReturn x (left w)
can_return x w b is list end there room = record {
  children = list;
  room = λ e. let more = open_here w x there in let one = one_element x e in omega (arith, more, one, room);
  end = end;
}

pub head_held : (p : Program) (r n : Run) (x : PathNode) (h : HeadIsLooked p r) → StandOnRegion (reverse r.frames.frames) → last_of (path r.source.stack).nodes ≡ Some x
    → SameBut r n → reverse n.frames.frames ≡ reverse r.frames.frames → path n.source.stack ≡ paths.left (path r.source.stack)
    → n.source.bindings ≡ around_node (current (path r.source.stack)) r.source.bindings → n.source.ahead ≡ ahead.Held → held_node n.source ≡ Some (parked x)
    → n.source.origin ≡ r.source.origin → (n.source.begun ≡ r.source.begun) × (n.source.next ≡ r.source.next) → RegionIsOver p n
head_held p r n x h on last same frames gone scopes at held origin counts =
    let fs = reverse r.frames.frames in
    let s = standing_of r in
    let v = s.source.way in
    let is : current (path r.source.stack) ≡ Some x.node = ap (option_map (λ (y : PathNode). y.node)) last in
    let top : here v ≡ Some x.node = way_here (path r.source.stack) ∙ is in
    let way : way_of (path n.source.stack) ≡ left v = ap way_of gone ∙ way_left (path r.source.stack) in
    let limit : (path n.source.stack).limit ≡ (path r.source.stack).limit = ap (λ (q : paths.Path). q.limit) gone in
    let source = source_left r.source n.source x.node h.steady.source is gone scopes (λ e. held_by n.source.held (parked x) held (first_section v.nodes x.node top h.steady.source.sections)) counts.0 in
    let stand = same_standing r n (record { origin = r.source.origin; way = left v }) same (stream_parts n.source r.source.origin (left v) origin way) in
    let end : can_end (Some x.node) ≡ true = ap can_end (sym top) ∙ h.head.end in
    let list : HasList (left v) = region_takes fs (left v) on h.head.list in
    let o : IsOpen v r.source.begun (known_now r).front =
    subst (λ b. MatchBool b (IsSettled fs (left v) r.source.begun (known_now r).front) (IsOpen v r.source.begun (known_now r).front))
    (ap is_attribute top ∙ ends_leaf x.node end) h.head.there.fits in
    let back = put_back v x.node top in
    let fits : IsFrontFor (left v) r.source.begun (Waits x.node) =
    (can_return x.node v (is_element x.node) refl list end top h.steady.source.room, subst (λ u. lists_on u ≡ r.source.begun) (sym back) o.1) in
    let front : (known_now n).front ≡ Waits x.node = ap (λ a. front_of a n.source.held) at ∙ held_front_is n.source.held held in
    record {
      steady = same_steady p r n h.steady same source (same_within p r n h.steady frames (room_same r.source n.source limit counts.0 counts.1));
      stations = h.stations;
      stand = h.stand;
      apart = λ e. not_here (sym at ∙ e);
      region = subst StandOnRegion (sym frames) on;
      well = subst (λ l. AreWell p h.stations 0 true l (standing_of n)) (sym frames) (subst (AreWell p h.stations 0 true fs) (sym stand) h.head.there.well);
      list = subst (λ (y : Standing). HasList y.source.way) (sym stand) list;
      fits =
          subst (λ (y : Standing). IsFrontFor y.source.way n.source.begun (known_now n).front) (sym stand)
          (subst (IsFrontFor (left v) n.source.begun) (sym front) (subst (λ b. IsFrontFor (left v) b (Waits x.node)) (sym counts.0) fits));
    }
  where
    not_here : ahead.Held ≡ ahead.Here → ⊥
    not_here e = cc

    held_front_is : (o : Option Parked) → option_map path_node o ≡ Some (parked x) → front_of ahead.Held o ≡ Waits x.node
    held_front_is None e = absurd (cc)
    held_front_is (Some q) e = let same : path_node q ≡ parked x = cc in ap (λ (y : PathNode). Waits y.node) same

-- who asked for the next attribute
pub attributes_asker : (p : Program) (r : Run) (w : IsWell p r) (next : ℕ) → (g : AttributesGoOn p r w.stations next) → AreBased p → (more : ℕ)
    → HasAsker p (Attributes more g.asked ∷ g.frames)
attributes_asker p r w next g based more =
    let l = list_asked p w.stations g.frames (standing_of r) g.asked g.list.well.1 g.list.well.3 in ((l.1, based g.asked l.1), l.0)

-- who asked for the nodes of a list
pub head_asker : (p : Program) (r : Run) → (h : HeadIsLooked p r) → AreBased p → 0 < length p.sheet.groups → HasAsker p (reverse r.frames.frames)
head_asker p r h based root =
    let fs = reverse r.frames.frames in
    has_asker p h.stations fs (node_over (standing_of r)) based root (noskip_of fs (left (standing_of r).source.way) h.head.list).1 h.head.there.well
