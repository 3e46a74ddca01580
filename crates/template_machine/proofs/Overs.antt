-- Lists, regions and nodes that are over.
use Rattle.std.proofs.Common.{◌≡◌, ◌≢◌, ℕ, ◌+◌, ◌<◌, ◌≤◌, Bool, true, false, List, [], ◌∷◌, length, map, reverse, Option, Some, None, IsSome, refl, ap, sym, subst, ◌∙◌, arith}
use Rattle.std.specs.Prelude.{All, MatchBool}
use Rattle.std.specs.Option.{option_map}
use Rattle.var_store.specs.Copies.{Stored}
use Rattle.std.proofs.lemmas.Bool.{false≢true}
use Rattle.frame_stack.specs.Stack.{FrameStack}
use Rattle.frame_stack.specs.declared.frame.Frame.{Frame}
use Rattle.frame_stack.specs.declared.frame.Frame.TheVariants.{Attributes, Region, Skip}
use Rattle.node_stack.specs.Path as paths
use Rattle.node_stack.specs.Path.{Node, PathNode, Document, can_end, can_have_children, current, is_attribute, is_element, last_of}
use Rattle.node_stack.specs.Stack.{path}
use Rattle.template_machine.specs.Bodies.{level_in, skipped_in, takes_events}
use Rattle.template_machine.specs.Contexts.{Station}
use Rattle.template_machine.specs.Lists.{rest_of}
use Rattle.template_machine.specs.Sources.{around_node, held_node, within_node}
use Rattle.template_machine.specs.Standing.{Front, Known, Over, Standing, Unknown, front_of, known_now, node_over, outer_of, region_over, room_of, rooms_of, skip_over, skipped_by, standing_of, waits_from_here}
use Rattle.template_machine.specs.Ways.{Way, entered, first_in, here, left, lists_on, open_on, way_of}
use Rattle.template_machine.specs.Moments.{Follows, GoesOrWaits, IsDocument, ListIsOver, NodeIsOver, PutsAside, RegionIsOver, StandsAsBefore}
use Rattle.template_machine.specs.Well.{AreGone, AreWell, BodyWaits, CanReturn, CanTake, HasList, IsFrontFor, IsSettled, IsOuterWell, IsSourceWell, IsSteady, IsWaiting, IsWell, ListFits, ListGoesOn, OnFirst, StandOnRegion, TellWithin}
use Rattle.template_machine.specs.declared.program.Program.{Program}
use Rattle.template_machine.specs.Scopes.{Scopes}
use Rattle.template_machine.specs.declared.run.Doing.TheVariants as doing
use Rattle.template_machine.specs.declared.run.Step.{Step}
use Rattle.template_machine.specs.declared.run.Step.TheVariants as step
use Rattle.template_machine.specs.declared.run.Run.{Run}
use Rattle.template_machine.specs.declared.source.Ahead.{Ahead}
use Rattle.template_machine.specs.declared.source.Ahead.TheVariants as ahead
use Rattle.template_machine.specs.declared.source.Source as sources
use Rattle.template_machine.proofs.Arriving.{ends_leaf, known_nothing}
use Rattle.template_machine.proofs.Going.{SameBut, same_standing, same_steady, same_within, standing_parts, steady_on, waits_by, well_list_at}
use Rattle.template_machine.proofs.Grounded.{none_open}
use Rattle.template_machine.proofs.Leaving.{around, node_leaves}
use Rattle.template_machine.proofs.Nodes.{is_way}
use Rattle.template_machine.proofs.Regions.{region_ends, settles}
use Rattle.template_machine.proofs.Sourcing.{counted_node, known_parts, none_counted, room_same, source_entered, source_left, source_stays, still_held, stream_parts, behind_first, first_section}
use Rattle.template_machine.proofs.Tops.{skip_top}
use Rattle.template_machine.proofs.Ways.{one_element, open_more, way_here, way_left, way_resumed}
use Rattle.std.proofs.lemmas.List.Elements.{All-cons, All-head, All-tail}
use Rattle.template_machine.specs.Sections.{HoldsSection, WaitsWell}
use Rattle.template_machine.proofs.Shelved.{stands_still}

-- A node is over: the list goes on behind it.

no_change : (a b : Ahead) → a ≡ b → b ≢ ahead.Here → a ≢ ahead.Here
no_change a b same apart e = apart (sym same ∙ e)

pub node_left : (p : Program) (r n : Run) (x : Node) → NodeIsOver p r → (x ≡ Document → ⊥) → current (path r.source.stack) ≡ Some x → SameBut r n
    → reverse n.frames.frames ≡ reverse r.frames.frames → path n.source.stack ≡ paths.left (path r.source.stack)
    → n.source.bindings ≡ around_node (current (path r.source.stack)) r.source.bindings → n.source.ahead ≡ r.source.ahead → held_node n.source ≡ held_node r.source
    → n.source.origin ≡ r.source.origin → (n.source.begun ≡ r.source.begun) × (n.source.next ≡ r.source.next) → n.doing ≡ doing.List → IsWell p n
node_left p r n x h inner is same frames gone scopes ahead held origin counts doing =
    let s = standing_of r in
    let v = s.source.way in
    let top : here v ≡ Some x = way_here (path r.source.stack) ∙ is in
    let way : way_of (path n.source.stack) ≡ left v = ap way_of gone ∙ way_left (path r.source.stack) in
    let source = source_left r.source n.source x h.steady.source is gone scopes (still_held r.source n.source h.steady.source ahead held) counts.0 in
    let stand = same_standing r n (record { origin = r.source.origin; way = left v }) same (stream_parts n.source r.source.origin (left v) origin way) in
    let known = known_parts n.source r.source.ahead r.source.held r.source.begun ahead held counts.0 in
    well_list_at p n h.stations (reverse r.frames.frames) (node_over s) (known_now r) h.stand
    (same_steady p r n h.steady same source (same_within p r n h.steady frames (room_same r.source n.source (ap (λ (q : paths.Path). q.limit) gone) counts.0 counts.1)))
    doing (no_change n.source.ahead r.source.ahead ahead h.apart) frames stand known
    (h.list (λ e. inner (same_node (sym top ∙ e))))
  where
    same_node : {a b : Node} → Some a ≡ Some b → a ≡ b
    same_node e = cc

-- The children of a body's node are over, and the body waits.

pub level_fits : (fs : List Frame) (w : Way) (n : ℕ) (front : Front) → IsSome (level_in fs) → ListFits fs w n front → HasList w × AreGone fs × IsFrontFor w n front
level_fits [] w n front some h = absurd h
level_fits (Attributes next asked ∷ fs) w n front some h = absurd (false≢true some)
level_fits (Skip depth ∷ fs) w n front some h = absurd (false≢true some)
level_fits (f ∷ fs) w n front some h = h

no_attribute : (o : Option Node) → can_have_children o ≡ true → is_attribute o ≡ false
no_attribute None e = absurd (false≢true e)
no_attribute (Some (paths.Attribute a)) e = absurd (false≢true e)
no_attribute (Some n) e = refl

not_here : (a : Ahead) → a ≡ ahead.Nothing → a ≢ ahead.Here
not_here a is e = let both : ahead.Nothing ≡ ahead.Here = sym is ∙ e in cc

pub children_over : (p : Program) (r : Run) → ListIsOver p r → IsSome (level_in (reverse r.frames.frames)) → IsWaiting p r
children_over p r h some =
    let fs = reverse r.frames.frames in
    let s = standing_of r in
    let k : Known = record { front = Unknown; begun = r.source.begun } in
    let l = level_fits fs s.source.way r.source.begun Over some h.fits in
    waits_by p r h.stations fs s k h.stand h.steady (not_here r.source.ahead h.ahead) refl refl (known_nothing r h.ahead)
    (record {
      body = some;
      well = h.well;
      fits =
          settles p h.stations 0 true fs s s.source.way r.source.begun Unknown refl h.well some (λ has. l.1 some)
          (no_attribute (here s.source.way) l.0) l.2;
    })

-- A region is over.

region_fits : (fs : List Frame) (w : Way) (n : ℕ) (front : Front) → StandOnRegion fs → ListFits fs w n front → HasList w × IsFrontFor w n front
region_fits [] w n front on h = absurd on
region_fits (Region asked level ∷ fs) w n front on h = (h.0, h.2)
region_fits (f ∷ fs) w n front on h = absurd on

-- its list has ended
pub region_found_over : (p : Program) (r n : Run) → ListIsOver p r → StandOnRegion (reverse r.frames.frames) → SameBut r n
    → reverse n.frames.frames ≡ reverse r.frames.frames → path n.source.stack ≡ path r.source.stack → n.source.bindings ≡ r.source.bindings
    → n.source.ahead ≡ ahead.Ended → n.source.origin ≡ r.source.origin → (n.source.begun ≡ r.source.begun) × (n.source.next ≡ r.source.next) → RegionIsOver p n
region_found_over p r n h on same frames is scopes at origin counts =
    let fs = reverse r.frames.frames in
    let s = standing_of r in
    let v = s.source.way in
    let l = region_fits fs v r.source.begun Over on h.fits in
    let source = source_stays r.source n.source h.steady.source is scopes (λ e. absurd (not_held (sym at ∙ e)))
    (subst (λ b. b ≤ v.limit + 1) (sym counts.0) h.steady.source.counted) in
    let stand : standing_of n ≡ s = same_standing r n s.source same (stream_parts n.source r.source.origin v origin (ap way_of is)) in
    record {
      steady =
          same_steady p r n h.steady same source
          (same_within p r n h.steady frames (room_same r.source n.source (ap (λ (q : paths.Path). q.limit) is) counts.0 counts.1));
      stations = h.stations;
      stand = h.stand;
      apart = λ e. not_started (sym at ∙ e);
      region = subst StandOnRegion (sym frames) on;
      well = subst (λ x. AreWell p h.stations 0 true x (standing_of n)) (sym frames) (subst (AreWell p h.stations 0 true fs) (sym stand) h.well);
      list = subst (λ (x : Standing). HasList x.source.way) (sym stand) l.0;
      fits =
          subst (λ (x : Standing). IsFrontFor x.source.way n.source.begun (known_now n).front) (sym stand)
          (subst (λ a. IsFrontFor v n.source.begun (front_of a n.source.held)) (sym at) (subst (λ b. IsFrontFor v b Over) (sym counts.0) l.1));
    }
  where
    not_held : ahead.Ended ≡ ahead.Held → ⊥
    not_held e = cc

    not_started : ahead.Ended ≡ ahead.Here → ⊥
    not_started e = cc

-- the first that waits beside the path, with those around it
on_first : (xs : List (Option Node)) (P : Node → List (Option Node) → Type 0) → OnFirst xs P → (x : Node) × ((others : List (Option Node)) × ((xs ≡ Some x ∷ others) × P x others))
on_first [] P h = absurd h
on_first (None ∷ xs) P h = absurd h
on_first (Some x ∷ xs) P h = (x, (xs, (refl, h)))

region_top : (fs : List Frame) → StandOnRegion fs → (asked : ℕ) × ((level : ℕ) × ((gs : List Frame) × (fs ≡ Region asked level ∷ gs)))
region_top [] on = absurd on
region_top (Region asked level ∷ fs) on = (asked, (level, (fs, refl)))
region_top (f ∷ fs) on = absurd on

-- what a region finds: the node that waits, and that it can return
pub record RegionFinds (p : Program) (r : Run) (stations : List Station) : Type 0 where
  pub asked : ℕ
  pub level : ℕ
  pub frames : List Frame
  pub is : reverse r.frames.frames ≡ Region asked level ∷ frames
  pub node : Node
  pub others : List (Option Node)
  pub aside : (standing_of r).aside ≡ Some node ∷ others
  pub can : CanReturn node (standing_of r).source.way
  pub waits : BodyWaits p stations frames (region_over node others (standing_of r)) (known_now r)

pub region_finds : (p : Program) (r : Run) → (h : RegionIsOver p r) → RegionFinds p r h.stations
region_finds p r h =
    let fs = reverse r.frames.frames in
    let s = standing_of r in
    let t = region_top fs h.region in
    let w : AreWell p h.stations 0 true (Region t.0 t.1.0 ∷ t.1.1.0) s = subst (λ l. AreWell p h.stations 0 true l s) t.1.1.1 h.well in
    let o = on_first s.aside _ w.3 in
    let can = o.1.1.1.0 in
    let e = region_ends p h.stations t.1.1.0 s t.0 t.1.0 (known_now r) o.0 o.1.0 w o.1.1.0 (ends_leaf o.0 can.end) h.fits in
    record {
      asked = t.0;
      level = t.1.0;
      frames = t.1.1.0;
      is = t.1.1.1;
      node = o.0;
      others = o.1.0;
      aside = o.1.1.0;
      can = can;
      waits = e.1;
    }

-- The node that waited is the current one again, and its body waits in turn.
pub region_resumes : (p : Program) (r n : Run) (h : RegionIsOver p r) (x : PathNode) → (f : RegionFinds p r h.stations) → x.node ≡ f.node
    → n.outer.items ≡ r.outer.items → (standing_of n).aside ≡ f.others → n.store ≡ r.store → StandsAsBefore r.putting n.putting
    → reverse n.frames.frames ≡ f.frames → path n.source.stack ≡ paths.resumed x (path r.source.stack) → n.source.bindings ≡ within_node x.node r.source.bindings
    → n.source.ahead ≡ r.source.ahead → held_node n.source ≡ held_node r.source → n.source.origin ≡ r.source.origin
    → (n.source.begun ≡ r.source.begun) × (n.source.next ≡ r.source.next) → IsWaiting p n
region_resumes p r n h x f same outer aside store putting frames is scopes ahead held origin counts =
    let s = standing_of r in
    let v = s.source.way in
    let way : way_of (path n.source.stack) ≡ entered x.node v = ap way_of is ∙ way_resumed x (path r.source.stack) in
    let more = open_more x.node v in
    let room : open_on (entered x.node v) ≤ v.limit = room_by x.node v (is_element x.node) refl more (λ e. f.can.room (ap is_element (sym same) ∙ e)) h.steady.source.room in
    let waits : All WaitsWell (Some f.node ∷ f.others) = subst (All WaitsWell) f.aside h.steady.aside in
    let section : HoldsSection x.node = subst HoldsSection (sym same) (All-head WaitsWell (Some f.node) f.others waits) in
    let source = source_entered r.source n.source x.node h.steady.source way scopes (still_held r.source n.source h.steady.source ahead held) room
    (subst (λ b. b ≤ v.limit + 1) (sym counts.0) h.steady.source.counted) section in
    let stand : standing_of n ≡ region_over f.node f.others s =
    standing_parts (standing_of n) (region_over f.node f.others s)
    (stream_parts n.source r.source.origin (entered f.node v) origin (way ∙ ap (λ y. entered y v) same))
    (ap (λ l. map outer_of (reverse l)) outer) aside (ap reverse putting.targets) (ap (λ (l : Stored). map length l) store) putting.shelves in
    let limit : (path n.source.stack).limit ≡ (path r.source.stack).limit = ap (λ (w : Way). w.limit) way in
    let rooms : rooms_of n ≡ rooms_of r =
    ap (λ y. y ∷ map room_of (reverse n.outer.items)) (room_same r.source n.source limit counts.0 counts.1)
    ∙ ap (λ l. room_of r.source ∷ map room_of (reverse l)) outer in
    let within : TellWithin f.frames (rooms_of r) s.shelves = subst (λ l. TellWithin l (rooms_of r) s.shelves) f.is h.steady.within in
    let steady = steady_on p r n h.steady (ap (λ (l : Stored). map length l) store) (ap reverse putting.targets) putting.shelves source
    (subst (All IsOuterWell) (sym outer) h.steady.outer)
    (subst (λ l. TellWithin l (rooms_of n) (standing_of n).shelves) (sym frames)
    (subst (λ l. TellWithin f.frames l (standing_of n).shelves) (sym rooms)
    (subst (TellWithin f.frames (rooms_of r)) (sym putting.shelves) within))) putting.holds
    (subst (All WaitsWell) (sym aside) (All-tail WaitsWell (Some f.node) f.others waits)) in
    waits_by p n h.stations f.frames (region_over f.node f.others s) (known_now r) h.stand steady (no_change n.source.ahead r.source.ahead ahead h.apart) frames stand
    (known_parts n.source r.source.ahead r.source.held r.source.begun ahead held counts.0) f.waits
  where
    room_by : (x : Node) (w : Way) (b : Bool) → is_element x ≡ b → open_on (entered x w) ≡ counted_node x + open_on w → (is_element x ≡ true → open_on w < w.limit)
        → open_on w ≤ w.limit → open_on (entered x w) ≤ w.limit
    room_by x w true e more f room = omega (arith, more, one_element x e, f e)
    room_by x w false e more f room = omega (arith, more, none_counted x e, room)

-- The children of a node that were skipped are over.

pub record SkipFinds (p : Program) (r : Run) (stations : List Station) : Type 0 where
  pub depth : ℕ
  pub frames : List Frame
  pub is : reverse r.frames.frames ≡ Skip depth ∷ frames
  pub list : HasList (standing_of r).source.way
  pub aside : first_in (standing_of r).aside ≡ Some None → (can_end (here (standing_of r).source.way) ≡ true) × StandOnRegion frames
  pub taken : first_in (standing_of r).aside ≢ Some None → CanTake frames (standing_of r).source.way
  pub well : AreWell p stations 0 true frames (skip_over (standing_of r))
  pub fits : lists_on (left (standing_of r).source.way) ≡ r.source.begun

pub skip_finds : (p : Program) (r : Run) → (h : ListIsOver p r) → IsSome (skipped_in (reverse r.frames.frames)) → SkipFinds p r h.stations
skip_finds p r h some =
    let s = standing_of r in
    let t = skip_top (reverse r.frames.frames) some in
    let w : AreWell p h.stations 0 true (Skip t.0 ∷ t.1.0) s = subst (λ l. AreWell p h.stations 0 true l s) t.1.1 h.well in
    record {
      depth = t.0;
      frames = t.1.0;
      is = t.1.1;
      list = w.1;
      aside = w.2;
      taken = w.3;
      well = w.4;
      fits = subst (λ l. ListFits l s.source.way r.source.begun Over) t.1.1 h.fits;
    }

-- without its frame
pub skip_steady : (p : Program) (r n : Run) (h : ListIsOver p r) → (f : SkipFinds p r h.stations) → SameBut r n → n.source ≡ r.source → reverse n.frames.frames ≡ f.frames
    → IsSteady p n
skip_steady p r n h f same source frames =
    let within : TellWithin f.frames (rooms_of r) (standing_of r).shelves = subst (λ l. TellWithin l (rooms_of r) (standing_of r).shelves) f.is h.steady.within in
    same_steady p r n h.steady same (subst IsSourceWell (sym source) h.steady.source)
    (subst (λ l. TellWithin l (room_of n.source ∷ map room_of (reverse r.outer.items)) (standing_of r).shelves) (sym frames)
    (subst (λ (x : sources.Source). TellWithin f.frames (room_of x ∷ map room_of (reverse r.outer.items)) (standing_of r).shelves) (sym source) within))

skipped_never : (aside : List (Option Node)) (s : Standing) → (first_in aside ≡ Some None → ⊥) → skipped_by aside s ≡ node_over s
skipped_never [] s never = refl
skipped_never (None ∷ others) s never = absurd (never refl)
skipped_never (Some x ∷ others) s never = refl

waits_aside : (aside : List (Option Node)) (s : Standing) → first_in aside ≡ Some None → skipped_by aside s ≡ waits_from_here s.source.way.nodes (rest_of aside) s
waits_aside [] s is = absurd (cc)
waits_aside (None ∷ others) s is = refl
waits_aside (Some x ∷ others) s is = absurd (cc)

-- the node is over
pub skip_leaves : (p : Program) (r n : Run) (h : ListIsOver p r) → (f : SkipFinds p r h.stations) → n ≡ record r { frames = n.frames } → reverse n.frames.frames ≡ f.frames
    → first_in (standing_of r).aside ≢ Some None → NodeIsOver p n
skip_leaves p r n h f is frames never =
    subst (λ m. reverse m.frames.frames ≡ f.frames → NodeIsOver p m) (sym is) (by_frames n.frames) frames
  where
    by_frames : (fs : FrameStack) → reverse fs.frames ≡ f.frames → NodeIsOver p (record r { frames = fs })
    by_frames fs same =
        let s = standing_of r in
        let m = record r { frames = fs } in
        let but : SameBut r m = record { outer = refl; aside = refl; store = refl; putting = stands_still r.putting } in
        let well : AreWell p h.stations 0 true f.frames (node_over s) = subst (AreWell p h.stations 0 true f.frames) (skipped_never s.aside s never) f.well in
        record {
          steady = skip_steady p r m h f but refl same;
          stations = h.stations;
          stand = h.stand;
          apart = not_here r.source.ahead h.ahead;
          list = λ inner.
              subst (λ l. ListGoesOn p h.stations l (node_over s) (known_now r)) (sym same)
              (subst (ListGoesOn p h.stations f.frames (node_over s)) (sym (known_nothing r h.ahead))
              (node_leaves p h.stations f.frames s (record { front = Unknown; begun = r.source.begun }) (is_way r.source.stack) inner (f.taken never)
              (subst (λ b. MatchBool b (IsSettled f.frames (left s.source.way) r.source.begun Unknown) (IsFrontFor (left s.source.way) r.source.begun Unknown))
              (sym (no_attribute (here s.source.way) f.list)) f.fits) well));
          ended = none_open p h.stations m f.frames Unknown well f.fits;
        }

-- the node waits until its region is over
region_list : (fs : List Frame) (w : Way) (n : ℕ) → StandOnRegion fs → HasList w → lists_on w ≡ n → ListFits fs w n Unknown
region_list [] w n on has room = absurd on
region_list (Region asked level ∷ fs) w n on has room = (has, (λ some. absurd (false≢true some)), room)
region_list (f ∷ fs) w n on has room = absurd on

ends_inner : (o : Option Node) → can_end o ≡ true → o ≡ Some Document → ⊥
ends_inner o e is = false≢true (sym (ap can_end is) ∙ e)

pub skip_waits : (p : Program) (r n : Run) (h : ListIsOver p r) → (f : SkipFinds p r h.stations) → n ≡ record r { frames = n.frames } → reverse n.frames.frames ≡ f.frames
    → first_in (standing_of r).aside ≡ Some None → PutsAside p n
skip_waits p r n h f is frames slot =
    subst (λ m. reverse m.frames.frames ≡ f.frames → PutsAside p m) (sym is) (by_frames n.frames) frames
  where
    by_frames : (fs : FrameStack) → reverse fs.frames ≡ f.frames → PutsAside p (record r { frames = fs })
    by_frames fs same =
        let s = standing_of r in
        let m = record r { frames = fs } in
        let t = waits_from_here s.source.way.nodes (rest_of s.aside) s in
        let but : SameBut r m = record { outer = refl; aside = refl; store = refl; putting = stands_still r.putting } in
        let found = f.aside slot in
        let well : AreWell p h.stations 0 true f.frames t = subst (AreWell p h.stations 0 true f.frames) (waits_aside s.aside s slot) f.well in
        let list = around s.source.way.nodes s.source.way.limit (is_way r.source.stack) (ends_inner (here s.source.way) found.0) in
        record {
          steady = skip_steady p r m h f but refl same;
          stations = h.stations;
          stand = h.stand;
          apart = not_here r.source.ahead h.ahead;
          slot = slot;
          end = found.0;
          list =
              subst (λ l. ListGoesOn p h.stations l t (known_now r)) (sym same)
              (subst (ListGoesOn p h.stations f.frames t) (sym (known_nothing r h.ahead))
              (record { well = well; fits = region_list f.frames (left s.source.way) r.source.begun found.1 list f.fits }));
        }

-- The current node is put aside.
pub puts_aside : (p : Program) (r n : Run) (x : PathNode) → (h : PutsAside p r) → n.outer.items ≡ r.outer.items
    → (standing_of n).aside ≡ Some x.node ∷ rest_of (standing_of r).aside → last_of (path r.source.stack).nodes ≡ Some x
    → n.store ≡ r.store → StandsAsBefore r.putting n.putting → reverse n.frames.frames ≡ reverse r.frames.frames
    → path n.source.stack ≡ paths.left (path r.source.stack) → n.source.bindings ≡ around_node (current (path r.source.stack)) r.source.bindings
    → n.source.ahead ≡ r.source.ahead → held_node n.source ≡ held_node r.source → n.source.origin ≡ r.source.origin
    → (n.source.begun ≡ r.source.begun) × (n.source.next ≡ r.source.next) → n.doing ≡ doing.List → IsWell p n
puts_aside p r n x h outer aside last store putting frames gone scopes ahead held origin counts doing =
    let s = standing_of r in
    let v = s.source.way in
    let t = waits_from_here v.nodes (rest_of s.aside) s in
    let is : current (path r.source.stack) ≡ Some x.node = ap (option_map (λ (y : PathNode). y.node)) last in
    let top : first_in v.nodes ≡ Some x.node = way_here (path r.source.stack) ∙ is in
    let way : way_of (path n.source.stack) ≡ left v = ap way_of gone ∙ way_left (path r.source.stack) in
    let source = source_left r.source n.source x.node h.steady.source is gone scopes (still_held r.source n.source h.steady.source ahead held) counts.0 in
    let stand : standing_of n ≡ t =
    standing_parts (standing_of n) t (stream_parts n.source r.source.origin (left v) origin way) (ap (λ l. map outer_of (reverse l)) outer)
    (aside ∙ ap (λ o. o ∷ rest_of s.aside) (sym top)) (ap reverse putting.targets) (ap (λ (l : Stored). map length l) store) putting.shelves in
    let rooms : rooms_of n ≡ rooms_of r =
    ap (λ y. y ∷ map room_of (reverse n.outer.items)) (room_same r.source n.source (ap (λ (q : paths.Path). q.limit) gone) counts.0 counts.1)
    ∙ ap (λ l. room_of r.source ∷ map room_of (reverse l)) outer in
    let steady = steady_on p r n h.steady (ap (λ (l : Stored). map length l) store) (ap reverse putting.targets) putting.shelves source
    (subst (All IsOuterWell) (sym outer) h.steady.outer)
    (subst (λ l. TellWithin l (rooms_of n) (standing_of n).shelves) (sym frames)
    (subst (λ l. TellWithin (reverse r.frames.frames) l (standing_of n).shelves) (sym rooms)
    (subst (TellWithin (reverse r.frames.frames) (rooms_of r)) (sym putting.shelves) h.steady.within))) putting.holds
    (subst (All WaitsWell) (sym aside)
    (All-cons WaitsWell (Some x.node) (rest_of s.aside) (first_section v.nodes x.node top h.steady.source.sections) (behind_first WaitsWell s.aside h.steady.aside))) in
    well_list_at p n h.stations (reverse r.frames.frames) t (known_now r) h.stand steady doing (no_change n.source.ahead r.source.ahead ahead h.apart) frames stand
    (known_parts n.source r.source.ahead r.source.held r.source.begun ahead held counts.0) h.list

-- A step that goes on with a list.
pub goes_or_waits : (p : Program) (step : Step) (m n : Run) → n ≡ record m { doing = doing.List } → GoesOrWaits step m → IsWell p n → Follows p step n
goes_or_waits p step.More m n e g w = w
goes_or_waits p step.Wait m n e g w = record {
  well = w;
  doing = ap (λ (x : Run). x.doing) e;
  ahead = ap (λ (x : Run). x.source.ahead) e ∙ g.0;
  list = ap (λ (x : Run). takes_events (reverse x.frames.frames)) e ∙ g.1;
  document = subst IsDocument (sym (ap (λ (x : Run). x.source.origin) e)) g.2;
}
goes_or_waits p step.Want m n e g w = absurd g
goes_or_waits p step.Over m n e g w = absurd g

-- a node that can end
pub some_end : (o : Option Node) → can_end o ≡ true → (x : Node) × ((o ≡ Some x) × (x ≡ Document → ⊥))
some_end None e = absurd (false≢true e)
some_end (Some x) e = (x, (refl, λ is. false≢true (sym (ap (λ y. can_end (Some y)) is) ∙ e)))

pub some_attribute : (o : Option Node) → is_attribute o ≡ true → (x : Node) × ((o ≡ Some x) × (x ≡ Document → ⊥) × ((scopes : Scopes) → around_node o scopes ≡ scopes))
some_attribute None e = absurd (false≢true e)
some_attribute (Some (paths.Attribute a)) e = (paths.Attribute a, (refl, (λ is. cc), λ scopes. refl))
some_attribute (Some x) e = absurd (false≢true e)
