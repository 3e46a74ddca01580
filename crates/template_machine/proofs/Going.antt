-- A run by what it stands on.
use Rattle.std.proofs.Common.{◌≡◌, ◌≢◌, ◌<◌, List, ◌∷◌, length, map, reverse, Option, refl, ap, sym, subst, ◌∙◌}
use Rattle.std.specs.Prelude.{All, IfOk, Result, Ok, Err}
use Rattle.std.specs.Option.{option_map}
use Rattle.std.proofs.lemmas.List.{length-map}
use Rattle.frame_stack.specs.declared.frame.Frame.{Frame}
use Rattle.node_stack.specs.Path.{Node}
use Rattle.node_stack.specs.Stack.{path_node}
use Rattle.node_stack.specs.declared.parked.Parked.{Parked}
use Rattle.var_store.specs.Copies.{Stored}
use Rattle.template_machine.specs.Contexts.{HasStations, Station}
use Rattle.template_machine.specs.Sections.{HoldStill, WaitsWell}
use Rattle.template_machine.specs.Standing.{Known, Shelf, Standing, Stream, known_now, outer_of, room_of, rooms_of, shelf_of, standing_of, stream_of}
use Rattle.template_machine.specs.Moments.{StandsAsBefore}
use Rattle.template_machine.specs.Well.{AreWritten, BodyWaits, GoesOn, IsOuterWell, IsSourceWell, IsSteady, IsWaiting, IsWell, ListGoesOn, NodeIsThere, TellWithin}
use Rattle.template_machine.specs.declared.program.Program.{Program}
use Rattle.template_machine.specs.declared.putting.Putting.{Putting}
use Rattle.template_machine.specs.declared.run.Doing.TheVariants as doing
use Rattle.template_machine.specs.declared.run.Run.{Run}
use Rattle.template_machine.specs.declared.source.Ahead.{Ahead}
use Rattle.template_machine.specs.declared.source.Ahead.TheVariants as ahead

-- part by part
pub standing_parts : (a b : Standing) → a.source ≡ b.source → a.around ≡ b.around → a.aside ≡ b.aside → a.targets ≡ b.targets → a.copies ≡ b.copies
    → a.shelves ≡ b.shelves → a ≡ b
standing_parts a b e1 e2 e3 e4 e5 e6 =
    ap (λ x. record a { source = x }) e1
    ∙ ap (λ x. record a { source = b.source; around = x }) e2
    ∙ ap (λ x. record a { source = b.source; around = b.around; aside = x }) e3
    ∙ ap (λ x. record b { targets = x; copies = a.copies; shelves = a.shelves }) e4
    ∙ ap (λ x. record b { copies = x; shelves = a.shelves }) e5
    ∙ ap (λ x. record b { shelves = x }) e6

-- where only the innermost source is another
pub standing_with : (r n : Run) (v : Stream) → (standing_of n).source ≡ v → (standing_of n).around ≡ (standing_of r).around → (standing_of n).aside ≡ (standing_of r).aside
    → (standing_of n).targets ≡ (standing_of r).targets → (standing_of n).copies ≡ (standing_of r).copies → (standing_of n).shelves ≡ (standing_of r).shelves
    → standing_of n ≡ record (standing_of r) { source = v }
standing_with r n v e1 e2 e3 e4 e5 e6 = standing_parts (standing_of n) (record (standing_of r) { source = v }) e1 e2 e3 e4 e5 e6

-- A run is steady where it has the copies, the targets and the shelves of one that is.
pub steady_on : (p : Program) (r n : Run) → IsSteady p r → (standing_of n).copies ≡ (standing_of r).copies → (standing_of n).targets ≡ (standing_of r).targets
    → (standing_of n).shelves ≡ (standing_of r).shelves → IsSourceWell n.source → All IsOuterWell n.outer.items
    → TellWithin (reverse n.frames.frames) (rooms_of n) (standing_of n).shelves → HoldStill r.putting.buffers n.putting.buffers
    → All WaitsWell (standing_of n).aside → IsSteady p n
steady_on p r n s copies targets shelves source outer within holds aside = record {
  sheet = s.sheet;
  limits = s.limits;
  sound = s.sound;
  program = s.program;
  places = s.places;
  groups = sym (length-map n.store length) ∙ ap length copies ∙ length-map r.store length ∙ s.groups;
  buffers =
      sym (length-map n.putting.buffers.buffers shelf_of) ∙ ap length shelves ∙ length-map r.putting.buffers.buffers shelf_of ∙ s.buffers;
  source = source;
  outer = outer;
  written = subst (λ t. AreWritten t (standing_of n).shelves) (sym targets) (subst (AreWritten (standing_of r).targets) (sym shelves) s.written);
  shallow = s.shallow;
  copied = subst (All (λ k. 0 < k)) (sym copies) s.copied;
  shelved = subst (All (λ (x : Shelf). 0 < length x.copies)) (sym shelves) s.shelved;
  within = within;
  deep = holds.deep p.buffer_depth s.deep;
  sections = holds.sections s.sections;
  aside = aside;
}

-- A list goes on.
list_goes : (p : Program) (stations : List Station) (a : Ahead) (fs : List Frame) (s : Standing) (known : Known) → a ≢ ahead.Here → ListGoesOn p stations fs s known
    → GoesOn p stations doing.List a fs s known
list_goes p stations ahead.Here fs s known apart l = absurd (apart refl)
list_goes p stations ahead.Nothing fs s known apart l = l
list_goes p stations ahead.Held fs s known apart l = l
list_goes p stations ahead.Ended fs s known apart l = l

pub well_list : (p : Program) (n : Run) (stations : List Station) → HasStations p.code stations p.sheet → IsSteady p n → n.doing ≡ doing.List → n.source.ahead ≢ ahead.Here
    → ListGoesOn p stations (reverse n.frames.frames) (standing_of n) (known_now n) → IsWell p n
well_list p n stations stand steady is apart l = record {
  steady = steady;
  stations = stations;
  stand = stand;
  apart = λ e. absurd (cc);
  goes_on =
      subst (λ d. GoesOn p stations d n.source.ahead (reverse n.frames.frames) (standing_of n) (known_now n)) (sym is)
      (list_goes p stations n.source.ahead (reverse n.frames.frames) (standing_of n) (known_now n) apart l);
}

-- the same, by the standing and what is known
pub well_list_at : (p : Program) (n : Run) (stations : List Station) (fs : List Frame) (s : Standing) (known : Known) → HasStations p.code stations p.sheet → IsSteady p n
    → n.doing ≡ doing.List → n.source.ahead ≢ ahead.Here → reverse n.frames.frames ≡ fs → standing_of n ≡ s → known_now n ≡ known
    → ListGoesOn p stations fs s known → IsWell p n
well_list_at p n stations fs s known stand steady is apart frames stands knowns l =
    well_list p n stations stand steady is apart
    (subst (λ x. ListGoesOn p stations x (standing_of n) (known_now n)) (sym frames)
    (subst (λ x. ListGoesOn p stations fs x (known_now n)) (sym stands)
    (subst (λ x. ListGoesOn p stations fs s x) (sym knowns) l)))

-- A head is the current node.
pub well_head_at : (p : Program) (n : Run) (stations : List Station) (fs : List Frame) (s : Standing) (known : Known) → HasStations p.code stations p.sheet → IsSteady p n
    → n.doing ≡ doing.List → n.source.ahead ≡ ahead.Here → reverse n.frames.frames ≡ fs → standing_of n ≡ s → known_now n ≡ known
    → NodeIsThere p stations fs s known → IsWell p n
well_head_at p n stations fs s known stand steady is at frames stands knowns l =
    let moved : NodeIsThere p stations (reverse n.frames.frames) (standing_of n) (known_now n) =
    subst (λ x. NodeIsThere p stations x (standing_of n) (known_now n)) (sym frames)
    (subst (λ x. NodeIsThere p stations fs x (known_now n)) (sym stands)
    (subst (λ x. NodeIsThere p stations fs s x) (sym knowns) l)) in
    record {
      steady = steady;
      stations = stations;
      stand = stand;
      apart = λ e. absurd (cc);
      goes_on =
          subst (λ d. GoesOn p stations d n.source.ahead (reverse n.frames.frames) (standing_of n) (known_now n)) (sym is)
          (subst (λ a. GoesOn p stations doing.List a (reverse n.frames.frames) (standing_of n) (known_now n)) (sym at) moved);
    }

-- A body waits.
pub waits_by : (p : Program) (n : Run) (stations : List Station) (fs : List Frame) (s : Standing) (known : Known) → HasStations p.code stations p.sheet → IsSteady p n
    → n.source.ahead ≢ ahead.Here → reverse n.frames.frames ≡ fs → standing_of n ≡ s → known_now n ≡ known
    → BodyWaits p stations fs s known → IsWaiting p n
waits_by p n stations fs s known stand steady apart frames stands knowns b = record {
  steady = steady;
  stations = stations;
  stand = stand;
  apart = apart;
  waits =
      subst (λ x. BodyWaits p stations x (standing_of n) (known_now n)) (sym frames)
      (subst (λ x. BodyWaits p stations fs x (known_now n)) (sym stands)
      (subst (λ x. BodyWaits p stations fs s x) (sym knowns) b));
}

-- Runs that differ in their innermost source, in frames, in fuel and in what goes on.
pub record SameBut (r n : Run) : Type 0 where
  pub outer : n.outer.items ≡ r.outer.items
  pub aside : n.aside.items ≡ r.aside.items
  pub store : n.store ≡ r.store
  pub putting : StandsAsBefore r.putting n.putting

pub same_standing : (r n : Run) (v : Stream) → SameBut r n → stream_of n.source ≡ v → standing_of n ≡ record (standing_of r) { source = v }
same_standing r n v b is =
    standing_with r n v is (ap (λ l. map outer_of (reverse l)) b.outer) (ap (λ l. map (option_map (λ (x : Parked). (path_node x).node)) (reverse l)) b.aside)
    (ap reverse b.putting.targets) (ap (λ (l : Stored). map length l) b.store) b.putting.shelves

-- the nodes that wait
abbrev waits_in : List (Option Parked) → List (Option Node)
waits_in l = map (option_map (λ (x : Parked). (path_node x).node)) (reverse l)

pub same_steady : (p : Program) (r n : Run) → IsSteady p r → SameBut r n → IsSourceWell n.source
    → TellWithin (reverse n.frames.frames) (room_of n.source ∷ map room_of (reverse r.outer.items)) (standing_of r).shelves → IsSteady p n
same_steady p r n s b source within =
    steady_on p r n s (ap (λ (l : Stored). map length l) b.store) (ap reverse b.putting.targets) b.putting.shelves source
    (subst (All IsOuterWell) (sym b.outer) s.outer)
    (subst (λ l. TellWithin (reverse n.frames.frames) (room_of n.source ∷ map room_of (reverse l)) (standing_of n).shelves) (sym b.outer)
    (subst (TellWithin (reverse n.frames.frames) (room_of n.source ∷ map room_of (reverse r.outer.items))) (sym b.putting.shelves) within))
    b.putting.holds (subst (λ l. All WaitsWell (waits_in l)) (sym b.aside) s.aside)

-- and with the same frames and room
pub same_within : (p : Program) (r n : Run) → IsSteady p r → reverse n.frames.frames ≡ reverse r.frames.frames → room_of n.source ≡ room_of r.source
    → TellWithin (reverse n.frames.frames) (room_of n.source ∷ map room_of (reverse r.outer.items)) (standing_of r).shelves
same_within p r n s frames room =
    subst (λ fs. TellWithin fs (room_of n.source ∷ map room_of (reverse r.outer.items)) (standing_of r).shelves) (sym frames)
    (subst (λ x. TellWithin (reverse r.frames.frames) (x ∷ map room_of (reverse r.outer.items)) (standing_of r).shelves) (sym room) s.within)

-- Other things about a run change.
pub well_put : (p : Program) (r : Run) (new : Putting) → StandsAsBefore r.putting new → IsWell p r → IsWell p (record r { putting = new })
well_put p r new stands w =
    let n = record r { putting = new } in
    let but : SameBut r n = record { outer = refl; aside = refl; store = refl; putting = stands } in
    record {
      steady = same_steady p r n w.steady but w.steady.source w.steady.within;
      stations = w.stations;
      stand = w.stand;
      apart = w.apart;
      goes_on =
          subst (λ s. GoesOn p w.stations r.doing r.source.ahead (reverse r.frames.frames) s (known_now r)) (sym (same_standing r n (standing_of r).source but refl)) w.goes_on;
    }

-- what follows where a call succeeds
pub if_ok : {A E : Type 0} (r : Result A E) (P Q : A → Type 0) → IfOk r P → ((a : A) → P a → Q a) → IfOk r Q
if_ok (Ok a) P Q h f = f a h
if_ok (Err e) P Q h f = h
