-- Nodes that are taken, and what becomes of them.
use Rattle.std.proofs.Common.{◌≡◌, ◌≢◌, ℕ, ◌<◌, Bool, true, false, List, [], ◌∷◌, length, map, reverse, Option, Some, None, refl, ap, sym, subst, ◌∙◌}
use Rattle.std.specs.Prelude.{◌&&◌, not, MatchBool}
use Rattle.std.proofs.lemmas.Bool.{false≢true}
use Rattle.frame_stack.specs.declared.frame.Frame.{Frame}
use Rattle.frame_stack.specs.declared.frame.Frame.TheVariants.{Skip, Pass}
use Rattle.node_stack.specs.Path as paths
use Rattle.node_stack.specs.Path.{Node, Document, can_have_children, is_attribute}
use Rattle.node_stack.specs.Stack.{path}
use Rattle.template_machine.specs.Contexts.{HasStations, Station}
use Rattle.template_machine.specs.Documents.{documents}
use Rattle.template_machine.specs.Standing.{Front, Known, Over, Standing, Unknown, known_now, known_of, node_over, room_of, rooms_of, standing_of, stream_of}
use Rattle.template_machine.specs.Ways.{Way, here, left, number_of, way_of}
use Rattle.template_machine.specs.Moments.{BodyIsOver, HasHead, ListIsOver, NodeIsOver, StandsAsBefore}
use Rattle.template_machine.specs.Well.{AreWell, HasList, HeadIsThere, IsFrontFor, IsSettled, IsSourceWell, IsSteady, IsWaiting, IsWell, ListFits, ListGoesOn, TellWithin, is_again}
use Rattle.template_machine.specs.declared.program.Program.{Program}
use Rattle.template_machine.specs.declared.putting.Putting.{Putting}
use Rattle.template_machine.specs.declared.run.Doing.TheVariants as doing
use Rattle.template_machine.specs.declared.run.Run.{Run}
use Rattle.template_machine.specs.declared.source.Ahead.{Ahead}
use Rattle.template_machine.specs.declared.source.Ahead.TheVariants as ahead
use Rattle.template_machine.specs.declared.source.Source as sources
use Rattle.template_machine.proofs.Arriving.{known_nothing}
use Rattle.template_machine.proofs.Entering.{over_again, over_head}
use Rattle.template_machine.proofs.Going.{SameBut, same_standing, same_steady, waits_by, well_list_at}
use Rattle.template_machine.proofs.Grounded.{none_open}
use Rattle.template_machine.proofs.Headed.{head_leaves}
use Rattle.template_machine.proofs.Leaving.{node_leaves}
use Rattle.template_machine.proofs.Nodes.{is_way}
use Rattle.template_machine.proofs.Passes.{pass_back, pass_ends, pass_opens}
use Rattle.template_machine.proofs.Regions.{has_level}
use Rattle.template_machine.proofs.Skips.{skip_opens}

-- The source is the same, and frames of no source more or fewer.
pub source_steady : (p : Program) (r n : Run) (fs : List Frame) → IsSteady p r → SameBut r n → n.source ≡ r.source → reverse n.frames.frames ≡ fs
    → TellWithin fs (rooms_of r) (standing_of r).shelves → IsSteady p n
source_steady p r n fs s same source frames within =
    same_steady p r n s same (subst IsSourceWell (sym source) s.source)
    (subst (λ l. TellWithin l (room_of n.source ∷ map room_of (reverse r.outer.items)) (standing_of r).shelves) (sym frames)
    (subst (λ (x : sources.Source). TellWithin fs (room_of x ∷ map room_of (reverse r.outer.items)) (standing_of r).shelves) (sym source) within))

pub source_standing : (r n : Run) → SameBut r n → n.source ≡ r.source → standing_of n ≡ standing_of r
source_standing r n same source = same_standing r n (standing_of r).source same (ap stream_of source)

apart_still : (r n : Run) → n.source ≡ r.source → r.source.ahead ≢ ahead.Here → n.source.ahead ≢ ahead.Here
apart_still r n source apart e = apart (sym (ap (λ (x : sources.Source). x.ahead) source) ∙ e)

-- a node is over
over_by : (p : Program) (n : Run) (stations : List Station) (fs : List Frame) (s : Standing) (known : Known) → IsSteady p n → HasStations p.code stations p.sheet
    → n.source.ahead ≢ ahead.Here → reverse n.frames.frames ≡ fs → standing_of n ≡ s → known_now n ≡ known
    → ((here s.source.way ≡ Some Document → ⊥) → ListGoesOn p stations fs (node_over s) known) → (here (standing_of n).source.way ≡ Some Document → documents n ≡ [])
    → NodeIsOver p n
over_by p n stations fs s known steady stand apart frames stands knows f ended = record {
  steady = steady;
  stations = stations;
  stand = stand;
  apart = apart;
  list = λ inner.
      subst (λ l. ListGoesOn p stations l (node_over (standing_of n)) (known_now n)) (sym frames)
      (subst (λ x. ListGoesOn p stations fs (node_over x) (known_now n)) (sym stands)
      (subst (ListGoesOn p stations fs (node_over s)) (sym knows)
      (f (λ e. inner (ap (λ (x : Standing). here x.source.way) stands ∙ e)))));
  ended = ended;
}

-- no document is open behind its own node
none_by : (p : Program) (r n : Run) (stations : List Station) (fs : List Frame) (front : Front) → n.source ≡ r.source → standing_of n ≡ standing_of r
    → AreWell p stations 0 true fs (node_over (standing_of r)) → IsFrontFor (left (standing_of r).source.way) r.source.begun front
    → here (standing_of n).source.way ≡ Some Document → documents n ≡ []
none_by p r n stations fs front source stands well fits is =
    none_open p stations n fs front (subst (λ s. AreWell p stations 0 true fs (node_over s)) (sym stands) well)
    (subst (λ (x : sources.Source). IsFrontFor (left (way_of (path x.stack))) x.begun front) (sym source) fits) is

no_document : (w : Way) → can_have_children (here w) ≡ false → here w ≡ Some Document → ⊥
no_document w none is = false≢true (sym none ∙ ap can_have_children is)

-- A head of which nothing is processed.
pub head_over : (p : Program) (r n : Run) → HasHead p r → SameBut r n → n.source ≡ r.source → reverse n.frames.frames ≡ reverse r.frames.frames
    → can_have_children (here (standing_of r).source.way) ≡ false → NodeIsOver p n
head_over p r n h same source frames none =
    over_by p n h.stations (reverse r.frames.frames) (standing_of r) (known_now r)
    (source_steady p r n (reverse r.frames.frames) h.steady same source frames h.steady.within) h.stand (apart_still r n source h.apart) frames
    (source_standing r n same source) (ap known_of source)
    (λ inner. head_leaves p h.stations (reverse r.frames.frames) (standing_of r) (known_now r) h.head (is_way r.source.stack) inner none)
    (λ is. absurd (no_document (standing_of r).source.way none (ap (λ (x : Standing). here x.source.way) (sym (source_standing r n same source)) ∙ is)))

-- A head whose children are processed.
pub head_passes : (p : Program) (r n : Run) (base level : ℕ) (spent : Bool) → HasHead p r → SameBut r n → n.source ≡ r.source
    → reverse n.frames.frames ≡ Pass base level spent ∷ reverse r.frames.frames → base < length p.sheet.groups → level ≡ number_of (standing_of r).source.way
    → HasList (standing_of r).source.way → n.doing ≡ doing.List → IsWell p n
head_passes p r n base level spent h same source frames there own has doing =
    let fs = reverse r.frames.frames in
    well_list_at p n h.stations (Pass base level spent ∷ fs) (standing_of r) (known_now r) h.stand
    (source_steady p r n (Pass base level spent ∷ fs) h.steady same source frames h.steady.within) doing (apart_still r n source h.apart) frames
    (source_standing r n same source) (ap known_of source)
    (pass_opens p h.stations fs (standing_of r) base level spent (known_now r) h.head there own has)

-- The children of a node that is passed through are over.

pass_front : (base level : ℕ) (spent : Bool) (fs : List Frame) (w : Way) (n : ℕ) → ListFits (Pass base level spent ∷ fs) w n Over → HasList w × IsFrontFor (left w) n Unknown
pass_front base level spent fs w n h = (h.0, h.2)

leaf_of : (o : Option Node) → can_have_children o ≡ true → is_attribute o ≡ false
leaf_of None e = absurd (false≢true e)
leaf_of (Some (paths.Attribute a)) e = absurd (false≢true e)
leaf_of (Some n) e = refl

nothing_apart : (a : Ahead) → a ≡ ahead.Nothing → a ≢ ahead.Here
nothing_apart a is e = let both : ahead.Nothing ≡ ahead.Here = sym is ∙ e in cc

-- and so is the node
pub pass_leaves : (p : Program) (r n : Run) (base level : ℕ) (spent : Bool) (gs : List Frame) → ListIsOver p r → reverse r.frames.frames ≡ Pass base level spent ∷ gs
    → SameBut r n → n.source ≡ r.source → reverse n.frames.frames ≡ gs → is_again level gs ≡ false → NodeIsOver p n
pass_leaves p r n base level spent gs h is same source frames apart =
    let s = standing_of r in
    let w : AreWell p h.stations 0 true (Pass base level spent ∷ gs) s = subst (λ l. AreWell p h.stations 0 true l s) is h.well in
    let fits : ListFits (Pass base level spent ∷ gs) s.source.way r.source.begun Over = subst (λ l. ListFits l s.source.way r.source.begun Over) is h.fits in
    let f = pass_front base level spent gs s.source.way r.source.begun fits in
    let e = pass_ends p h.stations gs s base level spent w apart in
    let within : TellWithin gs (rooms_of r) s.shelves = subst (λ l. TellWithin l (rooms_of r) s.shelves) is h.steady.within in
    over_by p n h.stations gs s (record { front = Unknown; begun = r.source.begun }) (source_steady p r n gs h.steady same source frames within) h.stand
    (apart_still r n source (nothing_apart r.source.ahead h.ahead)) frames (source_standing r n same source) (ap known_of source ∙ known_nothing r h.ahead)
    (λ inner. node_leaves p h.stations gs s (record { front = Unknown; begun = r.source.begun }) (is_way r.source.stack) inner e.0
    (subst (λ b. MatchBool b (IsSettled gs (left s.source.way) r.source.begun Unknown) (IsFrontFor (left s.source.way) r.source.begun Unknown))
    (sym (leaf_of (here s.source.way) f.0)) f.1) e.1)
    (none_by p r n h.stations gs Unknown source (source_standing r n same source) e.1 f.1)

-- or its body waits again
pub pass_waits : (p : Program) (r n : Run) (base level : ℕ) (spent : Bool) (gs : List Frame) → ListIsOver p r → reverse r.frames.frames ≡ Pass base level spent ∷ gs
    → SameBut r n → n.source ≡ r.source → reverse n.frames.frames ≡ gs → is_again level gs ≡ true → IsWaiting p n
pass_waits p r n base level spent gs h is same source frames again =
    let s = standing_of r in
    let w : AreWell p h.stations 0 true (Pass base level spent ∷ gs) s = subst (λ l. AreWell p h.stations 0 true l s) is h.well in
    let fits : ListFits (Pass base level spent ∷ gs) s.source.way r.source.begun Over = subst (λ l. ListFits l s.source.way r.source.begun Over) is h.fits in
    let f = pass_front base level spent gs s.source.way r.source.begun fits in
    let within : TellWithin gs (rooms_of r) s.shelves = subst (λ l. TellWithin l (rooms_of r) s.shelves) is h.steady.within in
    waits_by p n h.stations gs s (record { front = Unknown; begun = r.source.begun }) h.stand (source_steady p r n gs h.steady same source frames within)
    (apart_still r n source (nothing_apart r.source.ahead h.ahead)) frames (source_standing r n same source) (ap known_of source ∙ known_nothing r h.ahead)
    (pass_back p h.stations gs s base level spent (record { front = Unknown; begun = r.source.begun }) w again f.1)

-- A body has left its node.

pick_true : (b : Bool) (A B : Type 0) → b ≡ true → MatchBool b A B → A
pick_true true A B e h = h
pick_true false A B e h = absurd (false≢true e)

pick_false : (b : Bool) (A B : Type 0) → b ≡ false → MatchBool b A B → B
pick_false true A B e h = absurd (false≢true (sym e))
pick_false false A B e h = h

-- and waits, as the node was taken for a body of it
pub body_waits : (p : Program) (r : Run) (level : ℕ) (spent : Bool) → BodyIsOver p level spent r → is_again level (reverse r.frames.frames) ≡ true → IsWaiting p r
body_waits p r level spent h again =
    let fs = reverse r.frames.frames in
    let s = standing_of r in
    waits_by p r h.stations fs s (known_now r) h.stand h.steady h.apart refl refl refl (record {
      body = has_level level fs again;
      well = subst (AreWell p h.stations 0 true fs) (over_again level fs s again) h.well;
      fits = pick_true (is_again level fs) _ _ again h.fits;
    })

-- its node is over
pub body_left : (p : Program) (r : Run) (level : ℕ) (spent : Bool) → BodyIsOver p level spent r → is_again level (reverse r.frames.frames) ≡ false
    → (can_have_children (here (standing_of r).source.way) && not spent) ≡ false → NodeIsOver p r
body_left p r level spent h apart gone =
    let fs = reverse r.frames.frames in
    let s = standing_of r in
    let front = by_attribute (is_attribute (here s.source.way)) _ _ _ (pick_false (is_again level fs) _ _ apart h.fits) in
    let well = subst (AreWell p h.stations 0 true fs) (over_head level fs s apart) h.well in
    over_by p r h.stations fs s (known_now r) h.steady h.stand h.apart refl refl refl
    (λ inner. node_leaves p h.stations fs s (known_now r) (is_way r.source.stack) inner (h.take apart) front well)
    (λ is. none_by p r r h.stations fs (known_now r).front refl refl well
    (pick_false (is_attribute (here s.source.way)) (IsSettled fs (left s.source.way) r.source.begun (known_now r).front)
    (IsFrontFor (left s.source.way) r.source.begun (known_now r).front) (ap is_attribute is) front) is)
  where
    by_attribute : (x : Bool) (A B C : Type 0) → MatchBool x A (MatchBool (can_have_children (here (standing_of r).source.way) && not spent) B C) → MatchBool x A C
    by_attribute true A B C f = f
    by_attribute false A B C f = pick_false (can_have_children (here (standing_of r).source.way) && not spent) B C gone f

-- the children of its node are skipped
pub body_skipped : (p : Program) (r n : Run) (level : ℕ) (spent : Bool) → BodyIsOver p level spent r → is_again level (reverse r.frames.frames) ≡ false
    → can_have_children (here (standing_of r).source.way) ≡ true → spent ≡ false → SameBut r n → n.source ≡ r.source
    → reverse n.frames.frames ≡ Skip 0 ∷ reverse r.frames.frames → n.doing ≡ doing.List → IsWell p n
body_skipped p r n level spent h apart has unspent same source frames doing =
    let fs = reverse r.frames.frames in
    let s = standing_of r in
    let unspent_list : (can_have_children (here s.source.way) && not spent) ≡ true = ap (λ b. b && not spent) has ∙ ap (λ b. true && not b) unspent in
    let o = pick_true (can_have_children (here s.source.way) && not spent) _ _ unspent_list
    (pick_false (is_attribute (here s.source.way)) _ _ (leaf_of (here s.source.way) has) (pick_false (is_again level fs) _ _ apart h.fits)) in
    well_list_at p n h.stations (Skip 0 ∷ fs) s (known_now r) h.stand
    (source_steady p r n (Skip 0 ∷ fs) h.steady same source frames h.steady.within) doing (apart_still r n source h.apart) frames
    (source_standing r n same source) (ap known_of source)
    (skip_opens p h.stations fs s (known_now r) (subst (AreWell p h.stations 0 true fs) (over_head level fs s apart) h.well) (h.take apart) has o)

-- A head is still there where parts were put.
pub head_still : (p : Program) (r m : Run) (new : Putting) → m ≡ record r { putting = new } → StandsAsBefore r.putting new → HasHead p r → HasHead p m
head_still p r m new e puts h = subst (HasHead p) (sym e) (put_head p r new puts h)
  where
    put_head : (p : Program) (r : Run) (new : Putting) → StandsAsBefore r.putting new → HasHead p r → HasHead p (record r { putting = new })
    put_head p r new puts h =
        let n = record r { putting = new } in
        let but : SameBut r n = record { outer = refl; aside = refl; store = refl; putting = puts } in
        record {
          steady = same_steady p r n h.steady but h.steady.source h.steady.within;
          stations = h.stations;
          stand = h.stand;
          apart = h.apart;
          head = subst (λ s. HeadIsThere p h.stations (reverse r.frames.frames) s (known_now r)) (sym (same_standing r n (standing_of r).source but refl)) h.head;
        }

-- Whether children are left.

pub gone_by : (b spent : Bool) → spent ≡ true → (b && not spent) ≡ false
gone_by true spent e = ap not e
gone_by false spent e = refl

pub open_by : (b spent : Bool) → spent ≡ false → (b && not spent) ≡ b
open_by true spent e = ap not e
open_by false spent e = refl

pub both_by : (b spent : Bool) → (b && not spent) ≡ true → (b ≡ true) × (spent ≡ false)
both_by true true e = absurd (false≢true e)
both_by true false e = (refl, refl)
both_by false spent e = absurd (false≢true e)
