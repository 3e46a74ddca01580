-- Variables that are set.
use Rattle.std.proofs.Common.{◌≡◌, ◌≢◌, ℕ, zero, suc, ◌<◌, Bool, true, false, cond, ◌&&◌, List, [], ◌∷◌, length, map, reverse, Option, Some, None, refl, ap, sym, subst, ◌∙◌, arith}
use Rattle.std.proofs.lemmas.Bool.{false≢true}
use Rattle.std.proofs.lemmas.List.{length-map}
use Rattle.std.proofs.lemmas.Option.{slice_get-map}
use Rattle.std.proofs.lemmas.Slice.Eq.{bytes_eq-Decides}
use Rattle.std.specs.List.{find, slice_get}
use Rattle.std.specs.Option.{option_map}
use Rattle.std.specs.Prelude.{Result, Ok, Err, All, IfSome, OnOk, OnErr}
use Rattle.std.specs.Str.{bytes_eq}
use Rattle.frame_stack.specs.Change.{changed, locals_of, with_locals}
use Rattle.frame_stack.specs.Locals.{with_value}
use Rattle.frame_stack.specs.Stack.{FrameStack, with_frames}
use Rattle.frame_stack.specs.declared.frame.Frame.{Frame}
use Rattle.frame_stack.specs.declared.frame.Frame.TheVariants.{Body, Call, Loop}
use Rattle.frame_stack.specs.declared.locals.Local.{Local}
use Rattle.stx_base.specs.declared.name.Name.{Name}
use Rattle.stxpath_values.specs.declared.value.Atom.{Atom}
use Rattle.template_machine.specs.Bodies.{frame_in, on_body}
use Rattle.template_machine.specs.Contexts.{Context, Items, Kind, Named, Station, Tag}
use Rattle.template_machine.specs.Made.{IsNamedLocal, OnlyStores}
use Rattle.template_machine.specs.Seen.{bounds_of, place_of}
use Rattle.template_machine.specs.Standing.{Standing, known_now, standing_of}
use Rattle.template_machine.specs.Well.{AreOf, GoesOn, IsOf, IsSteady, IsWell}
use Rattle.template_machine.specs.Working.{Runs}
use Rattle.template_machine.specs.declared.program.Program.{Program}
use Rattle.template_machine.specs.declared.run.Run.{Run}
use Rattle.template_machine.proofs.Moving.{BodyIs, alone, by_themselves, moves, moves_only}
use Rattle.template_machine.proofs.Operating.{body_goes, goes_elsewhere}
use Rattle.template_machine.proofs.Placing.{changed_reversed, placed_in}
use Rattle.template_machine.proofs.Unseen.{not_none, stands_at}
use Rattle.var_store.specs.Copies.{Stored, on_group, on_newest}
use Rattle.var_store.specs.Variables as variables
use Rattle.var_store.specs.Variables.{is_called, slot_of}
use Rattle.var_store.specs.declared.bound.Bound.{Bound}
use Rattle.var_store.proofs.Finding.{at_slot, found_at}

-- Variables of groups.

pub store_standing : (r : Run) (new : Stored) → map length new ≡ map length r.store → standing_of (record r { store = new }) ≡ standing_of r
store_standing r new same = ap (λ ns. record (standing_of r) { copies = ns }) same

pub store_steady : (p : Program) (r : Run) (new : Stored) → map length new ≡ map length r.store → IsSteady p r → IsSteady p (record r { store = new })
store_steady p r new same s = record {
  sheet = s.sheet;
  limits = s.limits;
  sound = s.sound;
  program = s.program;
  places = s.places;
  groups = sym (length-map new length) ∙ ap length same ∙ length-map r.store length ∙ s.groups;
  buffers = s.buffers;
  source = s.source;
  outer = s.outer;
  written = s.written;
  shallow = s.shallow;
  copied = subst (All (λ n. 0 < n)) (sym same) s.copied;
  shelved = s.shelved;
  within = s.within;
  deep = s.deep;
  sections = s.sections;
  aside = s.aside;
}

pub stores_steady : (p : Program) (r t : Run) → OnlyStores r t → IsSteady p r → IsSteady p t
stores_steady p r t o s = subst (IsSteady p) (sym o.rest) (store_steady p r t.store o.copies s)

pub stores_well : (p : Program) (r t : Run) → OnlyStores r t → IsWell p r → IsWell p t
stores_well p r t o w =
    subst (IsWell p) (sym o.rest)
    (record {
      steady = store_steady p r t.store o.copies w.steady;
      stations = w.stations;
      stand = w.stand;
      apart = w.apart;
      goes_on =
          subst (λ (x : Standing). GoesOn p w.stations r.doing r.source.ahead (reverse r.frames.frames) x (known_now r)) (sym (store_standing r t.store o.copies)) w.goes_on;
    })

pub counts_stay : (store : Stored) (g : ℕ) (f : List (List Bound) → List (List Bound)) → ((cs : List (List Bound)) → length (f cs) ≡ length cs)
    → map length (on_group f g store) ≡ map length store
counts_stay [] g f h = refl
counts_stay (cs ∷ ss) zero f h = ap (λ n. n ∷ map length ss) (h cs)
counts_stay (cs ∷ ss) (suc g) f h = ap (λ l. length cs ∷ l) (counts_stay ss g f h)

pub newest_long : (f : List Bound → List Bound) (cs : List (List Bound)) → length (on_newest f cs) ≡ length cs
newest_long f [] = refl
newest_long f (c ∷ cs) = refl

pub assign_stores : {A E : Type 0} (r : Run) (new : Stored) (g : ℕ) (f : List Bound → List Bound) (res : Result A E)
    → OnOk res (new ≡ on_group (on_newest f) g r.store) → OnErr res (new ≡ r.store) → OnlyStores r (record r { store = new })
assign_stores r new g f (Ok done) ok err = record { rest = refl; copies = ap (map length) ok ∙ counts_stay r.store g (on_newest f) (newest_long f) }
assign_stores r new g f (Err e) ok err = record { rest = refl; copies = ap (map length) err }

pub stores_still : (r : Run) → OnlyStores r r
stores_still r = record { rest = refl; copies = refl }

-- Locals.

found_passes : (p : Bound → Bool) (xs : List Bound) (x : Bound) → find p xs ≡ Some x → p x ≡ true
found_passes p [] x e = absurd (cc)
found_passes p (y ∷ ys) x e = by (p y) refl e (found_passes p ys x) where
  by : (b : Bool) → p y ≡ b → cond b (Some y) (find p ys) ≡ Some x → (find p ys ≡ Some x → p x ≡ true) → p x ≡ true
  by true is e rest = let same : y ≡ x = cc in sym (ap p same) ∙ is
  by false is e rest = rest e

pub got_within : {A : Type 0} (xs : List A) (i : ℕ) → i < length xs → (x : A) × (slice_get xs i ≡ Some x)
got_within [] i h = absurd (omega arith)
got_within (x ∷ xs) zero h = (x, refl)
got_within (x ∷ xs) (suc i) h = got_within xs i (omega arith)

called_at : (locals : List Local) (name : Name) (i : ℕ) → slot_of name (bounds_of locals) ≡ Some i
    → (x : Local) × ((slice_get locals i ≡ Some x) × (is_called name (variables.bound x.name x.value) ≡ true))
called_at locals name i e =
    let f : Local → Bound = λ (l : Local). variables.bound l.name l.value in
    let less : i < length locals = omega (arith, (at_slot name (bounds_of locals) i e).1, length-map locals f) in
    let x = got_within locals i less in
    let at : slice_get (bounds_of locals) i ≡ Some (f x.0) = slice_get-map f locals i ∙ ap (option_map f) x.1 in
    (x.0, (x.1, found_passes (is_called name) (bounds_of locals) (f x.0) (sym (found_at name (bounds_of locals) i e) ∙ at)))

pub named_local : (r : Run) (body : ℕ) (frame : Frame) (locals : List Local) (name : Name) (o : Option ℕ) → slice_get r.frames.frames body ≡ Some frame
    → Some (locals_of frame) ≡ Some locals → o ≡ place_of name locals → IfSome o (λ i. IsNamedLocal r body i name)
named_local r body frame locals name None there are is = tt
named_local r body frame locals name (Some i) there are is =
    let at = stands_at name locals i (sym is) in
    let x = called_at locals name i at.1 in
    let same : locals_of frame ≡ locals = cc in
    record {
      frame = frame;
      there = there;
      local = x.0;
      is = ap (λ l. slice_get l i) same ∙ x.1.0;
      called = x.1.1;
      some = not_none name.local at.0;
    }

pub named_local_at : (r : Run) (body : ℕ) (locals : List Local) (name : Name) (o : Option ℕ) → option_map locals_of (slice_get r.frames.frames body) ≡ Some locals
    → o ≡ place_of name locals → IfSome o (λ i. IsNamedLocal r body i name)
named_local_at r body locals name o are is = by (slice_get r.frames.frames body) refl are
  where
    by : (x : Option Frame) → slice_get r.frames.frames body ≡ x → option_map locals_of x ≡ Some locals → IfSome o (λ i. IsNamedLocal r body i name)
    by None there same = absurd (cc)
    by (Some frame) there same = named_local r body frame locals name o there same is

and_second : (a b : Bool) → (a && b) ≡ true → b ≡ true
and_second true b h = h
and_second false b h = absurd (false≢true h)

-- a local that is called by a name has one
pub has_name : (x : Local) (name : Name) → is_called name (variables.bound x.name x.value) ≡ true → name.local ≢ [] → x.name.local ≢ []
has_name x name called some = λ e.
    let same : x.name.local ≡ name.local = (bytes_eq-Decides x.name.local name.local).0 (and_second (bytes_eq x.name.uri name.uri) (bytes_eq x.name.local name.local) called) in
    some (sym same ∙ e)

set_of : (x : Local) (k : Kind) (value : List Atom) → (x.name.local ≡ [] → ⊥) → IsOf x k → IsOf (record x { value = value }) k
set_of x (Named name) value named h = h
set_of x Items value named h = h
set_of x Tag value named h = absurd (named h.0)

are_set : (xs : List Local) (ks : List Kind) (i : ℕ) (l : Local) (value : List Atom) → slice_get xs i ≡ Some l → (l.name.local ≡ [] → ⊥) → AreOf xs ks
    → AreOf (with_value i value xs) ks
are_set [] ks i l value at named h = absurd (cc)
are_set (x ∷ xs) [] i l value at named h = absurd h
are_set (x ∷ xs) (k ∷ ks) zero l value at named h =
    let same : l ≡ x = cc in (set_of x k value (subst (λ (y : Local). y.name.local ≡ [] → ⊥) same named) h.0, h.1)
are_set (x ∷ xs) (k ∷ ks) (suc i) l value at named h = (h.0, are_set xs ks i l value at named h.1)

module _ (p : Program) (stations : List Station) where
  set_body : (loops : ℕ) (fs : List Frame) (c : Context) (s : Standing) (x : Frame) (i : ℕ) (l : Local) (value : List Atom) → frame_in fs ≡ Some x
      → slice_get (locals_of x) i ≡ Some l → (l.name.local ≡ [] → ⊥) → BodyIs p stations loops false fs c s
      → BodyIs p stations loops false (on_body (with_locals (with_value i value)) fs) c s
  set_body loops [] c s x i l value is at named b = absurd b
  set_body loops (Loop turn ∷ fs) c s x i l value is at named b = set_body (suc loops) fs c s x i l value is at named b
  set_body loops (Body template alternative pc locals level spent ∷ fs) c s x i l value is at named b =
      let same : Body template alternative pc locals level spent ≡ x = cc in
      let here : slice_get locals i ≡ Some l = ap (λ y. slice_get (locals_of y) i) same ∙ at in
      record {
        there = b.there;
        own = b.own;
        in_loops = b.in_loops;
        locals_fit = by_themselves p stations (with_value i value locals) c.locals (are_set locals c.locals i l value here named (alone p stations locals c.locals b.locals_fit));
        asked = b.asked;
        level_is = b.level_is;
        writes = b.writes;
      }
  set_body loops (Call procedure pc locals level ∷ fs) c s x i l value is at named b =
      let same : Call procedure pc locals level ≡ x = cc in
      let here : slice_get locals i ≡ Some l = ap (λ y. slice_get (locals_of y) i) same ∙ at in
      record {
        there = b.there;
        own = b.own;
        in_loops = b.in_loops;
        locals_fit = by_themselves p stations (with_value i value locals) c.locals (are_set locals c.locals i l value here named (alone p stations locals c.locals b.locals_fit));
        asked = b.asked;
        level_is = b.level_is;
        writes = b.writes;
      }
  set_body loops (f ∷ fs) c s x i l value is at named b = absurd b

pub local_set_well : (p : Program) (r : Run) (body index : ℕ) (name : Name) (value : List Atom) (frames : FrameStack) → (h : Runs p r body) → IsNamedLocal r body index name
    → frames ≡ with_frames (changed (with_locals (with_value index value)) body r.frames.frames) r.frames → IsWell p (record r { frames = frames })
local_set_well p r body index name value frames h l is =
    let w = h.well in
    let fs = reverse r.frames.frames in
    let s = standing_of r in
    let g = with_locals (with_value index value) in
    let goes = body_goes p r w h.doing in
    let x = placed_in r.frames.frames body h.place in
    let same : x.0 ≡ l.frame = one_frame x.0 l.frame (sym x.1.1 ∙ l.there) in
    let at : slice_get (locals_of x.0) index ≡ Some l.local = ap (λ y. slice_get (locals_of y) index) same ∙ l.is in
    goes_elsewhere p r w frames g (λ o. o) (with_value index value) (moves_only (with_value index value)) h.doing
    (ap (λ (y : FrameStack). reverse y.frames) is ∙ changed_reversed g r.frames.frames body h.place)
    (moves p w.stations g (λ o. o) (with_value index value) (moves_only (with_value index value)) 0 0 false false fs s s goes.body goes.well
    (λ c b. (c, (set_body p w.stations 0 fs c s x.0 index l.local value x.1.0 at (has_name l.local name l.called l.some) b, refl))))
  where
    one_frame : (y z : Frame) → Some y ≡ Some z → y ≡ z
    one_frame y z e = cc
