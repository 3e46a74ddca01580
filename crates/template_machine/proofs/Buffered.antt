-- The events of a buffer, and the end of its list.
use Rattle.std.proofs.Common.{◌≡◌, ℕ, zero, suc, ◌<◌, ◌≤◌, ◌^◌, Bool, true, List, [], ◌∷◌, ◌++◌, length, map, reverse, Option, Some, None, IsSome, refl, ap, sym, subst, ◌∙◌, arith, ◌-◌, ◌+◌}
use Rattle.std.specs.Prelude.{drop, unwrap_or}
use Rattle.std.specs.List.{slice_get}
use Rattle.std.specs.Option.{option_map, option_map_or}
use Rattle.std.proofs.lemmas.Bool.{false≢true}
use Rattle.std.proofs.lemmas.List.{length-map}
use Rattle.event_buffers.specs.Buffers.{Buffer, Buffers, copies_of, held_by, is_read, none, on_buffer, on_first, read, read_at}
use Rattle.event_buffers.specs.Layer.{Layer, closed, contents}
use Rattle.event_buffers.specs.Told.{IsToldAt, told}
use Rattle.event_buffers.specs.declared.kept.Kept.{Kept}
use Rattle.event_buffers.specs.declared.told.Told.{Told}
use Rattle.frame_stack.specs.declared.frame.Frame.{Frame}
use Rattle.frame_stack.specs.Stack.{FrameStack}
use Rattle.frame_stack.specs.declared.frame.Frame.TheVariants.{Source}
use Rattle.node_stack.specs.Stack.{path}
use Rattle.stx_base.specs.declared.fault.Place.{Place}
use Rattle.template_machine.specs.Bodies.{is_source_in, takes_events}
use Rattle.template_machine.specs.Closing.{ClosesStream, IsOpenStream, closed_by}
use Rattle.template_machine.specs.Contexts.{Station}
use Rattle.template_machine.specs.Standing.{Outer, Shelf, Standing, known_now, on_shelf, outer_of, read_closed, reading_over, shelf_at, shelf_of, standing_of}
use Rattle.template_machine.specs.Moments.{HasTold, IsBuffer, IsDocument, ListIsOver, StandsAsBefore}
use Rattle.template_machine.specs.Well.{AreWell, IsStream, IsWaiting, IsWell, ListGoesOn, OnOuter, begun_behind, read_from}
use Rattle.template_machine.specs.declared.program.Program.{Program}
use Rattle.template_machine.specs.declared.putting.Putting.{Putting}
use Rattle.template_machine.specs.declared.run.Doing.TheVariants as doing
use Rattle.template_machine.specs.declared.run.Run.{Run}
use Rattle.template_machine.specs.declared.source.Ahead.TheVariants as ahead
use Rattle.template_machine.specs.declared.source.Origin.{Origin}
use Rattle.template_machine.specs.declared.source.Origin.TheVariants as origin
use Rattle.template_machine.specs.declared.source.Source as sources
use Rattle.template_machine.proofs.Eventful.{buffer_told, buffer_ends}
use Rattle.template_machine.proofs.Holds.{holds_on, holds_same, read_shut}
use Rattle.template_machine.proofs.Looking.{list_goes, list_there}
use Rattle.template_machine.proofs.Slots.{aside_of}
use Rattle.template_machine.proofs.Sourced.{reading_shut, source_is_over}
use Rattle.template_machine.proofs.Streaming.{buffer_read, shelf_read, told_from}
use Rattle.template_machine.proofs.Tops.{source_top}
use Rattle.template_machine.proofs.Writing.{first_read, reads, reads_at, read_first}
use Rattle.xml_events.specs.declared.event.Event.TheVariants as event

-- The stream of the innermost source is open.

open_by : (p : Program) (stations : List Station) (loops : ℕ) (waits : Bool) (fs : List Frame) (s : Standing) (o : Origin) → AreWell p stations loops waits fs s
    → s.source.origin ≡ o → IsOpenStream o s.shelves
open_by p stations loops waits fs s (origin.Buffer id at) w is =
    let h = buffer_read p stations loops waits fs s id at w is in (
      omega (arith, h.0, length-map s.shelves reads),
      subst (λ o. IsSome o) (sym (read_first (shelf_at s.shelves id).copies ∙ ap first_read (reads_at s.shelves id))) h.1,
    )
open_by p stations loops waits fs s origin.Main w is = tt
open_by p stations loops waits fs s (origin.Document at) w is = tt

pub stream_open : (p : Program) (stations : List Station) (loops : ℕ) (waits : Bool) (fs : List Frame) (s : Standing) → AreWell p stations loops waits fs s
    → IsOpenStream s.source.origin s.shelves
stream_open p stations loops waits fs s w = open_by p stations loops waits fs s s.source.origin w refl

-- and is that of a source's frame
pub stream_closes : (buffer : Option ℕ) (o : Origin) (s : Standing) → IsStream buffer o s.shelves → closed_by o s.shelves ≡ (reading_over buffer s).shelves
stream_closes None (origin.Document at) s h = refl
stream_closes None origin.Main s h = absurd h
stream_closes None (origin.Buffer own at) s h = absurd h
stream_closes (Some id) (origin.Buffer own at) s h = ap (λ n. on_shelf read_closed n s.shelves) h.0
stream_closes (Some id) origin.Main s h = absurd h
stream_closes (Some id) (origin.Document at) s h = absurd h

-- The buffer itself.

pub buffer_open : (id : ℕ) (o : Origin) (xs : List Shelf) → IsBuffer id o → IsOpenStream o xs → (id < length xs) × IsSome (read_from (shelf_at xs id).copies)
buffer_open id (origin.Buffer own at) xs b h = subst (λ n. (n < length xs) × IsSome (read_from (shelf_at xs n).copies)) b h
buffer_open id origin.Main xs b h = absurd b
buffer_open id (origin.Document at) xs b h = absurd b

some_mapped : {A B : Type 0} (f : A → B) (o : Option A) → IsSome (option_map f o) → IsSome o
some_mapped f None h = absurd (false≢true h)
some_mapped f (Some x) h = refl

-- one of its copies is read
pub copy_read : (bs : List Buffer) (id : ℕ) → IsSome (read_from (shelf_at (map shelf_of bs) id).copies) → IsSome (read (unwrap_or (slice_get bs id) none).copies)
copy_read bs id h = some_mapped (contents (unwrap_or (slice_get bs id) none).declared) _ (subst (λ o. IsSome o) (shelf_read bs id) h)

pub buffer_there : (bs : List Buffer) (id : ℕ) → id < length (map shelf_of bs) → id < length bs
buffer_there bs id h = omega (arith, h, length-map bs shelf_of)

told_by : (declared : List Kept) (o : Option Layer) (next : ℕ) → option_map_or (λ held. told (drop next held)) (option_map (contents declared) o) [] ≡ told (drop next (held_by declared o))
told_by declared None zero = refl
told_by declared None (suc next) = refl
told_by declared (Some c) next = refl

-- what it tells from a place on
pub tells_from : (bs : List Buffer) (id next : ℕ)
    → told_from (map shelf_of bs) id next ≡ told (drop next (held_by (unwrap_or (slice_get bs id) none).declared (read (unwrap_or (slice_get bs id) none).copies)))
tells_from bs id next =
    ap (λ o. option_map_or (λ held. told (drop next held)) o []) (shelf_read bs id)
    ∙ told_by (unwrap_or (slice_get bs id) none).declared (read (unwrap_or (slice_get bs id) none).copies) next

pub buffer_is : (id : ℕ) (o : Origin) → IsBuffer id o → (at : Place) × (o ≡ origin.Buffer id at)
buffer_is id (origin.Buffer own at) b = (at, ap (λ n. origin.Buffer n at) b)
buffer_is id origin.Main b = absurd b
buffer_is id (origin.Document at) b = absurd b

-- It is over, which is told as the end of a document is.

pub buffer_over : (p : Program) (r : Run) (id : ℕ) → (w : IsWell p r) → r.doing ≡ doing.List → r.source.ahead ≡ ahead.Nothing
    → takes_events (reverse r.frames.frames) ≡ true → IsBuffer id r.source.origin → IsToldAt (read_at r.putting.buffers id) r.source.next None
    → (r.source.begun - 1 < 2 ^ 32)
    × HasTold p (event.DocumentEnd 0) (record r { source = record r.source { begun = r.source.begun - 1 } })
buffer_over p r id w is nothing events b tells =
    let bs = r.putting.buffers.buffers in
    let from = buffer_is id r.source.origin b in
    let small : (path r.source.stack).limit + 1 < 2 ^ 32 = w.steady.source.small in
    (omega (arith, w.steady.source.counted, small), buffer_ends p r id from.0 w is nothing events from.1 (tells_from bs id r.source.next ∙ tells))

-- A buffer is read no more.

pub closes_buffer : (r : Run) (id : ℕ) (at : Place) (b : Buffers) → r.source.origin ≡ origin.Buffer id at → b ≡ on_buffer (on_first is_read closed) id r.putting.buffers
    → ClosesStream r.source.origin r.putting (record r.putting { buffers = b })
closes_buffer r id at b is shut =
    subst (λ o. ClosesStream o r.putting (record r.putting { buffers = b })) (sym is)
    (record {
      targets = refl;
      shelves = reading_shut r.putting (record r.putting { buffers = b }) id shut;
      holds = read_shut r.putting.buffers b id shut;
    })

pub closes_none : (o : Origin) (a : Putting) → IsDocument o → ClosesStream o a a
closes_none (origin.Buffer id at) a d = absurd d
closes_none origin.Main a d = record { targets = refl; shelves = refl; holds = holds_same a.buffers }
closes_none (origin.Document at) a d = record { targets = refl; shelves = refl; holds = holds_same a.buffers }

-- What the frame of a source finds, whose list is over.

pub record SourceThere (p : Program) (r : Run) : Type 0 where
  pub buffer : Option ℕ
  pub next : ℕ
  pub asked : ℕ
  pub frames : List Frame
  pub is : reverse r.frames.frames ≡ Source buffer next asked ∷ frames
  pub stream : IsStream buffer (standing_of r).source.origin (standing_of r).shelves
  pub some : 0 < length r.outer.items

outer_some : (xs : List sources.Source) (P : Outer → List Outer → Type 0) → OnOuter (map outer_of (reverse xs)) P → 0 < length xs
outer_some [] P h = absurd h
outer_some (x ∷ xs) P h = omega arith

pub source_there : (p : Program) (r : Run) → ListIsOver p r → is_source_in (reverse r.frames.frames) ≡ true → SourceThere p r
source_there p r h top =
    let s = standing_of r in
    let t = source_top (reverse r.frames.frames) top in
    let w : AreWell p h.stations 0 true (Source t.0 t.1.0 t.1.1.0 ∷ t.1.1.1.0) s = subst (λ l. AreWell p h.stations 0 true l s) t.1.1.1.1 h.well in
    record {
      buffer = t.0;
      next = t.1.0;
      asked = t.1.1.0;
      frames = t.1.1.1.0;
      is = t.1.1.1.1;
      stream = w.3;
      some = outer_some r.outer.items _ w.5;
    }

-- The body that asked waits in the source around it.
pub leaves_source : (p : Program) (r m n : Run) (frames : FrameStack) → (h : ListIsOver p r) → (f : SourceThere p r)
    → m ≡ record r { frames = frames; putting = m.putting } → ClosesStream r.source.origin r.putting m.putting → StandsAsBefore m.putting n.putting
    → reverse frames.frames ≡ f.frames → (x : sources.Source) (init : List sources.Source) → r.outer.items ≡ init ++ x ∷ []
    → n.source ≡ x → n.outer.items ≡ init → n ≡ record m { source = n.source; outer = n.outer; putting = n.putting } → IsWaiting p n
leaves_source p r m n frames h f run closed see gone x init items source outer same =
    source_is_over p r n h f.buffer f.next f.asked f.frames f.is x init items source outer
    (ap (λ (y : Run). aside_of y.aside.items) same ∙ ap (λ (y : Run). aside_of y.aside.items) run)
    (ap (λ (y : Run). y.store) same ∙ ap (λ (y : Run). y.store) run)
    (see.targets ∙ closed.targets)
    (see.shelves ∙ closed.shelves ∙ stream_closes f.buffer r.source.origin (standing_of r) f.stream)
    (holds_on r.putting.buffers m.putting.buffers n.putting.buffers closed.holds see.holds)
    (ap (λ (y : Run). reverse y.frames.frames) same ∙ ap (λ (y : Run). reverse y.frames.frames) run ∙ gone)

-- The next event of a buffer.

pub buffer_next : (p : Program) (r : Run) (id : ℕ) (t : Told) → (w : IsWell p r) → r.doing ≡ doing.List → r.source.ahead ≡ ahead.Nothing
    → takes_events (reverse r.frames.frames) ≡ true → IsBuffer id r.source.origin → IsToldAt (read_at r.putting.buffers id) r.source.next (Some t)
    → (begun_behind t.event r.source.begun ≤ (path r.source.stack).limit + 1)
    × HasTold p t.event (record r { source = record r.source { next = t.next; begun = begun_behind t.event r.source.begun } })
buffer_next p r id t w is nothing events b tells =
    let bs = r.putting.buffers.buffers in
    let from = buffer_is id r.source.origin b in
    buffer_told p r id t.next from.0 t.event (told (drop t.next (read_at r.putting.buffers id))) w is nothing events from.1
    (tells_from bs id r.source.next ∙ tells) (tells_from bs id t.next)

pub buffer_fits : (p : Program) (r : Run) (id : ℕ) (t : Told) → (w : IsWell p r) → r.doing ≡ doing.List → r.source.ahead ≡ ahead.Nothing
    → takes_events (reverse r.frames.frames) ≡ true → IsBuffer id r.source.origin → IsToldAt (read_at r.putting.buffers id) r.source.next (Some t)
    → begun_behind t.event r.source.begun < 2 ^ 32
buffer_fits p r id t w is nothing events b tells =
    let small : (path r.source.stack).limit + 1 < 2 ^ 32 = w.steady.source.small in omega (arith, (buffer_next p r id t w is nothing events b tells).0, small)

-- It is there, and one of its copies is read.
pub tells_there : (p : Program) (r : Run) (id : ℕ) → (w : IsWell p r) → r.doing ≡ doing.List → r.source.ahead ≡ ahead.Nothing → IsBuffer id r.source.origin
    → (id < length r.putting.buffers.buffers) × IsSome (read (copies_of r.putting.buffers id))
tells_there p r id w is nothing b =
    let s = standing_of r in
    let fs = reverse r.frames.frames in
    let l : ListGoesOn p w.stations fs s (known_now r) =
    list_there p w.stations r.source.ahead fs s (known_now r) (λ e. not_here (sym nothing ∙ e)) (list_goes p r w is) in
    let o = buffer_open id r.source.origin s.shelves b (stream_open p w.stations 0 true fs s l.well) in
    (buffer_there r.putting.buffers.buffers id o.0, copy_read r.putting.buffers.buffers id o.1)
  where
    not_here : ahead.Nothing ≡ ahead.Here → ⊥
    not_here e = cc
