-- A source is over, and a buffer tells.
use Rattle.std.proofs.Common.{◌≡◌, ℕ, zero, suc, ◌<◌, Bool, true, false, List, [], ◌∷◌, ◌++◌, length, map, reverse, get_or, Option, Some, None, refl, ap, sym, subst, ◌∙◌, arith}
use Rattle.std.specs.Prelude.{All, if◌then◌else◌, slice_set, unwrap_or}
use Rattle.std.specs.List.{Contains, slice_get}
use Rattle.std.proofs.lemmas.List.{length-map, reverse-append}
use Rattle.std.proofs.lemmas.List.Elements.{All-cons, All-head, All-tail}
use Rattle.event_buffers.specs.Buffers.{Buffer, Buffers, is_read, none, on_buffer, on_first, with_copies}
use Rattle.event_buffers.specs.Layer as layer
use Rattle.event_buffers.specs.Layer.{Layer, State, closed, contents, is_reading}
use Rattle.event_buffers.specs.declared.kept.Kept.{Kept}
use Rattle.var_store.specs.Copies.{Stored}
use Rattle.frame_stack.specs.declared.frame.Frame.{Frame}
use Rattle.frame_stack.specs.declared.frame.Frame.TheVariants.{Source}
use Rattle.template_machine.specs.Standing.{Free, Outer, Read, Room, Shelf, Standing, Stream, Usage, Written, known_of, on_shelf, outer_of, read_closed, reading_over, room_of, rooms_of, shelf_at, shelf_of, source_over, standing_of, stream_of, usage_by, usage_of, written_closed}
use Rattle.template_machine.specs.Moments.{ListIsOver}
use Rattle.template_machine.specs.Well.{AreWell, AreWritten, IsOuterWell, IsSourceWell, IsSteady, IsWaiting, OnOuter, TellWithin}
use Rattle.template_machine.specs.declared.program.Program.{Program}
use Rattle.template_machine.specs.declared.putting.Putting.{Putting}
use Rattle.template_machine.specs.declared.run.Run.{Run}
use Rattle.template_machine.specs.declared.source.Source as sources
use Rattle.template_machine.proofs.Going.{standing_parts, waits_by}
use Rattle.template_machine.proofs.Streams.{source_ends}
use Rattle.template_machine.specs.Sections.{HoldStill, WaitsWell}

-- What becomes of the shelves where a copy is read no more.

read_long : (us : List Usage) → length (read_closed us) ≡ length us
read_long [] = refl
read_long (Free ∷ us) = ap suc (read_long us)
read_long (Written ∷ us) = ap suc (read_long us)
read_long (Read held ∷ us) = refl

read_stays : (xs : List Shelf) (id : ℕ) → length (on_shelf read_closed id xs) ≡ length xs
read_stays [] id = refl
read_stays (x ∷ xs) zero = refl
read_stays (x ∷ xs) (suc id) = ap suc (read_stays xs id)

abbrev HasCopy : Shelf → Type 0
HasCopy x = 0 < length x.copies

read_copies : (xs : List Shelf) (id : ℕ) → All HasCopy xs → All HasCopy (on_shelf read_closed id xs)
read_copies [] id h = h
read_copies (x ∷ xs) zero h =
    let one : 0 < length x.copies = All-head HasCopy x xs h in
    All-cons HasCopy (record x { copies = read_closed x.copies }) xs (omega (arith, one, read_long x.copies)) (All-tail HasCopy x xs h)
read_copies (x ∷ xs) (suc id) h = All-cons HasCopy x (on_shelf read_closed id xs) (All-head HasCopy x xs h) (read_copies xs id (All-tail HasCopy x xs h))

-- a copy that is written stays so

still_written : (us : List Usage) (k : ℕ) → k < length us → get_or us k Written ≡ Written → (k < length (read_closed us)) × (get_or (read_closed us) k Written ≡ Written)
still_written [] k less is = absurd (omega (arith, less))
still_written (Free ∷ us) zero less is = absurd (cc)
still_written (Free ∷ us) (suc k) less is = let h = still_written us k (omega (arith, less)) is in (omega (arith, h.0), h.1)
still_written (Written ∷ us) zero less is = (omega arith, refl)
still_written (Written ∷ us) (suc k) less is = let h = still_written us k (omega (arith, less)) is in (omega (arith, h.0), h.1)
still_written (Read held ∷ us) zero less is = absurd (cc)
still_written (Read held ∷ us) (suc k) less is = (omega (arith, less), is)

still_contains : (us : List Usage) → Contains us Written → Contains (read_closed us) Written
still_contains us h = let x = still_written us h.0 h.1 h.2 in (h.0, x.0, x.1)

shelf_contains : (xs : List Shelf) (id other : ℕ) → Contains (shelf_at xs other).copies Written → Contains (shelf_at (on_shelf read_closed id xs) other).copies Written
shelf_contains [] id other h = h
shelf_contains (x ∷ xs) zero zero h = still_contains x.copies h
shelf_contains (x ∷ xs) zero (suc other) h = h
shelf_contains (x ∷ xs) (suc id) zero h = h
shelf_contains (x ∷ xs) (suc id) (suc other) h = shelf_contains xs id other h

closed_both : (us : List Usage) → written_closed (read_closed us) ≡ read_closed (written_closed us)
closed_both [] = refl
closed_both (Free ∷ us) = ap (λ l. Free ∷ l) (closed_both us)
closed_both (Written ∷ us) = refl
closed_both (Read held ∷ us) = refl

shelves_both : (xs : List Shelf) (id other : ℕ) → on_shelf written_closed other (on_shelf read_closed id xs) ≡ on_shelf read_closed id (on_shelf written_closed other xs)
shelves_both [] id other = refl
shelves_both (x ∷ xs) zero zero = ap (λ us. record { group = x.group; copies = us } ∷ xs) (closed_both x.copies)
shelves_both (x ∷ xs) zero (suc other) = refl
shelves_both (x ∷ xs) (suc id) zero = refl
shelves_both (x ∷ xs) (suc id) (suc other) = ap (λ l. x ∷ l) (shelves_both xs id other)

are_written : (ids : List ℕ) (xs : List Shelf) (id : ℕ) → AreWritten ids xs → AreWritten ids (on_shelf read_closed id xs)
are_written [] xs id h = tt
are_written (k ∷ ks) xs id h = (
  omega (arith, h.0, read_stays xs id),
  shelf_contains xs id k h.1,
  subst (AreWritten ks) (sym (shelves_both xs id k)) (are_written ks (on_shelf written_closed k xs) id h.2),
)

reading_copies : (buffer : Option ℕ) (s : Standing) → All HasCopy s.shelves → All HasCopy (reading_over buffer s).shelves
reading_copies None s h = h
reading_copies (Some id) s h = read_copies s.shelves id h

reading_written : (buffer : Option ℕ) (s : Standing) → AreWritten s.targets s.shelves → AreWritten s.targets (reading_over buffer s).shelves
reading_written None s h = h
reading_written (Some id) s h = are_written s.targets s.shelves id h

reading_length : (buffer : Option ℕ) (s : Standing) → length (reading_over buffer s).shelves ≡ length s.shelves
reading_length None s = refl
reading_length (Some id) s = read_stays s.shelves id

over_source : (buffer : Option ℕ) (o : Stream) (others : List Outer) (s : Standing) → source_over buffer o others s
    ≡ record s { source = o; around = others; shelves = (reading_over buffer s).shelves }
over_source None o others s = refl
over_source (Some id) o others s = refl

-- what those around tell
outer_tells : (buffer : Option ℕ) (next asked : ℕ) (fs : List Frame) (r : Room) (rs : List Room) (s : Standing) → TellWithin (Source buffer next asked ∷ fs) (r ∷ rs) s.shelves
    → TellWithin fs rs (reading_over buffer s).shelves
outer_tells None next asked fs r rs s h = h
outer_tells (Some id) next asked fs r rs s h = h.1

-- The buffers themselves.

usage_closed : (held rest : List Kept) (st : State) (us vs : List Usage) → vs ≡ read_closed us
    → (if is_reading st then Free ∷ us else usage_by held st ∷ vs) ≡ read_closed (usage_by held st ∷ us)
usage_closed held rest layer.Shut us vs is = ap (λ l. Free ∷ l) is
usage_closed held rest (layer.Writing target) us vs is = ap (λ l. Written ∷ l) is
usage_closed held rest layer.Reading us vs is = refl

read_shut : (declared : List Kept) (cs : List Layer) → map (usage_of declared) (on_first is_read closed cs) ≡ read_closed (map (usage_of declared) cs)
read_shut declared [] = refl
read_shut declared (c ∷ cs) =
    by (is_reading c.state) ∙ usage_closed (contents declared c) [] c.state (map (usage_of declared) cs) (map (usage_of declared) (on_first is_read closed cs)) (read_shut declared cs)
  where
    by : (b : Bool) → map (usage_of declared) (if b then closed c ∷ cs else c ∷ on_first is_read closed cs)
        ≡ (if b then Free ∷ map (usage_of declared) cs else usage_of declared c ∷ map (usage_of declared) (on_first is_read closed cs))
    by true = refl
    by false = refl

shelves_shut : (bs : List Buffer) (id : ℕ) → map shelf_of (slice_set bs id (with_copies (on_first is_read closed) (unwrap_or (slice_get bs id) none))) ≡ on_shelf read_closed id (map shelf_of bs)
shelves_shut [] id = refl
shelves_shut (b ∷ bs) zero = ap (λ us. record { group = b.group; copies = us } ∷ map shelf_of bs) (read_shut b.declared b.copies)
shelves_shut (b ∷ bs) (suc id) = ap (λ l. shelf_of b ∷ l) (shelves_shut bs id)

pub reading_shut : (a b : Putting) (id : ℕ) → b.buffers ≡ on_buffer (on_first is_read closed) id a.buffers → map shelf_of b.buffers.buffers ≡ on_shelf read_closed id (map shelf_of a.buffers.buffers)
reading_shut a b id is = ap (λ (x : Buffers). map shelf_of x.buffers) is ∙ shelves_shut a.buffers.buffers id

-- The innermost source is over, and the body that asked for it waits in the one around it.

one_around : (xs : List Outer) (P : Outer → List Outer → Type 0) → OnOuter xs P → (o : Outer) × ((others : List Outer) × (xs ≡ o ∷ others))
one_around [] P h = absurd h
one_around (o ∷ others) P h = (o, (others, refl))

last_well : (xs : List sources.Source) (x : sources.Source) → All IsOuterWell (xs ++ x ∷ []) → All IsOuterWell xs × IsOuterWell x
last_well [] x h = (All-tail IsOuterWell x [] h, All-head IsOuterWell x [] h)
last_well (y ∷ ys) x h =
    let more = last_well ys x (All-tail IsOuterWell y (ys ++ x ∷ []) h) in
    (All-cons IsOuterWell y ys (All-head IsOuterWell y (ys ++ x ∷ []) h) more.0, more.1)

outer_reversed : (init : List sources.Source) (x : sources.Source) → map outer_of (reverse (init ++ x ∷ [])) ≡ outer_of x ∷ map outer_of (reverse init)
outer_reversed init x = ap (map outer_of) (reverse-append init (x ∷ []))

rooms_reversed : (init : List sources.Source) (x : sources.Source) → map room_of (reverse (init ++ x ∷ [])) ≡ room_of x ∷ map room_of (reverse init)
rooms_reversed init x = ap (map room_of) (reverse-append init (x ∷ []))

pub source_is_over : (p : Program) (r n : Run) (h : ListIsOver p r) (buffer : Option ℕ) (next asked : ℕ) (gs : List Frame) → reverse r.frames.frames ≡ Source buffer next asked ∷ gs
    → (x : sources.Source) (init : List sources.Source) → r.outer.items ≡ init ++ x ∷ [] → n.source ≡ x → n.outer.items ≡ init → (standing_of n).aside ≡ (standing_of r).aside
    → n.store ≡ r.store → n.putting.targets ≡ r.putting.targets → map shelf_of n.putting.buffers.buffers ≡ (reading_over buffer (standing_of r)).shelves
    → HoldStill r.putting.buffers n.putting.buffers → reverse n.frames.frames ≡ gs → IsWaiting p n
source_is_over p r n h buffer next asked gs is x init items source outer aside store targets shelves holds frames =
    let s = standing_of r in
    let w : AreWell p h.stations 0 true (Source buffer next asked ∷ gs) s = subst (λ l. AreWell p h.stations 0 true l s) is h.well in
    let around : s.around ≡ outer_of x ∷ map outer_of (reverse init) = ap (λ l. map outer_of (reverse l)) items ∙ outer_reversed init x in
    let e = source_ends p h.stations gs s buffer next asked (outer_of x) (map outer_of (reverse init)) w around in
    let t = source_over buffer (stream_of x) (map outer_of (reverse init)) s in
    let u : Standing = record s { source = stream_of x; around = map outer_of (reverse init); shelves = (reading_over buffer s).shelves } in
    let stand : standing_of n ≡ t =
    standing_parts (standing_of n) u (ap stream_of source) (ap (λ l. map outer_of (reverse l)) outer) aside (ap reverse targets) (ap (λ (l : Stored). map length l) store) shelves
    ∙ sym (over_source buffer (stream_of x) (map outer_of (reverse init)) s) in
    let both = last_well init x (subst (All IsOuterWell) items h.steady.outer) in
    let within : TellWithin (Source buffer next asked ∷ gs) (room_of r.source ∷ map room_of (reverse r.outer.items)) s.shelves =
    subst (λ l. TellWithin l (rooms_of r) s.shelves) is h.steady.within in
    let tells = outer_tells buffer next asked gs (room_of r.source) (map room_of (reverse r.outer.items)) s within in
    let rooms : rooms_of n ≡ map room_of (reverse r.outer.items) =
    ap (λ y. room_of y ∷ map room_of (reverse n.outer.items)) source ∙ ap (λ l. room_of x ∷ map room_of (reverse l)) outer
    ∙ sym (ap (λ l. map room_of (reverse l)) items ∙ rooms_reversed init x) in
    let steady : IsSteady p n = record {
      sheet = h.steady.sheet;
      limits = h.steady.limits;
      sound = h.steady.sound;
      program = h.steady.program;
      places = h.steady.places;
      shallow = h.steady.shallow;
      groups = ap length store ∙ h.steady.groups;
      buffers =
          sym (length-map n.putting.buffers.buffers shelf_of) ∙ ap length shelves ∙ reading_length buffer s
          ∙ length-map r.putting.buffers.buffers shelf_of ∙ h.steady.buffers;
      source = subst IsSourceWell (sym source) both.1.well;
      outer = subst (All IsOuterWell) (sym outer) both.0;
      written =
          subst (λ l. AreWritten (reverse l) (standing_of n).shelves) (sym targets)
          (subst (AreWritten s.targets) (sym shelves) (reading_written buffer s h.steady.written));
      copied = subst (λ (l : Stored). All (λ k. 0 < k) (map length l)) (sym store) h.steady.copied;
      shelved = subst (All HasCopy) (sym shelves) (reading_copies buffer s h.steady.shelved);
      within =
          subst (λ l. TellWithin l (rooms_of n) (standing_of n).shelves) (sym frames)
          (subst (λ l. TellWithin gs l (standing_of n).shelves) (sym rooms)
          (subst (TellWithin gs (map room_of (reverse r.outer.items))) (sym shelves) tells));
      deep = holds.deep p.buffer_depth h.steady.deep;
      sections = holds.sections h.steady.sections;
      aside = subst (All WaitsWell) (sym aside) h.steady.aside;
    } in
    waits_by p n h.stations gs t (known_of x) h.stand steady (λ k. both.1.apart (sym (ap (λ (y : sources.Source). y.ahead) source) ∙ k)) frames stand
    (ap known_of source) e
