-- What a buffer tells to the innermost list.
use Rattle.std.proofs.Common.{◌≡◌, ℕ, zero, suc, ◌<◌, Bool, true, false, cond, List, [], ◌∷◌, length, map, Option, Some, None, IsSome, refl, ap, sym, subst, ◌∙◌, arith}
use Rattle.std.specs.Prelude.{All, ◌==◌, drop, if◌then◌else◌, unwrap_or}
use Rattle.std.specs.List.{find, slice_get}
use Rattle.std.specs.Option.{option_map, option_map_or}
use Rattle.std.proofs.lemmas.Bool.{eqb-true, false≢true}
use Rattle.std.proofs.lemmas.List.{length-map}
use Rattle.std.proofs.lemmas.List.Elements.{All-head, All-tail}
use Rattle.stx_base.specs.declared.fault.Place.{Place}
use Rattle.event_buffers.specs.Buffers.{Buffer, is_read, none, read}
use Rattle.event_buffers.specs.Layer as layer
use Rattle.event_buffers.specs.Layer.{Layer, State, contents, is_reading}
use Rattle.event_buffers.specs.Told.{told}
use Rattle.event_buffers.specs.declared.kept.Kept.{Kept}
use Rattle.frame_stack.specs.declared.frame.Frame.{Frame}
use Rattle.frame_stack.specs.declared.frame.Frame.TheVariants.{Body, Call, Attributes, Loop, Region, Source, Skip, Pass}
use Rattle.node_stack.specs.Path.{Node}
use Rattle.xml_events.specs.declared.event.Event.{Event}
use Rattle.template_machine.specs.Contexts.{Station}
use Rattle.template_machine.specs.Lists.{rest_of}
use Rattle.template_machine.specs.Standing.{Free, Read, Room, Shelf, Standing, Usage, Written, in_group, node_over, region_over, scope_over, shelf_at, shelf_of, skip_over, skipped_by, usage_by, usage_of, writing_over}
use Rattle.template_machine.specs.Well.{AreWell, AreWithin, CanTakeOff, IsLaidOver, IsStream, OnFirst, TellWithin, buffers_of, is_again, over, read_from}
use Rattle.template_machine.specs.declared.program.Program.{Program}
use Rattle.template_machine.specs.declared.source.Origin.TheVariants as origin
use Rattle.template_machine.proofs.Writing.{first_read, read_first, reads, reads_at, reads_of, reads_shut}

-- What is read of the shelves is the same once frames are over, and so is the origin of the source.

writing_reads : (ids : List ℕ) (s : Standing) → map reads (writing_over ids s).shelves ≡ map reads s.shelves
writing_reads [] s = refl
writing_reads (id ∷ ids) s = writing_reads ids _ ∙ reads_shut s.shelves id

laid_reads : (us : List Usage) → IsLaidOver us → reads_of (rest_of us) ≡ reads_of us
laid_reads [] h = absurd h
laid_reads (Free ∷ u ∷ us) h = refl
laid_reads (Free ∷ []) h = absurd h
laid_reads (Written ∷ us) h = absurd h
laid_reads (Read held ∷ us) h = absurd h

group_reads : (b : Bool) (group : ℕ) (x : Shelf) → (x.group == group) ≡ b → (x.group ≡ group → IsLaidOver x.copies) → reads (in_group rest_of group x) ≡ reads x
group_reads true group x e laid =
    ap (λ b. reads (if b then record x { copies = rest_of x.copies } else x)) e ∙ laid_reads x.copies (laid (eqb-true x.group group e))
group_reads false group x e laid = ap (λ b. reads (if b then record x { copies = rest_of x.copies } else x)) e

groups_reads : (group : ℕ) (xs : List Shelf) → All (λ (x : Shelf). x.group ≡ group → IsLaidOver x.copies) xs → map reads (map (in_group rest_of group) xs) ≡ map reads xs
groups_reads group [] h = refl
groups_reads group (x ∷ xs) h =
    let P : Shelf → Type 0 = λ y. y.group ≡ group → IsLaidOver y.copies in
    ap (λ l. l ∷ map reads (map (in_group rest_of group) xs)) (group_reads (x.group == group) group x refl (All-head P x xs h))
    ∙ ap (λ l. reads x ∷ l) (groups_reads group xs (All-tail P x xs h))

pub scope_reads : (b : Bool) (group : ℕ) (s : Standing) → (b ≡ true → CanTakeOff group s) → map reads (scope_over b group s).shelves ≡ map reads s.shelves
scope_reads false group s h = refl
scope_reads true group s h = groups_reads group s.shelves (h refl).1

pub writing_origin : (ids : List ℕ) (s : Standing) → (writing_over ids s).source.origin ≡ s.source.origin
writing_origin [] s = refl
writing_origin (id ∷ ids) s = writing_origin ids _

pub scope_origin : (b : Bool) (group : ℕ) (s : Standing) → (scope_over b group s).source.origin ≡ s.source.origin
scope_origin false group s = refl
scope_origin true group s = refl

pub over_same : (b : Bool) (s : Standing) → ((if b then s else node_over s).source.origin ≡ s.source.origin) × (map reads (if b then s else node_over s).shelves ≡ map reads s.shelves)
over_same true s = (refl, refl)
over_same false s = (refl, refl)

pub skip_same : (aside : List (Option Node)) (s : Standing) → ((skipped_by aside s).source.origin ≡ s.source.origin) × (map reads (skipped_by aside s).shelves ≡ map reads s.shelves)
skip_same [] s = (refl, refl)
skip_same (None ∷ others) s = (refl, refl)
skip_same (Some x ∷ others) s = (refl, refl)

pub first_on : (xs : List (Option Node)) (P : Node → List (Option Node) → Type 0) (Q : Type 0) → OnFirst xs P → ((x : Node) (others : List (Option Node)) → P x others → Q) → Q
first_on [] P Q h f = absurd h
first_on (None ∷ xs) P Q h f = absurd h
first_on (Some x ∷ xs) P Q h f = f x xs h

-- a buffer is read
abbrev IsRead : (id : ℕ) → List (List (List Kept)) → Type 0
IsRead id rs = (id < length rs) × IsSome (first_read (unwrap_or (slice_get rs id) []))

-- of what is told by a buffer from a place on
abbrev pub told_from : List Shelf → (id next : ℕ) → List Event
told_from shelves id next = option_map_or (λ held. told (drop next held)) (read_from (shelf_at shelves id).copies) []

stream_read : (buffer : Option ℕ) (id : ℕ) (at : Place) (xs : List Shelf) → IsStream buffer (origin.Buffer id at) xs → IsRead id (map reads xs)
stream_read None id at xs h = absurd h
stream_read (Some k) id at xs h =
    let there : id < length (map reads xs) = omega (arith, h.1, h.0, length-map xs reads) in
    let some : IsSome (read_from (shelf_at xs id).copies) = subst (λ n. IsSome (read_from (shelf_at xs n).copies)) (sym h.0) h.2 in
    (there, subst (λ o. IsSome o) (read_first (shelf_at xs id).copies ∙ ap first_read (reads_at xs id)) some)

stream_is : (buffer : Option ℕ) (id : ℕ) (at : Place) (xs : List Shelf) → IsStream buffer (origin.Buffer id at) xs → buffer ≡ Some id
stream_is None id at xs h = absurd h
stream_is (Some k) id at xs h = ap (λ n. Some n) (sym h.0)

module _ (p : Program) (stations : List Station) where
  -- The innermost source is a buffer, of which a copy is read.
  pub buffer_read : (loops : ℕ) (waits : Bool) (fs : List Frame) (s : Standing) (id : ℕ) (at : Place) → AreWell p stations loops waits fs s
      → s.source.origin ≡ origin.Buffer id at → IsRead id (map reads s.shelves)
  buffer_read loops waits [] s id at w is = let both : origin.Buffer id at ≡ origin.Main = sym is ∙ w.5 in absurd (cc)
  buffer_read loops waits (Loop turn ∷ fs) s id at w is = buffer_read (suc loops) waits fs s id at w is
  buffer_read loops waits (Body template alternative pc locals level spent ∷ fs) s id at w is =
      let inner = writing_over (buffers_of p w.0.writing) s in
      let t = scope_over w.1.0.new_scope w.1.0.group inner in
      let o = over_same (is_again level fs) t in
      subst (IsRead id) (o.1 ∙ scope_reads w.1.0.new_scope w.1.0.group inner w.1.1.1.own_copies ∙ writing_reads (buffers_of p w.0.writing) s)
      (buffer_read 0 true fs (over level fs t) id at w.1.1.4
      (o.0 ∙ scope_origin w.1.0.new_scope w.1.0.group inner ∙ writing_origin (buffers_of p w.0.writing) s ∙ is))
  buffer_read loops waits (Call procedure pc locals level ∷ fs) s id at w is =
      subst (IsRead id) (writing_reads (buffers_of p w.0.writing) s)
      (buffer_read 0 false fs (writing_over (buffers_of p w.0.writing) s) id at w.1.1.3 (writing_origin (buffers_of p w.0.writing) s ∙ is))
  buffer_read loops waits (Region asked level ∷ fs) s id at w is =
      first_on s.aside _ (IsRead id (map reads s.shelves)) w.3 (λ x others h. buffer_read 0 true fs (region_over x others s) id at h.2 is)
  buffer_read loops waits (Attributes next asked ∷ fs) s id at w is = buffer_read 0 true fs s id at w.3 is
  buffer_read loops waits (Source buffer next asked ∷ fs) s id at w is =
      stream_read buffer id at s.shelves (subst (λ o. IsStream buffer o s.shelves) is w.3)
  buffer_read loops waits (Skip depth ∷ fs) s id at w is =
      let o = skip_same s.aside s in subst (IsRead id) o.1 (buffer_read 0 true fs (skip_over s) id at w.4 (o.0 ∙ is))
  buffer_read loops waits (Pass base level spent ∷ fs) s id at w is =
      let o = over_same (is_again level fs) s in subst (IsRead id) o.1 (buffer_read 0 true fs (over level fs s) id at w.6 (o.0 ∙ is))

  -- what it tells next is within limits, and the rest stays so
  pub buffer_tells : (loops : ℕ) (waits : Bool) (fs : List Frame) (s : Standing) (id : ℕ) (at : Place) (r t : Room) (rs : List Room) (xs : List Shelf)
      → AreWell p stations loops waits fs s → s.source.origin ≡ origin.Buffer id at → TellWithin fs (r ∷ rs) xs
      → AreWithin r.limit r.begun (told_from xs id r.next) × (AreWithin t.limit t.begun (told_from xs id t.next) → TellWithin fs (t ∷ rs) xs)
  buffer_tells loops waits [] s id at r t rs xs w is h = let both : origin.Buffer id at ≡ origin.Main = sym is ∙ w.5 in absurd (cc)
  buffer_tells loops waits (Loop turn ∷ fs) s id at r t rs xs w is h = buffer_tells (suc loops) waits fs s id at r t rs xs w is h
  buffer_tells loops waits (Body template alternative pc locals level spent ∷ fs) s id at r t rs xs w is h =
      let inner = writing_over (buffers_of p w.0.writing) s in
      let u = scope_over w.1.0.new_scope w.1.0.group inner in
      let o = over_same (is_again level fs) u in
      buffer_tells 0 true fs (over level fs u) id at r t rs xs w.1.1.4
      (o.0 ∙ scope_origin w.1.0.new_scope w.1.0.group inner ∙ writing_origin (buffers_of p w.0.writing) s ∙ is) h
  buffer_tells loops waits (Call procedure pc locals level ∷ fs) s id at r t rs xs w is h =
      buffer_tells 0 false fs (writing_over (buffers_of p w.0.writing) s) id at r t rs xs w.1.1.3 (writing_origin (buffers_of p w.0.writing) s ∙ is) h
  buffer_tells loops waits (Region asked level ∷ fs) s id at r t rs xs w is h =
      first_on s.aside _ (AreWithin r.limit r.begun (told_from xs id r.next) × (AreWithin t.limit t.begun (told_from xs id t.next) → TellWithin fs (t ∷ rs) xs)) w.3
      (λ x others k. buffer_tells 0 true fs (region_over x others s) id at r t rs xs k.2 is h)
  buffer_tells loops waits (Attributes next asked ∷ fs) s id at r t rs xs w is h = buffer_tells 0 true fs s id at r t rs xs w.3 is h
  buffer_tells loops waits (Source None next asked ∷ fs) s id at r t rs xs w is h = absurd (subst (λ o. IsStream None o s.shelves) is w.3)
  buffer_tells loops waits (Source (Some k) next asked ∷ fs) s id at r t rs xs w is h =
      let same : k ≡ id = same_buffer (stream_is (Some k) id at s.shelves (subst (λ o. IsStream (Some k) o s.shelves) is w.3)) in (
        subst (λ n. AreWithin r.limit r.begun (told_from xs n r.next)) same h.0,
        λ more. (subst (λ n. AreWithin t.limit t.begun (told_from xs n t.next)) (sym same) more, h.1),
      )
    where
      same_buffer : Some k ≡ Some id → k ≡ id
      same_buffer e = cc
  buffer_tells loops waits (Skip depth ∷ fs) s id at r t rs xs w is h =
      let o = skip_same s.aside s in buffer_tells 0 true fs (skip_over s) id at r t rs xs w.4 (o.0 ∙ is) h
  buffer_tells loops waits (Pass base level spent ∷ fs) s id at r t rs xs w is h =
      let o = over_same (is_again level fs) s in buffer_tells 0 true fs (over level fs s) id at r t rs xs w.6 (o.0 ∙ is) h

-- The copy that is read, of the buffers themselves.

usage_read : (held : List Kept) (st : State) (us : List Usage) → is_reading st ≡ false → read_from (usage_by held st ∷ us) ≡ read_from us
usage_read held layer.Shut us e = refl
usage_read held (layer.Writing target) us e = refl
usage_read held layer.Reading us e = absurd (false≢true (sym e))

usage_reads : (held : List Kept) (st : State) (us : List Usage) → is_reading st ≡ true → read_from (usage_by held st ∷ us) ≡ Some held
usage_reads held layer.Shut us e = absurd (false≢true e)
usage_reads held (layer.Writing target) us e = absurd (false≢true e)
usage_reads held layer.Reading us e = refl

copies_read : (declared : List Kept) (cs : List Layer) → read_from (map (usage_of declared) cs) ≡ option_map (contents declared) (find is_read cs)
copies_read declared [] = refl
copies_read declared (c ∷ cs) = by (is_reading c.state) refl (copies_read declared cs)
  where
    by : (b : Bool) → is_reading c.state ≡ b → read_from (map (usage_of declared) cs) ≡ option_map (contents declared) (find is_read cs)
        → read_from (usage_of declared c ∷ map (usage_of declared) cs) ≡ option_map (contents declared) (find is_read (c ∷ cs))
    by true e rest = usage_reads (contents declared c) c.state (map (usage_of declared) cs) e ∙ sym (ap (λ b. option_map (contents declared) (cond b (Some c) (find is_read cs))) e)
    by false e rest =
        usage_read (contents declared c) c.state (map (usage_of declared) cs) e ∙ rest
        ∙ sym (ap (λ b. option_map (contents declared) (cond b (Some c) (find is_read cs))) e)

pub shelf_read : (bs : List Buffer) (id : ℕ)
    → read_from (shelf_at (map shelf_of bs) id).copies ≡ option_map (contents (unwrap_or (slice_get bs id) none).declared) (read (unwrap_or (slice_get bs id) none).copies)
shelf_read [] id = refl
shelf_read (b ∷ bs) zero = copies_read b.declared b.copies
shelf_read (b ∷ bs) (suc id) = shelf_read bs id
