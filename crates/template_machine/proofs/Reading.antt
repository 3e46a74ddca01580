-- A buffer is read within a run.
use Rattle.std.proofs.Common.{◌≡◌, ℕ, zero, suc, ◌<◌, List, [], ◌∷◌, length, map, get_or, All, Some, IsSome, true, refl, ap, sym, subst, arith}
use Rattle.std.specs.Prelude.{unwrap_or}
use Rattle.std.specs.List.{Contains, slice_get, slice_set}
use Rattle.std.proofs.lemmas.Bool.{false≢true}
use Rattle.std.proofs.lemmas.List.Elements.{All-cons, All-head, All-nil, All-tail}
use Rattle.event_buffers.specs.Buffers.{Buffer, none, on_newest, with_copies}
use Rattle.event_buffers.specs.Layer as layer
use Rattle.event_buffers.specs.Layer.{Layer, State, contents, opened_read}
use Rattle.event_buffers.specs.declared.kept.Kept.{Kept}
use Rattle.frame_stack.specs.declared.frame.Frame.{Frame}
use Rattle.frame_stack.specs.declared.frame.Frame.TheVariants as frame
use Rattle.node_stack.specs.Path.{Document, can_have_children}
use Rattle.stx_base.specs.declared.fault.Place.{Place}
use Rattle.template_machine.specs.Bodies.{pc_in}
use Rattle.template_machine.specs.Contexts.{Station}
use Rattle.template_machine.specs.Puts.{NewestIsFree}
use Rattle.template_machine.specs.Standing.{Free, Known, Read, Shelf, Standing, Unknown, Usage, Written, on_shelf, read_closed, shelf_at, shelf_of, usage_by, usage_of, written_closed}
use Rattle.template_machine.specs.Ways.{Way, here, lists_on}
use Rattle.template_machine.specs.Well.{AreWell, AreWritten, BodyWaits, ListGoesOn, read_from}
use Rattle.template_machine.specs.declared.program.Program.{Program}
use Rattle.template_machine.specs.declared.source.Origin.TheVariants as origin
use Rattle.template_machine.proofs.Children.{asks_before}
use Rattle.template_machine.proofs.Streams.{within_source}

-- Shelves of which some copies, that were open for nothing, are read.

abbrev MayRead : Usage → Usage → Type 0
MayRead Free Free = Unit {0}
MayRead Free (Read held) = Unit {0}
MayRead Free Written = ⊥
MayRead Written Written = Unit {0}
MayRead Written v = ⊥
MayRead (Read held) v = v ≡ Read held

abbrev MayBeRead : List Usage → List Usage → Type 0
MayBeRead [] [] = Unit {0}
MayBeRead [] (v ∷ vs) = ⊥
MayBeRead (u ∷ us) [] = ⊥
MayBeRead (u ∷ us) (v ∷ vs) = MayRead u v × MayBeRead us vs

abbrev MayAllBeRead : List Shelf → List Shelf → Type 0
MayAllBeRead [] [] = Unit {0}
MayAllBeRead [] (y ∷ ys) = ⊥
MayAllBeRead (x ∷ xs) [] = ⊥
MayAllBeRead (x ∷ xs) (y ∷ ys) = MayBeRead x.copies y.copies × MayAllBeRead xs ys

itself : (u : Usage) → MayRead u u
itself Free = tt
itself Written = tt
itself (Read held) = refl

themselves : (us : List Usage) → MayBeRead us us
themselves [] = tt
themselves (u ∷ us) = (itself u, themselves us)

all_themselves : (xs : List Shelf) → MayAllBeRead xs xs
all_themselves [] = tt
all_themselves (x ∷ xs) = (themselves x.copies, all_themselves xs)

-- what is written stays written

still_written : (us vs : List Usage) → MayBeRead us vs → Contains us Written → Contains vs Written
still_written us vs m c = by us vs m c.0 c.1 c.2
  where
    one : (u v : Usage) → MayRead u v → u ≡ Written → v ≡ Written
    one Free v m e = absurd (cc)
    one Written Free m e = absurd m
    one Written Written m e = refl
    one Written (Read held) m e = absurd m
    one (Read held) v m e = absurd (cc)

    by : (us vs : List Usage) → MayBeRead us vs → (k : ℕ) → k < length us → get_or us k Written ≡ Written → Contains vs Written
    by [] vs m k less is = absurd (omega (arith, less))
    by (u ∷ us) [] m k less is = absurd m
    by (u ∷ us) (v ∷ vs) m zero less is = (0, omega arith, one u v m.0 is)
    by (u ∷ us) (v ∷ vs) m (suc k) less is =
        let r = by us vs m.1 k (omega (arith, less)) is in (suc r.0, omega (arith, r.1), r.2)

read_written : (us vs : List Usage) → MayBeRead us vs → MayBeRead (written_closed us) (written_closed vs)
read_written [] [] m = tt
read_written [] (v ∷ vs) m = absurd m
read_written (u ∷ us) [] m = absurd m
read_written (Free ∷ us) (Free ∷ vs) m = (tt, read_written us vs m.1)
read_written (Free ∷ us) (Read held ∷ vs) m = (tt, read_written us vs m.1)
read_written (Free ∷ us) (Written ∷ vs) m = absurd m.0
read_written (Written ∷ us) (Free ∷ vs) m = absurd m.0
read_written (Written ∷ us) (Read held ∷ vs) m = absurd m.0
read_written (Written ∷ us) (Written ∷ vs) m = (tt, m.1)
read_written (Read held ∷ us) (Free ∷ vs) m = let e : Free ≡ Read held = m.0 in absurd (cc)
read_written (Read held ∷ us) (Written ∷ vs) m = let e : Written ≡ Read held = m.0 in absurd (cc)
read_written (Read held ∷ us) (Read other ∷ vs) m = (m.0, read_written us vs m.1)

shelf_written : (xs ys : List Shelf) (id : ℕ) → MayAllBeRead xs ys → MayAllBeRead (on_shelf written_closed id xs) (on_shelf written_closed id ys)
shelf_written [] [] id m = tt
shelf_written [] (y ∷ ys) id m = absurd m
shelf_written (x ∷ xs) [] id m = absurd m
shelf_written (x ∷ xs) (y ∷ ys) zero m = (read_written x.copies y.copies m.0, m.1)
shelf_written (x ∷ xs) (y ∷ ys) (suc id) m = (m.0, shelf_written xs ys id m.1)

shelf_read_at : (xs ys : List Shelf) (id : ℕ) → id < length xs → MayAllBeRead xs ys → (id < length ys) × MayBeRead (shelf_at xs id).copies (shelf_at ys id).copies
shelf_read_at [] ys id less m = absurd (omega (arith, less))
shelf_read_at (x ∷ xs) [] id less m = absurd m
shelf_read_at (x ∷ xs) (y ∷ ys) zero less m = (omega arith, m.0)
shelf_read_at (x ∷ xs) (y ∷ ys) (suc id) less m =
    let r = shelf_read_at xs ys id (omega (arith, less)) m.1 in (omega (arith, r.0), r.1)

pub written_still : (ids : List ℕ) (xs ys : List Shelf) → MayAllBeRead xs ys → AreWritten ids xs → AreWritten ids ys
written_still [] xs ys m w = tt
written_still (id ∷ ids) xs ys m w =
    let r = shelf_read_at xs ys id w.0 m in (
      r.0,
      still_written (shelf_at xs id).copies (shelf_at ys id).copies r.1 w.1,
      written_still ids (on_shelf written_closed id xs) (on_shelf written_closed id ys) (shelf_written xs ys id m) w.2,
    )

as_many : (us vs : List Usage) → MayBeRead us vs → length vs ≡ length us
as_many [] [] m = refl
as_many [] (v ∷ vs) m = absurd m
as_many (u ∷ us) [] m = absurd m
as_many (u ∷ us) (v ∷ vs) m = ap suc (as_many us vs m.1)

-- The newest copy of a buffer is read.

pub record Reads (id : ℕ) (xs ys : List Shelf) : Type 0 where
  pub held : List Kept
  pub there : id < length ys
  pub from : read_from (shelf_at ys id).copies ≡ Some held
  pub back : on_shelf read_closed id ys ≡ xs
  pub may : MayAllBeRead xs ys

-- which holds this
abbrev pub held_newest : (declared : List Kept) → List Layer → List Kept
held_newest declared [] = []
held_newest declared (c ∷ cs) = contents declared c

free_is : (held : List Kept) (s : State) (us : List Usage) → NewestIsFree (usage_by held s ∷ us) → usage_by held s ≡ Free
free_is held layer.Shut us h = refl
free_is held (layer.Writing t) us h = absurd h
free_is held layer.Reading us h = absurd h

opened_newest : (declared : List Kept) (cs : List Layer) (group : ℕ) (rest : List Shelf) → NewestIsFree (map (usage_of declared) cs)
    → (r : Reads 0 (record { group = group; copies = map (usage_of declared) cs } ∷ rest)
    (record { group = group; copies = map (usage_of declared) (on_newest opened_read cs) } ∷ rest)) × (r.held ≡ held_newest declared cs)
opened_newest declared [] group rest free = absurd free
opened_newest declared (c ∷ cs) group rest free =
    let us = map (usage_of declared) cs in
    let is : usage_of declared c ≡ Free = free_is (contents declared c) c.state us free in (
      record {
        held = contents declared c;
        there = omega arith;
        from = refl;
        back = ap (λ u. record { group = group; copies = u ∷ us } ∷ rest) (sym is);
        may = ((subst (λ u. MayRead u (Read (contents declared c))) (sym is) tt, themselves us), all_themselves rest);
      },
      refl,
    )

pub opened_reads : (bs : List Buffer) (id : ℕ) → NewestIsFree (shelf_at (map shelf_of bs) id).copies
    → (r : Reads id (map shelf_of bs) (map shelf_of (slice_set bs id (with_copies (on_newest opened_read) (unwrap_or (slice_get bs id) none)))))
    × (r.held ≡ held_newest (unwrap_or (slice_get bs id) none).declared (unwrap_or (slice_get bs id) none).copies)
opened_reads [] id free = absurd free
opened_reads (b ∷ bs) zero free = opened_newest b.declared b.copies b.group (map shelf_of bs) free
opened_reads (b ∷ bs) (suc id) free =
    let r = opened_reads bs id free in (
      record {
        held = r.0.held;
        there = omega (arith, r.0.there);
        from = r.0.from;
        back = ap (λ l. shelf_of b ∷ l) r.0.back;
        may = (themselves (map (usage_of b.declared) b.copies), r.0.may);
      },
      r.1,
    )

-- The list of its nodes goes on.
module _ (p : Program) (stations : List Station) where
  pub buffer_opens : (fs : List Frame) (s : Standing) (ys : List Shelf) (asked id : ℕ) (known : Known) (at : Place) (w : Way) → BodyWaits p stations fs s known
      → pc_in fs ≡ Some (suc asked) → here w ≡ Some Document → lists_on w ≡ 1 → Reads id s.shelves ys
      → ListGoesOn p stations (frame.Source (Some id) 0 asked ∷ fs)
      (within_source (record { origin = origin.Buffer id at; way = w }) known (record s { shelves = ys })) (record { front = Unknown; begun = 1 })
  buffer_opens fs s ys asked id known at w b there is none r =
      let back : record s { shelves = on_shelf read_closed id ys } ≡ s = ap (λ l. record s { shelves = l }) r.back in
      record {
        well = (
          refl,
          b.body,
          asks_before fs asked there,
          (refl, r.there, subst (λ o. IsSome o) (sym r.from) refl),
          is,
          (b.fits, subst (AreWell p stations 0 true fs) (sym back) b.well),
        );
        fits = (ap can_have_children is, (λ some. absurd (false≢true some)), omega (arith, none));
      }

-- so many buffers, each with a copy

pub as_many_shelves : (xs ys : List Shelf) → MayAllBeRead xs ys → length ys ≡ length xs
as_many_shelves [] [] m = refl
as_many_shelves [] (y ∷ ys) m = absurd m
as_many_shelves (x ∷ xs) [] m = absurd m
as_many_shelves (x ∷ xs) (y ∷ ys) m = ap suc (as_many_shelves xs ys m.1)

abbrev pub HasCopy : Shelf → Type 0
HasCopy x = 0 < length x.copies

pub still_shelved : (xs ys : List Shelf) → MayAllBeRead xs ys → All HasCopy xs → All HasCopy ys
still_shelved [] [] m all = All-nil HasCopy
still_shelved [] (y ∷ ys) m all = absurd m
still_shelved (x ∷ xs) [] m all = absurd m
still_shelved (x ∷ xs) (y ∷ ys) m all =
    All-cons HasCopy y ys (omega (arith, as_many x.copies y.copies m.0, All-head HasCopy x xs all)) (still_shelved xs ys m.1 (All-tail HasCopy x xs all))
