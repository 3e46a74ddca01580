-- What calls of the buffers change of how their copies are used.
use Rattle.std.proofs.Common.{◌≡◌, ℕ, zero, suc, ◌-◌, ◌<◌, Bool, true, false, cond, List, [], ◌∷◌, ◌++◌, length, map, reverse, get_or, Option, Some, None, IsSome, refl, ap, sym, subst, ◌∙◌, arith, length-append}
use Rattle.std.proofs.lemmas.Bool.{false≢true}
use Rattle.std.proofs.lemmas.List.{length-map, reverse-append, reverse-reverse}
use Rattle.std.specs.List.{Contains, find, slice_get}
use Rattle.std.specs.Option.{option_and_then}
use Rattle.std.specs.Result.{result_map_both}
use Rattle.std.specs.Prelude.{Result, Ok, Err, MatchOption, OnOk, OnErr, if◌then◌else◌, slice_set, unwrap_or}
use Rattle.stx_base.specs.declared.part.Part.{Part}
use Rattle.result_writer.specs.Target.{holds_cdata_text}
use Rattle.event_buffers.specs.Buffers.{Buffer, Buffers, busy_at, copies_of, is_written, newest, none, on_buffer, on_first, on_newest, refusal_at, unclosed_at, with_copies, written}
use Rattle.event_buffers.specs.Layer.{Layer, State, Shut, Writing, Reading, busy, closed, contents, is_shut, is_writing, opened_write, with_part}
use Rattle.event_buffers.specs.declared.fault.BufferFault.TheVariants as fault
use Rattle.event_buffers.specs.declared.kept.Kept.{Kept}
use Rattle.template_machine.specs.Puts.{BeginsWriting, EndsWriting, NewestIsFree, first_target, newest_written, shelves_of, target_of}
use Rattle.template_machine.specs.Sections.{HoldStill}
use Rattle.template_machine.specs.Standing.{Free, Read, Shelf, Usage, Written, on_shelf, shelf_at, shelf_of, usage_by, usage_of, written_closed}
use Rattle.template_machine.specs.Moments.{StandsAsBefore, CanPut}
use Rattle.template_machine.specs.Well.{AreWritten}
use Rattle.template_machine.specs.declared.putting.Putting.{Putting}
use Rattle.template_machine.proofs.Holds.{holds_on, holds_same, part_put, write_closed, write_opened}

-- One copy.

part_leaves_by : (p : Part) (declared : List Kept) (d : Bool) (k : List Kept) (st : State) → is_writing st ≡ true
    → usage_of declared (with_part p (record { declared = d; kept = k; state = st })) ≡ usage_of declared (record { declared = d; kept = k; state = st })
part_leaves_by p declared d k Shut is = absurd (false≢true is)
part_leaves_by p declared d k (Writing target) is = refl
part_leaves_by p declared d k Reading is = absurd (false≢true is)

part_leaves : (p : Part) (declared : List Kept) (c : Layer) → is_written c ≡ true → usage_of declared (with_part p c) ≡ usage_of declared c
part_leaves p declared c is = part_leaves_by p declared c.declared c.kept c.state is

writing_by : (held : List Kept) (st : State) → usage_by held st ≡ Written → is_writing st ≡ true
writing_by held Shut is = absurd (cc)
writing_by held (Writing target) is = refl
writing_by held Reading is = absurd (cc)

not_busy : (held : List Kept) (st : State) (us : List Usage) → (if is_shut st then None else Some fault.Busy) ≡ None → NewestIsFree (usage_by held st ∷ us)
not_busy held Shut us is = tt
not_busy held (Writing target) us is = absurd (cc)
not_busy held Reading us is = absurd (cc)

closed_by : (held rest : List Kept) (st : State) (us vs : List Usage) → vs ≡ written_closed us
    → (if is_writing st then Free ∷ us else usage_by held st ∷ vs) ≡ written_closed (usage_by held st ∷ us)
closed_by held rest Shut us vs is = ap (λ l. Free ∷ l) is
closed_by held rest (Writing target) us vs is = refl
closed_by held rest Reading us vs is = ap (λ l. Read held ∷ l) is

-- The copies of a buffer.

part_on_first : (p : Part) (declared : List Kept) (cs : List Layer) → map (usage_of declared) (on_first is_written (with_part p) cs) ≡ map (usage_of declared) cs
part_on_first p declared [] = refl
part_on_first p declared (c ∷ cs) = by (is_written c) refl (part_on_first p declared cs) where
  by : (b : Bool) → is_written c ≡ b
      → map (usage_of declared) (on_first is_written (with_part p) cs) ≡ map (usage_of declared) cs
      → map (usage_of declared) (if b then with_part p c ∷ cs else c ∷ on_first is_written (with_part p) cs) ≡ usage_of declared c ∷ map (usage_of declared) cs
  by true is rest = ap (λ u. u ∷ map (usage_of declared) cs) (part_leaves p declared c is)
  by false is rest = ap (λ us. usage_of declared c ∷ us) rest

written_opened : (elements : ℕ) (clear : Bool) (declared : List Kept) (cs : List Layer)
    → map (usage_of declared) (on_newest (opened_write elements clear) cs) ≡ newest_written (map (usage_of declared) cs)
written_opened elements clear declared [] = refl
written_opened elements clear declared (c ∷ cs) = refl

written_shut : (declared : List Kept) (cs : List Layer) → map (usage_of declared) (on_first is_written closed cs) ≡ written_closed (map (usage_of declared) cs)
written_shut declared [] = refl
written_shut declared (c ∷ cs) =
    by (is_writing c.state) ∙ closed_by (contents declared c) [] c.state (map (usage_of declared) cs) (map (usage_of declared) (on_first is_written closed cs)) (written_shut declared cs)
  where
    by : (b : Bool) → map (usage_of declared) (if b then closed c ∷ cs else c ∷ on_first is_written closed cs)
        ≡ (if b then Free ∷ map (usage_of declared) cs else usage_of declared c ∷ map (usage_of declared) (on_first is_written closed cs))
    by true = refl
    by false = refl

free_newest : (declared : List Kept) (cs : List Layer) → 0 < length cs → option_and_then busy (newest cs) ≡ None → NewestIsFree (map (usage_of declared) cs)
free_newest declared [] some is = absurd (omega arith)
free_newest declared (c ∷ cs) some is = not_busy (contents declared c) c.state (map (usage_of declared) cs) is

found_from : (b : Bool) (c : Layer) (o : Option Layer) → (b ≡ false → IsSome o) → IsSome (cond b (Some c) o)
found_from true c o some = refl
found_from false c o some = some refl

copy_found : (declared : List Kept) (cs : List Layer) (k : ℕ) → k < length (map (usage_of declared) cs) → get_or (map (usage_of declared) cs) k Written ≡ Written
    → IsSome (find is_written cs)
copy_found declared [] k less is = absurd (omega arith)
copy_found declared (c ∷ cs) zero less is =
    found_from (is_written c) c (find is_written cs) (λ e. absurd (false≢true (sym e ∙ writing_by (contents declared c) c.state is)))
copy_found declared (c ∷ cs) (suc k) less is =
    found_from (is_written c) c (find is_written cs) (λ e. copy_found declared cs k (omega arith) is)

-- All buffers.

shelf_changes : (f : List Layer → List Layer) (g : List Usage → List Usage)
    → ((declared : List Kept) (cs : List Layer) → map (usage_of declared) (f cs) ≡ g (map (usage_of declared) cs)) → (bs : List Buffer) (id : ℕ)
    → map shelf_of (slice_set bs id (with_copies f (unwrap_or (slice_get bs id) none))) ≡ on_shelf g id (map shelf_of bs)
shelf_changes f g h [] id = refl
shelf_changes f g h (b ∷ bs) zero = ap (λ us. record { group = b.group; copies = us } ∷ map shelf_of bs) (h b.declared b.copies)
shelf_changes f g h (b ∷ bs) (suc id) = ap (λ l. shelf_of b ∷ l) (shelf_changes f g h bs id)

shelf_stays : (xs : List Shelf) (id : ℕ) → on_shelf (λ us. us) id xs ≡ xs
shelf_stays [] id = refl
shelf_stays (x ∷ xs) zero = refl
shelf_stays (x ∷ xs) (suc id) = ap (λ l. x ∷ l) (shelf_stays xs id)

shelf_found : (bs : List Buffer) (id : ℕ) → Contains (shelf_at (map shelf_of bs) id).copies Written → IsSome (find is_written (unwrap_or (slice_get bs id) none).copies)
shelf_found [] id h = absurd (omega (arith, h.1))
shelf_found (b ∷ bs) zero h = copy_found b.declared b.copies h.0 h.1 h.2
shelf_found (b ∷ bs) (suc id) h = shelf_found bs id h

pub shelf_free : (bs : List Buffer) (id : ℕ) → 0 < length (unwrap_or (slice_get bs id) none).copies → option_and_then busy (newest (unwrap_or (slice_get bs id) none).copies) ≡ None
    → NewestIsFree (shelf_at (map shelf_of bs) id).copies
shelf_free [] id some is = absurd (omega (arith, some))
shelf_free (b ∷ bs) zero some is = free_newest b.declared b.copies some is
shelf_free (b ∷ bs) (suc id) some is = shelf_free bs id some is

-- Where parts go.

pub stands_still : (a : Putting) → StandsAsBefore a a
stands_still a = record { targets = refl; shelves = refl; holds = holds_same a.buffers }

-- something else of it is other
pub same_buffers : (a b : Putting) → b.targets ≡ a.targets → b.buffers ≡ a.buffers → StandsAsBefore a b
same_buffers a b targets same = record {
  targets = targets;
  shelves = ap (λ (x : Buffers). map shelf_of x.buffers) same;
  holds = subst (HoldStill a.buffers) (sym same) (holds_same a.buffers);
}

pub stands_on : (a b c : Putting) → StandsAsBefore a b → StandsAsBefore b c → StandsAsBefore a c
stands_on a b c x y = record { targets = y.targets ∙ x.targets; shelves = y.shelves ∙ x.shelves; holds = holds_on a.buffers b.buffers c.buffers x.holds y.holds }

pub can_still : (a b : Putting) → StandsAsBefore a b → CanPut a → CanPut b
can_still a b s can =
    subst (λ l. AreWritten (reverse l) (shelves_of b)) (sym s.targets) (subst (AreWritten (reverse a.targets)) (sym s.shelves) can)

pub target_still : (a b : Putting) → StandsAsBefore a b → target_of b ≡ target_of a
target_still a b s = ap (λ l. first_target (reverse l)) s.targets

target_in : (ids : List ℕ) (shelves : List Shelf) (id : ℕ) → AreWritten ids shelves → first_target ids ≡ Some id
    → (id < length shelves) × Contains (shelf_at shelves id).copies Written
target_in [] shelves id h is = absurd (cc)
target_in (j ∷ js) shelves id h is =
    let same : j ≡ id = cc in (subst (λ n. n < length shelves) same h.0, subst (λ n. Contains (shelf_at shelves n).copies Written) same h.1)

pub target_there : (a : Putting) (id : ℕ) → CanPut a → target_of a ≡ Some id → (id < length a.buffers.buffers) × IsSome (written (copies_of a.buffers id))
target_there a id can is =
    let t = target_in (reverse a.targets) (shelves_of a) id can is in
    (omega (arith, t.0, length-map a.buffers.buffers shelf_of), shelf_found a.buffers.buffers id t.1)

pub put_stands : {A E : Type 0} (a : Putting) (new : Buffers) (id : ℕ) (p : Part) (r : Result A E)
    → OnOk r (new ≡ on_buffer (on_first is_written (with_part p)) id a.buffers) → OnErr r (new ≡ a.buffers) → OnOk r (refusal_at a.buffers id p ≡ None)
    → holds_cdata_text p ≡ true → StandsAsBefore a (record a { buffers = new })
put_stands a new id p (Ok done) ok err fits text = record {
  targets = refl;
  shelves =
      ap (λ (b : Buffers). map shelf_of b.buffers) ok
      ∙ shelf_changes (on_first is_written (with_part p)) (λ us. us) (part_on_first p) a.buffers.buffers id ∙ shelf_stays (shelves_of a) id;
  holds = part_put a.buffers new id p ok fits text;
}
put_stands a new id p (Err f) ok err fits text = record {
  targets = refl;
  shelves = ap (λ (b : Buffers). map shelf_of b.buffers) err;
  holds = subst (HoldStill a.buffers) (sym err) (holds_same a.buffers);
}

pub begins_writing : (a b : Putting) (clear : Bool) (id : ℕ) → b.targets ≡ a.targets ++ id ∷ []
    → b.buffers ≡ on_buffer (on_newest (opened_write a.buffers.elements clear)) id a.buffers → busy_at a.buffers id ≡ None → 0 < length (copies_of a.buffers id)
    → BeginsWriting id a b
begins_writing a b clear id targets is idle some = record {
  targets = targets;
  shelves =
      ap (λ (x : Buffers). map shelf_of x.buffers) is
      ∙ shelf_changes (on_newest (opened_write a.buffers.elements clear)) newest_written (written_opened a.buffers.elements clear) a.buffers.buffers id;
  free = shelf_free a.buffers.buffers id some idle;
  holds = write_opened a.buffers b.buffers id clear is idle;
}

pub ends_writing : (a b : Putting) (id : ℕ) → a.targets ≡ b.targets ++ id ∷ [] → b.buffers ≡ on_buffer (on_first is_written closed) id a.buffers
    → unclosed_at a.buffers id ≡ None → EndsWriting id a b
ends_writing a b id targets is whole = record {
  targets = targets;
  shelves = ap (λ (x : Buffers). map shelf_of x.buffers) is ∙ shelf_changes (on_first is_written closed) written_closed written_shut a.buffers.buffers id;
  holds = write_closed a.buffers b.buffers id is whole;
}

-- What a call gives by what was given to it.

pub ok_given : {A B E F : Type 0} (r : Result A E) (g : A → B) (f : E → F) (x : B) → Ok x ≡ result_map_both g f r → (P : Type 0) → OnOk r P → P
ok_given (Ok v) g f x e P h = h
ok_given (Err y) g f x e P h = absurd (cc)

pub both_ok : {A E : Type 0} (r : Result A E) (P Q : Type 0) → OnOk r P → OnOk r Q → OnOk r (P × Q)
both_ok (Ok v) P Q p q = (p, q)
both_ok (Err y) P Q p q = tt

pub mapped_ok : {A B E F : Type 0} (r : Result A E) (s : Result B F) (g : A → B) (f : E → F) (P Q : Type 0) → s ≡ result_map_both g f r → OnOk r P → (P → Q) → OnOk s Q
mapped_ok (Ok v) s g f P Q e h k = subst (λ t. OnOk t Q) (sym e) (k h)
mapped_ok (Err y) s g f P Q e h k = subst (λ t. OnOk t Q) (sym e) tt

-- The last of the targets is the innermost one.

last_of : (xs : List ℕ) (x : ℕ) → slice_get (xs ++ x ∷ []) (length xs) ≡ Some x
last_of [] x = refl
last_of (y ∷ ys) x = last_of ys x

by_reversed : (xs ys : List ℕ) → xs ≡ reverse ys → slice_get xs (length xs - 1) ≡ first_target ys
by_reversed xs [] e = ap (λ l. slice_get l (length l - 1)) e
by_reversed xs (y ∷ ys) e =
    let whole : xs ≡ reverse ys ++ y ∷ [] = e ∙ reverse-append (y ∷ []) ys in
    let less : length (reverse ys ++ y ∷ []) - 1 ≡ length (reverse ys) = omega (arith, length-append (reverse ys) (y ∷ [])) in
    ap (λ l. slice_get l (length l - 1)) whole ∙ ap (slice_get (reverse ys ++ y ∷ [])) less ∙ last_of (reverse ys) y

pub last_target : (xs : List ℕ) → slice_get xs (length xs - 1) ≡ first_target (reverse xs)
last_target xs = by_reversed xs (reverse xs) (sym (reverse-reverse xs))

pub popped_some : (old new : List ℕ) (o : Option ℕ) → MatchOption o ((old ≡ []) × (new ≡ [])) (λ last. old ≡ new ++ last ∷ []) → IsSome (first_target (reverse old)) → IsSome o
popped_some old new None e some = absurd (false≢true (subst (λ l. IsSome (first_target (reverse l))) e.0 some))
popped_some old new (Some last) e some = refl

pub popped_is : (old new : List ℕ) (o : Option ℕ) (last : ℕ) → MatchOption o ((old ≡ []) × (new ≡ [])) (λ last. old ≡ new ++ last ∷ []) → o ≡ Some last
    → (old ≡ new ++ last ∷ []) × (first_target (reverse old) ≡ Some last)
popped_is old new None last e is = absurd (cc)
popped_is old new (Some x) last e is =
    let same : x ≡ last = cc in
    let whole : old ≡ new ++ last ∷ [] = subst (λ y. old ≡ new ++ y ∷ []) same e in
    (whole, ap (λ l. first_target (reverse l)) whole ∙ ap first_target (reverse-append new (last ∷ [])))
