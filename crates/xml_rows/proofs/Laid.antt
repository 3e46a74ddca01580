-- How many copies each buffer has, behind each call.
use Rattle.std.proofs.Common.{◌≡◌, ℕ, zero, suc, ◌+◌, ◌-◌, ◌<◌, ◌==◌, Bool, true, false, List, [], ◌∷◌, Some, None, length, map, refl, sym, ap, subst, ◌∙◌, arith}
use Rattle.std.specs.Prelude.{if◌then◌else◌, OnErr, OnOk, Result, Ok, Err, slice_get, slice_index_or, slice_set, unwrap_or}
use Rattle.std.specs.List.{Contains}
use Rattle.std.specs.Option.{option_and_then}
use Rattle.std.proofs.lemmas.List.{length-map}
use Rattle.event_buffers.specs.Buffers.{Buffer, Buffers, busy_at, in_group, is_read, newest, none, on_buffer, on_first, on_group, on_newest, taken_off, with_copies, CanTakeOff}
use Rattle.event_buffers.specs.Declaring.{declared_by}
use Rattle.event_buffers.specs.Layer.{Layer, Reading, Shut, State, Writing, busy, closed, is_shut, laid, opened_read}
use Rattle.event_buffers.specs.declared.fault.BufferFault.TheVariants.{Busy}
use Rattle.sheet_model.specs.declared.sheet.Buffer as sheet
use Rattle.xml_rows.specs.Laid.{AreLaid, Pile, groups, pile}

pub count : (n m : ℕ) (b : Buffers) → AreLaid n m b → length b.buffers ≡ 3
count n m b h = sym (length-map b.buffers pile) ∙ ap length h

-- A call of one buffer leaves as many copies.

newest_as_many : (f : Layer → Layer) (cs : List Layer) → length (on_newest f cs) ≡ length cs
newest_as_many f [] = refl
newest_as_many f (c ∷ cs) = refl

first_as_many : (test : Layer → Bool) (f : Layer → Layer) (cs : List Layer) → length (on_first test f cs) ≡ length cs
first_as_many test f [] = refl
first_as_many test f (c ∷ cs) = by_test (test c) (first_as_many test f cs) where
  by_test : (t : Bool) → length (on_first test f cs) ≡ length cs → length (if t then f c ∷ cs else c ∷ on_first test f cs) ≡ suc (length cs)
  by_test true h = refl
  by_test false h = ap suc h

one_as_many : (f : List Layer → List Layer) → ((cs : List Layer) → length (f cs) ≡ length cs) → (bs : List Buffer) (id : ℕ)
    → map pile (slice_set bs id (with_copies f (unwrap_or (slice_get bs id) none))) ≡ map pile bs
one_as_many f same [] id = refl
one_as_many f same (b ∷ bs) zero = ap (λ k. record { group = b.group; copies = k } ∷ map pile bs) (same b.copies)
one_as_many f same (b ∷ bs) (suc id) = ap (λ l. pile b ∷ l) (one_as_many f same bs id)

pub newest_changed : (f : Layer → Layer) (id : ℕ) (b : Buffers) → map pile (on_buffer (on_newest f) id b).buffers ≡ map pile b.buffers
newest_changed f id b = one_as_many (on_newest f) (newest_as_many f) b.buffers id

pub first_changed : (test : Layer → Bool) (f : Layer → Layer) (id : ℕ) (b : Buffers) → map pile (on_buffer (on_first test f) id b).buffers ≡ map pile b.buffers
first_changed test f id b = one_as_many (on_first test f) (first_as_many test f) b.buffers id

-- a call that may be refused
pub same_piles : {A E : Type 0} (r : Result A E) (old new next : Buffers) → OnOk r (new ≡ next) → OnErr r (new ≡ old)
    → map pile next.buffers ≡ map pile old.buffers → map pile new.buffers ≡ map pile old.buffers
same_piles (Ok v) old new next ok err h = ap (λ (b : Buffers). map pile b.buffers) ok ∙ h
same_piles (Err e) old new next ok err h = ap (λ (b : Buffers). map pile b.buffers) err

-- Copies of a group.

abbrev piled : (f : ℕ → ℕ) (group : ℕ) → Pile → Pile
piled f group p = if p.group == group then record p { copies = f p.copies } else p

group_piles : (g : List Layer → List Layer) (f : ℕ → ℕ) → ((cs : List Layer) → length (g cs) ≡ f (length cs)) → (group : ℕ) (bs : List Buffer)
    → map pile (map (in_group g group) bs) ≡ map (piled f group) (map pile bs)
group_piles g f same group [] = refl
group_piles g f same group (b ∷ bs) =
    ap (λ p. p ∷ map pile (map (in_group g group) bs)) (by_test (b.group == group))
    ∙ ap (λ l. piled f group (pile b) ∷ l) (group_piles g f same group bs)
  where
    by_test : (t : Bool) → pile (if t then with_copies g b else b) ≡ (if t then record { group = b.group; copies = f (length b.copies) } else pile b)
    by_test true = ap (λ k. record { group = b.group; copies = k }) (same b.copies)
    by_test false = refl

abbrev one_more : ℕ → ℕ
one_more n = n + 1

abbrev one_less : ℕ → ℕ
one_less n = n - 1

laid_more : (cs : List Layer) → length (laid ∷ cs) ≡ length cs + 1
laid_more cs = omega arith

off_less : (cs : List Layer) → length (taken_off cs) ≡ length cs - 1
off_less [] = refl
off_less (c ∷ cs) = omega arith

pub first_shadowed : (n m : ℕ) (b : Buffers) → AreLaid n m b → AreLaid (n + 1) m (on_group (λ copies. laid ∷ copies) 0 b)
first_shadowed n m b h = group_piles (λ copies. laid ∷ copies) one_more laid_more 0 b.buffers ∙ ap (map (piled one_more 0)) h

pub second_shadowed : (n m : ℕ) (b : Buffers) → AreLaid n m b → AreLaid n (m + 1) (on_group (λ copies. laid ∷ copies) 1 b)
second_shadowed n m b h = group_piles (λ copies. laid ∷ copies) one_more laid_more 1 b.buffers ∙ ap (map (piled one_more 1)) h

off_again : (n : ℕ) → 0 < n → (n + 1) - 1 ≡ (n - 1) + 1
off_again n h = omega arith

pub first_unshadowed : (n m : ℕ) (b : Buffers) → AreLaid n m b → 0 < n → AreLaid (n - 1) m (on_group taken_off 0 b)
first_unshadowed n m b h more =
    group_piles taken_off one_less off_less 0 b.buffers ∙ ap (map (piled one_less 0)) h
    ∙ ap (λ k. record { group = 0; copies = k } ∷ record { group = 0; copies = k } ∷ record { group = 1; copies = m + 1 } ∷ []) (off_again n more)

pub second_unshadowed : (n m : ℕ) (b : Buffers) → AreLaid n m b → 0 < m → AreLaid n (m - 1) (on_group taken_off 1 b)
second_unshadowed n m b h more =
    group_piles taken_off one_less off_less 1 b.buffers ∙ ap (map (piled one_less 1)) h
    ∙ ap (λ k. record { group = 0; copies = n + 1 } ∷ record { group = 0; copies = n + 1 } ∷ record { group = 1; copies = k } ∷ []) (off_again m more)

-- Before the first call.

pub begun : (bs : List sheet.Buffer) → groups bs ≡ 0 ∷ 0 ∷ 1 ∷ [] → map pile (map declared_by bs) ≡ map (λ g. record { group = g; copies = 1 }) (0 ∷ 0 ∷ 1 ∷ [])
begun bs h = each bs ∙ ap (map (λ g. record { group = g; copies = 1 })) h where
  each : (bs : List sheet.Buffer) → map pile (map declared_by bs) ≡ map (λ g. record { group = g; copies = 1 }) (groups bs)
  each [] = refl
  each (b ∷ bs) = ap (λ l. record { group = b.group; copies = 1 } ∷ l) (each bs)

-- A copy that is open for nothing, and is opened and closed, is what it was.

is_free : (s : State) → (if is_shut s then None else Some Busy) ≡ None → Shut ≡ s
is_free Shut h = refl
is_free (Writing target) h = absurd cc
is_free Reading h = absurd cc

copies_stay : (cs : List Layer) → option_and_then busy (newest cs) ≡ None → on_first is_read closed (on_newest opened_read cs) ≡ cs
copies_stay [] h = refl
copies_stay (c ∷ cs) h = ap (λ s. record c { state = s } ∷ cs) (is_free c.state h)

buffers_stay : (bs : List Buffer) (id : ℕ) → option_and_then busy (newest (unwrap_or (slice_get bs id) none).copies) ≡ None
    → slice_set (slice_set bs id (with_copies (on_newest opened_read) (unwrap_or (slice_get bs id) none))) id
    (with_copies (on_first is_read closed) (unwrap_or (slice_get (slice_set bs id (with_copies (on_newest opened_read) (unwrap_or (slice_get bs id) none))) id) none))
    ≡ bs
buffers_stay [] id h = refl
buffers_stay (b ∷ bs) zero h = ap (λ cs. record b { copies = cs } ∷ bs) (copies_stay b.copies h)
buffers_stay (b ∷ bs) (suc id) h = ap (λ l. b ∷ l) (buffers_stay bs id h)

pub tried : (b : Buffers) (id : ℕ) → busy_at b id ≡ None → on_buffer (on_first is_read closed) id (on_buffer (on_newest opened_read) id b) ≡ b
tried b id h = ap (λ bs. record b { buffers = bs }) (buffers_stay b.buffers id h)

-- Copies that can be taken off.

abbrev copies_at : ℕ → List Pile → ℕ
copies_at i ps = (unwrap_or (slice_get ps i) (record { group = 0; copies = 0 })).copies

abbrev group_at : ℕ → List Pile → ℕ
group_at i ps = (unwrap_or (slice_get ps i) (record { group = 0; copies = 0 })).group

abbrev CanBeTakenOff : Buffer → Type 0
CanBeTakenOff x = (1 < length x.copies) × (option_and_then busy (newest x.copies) ≡ None)

over : (n k : ℕ) → 0 < n → k ≡ n + 1 → 1 < k
over n k h e = omega arith

apart : (k : ℕ) → k ≡ 0 → k ≡ 1 → ⊥
apart k a b = omega arith

-- one of three
one_of : (x y z w : Buffer) (P : Buffer → Type 0) → P x → P y → P z → Contains (x ∷ y ∷ z ∷ []) w → P w
one_of x y z w P px py pz (k, lt, is) = by_place k lt is where
  by_place : (k : ℕ) → k < 3 → slice_index_or (x ∷ y ∷ z ∷ []) k w ≡ w → P w
  by_place zero lt is = subst P is px
  by_place (suc zero) lt is = subst P is py
  by_place (suc (suc zero)) lt is = subst P is pz
  by_place (suc (suc (suc k))) lt is = absurd (omega arith)

first_off : (n m : ℕ) (bs : List Buffer) → length bs ≡ 3
    → map pile bs ≡ record { group = 0; copies = n + 1 } ∷ record { group = 0; copies = n + 1 } ∷ record { group = 1; copies = m + 1 } ∷ []
    → 0 < n → option_and_then busy (newest (unwrap_or (slice_get bs 0) none).copies) ≡ None → option_and_then busy (newest (unwrap_or (slice_get bs 1) none).copies) ≡ None
    → (w : Buffer) → Contains bs w → w.group ≡ 0 → CanBeTakenOff w
first_off n m [] count h more a b = absurd (omega (arith, count))
first_off n m (x ∷ []) count h more a b = absurd (omega (arith, count))
first_off n m (x ∷ y ∷ []) count h more a b = absurd (omega (arith, count))
first_off n m (x ∷ y ∷ z ∷ v ∷ vs) count h more a b = absurd (omega (arith, count))
first_off n m (x ∷ y ∷ z ∷ []) count h more a b = λ w there.
    one_of x y z w (λ v. v.group ≡ 0 → CanBeTakenOff v)
    (λ e. (over n (length x.copies) more (ap (copies_at 0) h), a))
    (λ e. (over n (length y.copies) more (ap (copies_at 1) h), b))
    (λ e. absurd (apart z.group e (ap (group_at 2) h))) there

pub can_take_off_first : (n m : ℕ) (b : Buffers) → AreLaid n m b → 0 < n → busy_at b 0 ≡ None → busy_at b 1 ≡ None → CanTakeOff 0 b
can_take_off_first n m b h more free also = first_off n m b.buffers (count n m b h) h more free also

second_off : (n m : ℕ) (bs : List Buffer) → length bs ≡ 3
    → map pile bs ≡ record { group = 0; copies = n + 1 } ∷ record { group = 0; copies = n + 1 } ∷ record { group = 1; copies = m + 1 } ∷ []
    → 0 < m → option_and_then busy (newest (unwrap_or (slice_get bs 2) none).copies) ≡ None
    → (w : Buffer) → Contains bs w → w.group ≡ 1 → CanBeTakenOff w
second_off n m [] count h more a = absurd (omega (arith, count))
second_off n m (x ∷ []) count h more a = absurd (omega (arith, count))
second_off n m (x ∷ y ∷ []) count h more a = absurd (omega (arith, count))
second_off n m (x ∷ y ∷ z ∷ v ∷ vs) count h more a = absurd (omega (arith, count))
second_off n m (x ∷ y ∷ z ∷ []) count h more a = λ w there.
    one_of x y z w (λ v. v.group ≡ 1 → CanBeTakenOff v)
    (λ e. absurd (apart x.group (ap (group_at 0) h) e))
    (λ e. absurd (apart y.group (ap (group_at 1) h) e))
    (λ e. (over m (length z.copies) more (ap (copies_at 2) h), a)) there

pub can_take_off_second : (n m : ℕ) (b : Buffers) → AreLaid n m b → 0 < m → busy_at b 2 ≡ None → CanTakeOff 1 b
can_take_off_second n m b h more free = second_off n m b.buffers (count n m b h) h more free
