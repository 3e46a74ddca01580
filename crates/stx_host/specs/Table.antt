-- What a host has open, by ids.
use Rattle.std.specs.Prelude.{◌≡◌, ℕ, ◌<◌, ◌≤◌, ◌^◌, ◌==◌, ◌&&◌, nat_le, nat_lt, count_by, true, false, List, [], ◌∷◌, ◌++◌, map}
use Rattle.stx_host.specs.declared.table.Slot.{Slot}
use Rattle.stx_host.specs.Outside.{is_among}

-- the ids, in order
abbrev pub ids_of : {T : Type 0} → List (Slot T) → List ℕ
ids_of slots = map (λ slot. slot.id) slots

-- no id stands twice
abbrev pub AreDifferent : List ℕ → Type 0
AreDifferent ids = (id : ℕ) → count_by (λ k. k == id) ids ≤ 1

-- how many ids are from low on and below high
abbrev pub count_between : (low high : ℕ) → List ℕ → ℕ
count_between low high ids = count_by (λ id. nat_le low id && nat_lt id high) ids

-- every number from low on and below high is open
abbrev pub AreOpen : (low high : ℕ) → List ℕ → Type 0
AreOpen low high ids = (id : ℕ) → low ≤ id → id < high → is_among ids id ≡ true

-- every number that an id can be is open
abbrev pub IsEachOpen : List ℕ → Type 0
IsEachOpen ids = (id : ℕ) → 0 < id → id < 2 ^ 32 → is_among ids id ≡ true

-- the least number above 0 that isn't open
pub record IsLeastFree (ids : List ℕ) (id : ℕ) : Type 0 where
  pub above_zero : 0 < id
  pub not_open : is_among ids id ≡ false
  pub lower : (k : ℕ) → 0 < k → k < id → is_among ids k ≡ true

-- a slot more, of the least id that may be given
pub record Adds {T : Type 0} (old : List (Slot T)) (id : ℕ) (held : T) (new : List (Slot T)) : Type 0 where
  pub least : IsLeastFree (ids_of old) id
  pub added : new ≡ old ++ record { id = id; held = held } ∷ []
