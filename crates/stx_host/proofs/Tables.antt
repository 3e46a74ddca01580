-- Look-ups in a table and what changes them.
use Rattle.std.proofs.Common.{◌≡◌, ℕ, zero, suc, ◌==◌, ◌||◌, ◌+◌, ◌<◌, Bool, true, false, cond, nat_lt, not, length, get_or, filter, List, [], ◌∷◌, Option, Some, None, is_some, position, ap, sym, ◌∙◌, refl, arith}
use Rattle.std.specs.List.{list_any, prefix_len, remove}
use Rattle.std.specs.Option.{option_map}
use Rattle.std.proofs.lemmas.Bool.Decides.{nat_tests}
use Rattle.stx_host.specs.declared.table.Slot.{Slot}
use Rattle.stx_host.specs.Outside.{is_among}
use Rattle.stx_host.specs.Table.{ids_of}

pub is_among-ids_of : {T : Type 0} (slots : List (Slot T)) (id : ℕ) → list_any (λ slot. slot.id == id) slots ≡ is_among (ids_of slots) id
is_among-ids_of [] id = refl
is_among-ids_of (slot ∷ slots) id = ap (λ b. (slot.id == id) || b) (is_among-ids_of slots id)

lt_step : (k n : ℕ) → nat_lt (1 + k) (suc n) ≡ nat_lt k n
lt_step k n = grind (arith, nat_tests)

found_step : (b : Bool) (k : ℕ) → cond b (Some (1 + k)) None ≡ option_map (λ at. 1 + at) (cond b (Some k) None)
found_step true k = refl
found_step false k = refl

-- the step of `position`, at what the first element's test gives
place_step : (b : Bool) (k n : ℕ) → cond (nat_lt (cond (not b) (1 + k) 0) (suc n)) (Some (cond (not b) (1 + k) 0)) None ≡ cond b (Some 0) (option_map (λ at. 1 + at) (cond (nat_lt k n) (Some k) None))
place_step true k n = grind (arith, nat_tests)
place_step false k n = ap (λ b. cond b (Some (1 + k)) None) (lt_step k n) ∙ found_step (nat_lt k n) k

pub position-cons : {X : Type 0} (p : X → Bool) (x : X) (xs : List X) → position p (x ∷ xs) ≡ cond (p x) (Some 0) (option_map (λ at. 1 + at) (position p xs))
position-cons p x xs = place_step (p x) (prefix_len (λ y. not (p y)) xs) (length xs)

some_step : (b : Bool) (o : Option ℕ) → is_some (cond b (Some 0) (option_map (λ at. 1 + at) o)) ≡ (b || is_some o)
some_step true o = refl
some_step false None = refl
some_step false (Some at) = refl

-- a place is found where some element passes
pub is_some-position : {X : Type 0} (p : X → Bool) (xs : List X) → is_some (position p xs) ≡ list_any p xs
is_some-position p [] = refl
is_some-position {X} p (x ∷ xs) = ap is_some (position-cons p x xs) ∙ some_step (p x) (position p xs) ∙ ap (λ b. p x || b) (is_some-position p xs)

keep_step : {X : Type 0} (b rest : Bool) (x : X) (xs : List X) {kept : List X} → (b || rest) ≡ false → (rest ≡ false → kept ≡ xs) → cond (not b) (x ∷ kept) kept ≡ x ∷ xs
keep_step true rest x xs none e = cc
keep_step false rest x xs none e = ap (λ ys. x ∷ ys) (e none)

-- what passes nowhere is kept
pub filter-none : {X : Type 0} (p : X → Bool) (xs : List X) → list_any p xs ≡ false → filter (λ x. not (p x)) xs ≡ xs
filter-none p [] none = refl
filter-none p (x ∷ xs) none = keep_step (p x) (list_any p xs) x xs none (filter-none p xs)

-- an element that isn't kept may go first
pub filter-remove : {X : Type 0} (p : X → Bool) (xs : List X) (at : ℕ) (d : X) → at < length xs → p (get_or xs at d) ≡ true → filter (λ x. not (p x)) (remove xs at) ≡ filter (λ x. not (p x)) xs
filter-remove p [] at d within passes = absurd (omega arith)
filter-remove p (x ∷ xs) zero d within passes = sym (ap (λ b. cond (not b) (x ∷ filter (λ y. not (p y)) xs) (filter (λ y. not (p y)) xs)) passes)
filter-remove p (x ∷ xs) (suc at) d within passes = ap (λ ys. cond (not (p x)) (x ∷ ys) ys) (filter-remove p xs at d (omega arith) passes)
