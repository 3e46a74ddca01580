-- How many ids there are of some numbers.
use Rattle.std.proofs.Common.{◌≡◌, ℕ, zero, suc, ◌+◌, ◌-◌, ◌<◌, ◌≤◌, ◌==◌, ◌||◌, ◌&&◌, Bool, true, false, cond, nat_le, nat_lt, count_by, length, List, [], ◌∷◌, ◌++◌, ap, sym, subst, ◌∙◌, refl, inl, inr, zero-add, if◌then◌else◌, ◌/◌, arith}
use Rattle.std.specs.List.{remove}
use Rattle.std.proofs.lemmas.List.Sums.{sum_by_push, sum_by-cons}
use Rattle.std.proofs.lemmas.List.{map-append}
use Rattle.std.proofs.lemmas.Bool.Decides.{nat_tests}
use Rattle.std.proofs.lemmas.Bool.{cases_lt}
use Rattle.stx_host.specs.declared.table.Slot.{Slot}
use Rattle.stx_host.specs.Outside.{is_among}
use Rattle.stx_host.specs.Table.{ids_of, AreDifferent, AreOpen, count_between}

count_cons : {X : Type 0} (p : X → Bool) (x : X) (xs : List X) → count_by p (x ∷ xs) ≡ cond (p x) 1 0 + count_by p xs
count_cons p x xs = sum_by-cons (λ y. cond (p y) 1 0) x xs

pub between_cons : (low high id : ℕ) (ids : List ℕ) → count_between low high (id ∷ ids) ≡ cond (nat_le low id && nat_lt id high) 1 0 + count_between low high ids
between_cons low high id ids = count_cons (λ k. nat_le low k && nat_lt k high) id ids

inside_split : (low mid high id : ℕ) → low ≤ mid → mid ≤ high
    → cond (nat_le low id && nat_lt id high) 1 0 ≡ cond (nat_le low id && nat_lt id mid) 1 0 + cond (nat_le mid id && nat_lt id high) 1 0
inside_split low mid high id h k = grind (arith, nat_tests)

split_step : (a b c m n o : ℕ) → a ≡ b + c → m ≡ n + o → a + m ≡ (b + n) + (c + o)
split_step a b c m n o h k = omega (arith, h, k)

both : (a b c d : ℕ) → a ≡ c → b ≡ d → a + b ≡ c + d
both a b c d e f = omega (arith, e, f)

-- a range is two
pub count_split : (low mid high : ℕ) → low ≤ mid → mid ≤ high → (ids : List ℕ) → count_between low high ids ≡ count_between low mid ids + count_between mid high ids
count_split low mid high h k [] = refl
count_split low mid high h k (id ∷ ids) =
    between_cons low high id ids ∙ split_step _ _ _ _ _ _ (inside_split low mid high id h k) (count_split low mid high h k ids)
    ∙ sym (both _ _ _ _ (between_cons low mid id ids) (between_cons mid high id ids))

inside_one : (k id : ℕ) → (nat_le k id && nat_lt id (k + 1)) ≡ (id == k)
inside_one k id = grind (arith, nat_tests)

-- a range of one number
count_one : (k : ℕ) (ids : List ℕ) → count_between k (k + 1) ids ≡ count_by (λ id. id == k) ids
count_one k [] = refl
count_one k (id ∷ ids) =
    between_cons k (k + 1) id ids ∙ ap (λ b. cond b 1 0 + count_between k (k + 1) ids) (inside_one k id)
    ∙ ap (λ n. cond (id == k) 1 0 + n) (count_one k ids) ∙ sym (count_cons (λ j. j == k) id ids)

no_inside : (k id : ℕ) → (nat_le k id && nat_lt id k) ≡ false
no_inside k id = grind (arith, nat_tests)

count_nothing : (k : ℕ) (ids : List ℕ) → count_between k k ids ≡ 0
count_nothing k [] = refl
count_nothing k (id ∷ ids) =
    between_cons k k id ids ∙ ap (λ b. cond b 1 0 + count_between k k ids) (no_inside k id) ∙ zero-add (count_between k k ids) ∙ count_nothing k ids

among_step : (b : Bool) (n : ℕ) (rest : Bool) → (0 < n → rest ≡ true) → 0 < cond b 1 0 + n → (b || rest) ≡ true
among_step true n rest h more = refl
among_step false n rest h more = h (omega (arith, more))

-- what is counted is there
pub counted_is_among : (ids : List ℕ) (id : ℕ) → 0 < count_by (λ k. k == id) ids → is_among ids id ≡ true
counted_is_among [] id more = absurd (omega arith)
counted_is_among (k ∷ ids) id more = among_step (k == id) (count_by (λ j. j == id) ids) (is_among ids id) (counted_is_among ids id) (omega (arith, more, count_cons (λ j. j == id) k ids))

none_step : (b : Bool) (n : ℕ) (rest : Bool) → (n ≡ 0 → rest ≡ false) → cond b 1 0 + n ≡ 0 → (b || rest) ≡ false
none_step true n rest h none = absurd (omega (arith, none))
none_step false n rest h none = h (omega (arith, none))

-- and what isn't counted isn't
pub uncounted : (ids : List ℕ) (id : ℕ) → count_by (λ k. k == id) ids ≡ 0 → is_among ids id ≡ false
uncounted [] id none = refl
uncounted (k ∷ ids) id none = none_step (k == id) (count_by (λ j. j == id) ids) (is_among ids id) (uncounted ids id) (omega (arith, none, count_cons (λ j. j == id) k ids))

-- a number more
pub count_last : (low mid high : ℕ) → low ≤ mid → high ≡ mid + 1 → (ids : List ℕ) → count_between low high ids ≡ count_between low mid ids + count_by (λ k. k == mid) ids
count_last low mid high h e ids = ap (λ k. count_between low k ids) e ∙ count_split low mid (mid + 1) h (omega arith) ids ∙ ap (λ n. count_between low mid ids + n) (count_one mid ids)

-- no more ids are in a range than numbers
pub count_bound : (ids : List ℕ) → AreDifferent ids → (low n high : ℕ) → high ≡ low + n → count_between low high ids ≤ n
count_bound ids different low zero high e =
    let same : high ≡ low = omega (arith, e) in
    let none = ap (λ k. count_between low k ids) same ∙ count_nothing low ids in
    omega (arith, none)
count_bound ids different low (suc n) high e =
    omega (arith, count_last low (low + n) high (omega arith) (omega (arith, e)) ids, different (low + n), count_bound ids different low n (low + n) refl)

same_number : (k n : ℕ) → n ≤ k → k < n + 1 → k ≡ n
same_number k n h less = omega arith

-- a range with as many ids as numbers has each of them
pub all_counted : (ids : List ℕ) → AreDifferent ids → (low n high : ℕ) → high ≡ low + n → n ≤ count_between low high ids → AreOpen low high ids
all_counted ids different low zero high e full id above below = absurd (omega (arith, e))
all_counted ids different low (suc n) high e full id above below =
    let last = count_last low (low + n) high (omega arith) (omega (arith, e)) ids in
    let most = count_bound ids different low n (low + n) refl in
    let before : id < low + n → is_among ids id ≡ true =
    λ less. all_counted ids different low n (low + n) refl (omega (arith, last, full, different (low + n))) id above less in
    let there : is_among ids (low + n) ≡ true = counted_is_among ids (low + n) (omega (arith, last, full, most)) in
    elim (cases_lt id (low + n)) [
      | inl less ↦ before less
      | inr more ↦ ap (λ k. is_among ids k) (same_number id (low + n) more (omega (arith, e, below))) ∙ there
    ]

-- the same of where a range ends
pub all_open : (ids : List ℕ) → AreDifferent ids → (low high : ℕ) → low ≤ high → count_between low high ids ≡ high - low → AreOpen low high ids
all_open ids different low high h e = all_counted ids different low (high - low) high (omega arith) (omega (arith, e))

pub some_free : (ids : List ℕ) → AreDifferent ids → (low high : ℕ) → low ≤ high → (count_between low high ids ≡ high - low → ⊥) → count_between low high ids < high - low
some_free ids different low high h less = elim (cases_lt (count_between low high ids) (high - low)) [
  | inl below ↦ below
  | inr above ↦ absurd (less (omega (arith, above, count_bound ids different low (high - low) high (omega arith))))
]

-- a number of a range of one that isn't counted isn't open
pub one_free : (ids : List ℕ) (id high : ℕ) → high ≡ id + 1 → count_between id high ids < 1 → is_among ids id ≡ false
one_free ids id high e less = uncounted ids id (omega (arith, less, ap (λ k. count_between id k ids) e ∙ count_one id ids))

free_uncounted : (ids : List ℕ) (id : ℕ) → is_among ids id ≡ false → count_by (λ k. k == id) ids ≡ 0
free_uncounted [] id none = refl
free_uncounted (k ∷ ids) id none = count_cons (λ j. j == id) k ids ∙ free_step (k == id) (is_among ids id) (count_by (λ j. j == id) ids) none (free_uncounted ids id)
  where
    free_step : (b rest : Bool) (n : ℕ) → (b || rest) ≡ false → (rest ≡ false → n ≡ 0) → cond b 1 0 + n ≡ 0
    free_step true rest n none h = cc
    free_step false rest n none h = omega (arith, h none)

more_step : (b : Bool) (n : ℕ) → n ≤ 1 → (b ≡ true → n ≡ 0) → n + cond b 1 0 ≤ 1
more_step true n few none = omega (arith, none refl)
more_step false n few none = omega (arith, few)

same_of : (id k : ℕ) → (id == k) ≡ true → k ≡ id
same_of id k e = grind (arith, nat_tests)

pub more_different : (ids : List ℕ) (id : ℕ) → AreDifferent ids → is_among ids id ≡ false → AreDifferent (ids ++ id ∷ [])
more_different ids id different free k = let P : ℕ → Type 0 = λ n. n ≤ 1 in subst P (sym (sum_by_push (λ j. cond (j == k) 1 0) ids id))
    (more_step (id == k) (count_by (λ j. j == k) ids) (different k) (λ e. ap (λ j. count_by (λ i. i == j) ids) (same_of id k e) ∙ free_uncounted ids id free))

fewer_step : (b : Bool) (n : ℕ) → n ≤ cond b 1 0 + n
fewer_step b n = omega arith

fewer : {T : Type 0} (p : ℕ → Bool) (slots : List (Slot T)) (at : ℕ) → at < length slots → count_by p (ids_of (remove slots at)) ≤ count_by p (ids_of slots)
fewer p [] at within = absurd (omega arith)
fewer p (slot ∷ slots) zero within = omega (arith, count_cons p slot.id (ids_of slots), fewer_step (p slot.id) (count_by p (ids_of slots)))
fewer p (slot ∷ slots) (suc at) within = omega (arith, count_cons p slot.id (ids_of slots), count_cons p slot.id (ids_of (remove slots at)), fewer p slots at (omega (arith, within)))

pub removed_different : {T : Type 0} (slots : List (Slot T)) (at : ℕ) → at < length slots → AreDifferent (ids_of slots) → AreDifferent (ids_of (remove slots at))
removed_different slots at within different id = omega (arith, fewer (λ k. k == id) slots at within, different id)

-- one more where it isn't open, if there is room for it
pub pushed_different : {T : Type 0} (b : Bool) (slots : List (Slot T)) (slot : Slot T) → AreDifferent (ids_of slots) → is_among (ids_of slots) slot.id ≡ false
    → AreDifferent (ids_of (if b then slots ++ slot ∷ [] else slots))
pushed_different true slots slot different free = subst AreDifferent (sym (map-append (λ s. s.id) slots (slot ∷ []))) (more_different (ids_of slots) slot.id different free)
pushed_different false slots slot different free = different

-- counted by their slots
pub count_slots : {T : Type 0} (low high : ℕ) (slots : List (Slot T)) → count_by (λ slot. nat_le low slot.id && nat_lt slot.id high) slots ≡ count_between low high (ids_of slots)
count_slots low high [] = refl
count_slots low high (slot ∷ slots) =
    count_cons (λ s. nat_le low s.id && nat_lt s.id high) slot slots ∙ ap (λ n. cond (nat_le low slot.id && nat_lt slot.id high) 1 0 + n) (count_slots low high slots)
    ∙ sym (between_cons low high slot.id (ids_of slots))

-- the upper half of a range, where the lower one is full
pub upper_free : (ids : List ℕ) (low middle high low' high' : ℕ) → low' ≡ middle + 1 → high' ≡ high → low ≤ middle → middle < high
    → count_between low (middle + 1) ids ≡ (middle + 1) - low → count_between low (high + 1) ids < (high + 1) - low → count_between low' (high' + 1) ids < (high' + 1) - low'
upper_free ids low middle high low' high' e f above below full free =
    let same = ap (λ k. count_between k (high' + 1) ids) e ∙ ap (λ k. count_between (middle + 1) (k + 1) ids) f in
    omega (arith, e, f, same, full, free, above, below, count_split low (middle + 1) (high + 1) (omega arith) (omega arith) ids)

-- the lower half, where it isn't
pub lower_free : (ids : List ℕ) (low middle low' high' : ℕ) → low' ≡ low → high' ≡ middle
    → count_between low (middle + 1) ids < (middle + 1) - low → count_between low' (high' + 1) ids < (high' + 1) - low'
lower_free ids low middle low' high' e f free =
    let same = ap (λ k. count_between k (high' + 1) ids) e ∙ ap (λ k. count_between low (k + 1) ids) f in
    omega (arith, e, f, same, free)

-- the middle of a range is in it
pub middle_of : (low high : ℕ) → low < high → (low ≤ low + (high - low) / 2) × (low + (high - low) / 2 < high)
middle_of low high less = (omega arith, omega arith)
