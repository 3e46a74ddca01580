-- What a host in memory has to come, after each change of its table.
use Rattle.std.proofs.Common.{◌≡◌, ◌≢◌, ℕ, zero, suc, ◌==◌, ◌||◌, ◌+◌, ◌<◌, Bool, true, false, cond, not, length, get_or, filter, drop, find, List, [], ◌∷◌, ◌++◌, Option, Some, None, slice_get, ap, sym, ◌∙◌, refl, arith, position, if◌then◌else◌, subst, inl, inr, is_some}
use Rattle.std.specs.List.{list_any, slice_set as set}
use Rattle.std.specs.Option.{option_map, option_and_then}
use Rattle.std.proofs.Math.Path.{fun_ext}
use Rattle.std.proofs.lemmas.Bool.{false≢true, cases_eq}
use Rattle.std.proofs.lemmas.Bool.Decides.{nat_tests}
use Rattle.std.proofs.lemmas.List.{get_or-set_same, get_or-set_other, length-set, drop-drop}
use Rattle.std.proofs.lemmas.List.Quantifiers.{position-Some}
use Rattle.std.proofs.lemmas.List.Recursion.{found_at}
use Rattle.stx_host.specs.declared.act.Doc.{Doc}
use Rattle.stx_host.specs.declared.table.Slot.{Slot}
use Rattle.stx_host.specs.declared.mem_host.Reading.{Reading}
use Rattle.stx_host.specs.Outside.{is_among, with_bytes}
use Rattle.stx_host.specs.Table.{ids_of}
use Rattle.stx_host.specs.MemHost.{rest_of, rest_of_id, all_to_come}
use Rattle.stx_host.proofs.Tables.{is_among-ids_of, is_some-position}

push_step : {X : Type 0} (b rest : Bool) (x : X) (found o : Option X) {after : Option X} → after ≡ cond rest found o → cond b (Some x) after ≡ cond (b || rest) (cond b (Some x) found) o
push_step true rest x found o e = refl
push_step false rest x found o e = e

-- one more at the end is found where none before it is
pub find-push : {X : Type 0} (p : X → Bool) (xs : List X) (y : X) → find p (xs ++ y ∷ []) ≡ cond (list_any p xs) (find p xs) (cond (p y) (Some y) None)
find-push p [] y = refl
find-push p (x ∷ xs) y = push_step (p x) (list_any p xs) x (find p xs) (cond (p y) (Some y) None) (find-push p xs y)

none_step : {X : Type 0} (b rest : Bool) (x : X) {found : Option X} → (b || rest) ≡ false → (rest ≡ false → found ≡ None) → cond b (Some x) found ≡ None
none_step true rest x e h = cc
none_step false rest x e h = h e

pub find-none : {X : Type 0} (p : X → Bool) (xs : List X) → list_any p xs ≡ false → find p xs ≡ None
find-none p [] e = refl
find-none p (x ∷ xs) e = none_step (p x) (list_any p xs) x e (find-none p xs)

-- an element that fails the test, in the place of one that fails it
pub find-set_other : {X : Type 0} (p : X → Bool) (xs : List X) (at : ℕ) (y d : X) → p y ≡ false → p (get_or xs at d) ≡ false → find p (set xs at y) ≡ find p xs
find-set_other p [] at y d new old = refl
find-set_other p (x ∷ xs) zero y d new old = ap (λ b. cond b (Some y) (find p xs)) new ∙ sym (ap (λ b. cond b (Some x) (find p xs)) old)
find-set_other p (x ∷ xs) (suc at) y d new old = ap (λ o. cond (p x) (Some x) o) (find-set_other p xs at y d new old)

skip_step : {X : Type 0} (here : Bool) (x : X) {kept found : Option X} → (here ≡ true → false ≡ true) → kept ≡ found → kept ≡ cond here (Some x) found
skip_step true x h e = absurd (false≢true (h refl))
skip_step false x h e = e

kept_step : {X : Type 0} (p : X → Bool) (keep : Bool) (x : X) (ys : List X) (found : Option X) → (p x ≡ true → keep ≡ true) → find p ys ≡ found → find p (cond keep (x ∷ ys) ys) ≡ cond (p x) (Some x) found
kept_step p true x ys found h e = ap (λ o. cond (p x) (Some x) o) e
kept_step p false x ys found h e = skip_step (p x) x h e

-- a filter that keeps all that the test finds
pub find-filter_kept : {X : Type 0} (p q : X → Bool) → ((x : X) → p x ≡ true → q x ≡ true) → (xs : List X) → find p (filter q xs) ≡ find p xs
find-filter_kept p q h [] = refl
find-filter_kept p q h (x ∷ xs) = kept_step p (q x) x (filter q xs) (find p xs) (h x) (find-filter_kept p q h xs)

gone_step : {X : Type 0} (p : X → Bool) (keep : Bool) (x : X) (ys : List X) → (keep ≡ true → p x ≡ false) → find p ys ≡ None → find p (cond keep (x ∷ ys) ys) ≡ None
gone_step p true x ys h e = ap (λ b. cond b (Some x) (find p ys)) (h refl) ∙ e
gone_step p false x ys h e = e

-- a filter that keeps nothing that the test finds
pub find-filter_gone : {X : Type 0} (p q : X → Bool) → ((x : X) → q x ≡ true → p x ≡ false) → (xs : List X) → find p (filter q xs) ≡ None
find-filter_gone p q h [] = refl
find-filter_gone p q h (x ∷ xs) = gone_step p (q x) x (filter q xs) (h x) (find-filter_gone p q h xs)

ids_step : {T : Type 0} (keep : Bool) (slot : Slot T) (slots : List (Slot T)) (ids : List ℕ) → ids_of slots ≡ ids → ids_of (cond keep (slot ∷ slots) slots) ≡ cond keep (slot.id ∷ ids) ids
ids_step true slot slots ids e = ap (λ ks. slot.id ∷ ks) e
ids_step false slot slots ids e = e

-- the ids of the slots that aren't of this id
pub ids_of-filter : {T : Type 0} (id : ℕ) (slots : List (Slot T)) → ids_of (filter (λ slot. not (slot.id == id)) slots) ≡ filter (λ k. not (k == id)) (ids_of slots)
ids_of-filter id [] = refl
ids_of-filter id (slot ∷ slots) = ids_step (not (slot.id == id)) slot (filter (λ s. not (s.id == id)) slots) (filter (λ k. not (k == id)) (ids_of slots)) (ids_of-filter id slots)

pub other_id : (k id j : ℕ) → k ≢ id → (j == k) ≡ true → not (j == id) ≡ true
other_id k id j h e = grind (arith, nat_tests)

same_id : (k id j : ℕ) → k ≡ id → not (j == id) ≡ true → (j == k) ≡ false
same_id k id j h e = grind (arith, nat_tests)

differs : (k id j : ℕ) → k ≢ id → (j == id) ≡ true → (j == k) ≡ false
differs k id j h e = grind (arith, nat_tests)

pub eq_self : (id : ℕ) → (id == id) ≡ true
eq_self id = grind (arith, nat_tests)

eq_other : (k id : ℕ) → k ≢ id → (k == id) ≡ false
eq_other k id h = grind (arith, nat_tests)

eq_other_way : (k id : ℕ) → k ≢ id → (id == k) ≡ false
eq_other_way k id h = grind (arith, nat_tests)

pub with_here : (to_come : ℕ → Option (List ℕ)) (id : ℕ) (bytes : Option (List ℕ)) → with_bytes to_come id bytes id ≡ bytes
with_here to_come id bytes = ap (λ b. if b then bytes else to_come id) (eq_self id)

pub with_other : (to_come : ℕ → Option (List ℕ)) (id : ℕ) (bytes : Option (List ℕ)) (k : ℕ) → k ≢ id → with_bytes to_come id bytes k ≡ to_come k
with_other to_come id bytes k h = ap (λ b. if b then bytes else to_come k) (eq_other k id h)

-- two functions of ids are one where they give the same at an id and at the others
pub by_id : (new old : ℕ → Option (List ℕ)) (id : ℕ) (bytes : Option (List ℕ)) → new id ≡ bytes → ((k : ℕ) → k ≢ id → new k ≡ old k) → new ≡ with_bytes old id bytes
by_id new old id bytes here others = fun_ext (λ k. elim (cases_eq k id) [
  | inl e ↦ subst (λ j. new j ≡ with_bytes old id bytes j) (sym e) (here ∙ sym (with_here old id bytes))
  | inr h ↦ others k h ∙ sym (with_other old id bytes k h)
])

-- the documents' part decides where the id isn't 0
pub doc_at : (main : List ℕ) (at : ℕ) (docs : List Doc) (slots : List (Slot Reading)) (id : ℕ) → 0 < id → all_to_come main at docs slots id ≡ rest_of_id docs slots id
doc_at main at docs slots id h = ap (λ b. if b then Some (drop at main) else rest_of_id docs slots id) (eq_other id 0 (λ e. absurd (omega arith)))

same_doc : (main : List ℕ) (at : ℕ) (docs : List Doc) (new old : List (Slot Reading)) (k : ℕ) → rest_of_id docs new k ≡ rest_of_id docs old k → all_to_come main at docs new k ≡ all_to_come main at docs old k
same_doc main at docs new old k e = ap (λ rest. if k == 0 then Some (drop at main) else rest) e

-- a change of the table that is one of the documents' part
pub by_doc : (main : List ℕ) (at : ℕ) (docs : List Doc) (new old : List (Slot Reading)) (id : ℕ) (bytes : Option (List ℕ)) → 0 < id
    → rest_of_id docs new id ≡ bytes → ((k : ℕ) → k ≢ id → rest_of_id docs new k ≡ rest_of_id docs old k)
    → all_to_come main at docs new ≡ with_bytes (all_to_come main at docs old) id bytes
by_doc main at docs new old id bytes h here others = by_id (all_to_come main at docs new) (all_to_come main at docs old) id bytes
    (doc_at main at docs new id h ∙ here) (λ k other. same_doc main at docs new old k (others k other))

nothing_step : {X : Type 0} (b : Bool) (found : Option X) → (b ≡ false → found ≡ None) → cond b found None ≡ found
nothing_step true found h = refl
nothing_step false found h = sym (h refl)

nothing_more : {X : Type 0} (p : X → Bool) (xs : List X) → cond (list_any p xs) (find p xs) None ≡ find p xs
nothing_more p xs = nothing_step (list_any p xs) (find p xs) (find-none p xs)

-- one more slot, of an id that wasn't open
pub to_come-added : (main : List ℕ) (at : ℕ) (docs : List Doc) (slots : List (Slot Reading)) (id : ℕ) (reading : Reading) → 0 < id → is_among (ids_of slots) id ≡ false
    → all_to_come main at docs (slots ++ record { id = id; held = reading } ∷ []) ≡ with_bytes (all_to_come main at docs slots) id (rest_of docs reading)
to_come-added main at docs slots id reading above none =
    let slot : Slot Reading = record { id = id; held = reading } in
    by_doc main at docs (slots ++ slot ∷ []) slots id (rest_of docs reading) above
    (ap (λ o. option_and_then (λ s. rest_of docs s.held) o) (find-push (λ s. s.id == id) slots slot
    ∙ ap (λ b. cond b (find (λ s. s.id == id) slots) (cond (id == id) (Some slot) None)) (is_among-ids_of slots id ∙ none)
    ∙ ap (λ b. cond b (Some slot) None) (eq_self id)))
    (λ k other. ap (λ o. option_and_then (λ s. rest_of docs s.held) o) (find-push (λ s. s.id == k) slots slot
    ∙ ap (λ b. cond (list_any (λ s. s.id == k) slots) (find (λ s. s.id == k) slots) (cond b (Some slot) None)) (eq_other_way k id other)
    ∙ nothing_more (λ s. s.id == k) slots))

-- the slots of an id gone
pub to_come-removed : (main : List ℕ) (at : ℕ) (docs : List Doc) (slots : List (Slot Reading)) (id : ℕ) → 0 < id
    → all_to_come main at docs (filter (λ slot. not (slot.id == id)) slots) ≡ with_bytes (all_to_come main at docs slots) id None
to_come-removed main at docs slots id above =
    by_doc main at docs (filter (λ s. not (s.id == id)) slots) slots id None above
    (ap (λ o. option_and_then (λ s. rest_of docs s.held) o) (find-filter_gone (λ s. s.id == id) (λ s. not (s.id == id)) (λ s h. same_id id id s.id refl h) slots))
    (λ k other. ap (λ o. option_and_then (λ s. rest_of docs s.held) o) (find-filter_kept (λ s. s.id == k) (λ s. not (s.id == id)) (λ s h. other_id k id s.id other h) slots))

-- where the first slot of an id stands, it is found
pub found_slot : (slots : List (Slot Reading)) (id at : ℕ) (d : Slot Reading) → position (λ slot. slot.id == id) slots ≡ Some at
    → find (λ slot. slot.id == id) slots ≡ Some (get_or slots at d)
found_slot slots id at d found =
    let p : Slot Reading → Bool = λ slot. slot.id == id in
    let here = position-Some p slots at d found in
    found_at (find p) p (λ s. Some s) None refl (λ _ _. refl) slots at d here.0 here.2 here.1

-- a slot of the same id in its place
pub found_set : (slots : List (Slot Reading)) (id at : ℕ) (new d : Slot Reading) → position (λ slot. slot.id == id) slots ≡ Some at → (new.id == id) ≡ true
    → find (λ slot. slot.id == id) (set slots at new) ≡ Some new
found_set slots id at new d found same =
    let p : Slot Reading → Bool = λ slot. slot.id == id in
    let here = position-Some p slots at d found in
    let within : at < length slots = here.0 in
    let is_new : get_or (set slots at new) at d ≡ new = get_or-set_same slots at new d within in
    found_at (find p) p (λ s. Some s) None refl (λ _ _. refl) (set slots at new) at d (omega (arith, length-set slots at new))
    (λ k below. ap p (get_or-set_other slots at k new d (λ e. absurd (omega arith))) ∙ here.2 k below) (ap p is_new ∙ same) ∙ ap (λ s. Some s) is_new

dropped_step : (docs : List Doc) (doc at n : ℕ) (o : Option Doc) → option_map (λ d. drop (at + n) d.bytes) o ≡ option_map (λ bytes. drop n bytes) (option_map (λ d. drop at d.bytes) o)
dropped_step docs doc at n None = refl
dropped_step docs doc at n (Some d) = ap (λ bytes. Some bytes) (sym (drop-drop n at d.bytes))

-- a reading that has gone on by n bytes
pub rest_of-further : (docs : List Doc) (doc at n : ℕ) → rest_of docs (record { doc = doc; at = at + n }) ≡ option_map (λ bytes. drop n bytes) (rest_of docs (record { doc = doc; at = at }))
rest_of-further docs doc at n = dropped_step docs doc at n (slice_get docs doc)

-- an id that stands nowhere has nothing to come
pub not_found : (docs : List Doc) (slots : List (Slot Reading)) (id : ℕ) → position (λ slot. slot.id == id) slots ≡ None → rest_of_id docs slots id ≡ None
not_found docs slots id none =
    ap (λ o. option_and_then (λ s. rest_of docs s.held) o) (find-none (λ slot. slot.id == id) slots (sym (is_some-position (λ slot. slot.id == id) slots) ∙ ap is_some none))

-- the first slot of an id read further by n bytes
module _ (docs : List Doc) (slots : List (Slot Reading)) (id at : ℕ) (old : Slot Reading) (found : position (λ slot. slot.id == id) slots ≡ Some at) (is : old ≡ get_or slots at old) where
  pub is_found : find (λ slot. slot.id == id) slots ≡ Some old
  is_found = found_slot slots id at old found ∙ ap (λ s. Some s) (sym is)

  pub rest_here : rest_of_id docs slots id ≡ rest_of docs old.held
  rest_here = ap (λ o. option_and_then (λ s. rest_of docs s.held) o) is_found

  pub rest-read : (n : ℕ) (held : Reading) → held ≡ record { doc = old.held.doc; at = old.held.at + n }
      → rest_of_id docs (set slots at (record { id = old.id; held = held })) ≡ with_bytes (rest_of_id docs slots) id (option_map (λ bytes. drop n bytes) (rest_of_id docs slots id))
  rest-read n held moved =
      let new : Slot Reading = record { id = old.id; held = held } in
      let here = position-Some (λ slot. slot.id == id) slots at old found in
      let same : (old.id == id) ≡ true = ap (λ s. s.id == id) is ∙ here.1 in
      by_id (rest_of_id docs (set slots at new)) (rest_of_id docs slots) id (option_map (λ bytes. drop n bytes) (rest_of_id docs slots id))
      (ap (λ o. option_and_then (λ s. rest_of docs s.held) o) (found_set slots id at new old found same)
      ∙ ap (rest_of docs) moved ∙ rest_of-further docs old.held.doc old.held.at n ∙ sym (ap (λ o. option_map (λ bytes. drop n bytes) o) rest_here))
      (λ k other. ap (λ o. option_and_then (λ s. rest_of docs s.held) o)
      (find-set_other (λ s. s.id == k) slots at new old (differs k id old.id other same) (differs k id (get_or slots at old).id other here.1)))

-- the same of all that is to come
pub to_come-read : (main : List ℕ) (at : ℕ) (docs : List Doc) (old new : List (Slot Reading)) (id n : ℕ) → 0 < id
    → rest_of_id docs new ≡ with_bytes (rest_of_id docs old) id (option_map (λ bytes. drop n bytes) (rest_of_id docs old id))
    → all_to_come main at docs new ≡ with_bytes (all_to_come main at docs old) id (option_map (λ bytes. drop n bytes) (all_to_come main at docs old id))
to_come-read main at docs old new id n above e =
    let bytes : Option (List ℕ) = option_map (λ bytes. drop n bytes) (rest_of_id docs old id) in
    by_doc main at docs new old id bytes above (ap (λ f. f id) e ∙ with_here (rest_of_id docs old) id bytes) (λ k other. ap (λ f. f k) e ∙ with_other (rest_of_id docs old) id bytes k other)
    ∙ ap (λ o. with_bytes (all_to_come main at docs old) id (option_map (λ bytes. drop n bytes) o)) (sym (doc_at main at docs old id above))

drop_none : (o : Option (List ℕ)) → option_map (λ bytes. drop 0 bytes) o ≡ o
drop_none None = refl
drop_none (Some bytes) = refl

pub kept_bytes : (f : ℕ → Option (List ℕ)) (id : ℕ) → with_bytes f id (f id) ≡ f
kept_bytes f id = sym (by_id f f id (f id) refl (λ k other. refl))

-- after a read of nothing
pub to_come-end : (main : List ℕ) (at : ℕ) (docs : List Doc) (old new : List (Slot Reading)) (id n : ℕ) → n ≡ 0
    → rest_of_id docs new ≡ with_bytes (rest_of_id docs old) id (option_map (λ bytes. drop n bytes) (rest_of_id docs old id))
    → all_to_come main at docs new ≡ all_to_come main at docs old
to_come-end main at docs old new id n none e =
    let same : rest_of_id docs new ≡ rest_of_id docs old =
    e ∙ ap (λ m. with_bytes (rest_of_id docs old) id (option_map (λ bytes. drop m bytes) (rest_of_id docs old id))) none
    ∙ ap (with_bytes (rest_of_id docs old) id) (drop_none (rest_of_id docs old id)) ∙ kept_bytes (rest_of_id docs old) id in
    fun_ext (λ k. same_doc main at docs new old k (ap (λ f. f k) same))

-- the first bytes of a document are all of it
pub rest_of-first : (docs : List Doc) (at : ℕ) → rest_of docs (record { doc = at; at = 0 }) ≡ option_map (λ doc. doc.bytes) (slice_get docs at)
rest_of-first docs at = refl

-- after a read of the main document
pub to_come-main : (main : List ℕ) (at n : ℕ) (docs : List Doc) (slots : List (Slot Reading)) → all_to_come main (at + n) docs slots ≡ with_bytes (all_to_come main at docs slots) 0 (Some (drop n (drop at main)))
to_come-main main at n docs slots = by_id (all_to_come main (at + n) docs slots) (all_to_come main at docs slots) 0 (Some (drop n (drop at main)))
    (ap (λ bytes. Some bytes) (sym (drop-drop n at main)))
    (λ k other. ap (λ b. if b then Some (drop (at + n) main) else rest_of_id docs slots k) (eq_other k 0 other) ∙ sym (ap (λ b. if b then Some (drop at main) else rest_of_id docs slots k) (eq_other k 0 other)))
