-- Lemmas on the variable of a name.
use Rattle.std.proofs.Common.{◌≡◌, ℕ, zero, suc, ◌+◌, ◌<◌, ◌≤◌, Bool, true, false, cond, not, ◌&&◌, List, [], ◌∷◌, ◌++◌, length, get_or, Some, None, refl, ap, sym, ◌∙◌, nat_lt, arith}
use borrow.Author.Tests.{ltb-true, ltb-false}
use Rattle.std.specs.Prelude.{find, option_map, slice_get}
use Rattle.std.specs.List.{position_or_len}
use Rattle.std.specs.Str.{bytes_eq}
use Rattle.std.proofs.Math.ListN.{set}
use Rattle.std.proofs.lemmas.List.Folds.{find_at}
use Rattle.std.proofs.lemmas.Option.{slice_get-map, slice_get_past}
use Rattle.std.proofs.lemmas.Slice.Eq.{bytes_eq-Decides}
use Rattle.stx_base.specs.declared.name.Name.{Name}
use Rattle.stxpath_values.specs.declared.value.Atom.{Atom}
use Rattle.var_store.specs.Laws.{AssignedIsRead, DeclaredIsRead, OthersAreRead, SlotLeadsToValue}
use Rattle.var_store.specs.Variables.{bound, is_called, slot_of, value_of, with_value}
use Rattle.var_store.specs.declared.bound.Bound.{Bound}

-- how many variables stand before the one of a name
abbrev before : Name → List Bound → ℕ
before name bounds = position_or_len (is_called name) bounds

some_place : (b : Bool) (n m i : ℕ) → nat_lt n m ≡ b → cond b (Some n) None ≡ Some i → (n ≡ i) × (i < m)
some_place true n m i e h = let same : n ≡ i = cc in let lt : n < m = ltb-true n m e in (same, omega arith)
some_place false n m i e h = cc

no_place : (b : Bool) (n m : ℕ) → nat_lt n m ≡ b → cond b (Some n) None ≡ None → m ≤ n
no_place true n m e h = cc
no_place false n m e h = ltb-false n m e

pub at_slot : (name : Name) (bounds : List Bound) (slot : ℕ) → slot_of name bounds ≡ Some slot → (before name bounds ≡ slot) × (slot < length bounds)
at_slot name bounds slot e = some_place (nat_lt (before name bounds) (length bounds)) (before name bounds) (length bounds) slot refl e

pub found_at : (name : Name) (bounds : List Bound) (slot : ℕ) → slot_of name bounds ≡ Some slot → slice_get bounds slot ≡ find (is_called name) bounds
found_at name bounds slot e =
    ap (slice_get bounds) (sym (at_slot name bounds slot e).0) ∙ sym (find_at (is_called name) bounds)

pub found_nowhere : (name : Name) (bounds : List Bound) → slot_of name bounds ≡ None → find (is_called name) bounds ≡ None
found_nowhere name bounds h =
    find_at (is_called name) bounds
    ∙ slice_get_past bounds (before name bounds) (no_place (nat_lt (before name bounds) (length bounds)) (before name bounds) (length bounds) refl h)

pub slot_leads_to_value : SlotLeadsToValue
slot_leads_to_value name bounds slot e =
    slice_get-map (λ b. b.value) bounds slot ∙ ap (option_map (λ b. b.value)) (found_at name bounds slot e)

-- the same variable with another value
abbrev pub revalued : List Atom → Bound → Bound
revalued value b = record b { value = value }

replaced_at : (name : Name) (value : List Atom) (x : Bound) (xs : List Bound) (d : Bound)
    → ((i : ℕ) → before name xs ≡ i → i < length xs → with_value name value xs ≡ set xs i (revalued value (get_or xs i d)))
    → (b : Bool) (i : ℕ) → cond (not b) (1 + before name xs) 0 ≡ i → i < length (x ∷ xs)
    → cond b (revalued value x ∷ xs) (x ∷ with_value name value xs) ≡ set (x ∷ xs) i (revalued value (get_or (x ∷ xs) i d))
replaced_at name value x xs d h true zero e lt = refl
replaced_at name value x xs d h true (suc i) e lt = absurd (omega arith)
replaced_at name value x xs d h false zero e lt = absurd (omega arith)
replaced_at name value x xs d h false (suc i) e lt = ap (λ ys. x ∷ ys) (h i (omega arith) (omega arith))

pub replaced : (name : Name) (value : List Atom) (bounds : List Bound) (d : Bound) (i : ℕ) → before name bounds ≡ i → i < length bounds
    → with_value name value bounds ≡ set bounds i (revalued value (get_or bounds i d))
replaced name value [] d i e lt = absurd (omega arith)
replaced name value (x ∷ xs) d i e lt = replaced_at name value x xs d (replaced name value xs d) (is_called name x) i e lt

own_name : (name : Name) (value : List Atom) → is_called name (bound name value) ≡ true
own_name name value =
    let u = (bytes_eq-Decides name.uri name.uri).1 refl in let l = (bytes_eq-Decides name.local name.local).1 refl in rw (u, l) refl

last_at : (p : Bound → Bool) (x y : Bound) (xs : List Bound) → (length xs ≤ position_or_len p xs → find p (xs ++ y ∷ []) ≡ Some y)
    → (b : Bool) → suc (length xs) ≤ cond (not b) (1 + position_or_len p xs) 0 → cond b (Some x) (find p (xs ++ y ∷ [])) ≡ Some y
last_at p x y xs h true le = absurd (omega arith)
last_at p x y xs h false le = h (omega arith)

found_last : (p : Bound → Bool) (y : Bound) → p y ≡ true → (xs : List Bound) → length xs ≤ position_or_len p xs → find p (xs ++ y ∷ []) ≡ Some y
found_last p y e [] le = ap (λ b. cond b (Some y) None) e
found_last p y e (x ∷ xs) le = last_at p x y xs (found_last p y e xs) (p x) le

pub declared_is_read : DeclaredIsRead
declared_is_read name value bounds none =
    ap (option_map (λ b. b.value))
    (found_last (is_called name) (bound name value) (own_name name value) bounds
    (no_place (nat_lt (before name bounds) (length bounds)) (before name bounds) (length bounds) refl none))

assigned_at : (name : Name) (value : List Atom) (x : Bound) (xs : List Bound)
    → (before name xs < length xs → value_of name (with_value name value xs) ≡ Some value)
    → (b : Bool) → is_called name x ≡ b → cond (not b) (1 + before name xs) 0 < suc (length xs)
    → value_of name (cond b (revalued value x ∷ xs) (x ∷ with_value name value xs)) ≡ Some value
assigned_at name value x xs h true e lt = ap (λ b. option_map (λ y. y.value) (cond b (Some (revalued value x)) (find (is_called name) xs))) e
assigned_at name value x xs h false e lt = ap (λ b. option_map (λ y. y.value) (cond b (Some x) (find (is_called name) (with_value name value xs)))) e ∙ h (omega arith)

assigned_within : (name : Name) (value : List Atom) (bounds : List Bound) → before name bounds < length bounds → value_of name (with_value name value bounds) ≡ Some value
assigned_within name value [] lt = absurd (omega arith)
assigned_within name value (x ∷ xs) lt = assigned_at name value x xs (assigned_within name value xs) (is_called name x) refl lt

pub assigned_is_read : AssignedIsRead
assigned_is_read name value bounds slot some =
    let at = at_slot name bounds slot some in assigned_within name value bounds (omega (arith, at.0, at.1))

-- a variable of the name isn't of a name that differs
apart_at : (a b c d : Bool) → (a && b) ≡ true → (a ≡ true) × (b ≡ true)
apart_at true true c d e = (refl, refl)
apart_at true false c d e = cc
apart_at false b c d e = cc

not_other : (name other : Name) (x : Bound) → is_called other (bound name []) ≡ false → is_called name x ≡ true → is_called other x ≡ false
not_other name other x apart e =
    let both = apart_at (bytes_eq x.name.uri name.uri) (bytes_eq x.name.local name.local) true true e in
    let u : x.name.uri ≡ name.uri = (bytes_eq-Decides x.name.uri name.uri).0 both.0 in
    let l : x.name.local ≡ name.local = (bytes_eq-Decides x.name.local name.local).0 both.1 in
    ap (λ cs. bytes_eq cs other.uri && bytes_eq x.name.local other.local) u ∙ ap (λ cs. bytes_eq name.uri other.uri && bytes_eq cs other.local) l ∙ apart

others_after : (name other : Name) (value : List Atom) (x : Bound) (xs : List Bound) → value_of other (with_value name value xs) ≡ value_of other xs
    → (b : Bool) → value_of other (x ∷ with_value name value xs) ≡ value_of other (x ∷ with_value name value xs)
    → option_map (λ y. y.value) (cond b (Some x) (find (is_called other) (with_value name value xs))) ≡ option_map (λ y. y.value) (cond b (Some x) (find (is_called other) xs))
others_after name other value x xs h true e = refl
others_after name other value x xs h false e = h

others_at : (name other : Name) (value : List Atom) (x : Bound) (xs : List Bound) → is_called other (bound name []) ≡ false
    → value_of other (with_value name value xs) ≡ value_of other xs
    → (b : Bool) → is_called name x ≡ b
    → value_of other (cond b (revalued value x ∷ xs) (x ∷ with_value name value xs)) ≡ value_of other (x ∷ xs)
others_at name other value x xs apart h true e =
    let f = not_other name other x apart e in
    ap (λ b. option_map (λ y. y.value) (cond b (Some (revalued value x)) (find (is_called other) xs))) f
    ∙ sym (ap (λ b. option_map (λ y. y.value) (cond b (Some x) (find (is_called other) xs))) f)
others_at name other value x xs apart h false e = others_after name other value x xs h (is_called other x) refl

pub others_are_read : OthersAreRead
others_are_read name other value [] apart = refl
others_are_read name other value (x ∷ xs) apart = others_at name other value x xs apart (others_are_read name other value xs apart) (is_called name x) refl
