-- The copies of groups' variables, of each group the newest first.
use Rattle.std.specs.Prelude.{ℕ, List, [], ◌∷◌, slice_get, slice_set, unwrap_or}
use Rattle.var_store.specs.declared.bound.Bound.{Bound}

-- the newest of a group's copies, and the one below
abbrev pub newest : List (List Bound) → List Bound
newest [] = []
newest (copy ∷ copies) = copy

abbrev pub taken_off : List (List Bound) → List (List Bound)
taken_off [] = []
taken_off (copy ∷ copies) = copies

abbrev pub below : List (List Bound) → List Bound
below copies = newest (taken_off copies)

-- another newest copy, the others as they were
abbrev pub on_newest : (List Bound → List Bound) → List (List Bound) → List (List Bound)
on_newest f [] = []
on_newest f (copy ∷ copies) = f copy ∷ copies

-- each group's copies, by its number
abbrev pub Stored : Type 0
Stored = List (List (List Bound))

abbrev pub copies_of : Stored → (group : ℕ) → List (List Bound)
copies_of store group = unwrap_or (slice_get store group) []

-- other copies of one group, the other groups as they were
abbrev pub on_group : (List (List Bound) → List (List Bound)) → (group : ℕ) → Stored → Stored
on_group f group store = slice_set store group (f (copies_of store group))
