-- The variables that a body sees: those of its group, and of the groups around it.
use Rattle.std.specs.Prelude.{ℕ, if◌then◌else◌, is_some, List, [], ◌∷◌, ◌++◌, Option, Some, None}
use Rattle.std.specs.Option.{option_map_or, option_or}
use Rattle.stx_base.specs.declared.name.Name.{Name}
use Rattle.stxpath_values.specs.declared.value.Atom.{Atom}
use Rattle.var_store.specs.Copies.{Stored, below, copies_of, on_group, on_newest, taken_off}
use Rattle.var_store.specs.Copies as copies
use Rattle.var_store.specs.Variables.{bound, slot_of, value_of, with_value}
use Rattle.var_store.specs.declared.bound.Bound.{Bound}

-- the first that there is of what f gives
abbrev pub first_some : {A B : Type 0} → (A → Option B) → List A → Option B
first_some f [] = None
first_some f (x ∷ xs) = option_or (f x) (first_some f xs)

-- the newest copy of a group's variables, and the one below it
abbrev pub newest : Stored → (group : ℕ) → List Bound
newest store group = copies.newest (copies_of store group)

abbrev pub older : Stored → (group : ℕ) → List Bound
older store group = below (copies_of store group)

-- one more in the newest copy
abbrev pub declared : Stored → (group : ℕ) → Name → List Atom → Stored
declared store group name value = on_group (on_newest (λ bs. bs ++ bound name value ∷ [])) group store

-- an empty copy over a group's, and without the newest copy
abbrev pub shadowed : Stored → (group : ℕ) → Stored
shadowed store group = on_group (λ cs. [] ∷ cs) group store

abbrev pub unshadowed : Stored → (group : ℕ) → Stored
unshadowed store group = on_group taken_off group store

-- the value that is seen under a name in these groups: that of the first that has one
abbrev pub seen_in : List ℕ → Stored → Name → Option (List Atom)
seen_in around store name = first_some (λ g. value_of name (newest store g)) around

-- where the first of these groups has the name, it has another value there
abbrev pub assigned_in : List ℕ → Stored → Name → List Atom → Stored
assigned_in [] store name value = store
assigned_in (g ∷ around) store name value =
    option_map_or (λ old. on_group (on_newest (with_value name value)) g store) (value_of name (newest store g)) (assigned_in around store name value)

-- the first of these groups whose newest copy has the name
abbrev pub holder_in : List ℕ → Stored → Name → Option ℕ
holder_in around store name = first_some (λ g. if is_some (slot_of name (newest store g)) then Some g else None) around
