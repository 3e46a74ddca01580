-- Laws of the variables.
use Rattle.std.specs.Prelude.{◌≡◌, ◌≢◌, ℕ, ◌<◌, List, [], ◌∷◌, ◌++◌, length, map, None, Some, false, slice_get}
use Rattle.stx_base.specs.declared.name.Name.{Name}
use Rattle.stxpath_values.specs.declared.value.Atom.{Atom}
use Rattle.var_store.specs.Copies.{Stored, below, copies_of, on_group, on_newest, taken_off}
use Rattle.var_store.specs.Variables.{bound, is_called, slot_of, value_of, with_value}
use Rattle.var_store.specs.declared.bound.Bound.{Bound}

-- a copy laid over a group's, changed in any way and taken off leaves all as it was
abbrev pub LaidOverAndTakenOff : Type 0
LaidOverAndTakenOff =
    (store : Stored) (group : ℕ) (f : List Bound → List Bound) → group < length store
    → on_group taken_off group (on_group (on_newest f) group (on_group (λ copies. [] ∷ copies) group store)) ≡ store

-- a change of the newest copy leaves the one below as it was
abbrev pub OlderStaysAsItWas : Type 0
OlderStaysAsItWas =
    (store : Stored) (group : ℕ) (f : List Bound → List Bound)
    → below (copies_of (on_group (on_newest f) group store) group) ≡ below (copies_of store group)

-- a change of one group leaves the others as they were
abbrev pub OtherGroupsStay : Type 0
OtherGroupsStay =
    (store : Stored) (group other : ℕ) (f : List (List Bound) → List (List Bound)) → other ≢ group
    → copies_of (on_group f group store) other ≡ copies_of store other

-- a variable that is declared has its value
abbrev pub DeclaredIsRead : Type 0
DeclaredIsRead =
    (name : Name) (value : List Atom) (bounds : List Bound) → slot_of name bounds ≡ None
    → value_of name (bounds ++ bound name value ∷ []) ≡ Some value

-- a variable that is assigned has its value
abbrev pub AssignedIsRead : Type 0
AssignedIsRead =
    (name : Name) (value : List Atom) (bounds : List Bound) (slot : ℕ) → slot_of name bounds ≡ Some slot
    → value_of name (with_value name value bounds) ≡ Some value

-- one of another name has the value that it had
abbrev pub OthersAreRead : Type 0
OthersAreRead =
    (name other : Name) (value : List Atom) (bounds : List Bound)
    → is_called other (bound name []) ≡ false
    → value_of other (with_value name value bounds) ≡ value_of other bounds

-- the value at the place of a name is the variable's
abbrev pub SlotLeadsToValue : Type 0
SlotLeadsToValue =
    (name : Name) (bounds : List Bound) (slot : ℕ) → slot_of name bounds ≡ Some slot
    → slice_get (map (λ b. b.value) bounds) slot ≡ value_of name bounds
