-- One copy of a group's variables, in the order of their declaration.
use Rattle.std.specs.Prelude.{ℕ, Bool, ◌&&◌, if◌then◌else◌, List, [], ◌∷◌, Option, find, option_map, position}
use Rattle.std.specs.Str.{bytes_eq}
use Rattle.stx_base.specs.declared.name.Name.{Name}
use Rattle.stxpath_values.specs.declared.value.Atom.{Atom}
use Rattle.var_store.specs.declared.bound.Bound.{Bound}

-- expanded names agree by URI and local part, whatever the prefixes (Namespaces in XML 1.0, 2.1)
abbrev pub is_called : Name → Bound → Bool
is_called name b = bytes_eq b.name.uri name.uri && bytes_eq b.name.local name.local

-- the place of a name among the declarations
abbrev pub slot_of : Name → List Bound → Option ℕ
slot_of name bounds = position (is_called name) bounds

-- the value of the variable of this name
abbrev pub value_of : Name → List Bound → Option (List Atom)
value_of name bounds = option_map (λ b. b.value) (find (is_called name) bounds)

-- the variable of this name has another value
abbrev pub with_value : Name → List Atom → List Bound → List Bound
with_value name value [] = []
with_value name value (b ∷ bs) = if is_called name b then record b { value = value } ∷ bs else b ∷ with_value name value bs

abbrev pub bound : Name → List Atom → Bound
bound name value = record { name = name; value = value }
