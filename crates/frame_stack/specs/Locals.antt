-- The variables of a body.
use Rattle.std.specs.Prelude.{ℕ, zero, suc, List, [], ◌∷◌}
use Rattle.stx_base.specs.declared.name.Name.{Name}
use Rattle.stxpath_values.specs.declared.value.Atom.{Atom}
use Rattle.frame_stack.specs.declared.locals.Local.{Local}

abbrev pub local : Name → List Atom → Local
local name value = record { name = name; value = value }

-- the local at an index has another value
abbrev pub with_value : (index : ℕ) → List Atom → List Local → List Local
with_value index value [] = []
with_value zero value (entry ∷ entries) = record entry { value = value } ∷ entries
with_value (suc index) value (entry ∷ entries) = entry ∷ with_value index value entries
