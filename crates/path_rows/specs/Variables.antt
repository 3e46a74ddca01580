-- Variables in a list.
use Rattle.std.specs.Prelude.{if◌then◌else◌, List, [], ◌∷◌, Option, Some, None}
use Rattle.stx_base.specs.declared.name.Name.{Name}
use Rattle.node_stack.specs.Test.{same_name}
use Rattle.stxpath_values.specs.declared.value.Atom.{Atom}
use Rattle.path_rows.specs.declared.variables.Variable.{Variable}

-- the value of the first variable of the name
abbrev pub value_in : List Variable → Name → Option (List Atom)
value_in [] name = None
value_in (v ∷ vs) name = if same_name v.name name then Some v.value else value_in vs name
