-- What the patterns and bodies of one group see of the variables.
use Rattle.std.specs.Prelude.{ℕ, List, Option}
use Rattle.stx_base.specs.declared.name.Name.{Name}
use Rattle.stxpath_values.specs.declared.value.Atom.{Atom}

-- by group and name, the values of the variables in sight
abbrev pub Seen : Type 0
Seen = (group : ℕ) → Name → Option (List Atom)
