-- What the command gives a run for the parameters of the root group.
use Rattle.std.specs.Prelude.{◌≡◌, List, [], ◌∷◌, map}
use Rattle.stxpath_values.specs.declared.value.Atom.TheVariants as atom
use Rattle.var_store.specs.declared.bound.Bound.{Bound}
use Rattle.template_machine.specs.Job.{Given}
use Rattle.template_machine.specs.declared.program.Program.{Program}
use Rattle.template_machine.specs.declared.turn.Param.{Param}

abbrev pub given_by : Param → Bound
given_by p = record { name = record { uri = []; local = p.name; prefix = [] }; value = atom.Chars p.value ∷ [] }

abbrev pub all_given : Program → List Bound
all_given p = map given_by p.params

-- the program has what the run is given
abbrev pub HasParams : Program → Given → Type 0
HasParams p given = given.params ≡ all_given p
