-- The names of the elements that are open in a result.
use Rattle.std.specs.Prelude.{List, ◌∷◌, Option, Some, None, map}
use Rattle.stx_base.specs.declared.name.Name.{Name}
use Rattle.result_writer.specs.Target as target
use Rattle.result_writer.specs.Target.{Left}
use Rattle.result_writer.specs.declared.tag.HeldTag.{HeldTag}

abbrev pub named : List target.Element → List Name
named = map (λ (e : target.Element). e.name)

abbrev pub names_by : List target.Element → Option HeldTag → List Name
names_by es None = named es
names_by es (Some tag) = tag.name ∷ named es

-- the innermost first
abbrev pub names_of : Left → List Name
names_of l = names_by l.elements l.held
