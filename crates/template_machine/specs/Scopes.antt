-- The bindings in force within elements.
use Rattle.std.specs.Prelude.{◌≡◌, List, [], ◌∷◌, Option, Some, None}
use Rattle.stx_base.specs.declared.name.Binding.{Binding}
use Rattle.template_machine.specs.declared.bindings.Change.{Change}
use Rattle.template_machine.specs.declared.bindings.Change.TheVariants.{Same}

-- of the open elements, the innermost first, and last of the document node
abbrev pub Scopes : Type 0
Scopes = List (List Binding)

-- what is in force in the innermost
abbrev pub in_force : Scopes → List Binding
in_force [] = []
in_force (scope ∷ scopes) = scope

-- what is in force, and then what was around each element, where it was something else
abbrev pub scopes_by : (in_force : List Binding) → (around : List (Option (List Binding))) → Scopes
scopes_by scope [] = scope ∷ []
scopes_by scope (None ∷ around) = scope ∷ scopes_by scope around
scopes_by scope (Some outer ∷ around) = scope ∷ scopes_by outer around

-- it is told where something else is in force
abbrev pub IsTold : Change → (old new : Scopes) → Type 0
IsTold change old new = change ≡ Same → in_force new ≡ in_force old
