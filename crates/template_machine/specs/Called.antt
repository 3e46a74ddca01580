-- That what is declared in bodies has a name.
use Rattle.std.specs.Prelude.{◌≢◌, List, [], All}
use Rattle.sheet_model.specs.declared.sheet.Procedure.{Procedure}
use Rattle.sheet_model.specs.declared.sheet.Template.{Template}
use Rattle.sheet_model.specs.declared.sheet.Variable.{Variable}
use Rattle.stx_base.specs.declared.name.Name.{Name}
use Rattle.template_machine.specs.Contexts.{IsDeclared}
use Rattle.template_machine.specs.declared.program.Program.{Program}

-- its local part isn't empty
abbrev pub HasName : Name → Type 0
HasName name = name.local ≢ []

abbrev pub HasNames : List Variable → Type 0
HasNames vs = All (λ (v : Variable). HasName v.name) vs

-- Each variable of a body has one, and each parameter.
pub record DeclaresNames (p : Program) : Type 0 where
  pub variables : (name : Name) → IsDeclared p.code name → HasName name
  pub templates : All (λ (t : Template). HasNames t.params) p.sheet.templates
  pub procedures : All (λ (q : Procedure). HasNames q.params) p.sheet.procedures
