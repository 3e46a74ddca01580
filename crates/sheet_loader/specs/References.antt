-- What the names of a sheet refer to, and which find nothing.
use Rattle.std.specs.Prelude.{ℕ, Bool, ◌&&◌, ◌==◌, List, [], ◌∷◌, Option, Some, None, if◌then◌else◌, false}
use Rattle.std.specs.List.{list_any}
use Rattle.std.specs.Option.{option_map_or}
use Rattle.stx_base.specs.declared.fault.Place.{Place}
use Rattle.stx_base.specs.declared.fault.SheetCode.{SheetCode}
use Rattle.stx_base.specs.declared.fault.SheetCode.TheVariants as code
use Rattle.stx_base.specs.declared.name.Name.{Name}
use Rattle.sheet_model.specs.Groups.{around}
use Rattle.sheet_model.specs.Names.{is_same}
use Rattle.sheet_model.specs.declared.sheet.Group.{Group}
use Rattle.sheet_model.specs.declared.sheet.Sheet.{Sheet}

-- a group is the one from which is looked, or one around it
abbrev pub is_seen : Sheet → (from group : ℕ) → Bool
is_seen sheet from group = list_any (λ g. g == group) (around sheet.groups from)

-- some variable or parameter of the group or of one around it has the name
abbrev pub has_variable : Sheet → (from : ℕ) → Name → Bool
has_variable sheet from name = list_any (λ v. is_seen sheet from v.group && is_same v.name name) sheet.variables

abbrev pub has_procedure : Sheet → (from : ℕ) → Name → Bool
has_procedure sheet from name = list_any (λ p. is_seen sheet from p.group && is_same p.name name) sheet.procedures

abbrev pub has_buffer : Sheet → (from : ℕ) → Name → Bool
has_buffer sheet from name = list_any (λ b. is_seen sheet from b.group && is_same b.name name) sheet.buffers

abbrev pub is_named : Name → Group → Bool
is_named name g = option_map_or (λ own. is_same own name) g.name false

-- some group of the sheet has the name
abbrev pub has_group : Sheet → Name → Bool
has_group sheet name = list_any (is_named name) sheet.groups

-- what a name has to lead to: it is sought from a group, or it was sought among what stands earlier and isn't there
pub data Sought : Type 0 where
  A_group : Name → Sought
  A_procedure : (from : ℕ) → Name → Sought
  A_buffer : (from : ℕ) → Name → Sought
  A_variable : (from : ℕ) → Name → Sought
  No_earlier_variable : Sought

-- a name at a tag
pub record Reference : Type 0 where
  pub at : Place
  pub sought : Sought

abbrev pub is_found : Sheet → Sought → Bool
is_found sheet (A_group name) = has_group sheet name
is_found sheet (A_procedure from name) = has_procedure sheet from name
is_found sheet (A_buffer from name) = has_buffer sheet from name
is_found sheet (A_variable from name) = has_variable sheet from name
is_found sheet No_earlier_variable = false

-- the code where it is lost
abbrev pub code_of : Sought → SheetCode
code_of (A_group name) = code.NoGroup
code_of (A_procedure from name) = code.NoProcedure
code_of (A_buffer from name) = code.NoBuffer
code_of (A_variable from name) = code.NoVariable
code_of No_earlier_variable = code.NoVariable

-- the first reference that finds nothing in the whole sheet
abbrev pub first_lost : Sheet → List Reference → Option Reference
first_lost sheet [] = None
first_lost sheet (r ∷ others) = if is_found sheet r.sought then first_lost sheet others else Some r
