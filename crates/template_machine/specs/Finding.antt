-- What the names in instructions lead to.
use Rattle.sheet_model.specs.Groups.{around}
use Rattle.std.specs.Prelude.{ℕ, ◌==◌, Bool, false, ◌&&◌, List, [], Option, Some, None, filter, position, slice_get, unwrap_or}
use Rattle.std.specs.List.{list_any}
use Rattle.std.specs.Option.{option_and_then}
use Rattle.stx_base.specs.declared.name.Attr.{Attr}
use Rattle.stx_base.specs.declared.name.Name.{Name}
use Rattle.node_stack.specs.Test as kind
use Rattle.node_stack.specs.Test.{passes, same_name}
use Rattle.sheet_model.specs.declared.sheet.Buffer.{Buffer}
use Rattle.sheet_model.specs.declared.sheet.Group.{Group}
use Rattle.sheet_model.specs.declared.sheet.Procedure.{Procedure}
use Rattle.sheet_model.specs.declared.sheet.Sheet.{Sheet}
use Rattle.stxpath_syntax.specs.declared.expr.Pattern.{Pattern}
use Rattle.match_patterns.specs.Fits.{test_of}
use Rattle.template_machine.specs.Variables.{first_some}

abbrev pub is_named : Name → Option Name → Bool
is_named name None = false
is_named name (Some other) = same_name other name

-- the group of a name; the root, if there were none
abbrev pub group_named : Sheet → Name → ℕ
group_named sheet name = unwrap_or (position (λ (g : Group). is_named name g.name) sheet.groups) 0

-- the base group of a process instruction: the group that it names, or else the one in which it stands
abbrev pub base_of : Sheet → (named : Option Name) → (group : ℕ) → ℕ
base_of sheet None group = group
base_of sheet (Some name) group = group_named sheet name

-- The numbers of a procedure and of a buffer, which are found in a group, or else in the nearest group around it.

abbrev pub procedure_in : List Procedure → Name → (group : ℕ) → Option ℕ
procedure_in ps name group = position (λ p. p.group == group && same_name p.name name) ps

abbrev pub procedure_seen : Sheet → (group : ℕ) → Name → Option ℕ
procedure_seen sheet group name = first_some (procedure_in sheet.procedures name) (around sheet.groups group)

abbrev pub procedure_at : Sheet → Option ℕ → Option Procedure
procedure_at sheet n = option_and_then (λ k. slice_get sheet.procedures k) n

abbrev pub buffer_in : List Buffer → Name → (group : ℕ) → Option ℕ
buffer_in bs name group = position (λ b. b.group == group && same_name b.name name) bs

abbrev pub buffer_seen : Sheet → (group : ℕ) → Name → Option ℕ
buffer_seen sheet group name = first_some (buffer_in sheet.buffers name) (around sheet.groups group)

-- the attributes that some alternative's test passes; none without a pattern
abbrev pub passing : Option Pattern → List Attr → List Attr
passing None attrs = []
passing (Some p) attrs = filter (λ a. list_any (λ x. passes (test_of x) (kind.Attribute a.name)) p.alternatives) attrs
