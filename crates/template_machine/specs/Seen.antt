-- What the machine's expressions and patterns see of variables.
use Rattle.std.specs.Prelude.{◌≡◌, ℕ, ◌<◌, if◌then◌else◌, List, Option, Some, None, filter, map, not, slice_get}
use Rattle.std.specs.Option.{ForSome}
use Rattle.stx_base.specs.declared.name.Name.{Name}
use Rattle.stxpath_values.specs.declared.value.Atom.{Atom}
use Rattle.frame_stack.specs.declared.locals.Local.{Local}
use Rattle.result_writer.specs.Allowed.{is_empty}
use Rattle.sheet_model.specs.declared.sheet.Group.{Group}
use Rattle.var_store.specs.Variables.{bound, slot_of, value_of}
use Rattle.var_store.specs.declared.bound.Bound.{Bound}

-- locals as names with their values
abbrev pub bounds_of : List Local → List Bound
bounds_of locals = map (λ (l : Local). bound l.name l.value) locals

-- the locals that have a name, and no others, which only wait
abbrev pub named_of : List Local → List Bound
named_of locals = bounds_of (filter (λ (l : Local). not (is_empty l.name.local)) locals)

-- the value of the first local of a name
abbrev pub local_of : Name → List Local → Option (List Atom)
local_of name locals = value_of name (named_of locals)

-- where it stands among all locals
abbrev pub place_of : Name → List Local → Option ℕ
place_of name locals = if is_empty name.local then None else slot_of name (bounds_of locals)

-- each group stands behind the one around it
abbrev pub ParentsStandBefore : List Group → Type 0
ParentsStandBefore groups = (n : ℕ) (g : Group) → slice_get groups n ≡ Some g → ForSome g.parent (λ p. p < n)
