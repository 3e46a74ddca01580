-- What is known of a sheet's names while it is read, and what it is of the sheet.
use Rattle.std.specs.Prelude.{◌≡◌, ℕ, Bool, ◌&&◌, ◌==◌, List, [], ◌++◌, map, Option}
use Rattle.std.specs.List.{list_any}
use Rattle.std.specs.Option.{option_map}
use Rattle.stx_base.specs.declared.fault.Place.{Place}
use Rattle.stx_base.specs.declared.fault.SheetCode.{SheetCode}
use Rattle.stx_base.specs.declared.name.Name.{Name}
use Rattle.sheet_model.specs.Names.{is_among, is_same}
use Rattle.sheet_model.specs.declared.sheet.Sheet.{Sheet}
use Rattle.sheet_loader.specs.Elements as element
use Rattle.sheet_loader.specs.Elements.{Kind}
use Rattle.sheet_loader.specs.Judging.{is_declared_here, locals_at}
use Rattle.sheet_loader.specs.Keys.{Owned, has_own, name_of, names_in, owned_in, with_maybe, with_name, with_own}
use Rattle.sheet_loader.specs.Making.{with_params}
use Rattle.sheet_loader.specs.Reading.{Context, Item}
use Rattle.sheet_loader.specs.References.{Reference, Sought, A_buffer, A_group, A_procedure, A_variable, No_earlier_variable, code_of, first_lost, has_group}
use Rattle.sheet_loader.specs.declared.declared.Declared.{Declared}
use Rattle.sheet_loader.specs.declared.register.Register.{Register}
use Rattle.sheet_loader.specs.declared.waiting.Reference as waiting
use Rattle.sheet_loader.specs.declared.waiting.Wanted.{Wanted}
use Rattle.sheet_loader.specs.declared.waiting.Wanted.TheVariants as wanted

-- what a sheet declares, by names without prefixes
pub record Declares : Type 0 where
  pub groups : List Name
  pub procedures : List Owned
  pub buffers : List Owned
  pub variables : List Owned

-- what is known of names: what is declared, the locals in scope, and what is referred to
pub record Known : Type 0 where
  pub declares : Declares
  pub locals : List Name
  pub references : List Reference

abbrev pub known_of : Declared → Declares
known_of d = record { groups = names_in d.groups; procedures = owned_in d.procedures; buffers = owned_in d.buffers; variables = owned_in d.variables }

abbrev pub sought_of : Wanted → Sought
sought_of (wanted.Group e) = A_group (name_of e)
sought_of (wanted.Procedure own) = A_procedure own.group (name_of own.name)
sought_of (wanted.Buffer own) = A_buffer own.group (name_of own.name)
sought_of (wanted.Variable own) = A_variable own.group (name_of own.name)
sought_of wanted.NoVariable = No_earlier_variable

abbrev pub reference_of : waiting.Reference → Reference
reference_of r = record { at = r.at; sought = sought_of r.wanted }

abbrev pub known : Register → Known
known r = record { declares = known_of r.declared; locals = names_in r.locals; references = map reference_of r.references }

abbrev pub nothing_declared : Declares
nothing_declared = record { groups = []; procedures = []; buffers = []; variables = [] }

abbrev pub nothing_known : Known
nothing_known = record { declares = nothing_declared; locals = []; references = [] }

-- one reference more for each of these
abbrev pub refers_to : List Reference → Known → Known
refers_to references k = record k { references = k.references ++ references }

-- the names are those that the sheet declares
pub record Knows (d : Declares) (sheet : Sheet) : Type 0 where
  pub groups : (n : Name) → is_among d.groups n ≡ has_group sheet n
  pub procedures : (group : ℕ) (n : Name) → has_own d.procedures group n ≡ list_any (λ p. p.group == group && is_same p.name n) sheet.procedures
  pub buffers : (group : ℕ) (n : Name) → has_own d.buffers group n ≡ list_any (λ b. b.group == group && is_same b.name n) sheet.buffers
  pub variables : (group : ℕ) (n : Name) → has_own d.variables group n ≡ list_any (λ v. v.group == group && is_same v.name n) sheet.variables

-- these are the locals in scope
abbrev pub HasLocals : Known → List Name → Type 0
HasLocals k locals = (n : Name) → is_among k.locals n ≡ is_among locals n

-- these are the parameters that have a value in a list
abbrev pub AreGiven : List Name → List Item → Type 0
AreGiven given items = (n : Name) → is_among given n ≡ list_any (λ p. is_same p.name n) (with_params items)

-- what is known where something stands in a list
pub record KnowsAt (k : Known) (group : ℕ) (is_declared : Bool) (here : Context) (before : List Item) (sheet : Sheet) : Type 0 where
  pub group_is : group ≡ here.group
  pub is_declared_is : is_declared ≡ is_declared_here here.inside
  pub declares : Knows k.declares sheet
  pub locals : HasLocals k (locals_at here before)

-- with a name that an element declares in a group
abbrev pub declared_by : Kind → Owned → Declares → Declares
declared_by element.Procedure o d = record d { procedures = with_own d.procedures o }
declared_by element.Buffer o d = record d { buffers = with_own d.buffers o }
declared_by element.Variable o d = record d { variables = with_own d.variables o }
declared_by element.Param o d = record d { variables = with_own d.variables o }
declared_by other o d = d

abbrev pub with_declared : Kind → Owned → Known → Known
with_declared kind o k = record k { declares = declared_by kind o k.declares }

abbrev pub with_group : Option Name → Known → Known
with_group name k = record k { declares = record k.declares { groups = with_maybe k.declares.groups name } }

-- without the names of groups
abbrev pub without_groups : Known → Known
without_groups k = record k { declares = record k.declares { groups = [] } }

-- with the local that a loop brings into its body
abbrev pub within_loop : Kind → Name → Known → Known
within_loop element.ForEachItem n k = record k { locals = with_name k.locals n }
within_loop other n k = k

-- with the name of an item that what stands behind it sees
abbrev pub behind_item : Kind → Name → Known → Known
behind_item element.Variable n k = record k { locals = with_name k.locals n }
behind_item element.Param n k = record k { locals = with_name k.locals n }
behind_item other n k = k

-- what is told of a reference that finds nothing
abbrev pub lost : Reference → SheetCode × Place
lost r = (code_of r.sought, r.at)

abbrev pub first_lost_of : Known → Sheet → Option (SheetCode × Place)
first_lost_of k sheet = option_map lost (first_lost sheet k.references)
