-- The faults that a start tag shows, in their order.
use Rattle.std.specs.Prelude.{ℕ, Bool, true, false, ◌&&◌, not, ◌==◌, List, [], ◌∷◌, ◌++◌, Option, Some, None, Ok, codes, bytes_eq, if◌then◌else◌}
use Rattle.std.specs.List.{list_any}
use Rattle.std.specs.Option.{option_map_or}
use Rattle.stx_base.specs.declared.fault.SheetCode.{SheetCode}
use Rattle.stx_base.specs.declared.fault.SheetCode.TheVariants as code
use Rattle.stx_base.specs.declared.name.Binding.{Binding}
use Rattle.stx_base.specs.declared.name.Name.{Name}
use Rattle.sheet_model.specs.Names.{is_among, is_same}
use Rattle.sheet_model.specs.declared.sheet.Sheet.{Sheet}
use Rattle.xml_events.specs.Tree.{Element}
use Rattle.sheet_loader.specs.Attributes.{Form, Row, Version, rows}
use Rattle.sheet_loader.specs.Elements as element
use Rattle.sheet_loader.specs.Elements.{Kind, stx_uri, kind_named, Inside, Declarations, is_allowed, is_transform}
use Rattle.sheet_loader.specs.Making.{Values, value_at, as_name, as_word, behind, last_of, locals_of, with_params}
use Rattle.sheet_loader.specs.Reading.{Context, Item}
use Rattle.sheet_loader.specs.References.{has_group}
use Rattle.sheet_loader.specs.Tags.{Found, found_at, is_bad_value, is_missing, is_unknown, path_fault}
use Rattle.sheet_loader.specs.Values.{Reads}

-- an element of the namespace of sheets, and not a literal one
abbrev pub is_stx : Name → Bool
is_stx n = bytes_eq n.uri stx_uri

abbrev pub is_transform_named : Name → Bool
is_transform_named n = is_stx n && option_map_or is_transform (kind_named n.local) false

abbrev pub is_declared_here : Inside → Bool
is_declared_here (Declarations params) = true
is_declared_here other = false

-- variables within a body have a row of their own
abbrev pub rows_of : Context → Kind → List Row
rows_of here kind = rows here.version.dialect (not (is_declared_here here.inside)) kind

-- the values that were found at the rows
abbrev pub value_found : Row → Found → Values
value_found row (Some (Ok value)) = (row.name, value) ∷ []
value_found row other = []

abbrev pub values_found : List Row → List Found → Values
values_found [] found = []
values_found rows [] = []
values_found (row ∷ rows) (f ∷ found) = value_found row f ++ values_found rows found

-- a name that stands once in each group, or once in all the sheet
abbrev pub is_taken : Sheet → (group : ℕ) → Kind → Name → Bool
is_taken sheet group element.Procedure n = list_any (λ p. p.group == group && is_same p.name n) sheet.procedures
is_taken sheet group element.Buffer n = list_any (λ b. b.group == group && is_same b.name n) sheet.buffers
is_taken sheet group element.Variable n = list_any (λ v. v.group == group && is_same v.name n) sheet.variables
is_taken sheet group element.Param n = list_any (λ v. v.group == group && is_same v.name n) sheet.variables
is_taken sheet group element.Group n = has_group sheet n
is_taken sheet group other n = false

-- names that stand in a body: those of locals in scope, and of values for parameters
abbrev pub is_taken_in_body : (locals : List Name) → (before : List Item) → Kind → Name → Bool
is_taken_in_body locals before element.Variable n = is_among locals n
is_taken_in_body locals before element.Param n = is_among locals n
is_taken_in_body locals before element.ForEachItem n = is_among locals n
is_taken_in_body locals before element.WithParam n = list_any (λ p. is_same p.name n) (with_params before)
is_taken_in_body locals before other n = false

-- the locals in scope at a place of a list
abbrev pub locals_at : Context → (before : List Item) → List Name
locals_at here before = here.locals ++ locals_of before

-- the name is declared already
abbrev pub is_duplicate : Context → (before : List Item) → Sheet → Kind → Name → Bool
is_duplicate here before sheet kind n =
    if is_declared_here here.inside then is_taken sheet here.group kind n
    else is_taken_in_body (locals_at here before) before kind n

abbrev pub declares_again : Context → (before : List Item) → Sheet → Kind → Values → Bool
declares_again here before sheet kind v =
    option_map_or (is_duplicate here before sheet kind) (as_name (value_at (codes "name") v)) false

-- an include of a file that is being read
abbrev pub is_loop : Context → Kind → Values → Bool
is_loop here element.Include v = list_any (λ file. bytes_eq file.1 (as_word (value_at (codes "href") v))) here.reading
is_loop here other v = false

abbrev pub is_version : Form → Bool
is_version Version = true
is_version other = false

-- the declarations in force at a tag
abbrev pub scope_at : Context → Element → List Binding
scope_at here e = here.scope ++ e.decls

-- the code, if the condition holds
abbrev pub refuses : Bool → SheetCode → Option SheetCode
refuses condition why = if condition then Some why else None

abbrev pub first_of : List (Option SheetCode) → Option SheetCode
first_of [] = None
first_of (Some why ∷ others) = Some why
first_of (None ∷ others) = first_of others

module _ (reads : Reads) where
  -- what stands at the rows of a tag
  abbrev pub found : Context → Kind → Element → List Found
  found here kind e = found_at reads here.version.dialect (scope_at here e) (rows_of here kind) e.attrs

  -- the values of a tag's attributes
  abbrev pub values : Context → Kind → Element → Values
  values here kind e = values_found (rows_of here kind) (found here kind e)

  -- The codes in their order, each with where it comes at the tag of an element of the language. Before them come NotStx, at a root, and
  -- UnknownElement, and after them NoDocument, where a file that is included isn't there.
  abbrev pub fault_of : Context → (before : List Item) → Sheet → Element → Kind → Option SheetCode
  fault_of here before sheet e kind =
      first_of (
      refuses (not (is_allowed (behind here.inside before) (last_of before) kind)) code.Misplaced
      ∷ refuses (list_any (is_unknown (rows_of here kind)) e.attrs) code.UnknownAttribute
      ∷ refuses (list_any (is_missing e.attrs) (rows_of here kind)) code.MissingAttribute
      ∷ refuses (list_any (λ row. is_version row.form) (rows_of here kind) && not here.version.is_known) code.Version
      ∷ refuses (list_any is_bad_value (found here kind e)) code.BadValue
      -- Fraction or BadPath
      ∷ path_fault (found here kind e)
      ∷ refuses (declares_again here before sheet kind (values here kind e)) code.DuplicateName
      ∷ refuses (is_loop here kind (values here kind e)) code.IncludeLoop
      ∷ [])
