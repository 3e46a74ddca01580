-- What the tag of an element refers to.
use Rattle.std.specs.Prelude.{ℕ, List, [], ◌∷◌, ◌++◌, Option, Some, None, if◌then◌else◌, codes}
use Rattle.std.specs.List.{flat_map}
use Rattle.std.specs.Option.{option_map_or}
use Rattle.stx_base.specs.declared.fault.Place.{Place}
use Rattle.stx_base.specs.declared.name.Name.{Name}
use Rattle.sheet_model.specs.Names.{is_among, variables, template_variables, pattern_variables}
use Rattle.sheet_model.specs.declared.sheet.Sheet.{Sheet}
use Rattle.sheet_loader.specs.Elements as element
use Rattle.sheet_loader.specs.Elements.{Kind}
use Rattle.sheet_loader.specs.Judging.{is_declared_here, locals_at}
use Rattle.sheet_loader.specs.Making.{Values, value_at, as_name, as_expression, as_pattern, as_template, bare, name}
use Rattle.sheet_loader.specs.Reading.{Context, Item}
use Rattle.sheet_loader.specs.References.{Reference, Sought, A_buffer, A_group, A_procedure, A_variable, No_earlier_variable, has_variable}

abbrev pub refers : Place → Sought → List Reference
refers at sought = record { at = at; sought = sought } ∷ []

abbrev pub to_group : Place → Option Name → List Reference
to_group at None = []
to_group at (Some n) = refers at (A_group (bare n))

-- what an instruction names, but for locals, is sought among the variables of the group and those around it
abbrev pub to_variables : Place → (locals : List Name) → (from : ℕ) → List Name → List Reference
to_variables at locals from names = flat_map (λ n. if is_among locals n then [] else refers at (A_variable from (bare n))) names

-- a declaration sees only what stands earlier in the sheet
abbrev pub to_earlier : Place → Sheet → (from : ℕ) → List Name → List Reference
to_earlier at so_far from names = flat_map (λ n. if has_variable so_far from n then [] else refers at No_earlier_variable) names

abbrev pub variables_at : (word : List ℕ) → Values → List Name
variables_at word v = option_map_or variables (as_expression (value_at word v)) []

abbrev pub variables_of_template_at : (word : List ℕ) → Values → List Name
variables_of_template_at word v = option_map_or template_variables (as_template (value_at word v)) []

abbrev pub variables_of_pattern_at : (word : List ℕ) → Values → List Name
variables_of_pattern_at word v = option_map_or pattern_variables (as_pattern (value_at word v)) []

-- the variables that the expressions and templates of a tag name
abbrev pub named_in : Values → List Name
named_in v =
    variables_at (codes "select") v ++ variables_at (codes "test") v ++ variables_of_template_at (codes "separator") v
    ++ variables_of_template_at (codes "name") v ++ variables_of_template_at (codes "namespace") v ++ variables_of_template_at (codes "href") v

-- patterns see the variables of groups alone
abbrev pub in_patterns : Place → (group : ℕ) → Values → List Reference
in_patterns at group v =
    to_variables at [] group (variables_of_pattern_at (codes "match") v
    ++ variables_of_pattern_at (codes "while") v ++ variables_of_pattern_at (codes "until") v)

abbrev pub in_expressions : Place → Context → (before : List Item) → Sheet → Values → List Reference
in_expressions at here before so_far v =
    if is_declared_here here.inside then to_earlier at so_far here.group (named_in v)
    else to_variables at (locals_at here before) here.group (named_in v)

abbrev pub by_name : Place → Context → (before : List Item) → Kind → Name → List Reference
by_name at here before element.CallProcedure n = refers at (A_procedure here.group (bare n))
by_name at here before element.ProcessBuffer n = refers at (A_buffer here.group (bare n))
by_name at here before element.ResultBuffer n = refers at (A_buffer here.group (bare n))
by_name at here before element.Assign n = to_variables at (locals_at here before) here.group (n ∷ [])
by_name at here before other n = []

-- what a tag refers to: groups, procedures, buffers and variables, in this order
abbrev pub references : Place → Context → (before : List Item) → Sheet → Kind → Values → List Reference
references at here before so_far kind v =
    to_group at (as_name (value_at (codes "group") v))
    ++ by_name at here before kind (name v)
    ++ in_patterns at here.group v
    ++ in_expressions at here before so_far v
