-- The attributes of a tag, by the rows of its element.
use Rattle.std.specs.Prelude.{ℕ, Bool, true, false, ◌&&◌, ◌||◌, not, ◌==◌, List, [], ◌∷◌, map, length, Option, Some, None, is_some, Result, Err, bytes_eq, if◌then◌else◌}
use Rattle.std.specs.List.{list_all}
use Rattle.stx_base.specs.declared.fault.SheetCode.{SheetCode}
use Rattle.stx_base.specs.declared.fault.SheetCode.TheVariants as code
use Rattle.stx_base.specs.declared.name.Attr.{Attr}
use Rattle.stx_base.specs.declared.name.Binding.{Binding}
use Rattle.stxpath_syntax.specs.declared.dialect.Dialect.{Dialect}
use Rattle.sheet_loader.specs.Attributes.{Form, Row}
use Rattle.sheet_loader.specs.Elements.{stx_uri}
use Rattle.sheet_loader.specs.Values.{Reads, Value, value_of}

-- an attribute without namespace
abbrev pub is_plain : Attr → Bool
is_plain a = length a.name.uri == 0

-- the value of the attribute of this name that has no namespace
abbrev pub text_at : List Attr → (name : List ℕ) → Option (List ℕ)
text_at [] name = None
text_at (a ∷ others) name = if is_plain a && bytes_eq a.name.local name then Some a.value else text_at others name

-- an attribute that no row has: one without namespace, or one in the namespace of sheets; those of other namespaces count for nothing
abbrev pub is_unknown : List Row → Attr → Bool
is_unknown rows a =
    (is_plain a && list_all (λ row. not (bytes_eq row.name a.name.local)) rows) || bytes_eq a.name.uri stx_uri

abbrev pub is_missing : List Attr → Row → Bool
is_missing attrs row = row.is_required && not (is_some (text_at attrs row.name))

-- what stands at a row: nothing, a value, or the code that refuses it
abbrev pub Found : Type 0
Found = Option (Result Value SheetCode)

abbrev pub is_bad_value : Found → Bool
is_bad_value (Some (Err code.BadValue)) = true
is_bad_value other = false

-- the first fault of the path language, in the order of the rows
abbrev pub path_fault : List Found → Option SheetCode
path_fault [] = None
path_fault (Some (Err why) ∷ others) = Some why
path_fault (other ∷ others) = path_fault others

module _ (reads : Reads) (dialect : Dialect) (scope : List Binding) where
  abbrev pub found_by : Form → Option (List ℕ) → Found
  found_by form None = None
  found_by form (Some text) = Some (value_of reads dialect scope form text)

  -- what stands at each row, in their order
  abbrev pub found_at : List Row → List Attr → List Found
  found_at rows attrs = map (λ row. found_by row.form (text_at attrs row.name)) rows
