-- What is gathered of the values of a tag, row by row.
use Rattle.std.specs.Prelude.{◌≡◌, not, ◌&&◌, ◌||◌, List, [], ◌∷◌, ◌++◌, map, Option, Some, None, Result, Ok, Err}
use Rattle.std.specs.List.{list_any}
use Rattle.std.specs.Option.{option_or}
use Rattle.std.specs.Str.{chars}
use Rattle.stx_base.specs.declared.fault.SheetCode.{SheetCode}
use Rattle.stx_base.specs.declared.fault.SheetCode.TheVariants as code
use Rattle.stx_base.specs.declared.name.Attr.{Attr}
use Rattle.stx_base.specs.declared.name.Binding.{Binding}
use Rattle.stxpath_syntax.specs.declared.dialect.Dialect.{Dialect}
use Rattle.sheet_model.specs.declared.sheet.Sheet.{Sheet}
use Rattle.sheet_loader.specs.Attributes.{Row}
use Rattle.sheet_loader.specs.Elements.{Kind}
use Rattle.sheet_loader.specs.Judging.{declares_again, first_of, is_loop, is_version, refuses, value_found, values_found}
use Rattle.sheet_loader.specs.Making.{Values}
use Rattle.sheet_loader.specs.Meant.{value_of}
use Rattle.sheet_loader.specs.Reading.{Context, Item}
use Rattle.sheet_loader.specs.Tags.{Found, found_at, is_bad_value, is_missing, is_unknown, path_fault}
use Rattle.sheet_loader.specs.Values.{Reads}
use Rattle.sheet_loader.specs.Versions.{Version}
use Rattle.sheet_loader.specs.declared.refused.Refused.{Refused}
use Rattle.sheet_loader.specs.declared.refused.Refused.TheVariants as refused
use Rattle.sheet_loader.specs.declared.tag.Gathered.{Gathered}
use Rattle.sheet_loader.specs.declared.values.Entry.{Entry}
use Rattle.sheet_loader.specs.declared.values.Values as given

-- the values by the names of their attributes
abbrev pub values_in : given.Values → Values
values_in v = map (λ (e : Entry). (chars e.name.now, value_of e.value)) v.entries.items

-- a fault of the path language, which counts where no value is bad
abbrev pub other_fault : Found → Option SheetCode
other_fault (Some (Err code.BadValue)) = None
other_fault (Some (Err why)) = Some why
other_fault other = None

abbrev pub first_other : List Found → Option SheetCode
first_other [] = None
first_other (f ∷ others) = option_or (other_fault f) (first_other others)

-- what stands at a row is taken
pub record Adds (row : Row) (f : Found) (old new : Gathered) : Type 0 where
  pub values : values_in new.values ≡ values_in old.values ++ value_found row f
  pub bad : new.has_bad_value ≡ (old.has_bad_value || is_bad_value f)
  pub path : new.path_fault ≡ option_or old.path_fault (other_fault f)

module _ (reads : Reads) (dialect : Dialect) (scope : List Binding) (attrs : List Attr) where
  -- what was gathered, and then what stands at these rows, is what stands at all rows
  pub record Gathers (all rows : List Row) (g : Gathered) : Type 0 where
    pub values : values_in g.values ++ values_found rows (found_at reads dialect scope rows attrs) ≡ values_found all (found_at reads dialect scope all attrs)
    pub bad : (g.has_bad_value || list_any is_bad_value (found_at reads dialect scope rows attrs)) ≡ list_any is_bad_value (found_at reads dialect scope all attrs)
    pub path : option_or g.path_fault (first_other (found_at reads dialect scope rows attrs)) ≡ first_other (found_at reads dialect scope all attrs)

-- what comes of the values: the code of a fault, or the values
abbrev pub IsJudged : Option SheetCode → Values → Result given.Values Refused → Type 0
IsJudged fault values (Ok v) = (fault ≡ None) × (values_in v ≡ values)
IsJudged fault values (Err (refused.Code why)) = fault ≡ Some why
IsJudged fault values (Err refused.Memory) = Unit {0}

-- what the values of a tag show, in the order of the codes
abbrev pub value_fault : List Found → Option SheetCode
value_fault found = first_of (refuses (list_any is_bad_value found) code.BadValue ∷ path_fault found ∷ [])

-- what the attributes of a tag show, in the order of the codes
abbrev pub attribute_fault : Reads → Version → List Binding → List Row → List Attr → Option SheetCode
attribute_fault reads version scope rows attrs =
    first_of (
    refuses (list_any (is_unknown rows) attrs) code.UnknownAttribute
    ∷ refuses (list_any (is_missing attrs) rows) code.MissingAttribute
    ∷ refuses (list_any (λ row. is_version row.form) rows && not version.is_known) code.Version
    ∷ refuses (list_any is_bad_value (found_at reads version.dialect scope rows attrs)) code.BadValue
    ∷ path_fault (found_at reads version.dialect scope rows attrs)
    ∷ [])

-- what its names show: one that something has already, or that of a file that is being read
abbrev pub name_fault : Context → (before : List Item) → Sheet → Kind → Values → Option SheetCode
name_fault here before sheet kind v =
    first_of (refuses (declares_again here before sheet kind v) code.DuplicateName ∷ refuses (is_loop here kind v) code.IncludeLoop ∷ [])
