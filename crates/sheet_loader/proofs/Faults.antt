-- The codes of a tag in their order: its place, its attributes, and then its names.
use Rattle.std.proofs.Common.{◌≡◌, true, false, not, ◌&&◌, List, [], ◌∷◌, ◌++◌, Option, Some, None, refl, ap, ◌∙◌}
use Rattle.std.specs.List.{list_any}
use Rattle.stx_base.specs.declared.fault.SheetCode.{SheetCode}
use Rattle.stx_base.specs.declared.fault.SheetCode.TheVariants as code
use Rattle.sheet_model.specs.declared.sheet.Sheet.{Sheet}
use Rattle.xml_events.specs.Tree.{Element}
use Rattle.sheet_loader.specs.Elements.{Kind, is_allowed}
use Rattle.sheet_loader.specs.Gathering.{attribute_fault}
use Rattle.sheet_loader.specs.Judging.{declares_again, fault_of, first_of, found, is_loop, is_version, refuses, rows_of, scope_at, values}
use Rattle.sheet_loader.specs.Making.{behind, last_of}
use Rattle.sheet_loader.specs.Reading.{Context, Item}
use Rattle.sheet_loader.specs.Tags.{is_bad_value, is_missing, is_unknown, path_fault}
use Rattle.sheet_loader.specs.Values.{Reads}

first_some : (xs ys : List (Option SheetCode)) (why : SheetCode) → first_of xs ≡ Some why → first_of (xs ++ ys) ≡ Some why
first_some [] ys why e = cc
first_some (Some c ∷ xs) ys why e = e
first_some (None ∷ xs) ys why e = first_some xs ys why e

first_none : (xs ys : List (Option SheetCode)) → first_of xs ≡ None → first_of (xs ++ ys) ≡ first_of ys
first_none [] ys e = refl
first_none (Some c ∷ xs) ys e = cc
first_none (None ∷ xs) ys e = first_none xs ys e

module _ (reads : Reads) (here : Context) (before : List Item) (sheet : Sheet) (e : Element) (kind : Kind) where
  -- the codes of the attributes
  abbrev of_attributes : List (Option SheetCode)
  of_attributes =
      refuses (list_any (is_unknown (rows_of here kind)) e.attrs) code.UnknownAttribute
      ∷ refuses (list_any (is_missing e.attrs) (rows_of here kind)) code.MissingAttribute
      ∷ refuses (list_any (λ row. is_version row.form) (rows_of here kind) && not here.version.is_known) code.Version
      ∷ refuses (list_any is_bad_value (found reads here kind e)) code.BadValue
      ∷ path_fault (found reads here kind e)
      ∷ []

  -- those of the names
  abbrev pub of_names : List (Option SheetCode)
  of_names =
      refuses (declares_again here before sheet kind (values reads here kind e)) code.DuplicateName
      ∷ refuses (is_loop here kind (values reads here kind e)) code.IncludeLoop
      ∷ []

  pub misplaced : is_allowed (behind here.inside before) (last_of before) kind ≡ false → fault_of reads here before sheet e kind ≡ Some code.Misplaced
  misplaced h = ap (λ b. first_of (refuses (not b) code.Misplaced ∷ (of_attributes ++ of_names))) h

  pub by_attributes : is_allowed (behind here.inside before) (last_of before) kind ≡ true → (why : SheetCode) → attribute_fault reads here.version (scope_at here e) (rows_of here kind) e.attrs ≡ Some why → fault_of reads here before sheet e kind ≡ Some why
  by_attributes h why g = ap (λ b. first_of (refuses (not b) code.Misplaced ∷ (of_attributes ++ of_names))) h ∙ first_some of_attributes of_names why g

  pub by_names : is_allowed (behind here.inside before) (last_of before) kind ≡ true → attribute_fault reads here.version (scope_at here e) (rows_of here kind) e.attrs ≡ None → fault_of reads here before sheet e kind ≡ first_of of_names
  by_names h g = ap (λ b. first_of (refuses (not b) code.Misplaced ∷ (of_attributes ++ of_names))) h ∙ first_none of_attributes of_names g
