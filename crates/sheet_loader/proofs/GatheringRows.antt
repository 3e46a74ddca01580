-- What is gathered of a tag's values.
use Rattle.std.proofs.Common.{◌≡◌, ℕ, suc, ◌+◌, ◌<◌, length, drop, get_or, arith, Bool, true, false, not, ◌&&◌, ◌||◌, List, [], ◌∷◌, ◌++◌, Option, Some, None, Ok, Err, refl, ap, ◌∙◌, append_assoc}
use Rattle.std.proofs.Math.Seq.{drop-cons}
use Rattle.std.specs.List.{list_any}
use Rattle.std.specs.Option.{option_or}
use Rattle.stx_base.specs.declared.fault.SheetCode.{SheetCode}
use Rattle.stx_base.specs.declared.fault.SheetCode.TheVariants as code
use Rattle.stx_base.specs.declared.name.Attr.{Attr}
use Rattle.stx_base.specs.declared.name.Binding.{Binding}
use Rattle.stxpath_syntax.specs.declared.dialect.Dialect.{Dialect}
use Rattle.sheet_loader.specs.Attributes.{Row}
use Rattle.sheet_loader.specs.Gathering.{Adds, Gathers, first_other, other_fault, values_in}
use Rattle.sheet_loader.specs.Judging.{is_version, refuses, value_found, values_found}
use Rattle.sheet_loader.specs.Tags.{Found, found_at, found_by, is_bad_value, is_missing, path_fault, text_at}
use Rattle.sheet_loader.specs.Values.{Reads}
use Rattle.sheet_loader.specs.Versions.{Version}
use Rattle.sheet_loader.specs.declared.tag.Gathered.{Gathered}

or-assoc : (a b c : Bool) → ((a || b) || c) ≡ (a || (b || c))
or-assoc true b c = refl
or-assoc false b c = refl

option_or-assoc : {A : Type 0} (a b c : Option A) → option_or (option_or a b) c ≡ option_or a (option_or b c)
option_or-assoc (Some a) b c = refl
option_or-assoc None b c = refl

module _ (reads : Reads) (dialect : Dialect) (scope : List Binding) (attrs : List Attr) (all rest : List Row) (row : Row) (g h : Gathered) where
  pub gathers-row : Gathers reads dialect scope attrs all (row ∷ rest) g
      → Adds row (found_by reads dialect scope row.form (text_at attrs row.name)) g h → Gathers reads dialect scope attrs all rest h
  gathers-row before a =
      let f = found_by reads dialect scope row.form (text_at attrs row.name) in
      let others = found_at reads dialect scope rest attrs in
      record {
        values = ap (λ v. v ++ values_found rest others) a.values ∙ append_assoc (values_in g.values) (value_found row f) (values_found rest others) ∙ before.values;
        bad = ap (λ b. b || list_any is_bad_value others) a.bad ∙ or-assoc g.has_bad_value (is_bad_value f) (list_any is_bad_value others) ∙ before.bad;
        path = ap (λ p. option_or p (first_other others)) a.path ∙ option_or-assoc g.path_fault (other_fault f) (first_other others) ∙ before.path;
      }

-- nothing is gathered at first
pub gathers-start : (reads : Reads) (dialect : Dialect) (scope : List Binding) (attrs : List Attr) (all : List Row) (g : Gathered)
    → values_in g.values ≡ [] → g.has_bad_value ≡ false → g.path_fault ≡ None → Gathers reads dialect scope attrs all all g
gathers-start reads dialect scope attrs all g v b p =
    let found = found_at reads dialect scope all attrs in
    record {
      values = ap (λ l. l ++ values_found all found) v;
      bad = ap (λ t. t || list_any is_bad_value found) b;
      path = ap (λ o. option_or o (first_other found)) p;
    }

-- without a bad value each fault is one of the path language
path-by-case : (f : Found) (others : List Found) → (is_bad_value f || list_any is_bad_value others) ≡ false
    → (list_any is_bad_value others ≡ false → path_fault others ≡ first_other others) → path_fault (f ∷ others) ≡ first_other (f ∷ others)
path-by-case None others h again = again h
path-by-case (Some (Ok v)) others h again = again h
path-by-case (Some (Err code.BadValue)) others h again = absurd (cc)
path-by-case (Some (Err why)) others h again = refl

pub path-other : (found : List Found) → list_any is_bad_value found ≡ false → path_fault found ≡ first_other found
path-other [] h = refl
path-other (f ∷ others) h = path-by-case f others h (path-other others)

-- where nothing is left to gather
pub record Gathered_all (found : List Found) (all : List Row) (g : Gathered) : Type 0 where
  pub values : values_in g.values ≡ values_found all found
  pub bad : g.has_bad_value ≡ list_any is_bad_value found
  pub path : g.path_fault ≡ first_other found

or_false : (b : Bool) → b ≡ (b || false)
or_false true = refl
or_false false = refl

or_none : {A : Type 0} (o : Option A) → o ≡ option_or o None
or_none None = refl
or_none (Some a) = refl

-- The faults of a tag's attributes, one after the other.
module _ (reads : Reads) (version : Version) (scope : List Binding) (rows : List Row) (attrs : List Attr) where
  abbrev found : List Found
  found = found_at reads version.dialect scope rows attrs

  abbrev of_values : List (Option SheetCode)
  of_values = refuses (list_any is_bad_value found) code.BadValue ∷ path_fault found ∷ []

  abbrev of_version : List (Option SheetCode)
  of_version = refuses (list_any (λ row. is_version row.form) rows && not version.is_known) code.Version ∷ of_values

  abbrev of_missing : List (Option SheetCode)
  of_missing = refuses (list_any (is_missing attrs) rows) code.MissingAttribute ∷ of_version

-- the row at a place, and those behind it
pub row_here : {A : Type 0} (xs : List A) (i : ℕ) (d : A) → i < length xs → drop i xs ≡ get_or xs i d ∷ drop (i + 1) xs
row_here xs i d h =
    let next : suc i ≡ i + 1 = omega arith in
    drop-cons xs i d h ∙ ap (λ n. get_or xs i d ∷ drop n xs) next
