-- Which lists are those of files: no other one may hold a root.
use Rattle.std.proofs.Common.{◌≡◌, Bool, true, false, [], ◌∷◌, reverse, refl, ap, sym, ◌∙◌, is_some, Option}
use Rattle.std.proofs.Math.Path.{subst}
use Rattle.stxpath_syntax.specs.declared.dialect.Dialect.TheVariants.{One}
use Rattle.sheet_loader.proofs.Behind.{same_behind}
use Rattle.sheet_loader.specs.Drafts.{file_around, levels_in, parts_around, what_in}
use Rattle.sheet_loader.specs.Elements as element
use Rattle.sheet_loader.specs.Elements.{Inside, Document, Declarations, Start_of_body, Body, Branches, With_params, Characters, Parts, Nothing, Kind, inside_of, is_allowed, is_own, makes_group}
use Rattle.sheet_loader.specs.Gathering.{values_in}
use Rattle.sheet_loader.specs.Known.{known}
use Rattle.sheet_loader.specs.Levels.{Place_in, place_in, version_around}
use Rattle.sheet_loader.specs.Meant as meant
use Rattle.sheet_loader.specs.Meant.{kind_of}
use Rattle.sheet_loader.specs.Read.{has_select}
use Rattle.sheet_loader.specs.Sound.{AreFit, IsKnown, IsSound, is_document, is_of_parts}
use Rattle.sheet_loader.specs.Versions.{Version}
use Rattle.sheet_loader.specs.declared.draft.Draft.{Draft}
use Rattle.sheet_loader.specs.declared.frame.Opened.{Opened}
use Rattle.sheet_loader.specs.declared.frame.Opened.TheVariants as opened
use Rattle.sheet_loader.specs.declared.frame.Version as frame

-- a file's own list
abbrev pub IsOfFile : Opened → Type 0
IsOfFile opened.Sheet = Unit {0}
IsOfFile (opened.File includer) = Unit {0}
IsOfFile other = ⊥

differ : {A : Type 0} → true ≡ false → A
differ e = cc

-- no element's list is a file's
document_list : (i : Inside) (k : Kind) (s : Bool) → is_document (inside_of i k s) ≡ false
document_list i element.Attribute true = refl
document_list i element.Attribute false = refl
document_list i element.Comment true = refl
document_list i element.Comment false = refl
document_list i element.Instruction true = refl
document_list i element.Instruction false = refl
document_list i element.Message true = refl
document_list i element.Message false = refl
document_list i other s = refl

parts_no_document : (i : Inside) → is_of_parts i ≡ true → is_document i ≡ false
parts_no_document Parts h = refl
parts_no_document (Document c) h = cc
parts_no_document (Declarations c) h = cc
parts_no_document Start_of_body h = cc
parts_no_document Body h = cc
parts_no_document Branches h = cc
parts_no_document With_params h = cc
parts_no_document (Characters c) h = cc
parts_no_document Nothing h = cc

root_makes : (k : Kind) → element.is_transform k ≡ true → makes_group k ≡ true
root_makes element.Transform h = refl
root_makes other h = cc

-- what stands in the sheet's own file is a group
pub own_makes : (i : Inside) (b : element.Before) (k : Kind) → is_own i ≡ true → is_allowed i b k ≡ true → makes_group k ≡ true
own_makes (Document c) b k h a = root_makes k a
own_makes (Declarations c) b k h a = cc
own_makes Start_of_body b k h a = cc
own_makes Body b k h a = cc
own_makes Branches b k h a = cc
own_makes With_params b k h a = cc
own_makes (Characters c) b k h a = cc
own_makes Parts b k h a = cc
own_makes Nothing b k h a = cc

module _ (x : Draft) (sound : IsSound x) where
  abbrev v0 : Version
  v0 = record { dialect = One; is_known = false }

  -- the place around the innermost list, and in it, by what it stands in
  abbrev around_as : Opened → Place_in
  around_as o = place_in [] [] (version_around v0 (what_in o x.top.parts x.file x.parts)) (levels_in (reverse x.below.items) (file_around o x.top.around x.file) (parts_around o x.top.parts x.parts))

  abbrev in_as : Opened → Place_in
  in_as o = place_in [] [] v0 (levels_in (record x.top { opened = o } ∷ reverse x.below.items) x.file x.parts)

  pub frames_as : (o : Opened) → x.top.opened ≡ o → AreFit (record x.top { opened = o } ∷ reverse x.below.items) x.file x.parts (known x.register).locals
  frames_as o e = subst (λ (y : Opened). AreFit (record x.top { opened = y } ∷ reverse x.below.items) x.file x.parts (known x.register).locals) e sound.frames

  document_as : (o : Opened) → x.top.opened ≡ o → is_document (meant.inside_of x.top.inside) ≡ is_document (in_as o).here.inside
  document_as o e = ap is_document ((frames_as o e).0 [] [] v0).inside ∙ same_behind is_document refl (in_as o).before (in_as o).here.inside

  of_file : (o : Opened) → x.top.opened ≡ o → is_document (meant.inside_of x.top.inside) ≡ true → IsOfFile o
  of_file opened.Sheet e h = tt
  of_file (opened.File includer) e h = tt
  of_file (opened.Element k v own) e h =
      differ (sym h ∙ document_as (opened.Element k v own) e ∙ document_list (around_as (opened.Element k v own)).here.inside (kind_of k) (has_select (values_in v)))
  of_file (opened.Literal name attrs) e h = differ (sym h ∙ document_as (opened.Literal name attrs) e)
  of_file (opened.Part name start) e h =
      differ (sym h ∙ document_as (opened.Part name start) e ∙ parts_no_document (around_as (opened.Part name start)).here.inside ((frames_as (opened.Part name start) e).0 [] [] v0).stands.2)

  -- where a root may stand, the list is that of a file
  pub list_of_file : is_document (meant.inside_of x.top.inside) ≡ true → IsOfFile x.top.opened
  list_of_file = of_file x.top.opened refl

  known_as : (o : Opened) → x.top.opened ≡ o → is_document (meant.inside_of x.top.inside) ≡ false → (version : Option frame.Version) → IsKnown o version → is_some version ≡ true
  known_as opened.Sheet e h version k = differ (sym (document_as opened.Sheet e) ∙ h)
  known_as (opened.File includer) e h version k = differ (sym (document_as (opened.File includer) e) ∙ h)
  known_as (opened.Element kind v own) e h version k = k
  known_as (opened.Literal name attrs) e h version k = k
  known_as (opened.Part name start) e h version k = k

  -- anywhere else its version is known
  pub version_within : is_document (meant.inside_of x.top.inside) ≡ false → is_some x.file.version ≡ true
  version_within h = known_as x.top.opened refl h x.file.version sound.version
