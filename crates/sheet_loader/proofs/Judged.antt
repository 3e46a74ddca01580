-- How a tag of an element of the language is judged: its place, what was found at its rows, and its names.
use Rattle.std.proofs.Common.{◌≡◌, ℕ, Bool, true, false, not, List, [], ◌∷◌, Option, Some, None, Result, Ok, Err, is_some, refl, ap, sym, ◌∙◌, codes, if◌then◌else◌}
use Rattle.std.proofs.Math.Path.{subst}
use Rattle.std.specs.Option.{option_map_or}
use Rattle.stx_base.specs.declared.fault.SheetCode.{SheetCode}
use Rattle.stx_base.specs.declared.fault.SheetCode.TheVariants as code
use Rattle.stx_base.specs.declared.name.Attr.{Attr}
use Rattle.stx_base.specs.declared.name.Binding.{Binding}
use Rattle.stx_base.specs.declared.name.Name.{Name}
use Rattle.sheet_model.specs.declared.sheet.Sheet.{Sheet}
use Rattle.xml_events.specs.Tree.{Element, Future}
use Rattle.sheet_loader.proofs.Faults.{by_attributes, by_names, misplaced}
use Rattle.sheet_loader.proofs.TagPlaces.{before_here, declared_here, inside_here, scope_here, version_here}
use Rattle.sheet_loader.specs.Attributes.{Row, rows}
use Rattle.sheet_loader.specs.Drafts.{before_tag, element_of, loading_of, version_in}
use Rattle.sheet_loader.specs.Elements as element
use Rattle.sheet_loader.specs.Elements.{Kind, is_allowed}
use Rattle.sheet_loader.specs.Events.{place_at}
use Rattle.sheet_loader.specs.Gathering.{IsJudged, attribute_fault, name_fault, values_in}
use Rattle.sheet_loader.specs.Judging.{declares_again, fault_of, first_of, is_declared_here, is_duplicate, is_loop, is_taken, is_taken_in_body, locals_at, refuses, rows_of, scope_at, values, values_found}
use Rattle.sheet_loader.specs.Levels.{Place_in}
use Rattle.sheet_loader.specs.Making.{as_name, bare, behind, last_of, value_at}
use Rattle.sheet_loader.specs.Making as making
use Rattle.sheet_loader.specs.Meant.{before_of, inside_of, version_of}
use Rattle.sheet_loader.specs.Reading.{Context, File, Item}
use Rattle.sheet_loader.specs.Sound.{IsSound}
use Rattle.sheet_loader.specs.Tags.{found_at}
use Rattle.sheet_loader.specs.Values.{Reads}
use Rattle.sheet_loader.specs.Versions.{Version}
use Rattle.sheet_loader.specs.declared.draft.Draft.{Draft}
use Rattle.sheet_loader.specs.declared.element.StartTag.{StartTag}
use Rattle.sheet_loader.specs.declared.frame.Version as frame
use Rattle.sheet_loader.specs.declared.refused.Refused.{Refused}
use Rattle.sheet_loader.specs.declared.refused.Refused.TheVariants as refused
use Rattle.sheet_loader.specs.declared.values.Values.{Values}

-- the same version, and the same attributes
pub judged_as : (reads : Reads) (v w : frame.Version) (scope : List Binding) (rs : List Row) (a b : List Attr) (r : Result Values Refused) → v ≡ w → a ≡ b
    → IsJudged (attribute_fault reads (version_of v) scope rs a) (values_found rs (found_at reads v.dialect scope rs a)) r
    → IsJudged (attribute_fault reads (version_of w) scope rs b) (values_found rs (found_at reads w.dialect scope rs b)) r
judged_as reads v w scope rs a b r e g h =
    subst (λ (x : List Attr). IsJudged (attribute_fault reads (version_of w) scope rs x) (values_found rs (found_at reads w.dialect scope rs x)) r) g
    (subst (λ (x : frame.Version). IsJudged (attribute_fault reads (version_of x) scope rs a) (values_found rs (found_at reads x.dialect scope rs a)) r) e h)

module _ (d : Draft) (tag : StartTag) (sound : IsSound (before_tag d tag.around)) (version : is_some d.file.version ≡ true) (reads : Reads) (files : List (Option File)) (f : Future) (kind : Kind) where
  abbrev e : Element
  e = element_of tag d

  abbrev p : Place_in
  p = place_at files f (before_tag d tag.around)

  abbrev the_fault : Option SheetCode
  the_fault = fault_of reads p.here p.before (loading_of d).sheet e kind

  abbrev the_values : making.Values
  the_values = values reads p.here kind e

  -- what is said of the file is said of the place
  at_tag : {X : Type 0} (F : Version → List Binding → List Row → X) (rs : List Row) → rs ≡ rows_of p.here kind
      → F (version_in d.file) d.file.scope rs ≡ F p.here.version (scope_at p.here e) (rows_of p.here kind)
  at_tag F rs same =
      ap (λ (r : List Row). F (version_in d.file) d.file.scope r) same
      ∙ ap (λ (s : List Binding). F (version_in d.file) s (rows_of p.here kind)) (sym (scope_here d tag.around sound files f))
      ∙ ap (λ (v : Version). F v (scope_at p.here e) (rows_of p.here kind)) (sym (version_here d tag.around sound files f version))

  -- the rows of the tag
  pub rows_here : (declared : Bool) → declared ≡ is_declared_here (inside_of d.top.inside) → rows (version_in d.file).dialect (not declared) kind ≡ rows_of p.here kind
  rows_here declared same =
      ap (λ (v : Version). rows v.dialect (not declared) kind) (sym (version_here d tag.around sound files f version))
      ∙ ap (λ b. rows p.here.version.dialect (not b) kind) (same ∙ declared_here d tag.around sound files f)

  allowed_here : (b : Bool) → is_allowed (inside_of d.top.inside) (before_of d.top.before) kind ≡ b → is_allowed (behind p.here.inside p.before) (last_of p.before) kind ≡ b
  allowed_here b h =
      ap (λ i. is_allowed i (last_of p.before) kind) (sym (inside_here d tag.around sound files f))
      ∙ ap (λ x. is_allowed (inside_of d.top.inside) x kind) (sym (before_here d tag.around sound files f))
      ∙ h

  pub judged_misplaced : is_allowed (inside_of d.top.inside) (before_of d.top.before) kind ≡ false → the_fault ≡ Some code.Misplaced
  judged_misplaced h = misplaced reads p.here p.before (loading_of d).sheet e kind (allowed_here false h)

  module _ (allowed : is_allowed (inside_of d.top.inside) (before_of d.top.before) kind ≡ true) (rs : List Row) (same : rs ≡ rows_of p.here kind) where
    abbrev of_rows : Option SheetCode
    of_rows = attribute_fault reads (version_in d.file) d.file.scope rs tag.attrs

    abbrev at_rows : making.Values
    at_rows = values_found rs (found_at reads (version_in d.file).dialect d.file.scope rs tag.attrs)

    same_fault : of_rows ≡ attribute_fault reads p.here.version (scope_at p.here e) (rows_of p.here kind) e.attrs
    same_fault = at_tag (λ v s l. attribute_fault reads v s l tag.attrs) rs same

    same_values : at_rows ≡ the_values
    same_values = at_tag (λ v s l. values_found l (found_at reads v.dialect s l tag.attrs)) rs same

    pub judged_attributes : (r : Refused) → IsJudged of_rows at_rows (Err r) → IsJudged the_fault the_values (Err r)
    judged_attributes (refused.Code why) h = by_attributes reads p.here p.before (loading_of d).sheet e kind (allowed_here true allowed) why (sym same_fault ∙ h)
    judged_attributes refused.Memory h = tt

    module _ (v : Values) (judged : IsJudged of_rows at_rows (Ok v)) where
      judged_values : values_in v ≡ the_values
      judged_values = judged.1 ∙ same_values

      fault_of_names : the_fault ≡ name_fault p.here p.before (loading_of d).sheet kind (values_in v)
      fault_of_names =
          by_names reads p.here p.before (loading_of d).sheet e kind (allowed_here true allowed) (sym same_fault ∙ judged.0)
          ∙ ap (λ vs. name_fault p.here p.before (loading_of d).sheet kind vs) (sym judged_values)

      -- what its names show is what the tag shows
      pub judged_names : (r : Result Values Refused) → IsJudged (name_fault p.here p.before (loading_of d).sheet kind (values_in v)) (values_in v) r → IsJudged the_fault the_values r
      judged_names (Ok w) h = (fault_of_names ∙ h.0, h.1 ∙ judged_values)
      judged_names (Err (refused.Code why)) h = fault_of_names ∙ h
      judged_names (Err refused.Memory) h = tt

-- prefixes count for nothing where a name is taken
taken_bare : (sheet : Sheet) (group : ℕ) (kind : Kind) (n : Name) → is_taken sheet group kind (bare n) ≡ is_taken sheet group kind n
taken_bare sheet group element.Procedure n = refl
taken_bare sheet group element.Buffer n = refl
taken_bare sheet group element.Variable n = refl
taken_bare sheet group element.Param n = refl
taken_bare sheet group element.Group n = refl
taken_bare sheet group other n = refl

taken_in_body_bare : (locals : List Name) (before : List Item) (kind : Kind) (n : Name) → is_taken_in_body locals before kind (bare n) ≡ is_taken_in_body locals before kind n
taken_in_body_bare locals before element.Variable n = refl
taken_in_body_bare locals before element.Param n = refl
taken_in_body_bare locals before element.ForEachItem n = refl
taken_in_body_bare locals before element.WithParam n = refl
taken_in_body_bare locals before other n = refl

duplicate_bare : (here : Context) (before : List Item) (sheet : Sheet) (kind : Kind) (n : Name) → is_duplicate here before sheet kind (bare n) ≡ is_duplicate here before sheet kind n
duplicate_bare here before sheet kind n = by_place (is_declared_here here.inside) where
  by_place : (b : Bool)
      → (if b then is_taken sheet here.group kind (bare n) else is_taken_in_body (locals_at here before) before kind (bare n))
      ≡ (if b then is_taken sheet here.group kind n else is_taken_in_body (locals_at here before) before kind n)
  by_place true = taken_bare sheet here.group kind n
  by_place false = taken_in_body_bare (locals_at here before) before kind n

module _ (here : Context) (before : List Item) (sheet : Sheet) (kind : Kind) (v : making.Values) where
  pub again_nameless : None ≡ as_name (value_at (codes "name") v) → false ≡ declares_again here before sheet kind v
  again_nameless h = ap (λ o. option_map_or (is_duplicate here before sheet kind) o false) h

  pub again_named : (n m : Name) (b : Bool) → Some n ≡ as_name (value_at (codes "name") v) → m ≡ bare n → b ≡ is_duplicate here before sheet kind m → b ≡ declares_again here before sheet kind v
  again_named n m b h same is =
      is ∙ ap (is_duplicate here before sheet kind) same ∙ duplicate_bare here before sheet kind n
      ∙ ap (λ o. option_map_or (is_duplicate here before sheet kind) o false) h

-- what the names show
module _ (here : Context) (before : List Item) (sheet : Sheet) (kind : Kind) (v : making.Values) where
  abbrev by_tests : (again loops : Bool) → Option SheetCode
  by_tests again loops = first_of (refuses again code.DuplicateName ∷ refuses loops code.IncludeLoop ∷ [])

  pub shows_again : declares_again here before sheet kind v ≡ true → Some code.DuplicateName ≡ name_fault here before sheet kind v
  shows_again h = ap (λ b. by_tests b (is_loop here kind v)) (sym h)

  pub shows_loop : declares_again here before sheet kind v ≡ false → is_loop here kind v ≡ true → Some code.IncludeLoop ≡ name_fault here before sheet kind v
  shows_loop h l = ap (by_tests false) (sym l) ∙ ap (λ b. by_tests b (is_loop here kind v)) (sym h)

  pub shows_nothing : declares_again here before sheet kind v ≡ false → is_loop here kind v ≡ false → None ≡ name_fault here before sheet kind v
  shows_nothing h l = ap (by_tests false) (sym l) ∙ ap (λ b. by_tests b (is_loop here kind v)) (sym h)
