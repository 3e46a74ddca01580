-- What a tag declares: the root group, a group within another one, or nothing.
use Rattle.std.proofs.Common.{◌≡◌, ℕ, Bool, true, false, List, [], ◌∷◌, ◌++◌, ap, ◌∙◌, codes, if◌then◌else◌}
use Rattle.sheet_model.specs.declared.sheet.Group.{Group}
use Rattle.sheet_loader.specs.Elements.{Kind, is_own, makes_group}
use Rattle.sheet_loader.specs.Making.{Values, is_yes, value_at}
use Rattle.sheet_loader.specs.Read.{begun, inner_group, with_group, with_root}
use Rattle.sheet_loader.specs.Reading.{Context, Loading, place}
use Rattle.sheet_loader.specs.Steps.{root_of}

module _ (here : Context) (at : ℕ) (kind : Kind) (v : Values) (l : Loading) where
  abbrev by_tests : (own group : Bool) → Loading
  by_tests own group = if own then with_root here at v l else if group then with_group here at v l else l

  -- the sheet with these groups, and with what its transform says
  abbrev with_roots : List Group → Loading
  with_roots groups = record l { sheet = record l.sheet { groups = groups; strip = is_yes (value_at (codes "strip-space") v); cdata = is_yes (value_at (codes "recognize-cdata") v) } }

  pub begins_sheet : is_own here.inside ≡ true → begun here at kind v l ≡ with_roots (root_of (place here at) v ∷ [])
  begins_sheet own = ap (λ b. by_tests b (makes_group kind)) own

  pub begins_group : is_own here.inside ≡ false → makes_group kind ≡ true → begun here at kind v l ≡ record l { sheet = record l.sheet { groups = l.sheet.groups ++ inner_group here at v ∷ [] } }
  begins_group own group = ap (λ b. by_tests b (makes_group kind)) own ∙ ap (by_tests false) group

  pub begins_nothing : is_own here.inside ≡ false → makes_group kind ≡ false → begun here at kind v l ≡ l
  begins_nothing own group = ap (λ b. by_tests b (makes_group kind)) own ∙ ap (by_tests false) group
