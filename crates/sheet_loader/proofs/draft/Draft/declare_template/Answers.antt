-- The values of a template's tag stay where its pattern is taken out of them.
use Rattle.std.proofs.Common.{◌≡◌, List, [], ◌∷◌, ◌++◌, codes, refl, ap, ◌∙◌}
use Rattle.std.proofs.lemmas.Result.{on_ok_weaker}
use Rattle.std.specs.Str.{chars}
use Rattle.sheet_model.specs.declared.sheet.Template.{Template}
use Rattle.sheet_loader.proofs.TakingLemmas.{value_at-without}
use Rattle.sheet_loader.specs.Gathering.{values_in}
use Rattle.sheet_loader.specs.declared.content.Content.{Content}
use Rattle.sheet_loader.specs.declared.draft.Draft.{Draft}
use Rattle.sheet_loader.proofs.draft.Draft.declare_template.Goals as goal

added : (d : Draft) (new : List Template) (made is : Template) → new ≡ d.sheet.templates ++ made ∷ [] → made ≡ is
    → record d { sheet = record d.sheet { templates = new } } ≡ record d { sheet = record d.sheet { templates = d.sheet.templates ++ is ∷ [] } }
added d new made is h e = ap (λ (l : List Template). record d { sheet = record d.sheet { templates = l } }) (h ∙ ap (λ (t : Template). d.sheet.templates ++ t ∷ []) e)

pub returns : goal.returns
unfolding chars
returns c =
    let v = values_in c.args.values.now in
    on_ok_weaker c.push.result
    (λ h items holds.
    added c.args.self.now _ _ _ h
    (cc (
      value_at-without (codes "match") (codes "priority") v refl,
      value_at-without (codes "match") (codes "visibility") v refl,
      value_at-without (codes "match") (codes "public") v refl,
      value_at-without (codes "match") (codes "new-scope") v refl,
      ap (λ (x : Content). x.body) c.take_params.ensures.others,
      holds.params,
      holds.body,
    )))
    c.push.ensures.ok
