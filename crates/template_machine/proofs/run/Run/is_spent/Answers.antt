use Rattle.std.proofs.Common.{◌≡◌, ◌∙◌, Some, IsSome, reverse, refl, sym, subst}
use Rattle.template_machine.proofs.Placing.{has_template, template_at_place, template_found}
use Rattle.template_machine.proofs.run.Run.is_spent.Goals as goal

pub unwrap-template-requires : goal.unwrap-template-requires
unwrap-template-requires c =
    let xs = c.args.self.now.frames.frames in
    let place = has_template (reverse xs) c.requires in
    subst (λ o. IsSome o) (sym (template_found xs c.template_below.result c.count.result c.template_below.ensures c.count.ensures ∙ place.1)) refl

pub spent_at-requires : goal.spent_at-requires
spent_at-requires c =
    let xs = c.args.self.now.frames.frames in
    let is : c.template_below.result ≡ Some c.unwrap-template.result = cc in
    let at = sym (template_found xs c.template_below.result c.count.result c.template_below.ensures c.count.ensures) ∙ is in
    subst (λ o. IsSome o) (sym (template_at_place xs c.unwrap-template.result at)) c.requires

pub returns : goal.returns
returns c =
    let xs = c.args.self.now.frames.frames in
    let is : c.template_below.result ≡ Some c.unwrap-template.result = cc in
    let at = sym (template_found xs c.template_below.result c.count.result c.template_below.ensures c.count.ensures) ∙ is in
    sym (template_at_place xs c.unwrap-template.result at) ∙ c.spent_at.ensures
