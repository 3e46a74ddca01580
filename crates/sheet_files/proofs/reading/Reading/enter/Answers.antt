use Rattle.std.proofs.Common.{◌∙◌, ◌∷◌, ◌++◌, [], List, ℕ, ap, refl, subst}
use Rattle.sheet_files.specs.Steps.{IsFresh}
use Rattle.sheet_files.proofs.reading.Reading.enter.Goals as goal

pub returns : goal.returns
returns c =
    let self = c.args.self.now in (
      (c.new-2.result, subst (λ (n : ℕ). IsFresh self.limits c.args.id n c.new-2.result) (c.len-number.ensures ∙ self.files.ok.0) c.new-2.ensures, c.in_ok-push-2.ensures.items),
      c.in_ok-push.ensures.items ∙ ap (λ (l : List ℕ). self.files.items ++ record { name = c.args.name; bytes = l } ∷ []) c.new.ensures,
      refl,
      refl,
      refl,
    )
