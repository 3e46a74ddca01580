use Rattle.std.proofs.Common.{◌∙◌, ap, sym, refl, [], ◌∷◌}
use Rattle.stx_base.specs.declared.fault.SheetCode.TheVariants as code
use Rattle.sheet_loader.specs.Judging.{first_of, refuses}
use Rattle.sheet_loader.specs.Tags.{path_fault}
use Rattle.sheet_loader.proofs.GatheringRows.{path-other}
use Rattle.sheet_loader.proofs.tag.Gathered.judged.Goals as goal

pub returns-in-Some : goal.returns-in-Some
returns-in-Some c = λ found bad path.
    let none = sym bad ∙ c.if-has_bad_value.false in
    ap (λ t. first_of (refuses t code.BadValue ∷ path_fault found ∷ [])) none
    ∙ ap (λ o. first_of (o ∷ [])) (path-other found none ∙ sym path ∙ c.in-Some.is)

pub returns-in-None : goal.returns-in-None
returns-in-None c = λ found bad path.
    let none = sym bad ∙ c.if-has_bad_value.false in (
      ap (λ t. first_of (refuses t code.BadValue ∷ path_fault found ∷ [])) none
          ∙ ap (λ o. first_of (o ∷ [])) (path-other found none ∙ sym path ∙ c.in-None.is),
      refl,
    )
