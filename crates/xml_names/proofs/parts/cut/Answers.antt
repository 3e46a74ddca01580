use Rattle.std.proofs.Common.{◌≡◌, ◌∙◌, ◌-◌, arith, sym, ap, subst, false, take}
use Rattle.std.specs.Prelude.{MatchOption}
use Rattle.std.specs.List.{position}
use Rattle.std.specs.Str.{chars}
use Rattle.std.proofs.lemmas.Str.{IsCharBoundary-before_ascii, IsCharBoundary-after_ascii}
use Rattle.xml_names.specs.QName.{is_colon, has_colon}
use Rattle.xml_names.specs.inside.Parts.{IsCut}
use Rattle.xml_names.proofs.QNames.{no-place, place-within, place-ascii, cut-there}
use Rattle.xml_names.proofs.parts.cut.Goals as goal

pub returns-in_err-at : goal.returns-in_err-at
returns-in_err-at c =
    subst (λ r. MatchOption r (has_colon (chars c.args.name.now) ≡ false) (λ parts. IsCut c.args.name.now parts.prefix.now parts.local.now)) (sym c.from_residual.ensures)
    (no-place c.args.name.now c.utf8.name (c.in_err-at.ensures ∙ ap (position is_colon) c.as_bytes.ensures.value))

pub range-requires-clause-end_boundary : goal.range-requires-clause-end_boundary
range-requires-clause-end_boundary c =
    let bs = c.args.name.now in
    let k = c.in_ok-at.at in
    let place = c.in_ok-at.ensures ∙ ap (position is_colon) c.as_bytes.ensures.value in
    IsCharBoundary-before_ascii bs k (place-within bs k place) (place-ascii bs k place)

pub range_from-requires : goal.range_from-requires
range_from-requires c =
    let bs = c.args.name.now in
    let k = c.in_ok-at.at in
    let place = c.in_ok-at.ensures ∙ ap (position is_colon) c.as_bytes.ensures.value in
    λ some. IsCharBoundary-after_ascii bs k c.utf8.name (place-within bs k place) (place-ascii bs k place)

pub returns : goal.returns
returns c =
    let bs = c.args.name.now in
    let k = c.in_ok-at.at in
    let place = c.in_ok-at.ensures ∙ ap (position is_colon) c.as_bytes.ensures.value in
    let same : k - 0 ≡ k = omega arith in
    let front : c.range.result.now ≡ take k bs = c.range.ensures.value ∙ ap (λ n. take n bs) same in
    subst (λ f. IsCut bs f c.range_from.result.now) (sym front)
    (subst (λ b. IsCut bs (take k bs) b) (sym c.range_from.ensures.value) (cut-there bs k place c.utf8.name))
