use Rattle.std.proofs.Common.{◌≡◌, ◌+◌, ◌-◌, reverse, take, ap, sym, ◌∙◌, arith}
use Rattle.std.specs.Option.{option_or}
use Rattle.sibling_regions.specs.Ends.{innermost_group}
use Rattle.sibling_regions.proofs.Finding.{group_more}
use Rattle.sibling_regions.proofs.condition.group_below.Goals as goal

pub returns-in-Some : goal.returns-in-Some
returns-in-Some c =
    let sheet = c.args.sheet.now in
    let fs = c.args.frames.now.frames in
    let k = c.loop-below.below - 1 in
    let one : c.loop-below.below ≡ k + 1 = omega (arith, c.loop-below-test.true) in
    sym (c.loop-below.invariant.1 ∙ ap (λ n. innermost_group sheet (reverse (take n fs))) one
    ∙ group_more sheet fs k c.at.result.now c.at.ensures
    ∙ ap (λ o. option_or o (innermost_group sheet (reverse (take k fs)))) (sym c.in-Some.ensures))

pub loop-below-preserved : goal.loop-below-preserved
loop-below-preserved c =
    let sheet = c.args.sheet.now in
    let fs = c.args.frames.now.frames in
    let k = c.loop-below.below - 1 in
    let one : c.loop-below.below ≡ k + 1 = omega (arith, c.loop-below-test.true) in (
      omega (arith, c.loop-below.invariant.0),
      c.loop-below.invariant.1 ∙ ap (λ n. innermost_group sheet (reverse (take n fs))) one
          ∙ group_more sheet fs k c.at.result.now c.at.ensures
          ∙ ap (λ o. option_or o (innermost_group sheet (reverse (take k fs)))) (sym c.group_of.ensures ∙ c.in_default.is),
    )
