use Rattle.std.proofs.Common.{◌≤◌, ◌<◌, sym, ◌∙◌, arith}
use Rattle.frame_stack.proofs.Standing.{outer_counted, passed, top_counted}
use Rattle.frame_stack.proofs.counted.instances.Goals as goal

pub returns-then-from-entry : goal.returns-then-from-entry
returns-then-from-entry c =
    let top = top_counted c.inward.inner.now c.in-Some.outer.now c.in-Some.entry.now c.in-Some.ensures.cases.0 c.inward.invariant.0 in
    let over : c.in-Some.entry.now.below ≤ c.args.level = omega (arith, c.from.ensures) in
    sym (top.bounded c.args.level over) ∙ c.inward.invariant.1

pub returns-then-is_instance : goal.returns-then-is_instance
returns-then-is_instance c =
    let top = top_counted c.inward.inner.now c.in-Some.outer.now c.in-Some.entry.now c.in-Some.ensures.cases.0 c.inward.invariant.0 in
    top.counted c.args.level (sym c.is_instance.ensures ∙ c.if-is_instance.true) ∙ c.inward.invariant.1

pub inward-preserved : goal.inward-preserved
inward-preserved c =
    let last = c.in-Some.ensures.cases.0 in
    let under : c.args.level < c.in-Some.entry.now.below = omega (arith, c.from.ensures) in (
      outer_counted c.inward.inner.now c.in-Some.outer.now c.in-Some.entry.now last c.inward.invariant.0,
      sym (passed c.inward.inner.now c.in-Some.outer.now c.in-Some.entry.now c.args.level last c.inward.invariant.0 under (sym c.is_instance.ensures ∙ c.if-is_instance.false))
          ∙ c.inward.invariant.1,
    )
