use Rattle.frame_stack.proofs.Standing.{top_counted}
use Rattle.frame_stack.proofs.counted.below.Goals as goal

pub returns-in-Some : goal.returns-in-Some
returns-in-Some c = λ level le.
    (top_counted c.args.entries.now c.in-Some.field-0-1.now c.in-Some.entry.now c.in-Some.ensures.cases.0 c.requires).bounded level le
