use Rattle.std.proofs.Common.{sym, arith}
use Rattle.frame_stack.specs.Counted.{frames_of}
use Rattle.frame_stack.proofs.Standing.{instance_entry}
use Rattle.frame_stack.proofs.counted.counted.Goals as goal

pub returns-else-count-limit-clause-counted : goal.returns-else-count-limit-clause-counted
returns-else-count-limit-clause-counted c =
    instance_entry (frames_of c.args.entries.now) c.args.frame c.in-Some.level c.instances-count.result c.below.result c.max.result
    (sym c.in-Some.ensures) c.instances-count.ensures c.below.ensures
    (omega (arith, c.max.ensures)) (omega (arith, c.max.ensures, c.from.ensures))
