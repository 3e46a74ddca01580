use Rattle.std.proofs.Common.{length}
use Rattle.result_writer.specs.Target.{AreDistinct}
use Rattle.result_writer.proofs.attributes.are_distinct.Given as goal

abbrev pub decreases-loop-attr : goal.decreases-loop-attr
decreases-loop-attr l = length l.rest

-- all are distinct where those that are left are
abbrev pub invariant-loop-attr : goal.invariant-loop-attr
invariant-loop-attr l = AreDistinct l.rest → AreDistinct l.fn.attrs
