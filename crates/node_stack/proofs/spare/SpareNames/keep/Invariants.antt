use Rattle.std.proofs.Common.{length}
use Rattle.node_stack.proofs.spare.SpareNames.keep.Given as goal

abbrev pub decreases-loop-named : goal.decreases-loop-named
decreases-loop-named l = length l.few.items
