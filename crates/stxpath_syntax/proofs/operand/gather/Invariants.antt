use Rattle.std.proofs.Common.{◌≡◌, length}
use Rattle.stxpath_syntax.specs.Machine.{gathered}
use Rattle.stxpath_syntax.proofs.operand.gather.Given as goal

abbrev pub invariant-frames : goal.invariant-frames
invariant-frames l = gathered l.least l.initial.stack l.initial.operand ≡ gathered l.least l.stack l.operand

abbrev pub decreases-frames : goal.decreases-frames
decreases-frames l = length l.stack
