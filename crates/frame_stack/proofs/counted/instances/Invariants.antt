use Rattle.std.proofs.Common.{◌≡◌, length}
use Rattle.frame_stack.specs.Counted.{AreCounted, frames_of}
use Rattle.frame_stack.specs.Level.{instances}
use Rattle.frame_stack.proofs.counted.instances.Given as goal

abbrev pub invariant-inward : goal.invariant-inward
invariant-inward l = AreCounted l.inner × (instances l.level (frames_of l.inner) ≡ instances l.level (frames_of l.fn.entries))

abbrev pub decreases-inward : goal.decreases-inward
decreases-inward l = length l.inner
