use Rattle.std.proofs.Common.{sym, subst}
use Rattle.frame_stack.specs.Counted.{AreCounted}
use Rattle.frame_stack.proofs.Standing.{taken_counted}
use Rattle.frame_stack.proofs.stack.Frames.pop.Goals as goal

pub invariant_of-self : goal.invariant_of-self
invariant_of-self c = subst AreCounted (sym c.pop.ensures.rest) (taken_counted c.self.inside.entries.items _ c.self.invariant)
