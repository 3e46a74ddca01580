use Rattle.std.proofs.Common.{length}
use Rattle.sheet_files.specs.Held.{IsHeld}
use Rattle.sheet_files.proofs.Letting.{LeftSoFar}
use Rattle.sheet_files.proofs.reading.Reading.leave_all.Given as goal

-- those behind were given back
abbrev pub invariant-loop-self : goal.invariant-loop-self
invariant-loop-self g l = record {
  held : IsHeld (g.H.Host.outside l.host) l.self;
  left : LeftSoFar (g.H.Host.outside l.initial.host) (g.H.Host.outside l.host) l.initial.self l.self;
}

abbrev pub decreases-loop-self : goal.decreases-loop-self
decreases-loop-self g l = length l.self.going.items
