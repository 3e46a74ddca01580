use Rattle.std.proofs.Common.{ℕ, List}
use Rattle.stx_host.specs.Outside.{TellsMain}
use Rattle.stx_host.specs.Laws.{CountsLater}
use Rattle.stx_host.proofs.CopiedSoFar.{CopySoFar}
use Rattle.stx_host.proofs.copy.copy_main.Given as goal

-- what was read was written, and no count fell
abbrev pub invariant-loop : goal.invariant-loop
invariant-loop g l = record {
  copied : (main : List ℕ) → TellsMain (g.H.Host.outside l.initial.host) main → CopySoFar (g.H.Host.outside l.initial.host) (g.H.Host.outside l.host) main l.counter;
  counts : CountsLater (g.H.Host.outside l.initial.host) (g.H.Host.outside l.host);
}
