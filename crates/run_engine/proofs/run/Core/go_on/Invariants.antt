use Rattle.std.proofs.Common.{◌≤◌}
use Rattle.run_engine.specs.Taking.{Took}
use Rattle.run_engine.specs.inside.Cores.{IsSame, Reads, asks_of, opens_of, work}
use Rattle.run_engine.specs.Run.{Main}
use Rattle.run_engine.specs.inside.Gives.{Gives, ReadsInOrder}
use Rattle.run_engine.proofs.run.Core.go_on.Given as goal

-- the machine asks for the next event, and the documents were read on
abbrev pub invariant-loop-pumped : goal.invariant-loop-pumped
invariant-loop-pumped l = Reads l.self × IsSame l.fn.self l.self × Took (opens_of l.fn.self) (opens_of l.self) × (asks_of l.self ≤ asks_of l.fn.self) × (ReadsInOrder l.fn.self → Gives Main l.fn.self l.self)

-- each event is one fewer
abbrev pub decreases-loop-pumped : goal.decreases-loop-pumped
decreases-loop-pumped l = work l.self
