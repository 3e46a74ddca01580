use Rattle.sheet_runs.specs.inside.Left.{main_left}
use Rattle.sheet_runs.specs.inside.Running.{Driving}
use Rattle.sheet_runs.proofs.running.Running.go.Given as goal

-- what was said and done so far is kept
abbrev pub invariant-loop-next : goal.invariant-loop-next
invariant-loop-next g l = Driving l.fn.self.engine l.fn.self.main (g.H.Host.outside l.fn.host) (g.H.Host.outside l.host) l.self l.pumped

-- what is left of the main document
abbrev pub decreases-loop-next : goal.decreases-loop-next
decreases-loop-next g l = main_left l.self
