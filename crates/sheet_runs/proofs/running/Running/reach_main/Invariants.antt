use Rattle.std.proofs.Common.{◌≤◌}
use Rattle.stx_host.specs.Outside.{Outside}
use Rattle.run_engine.specs.Run.{Run}
use Rattle.sheet_runs.specs.declared.main_document.Main.{Main}
use Rattle.sheet_runs.specs.inside.Left.{beside_left, main_left}
use Rattle.sheet_runs.specs.inside.Running.{Driving}
use Rattle.sheet_runs.proofs.running.Running.reach_main.Given as goal

-- what was said and done so far is kept, and no more of the main document is left
abbrev pub invariant-loop-pumped : goal.invariant-loop-pumped
invariant-loop-pumped g l =
    ((start : Run) (main : Main) (old : Outside) → Driving start main old (g.H.Host.outside l.fn.host) l.fn.self l.fn.pumped → Driving start main old (g.H.Host.outside l.host) l.self l.pumped)
    × (main_left l.self ≤ main_left l.fn.self)

-- what is left to do before more of it comes
abbrev pub decreases-loop-pumped : goal.decreases-loop-pumped
decreases-loop-pumped g l = beside_left l.self
