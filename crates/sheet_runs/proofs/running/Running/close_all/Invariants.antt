use Rattle.stx_host.specs.Outside.{Outside}
use Rattle.run_engine.specs.Run.{Run}
use Rattle.sheet_runs.specs.declared.main_document.Main.{Main}
use Rattle.sheet_runs.specs.declared.running.Halt.{Halt}
use Rattle.sheet_runs.specs.inside.Running.{AreOpen, Halted}
use Rattle.sheet_runs.proofs.running.Running.close_all.Given as goal

-- what is open is known, and what was said and done so far is kept
abbrev pub invariant-loop-other : goal.invariant-loop-other
invariant-loop-other g l =
    AreOpen (g.H.Host.outside l.host).open_ids l.self.others.items
    × ((start : Run) (main : Main) (old : Outside) (halt : Halt) → Halted start main old (g.H.Host.outside l.initial.host) l.initial.self halt → Halted start main old (g.H.Host.outside l.host) l.self halt)

abbrev pub decreases-loop-other : goal.decreases-loop-other
decreases-loop-other g l = goal.left-loop-other g l
