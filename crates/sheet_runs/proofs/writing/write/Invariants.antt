use Rattle.std.proofs.Common.{◌≡◌, ℕ, ◌-◌, ◌≤◌, List, length, sum, take}
use Rattle.stx_host.specs.Outside.{wrote}
use Rattle.sheet_runs.proofs.writing.write.Given as goal

-- the first bytes were taken, in some number of writes
abbrev pub invariant-loop-taken : goal.invariant-loop-taken
invariant-loop-taken g l = (l.taken ≤ length l.bytes) × ((lens : List ℕ) × (sum lens ≡ l.taken) × (g.H.Host.outside l.host ≡ wrote (g.H.Host.outside l.initial.host) l.lane lens (take l.taken l.bytes)))

abbrev pub decreases-loop-taken : goal.decreases-loop-taken
decreases-loop-taken g l = length l.bytes - l.taken
