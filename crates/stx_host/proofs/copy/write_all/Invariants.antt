use Rattle.std.proofs.Common.{◌≡◌, ℕ, ◌≤◌, ◌-◌, List, length, take, sum}
use Rattle.stx_host.specs.Outside.{wrote}
use Rattle.stx_host.proofs.copy.write_all.Given as goal

-- the first bytes were taken, in some number of writes
abbrev pub invariant-loop-done : goal.invariant-loop-done
invariant-loop-done g l = (l.done ≤ length l.bytes) × ((lens : List ℕ) × (sum lens ≡ l.done) × (g.H.Host.outside l.host ≡ wrote (g.H.Host.outside l.initial.host) l.lane lens (take l.done l.bytes)))

abbrev pub decreases-loop-done : goal.decreases-loop-done
decreases-loop-done g l = length l.bytes - l.done
