use Rattle.std.proofs.Common.{◌+◌, ◌-◌, ◌<◌, ◌≤◌}
use Rattle.stx_host.specs.Table.{ids_of, AreOpen, count_between}
use Rattle.stx_host.proofs.table.Table.free_id.Given as goal

-- every number below is open, and of the numbers that are left one isn't
abbrev pub invariant-loop-low : goal.invariant-loop-low
invariant-loop-low g l = record {
  above : 0 < l.low;
  lower : AreOpen 1 l.low (ids_of l.self.slots.items);
  range : l.low ≤ l.high;
  free : count_between l.low (l.high + 1) (ids_of l.self.slots.items) < (l.high + 1) - l.low;
  middle : l.low < l.high → (l.low ≤ l.middle) × (l.middle < l.high);
}

abbrev pub decreases-loop-low : goal.decreases-loop-low
decreases-loop-low g l = l.high - l.low
