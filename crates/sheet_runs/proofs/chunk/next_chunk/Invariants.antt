use Rattle.std.proofs.Common.{◌≡◌, ℕ, ◌<◌, List, ◌++◌, length}
use Rattle.std.specs.List.{concat}
use Rattle.sheet_runs.proofs.chunk.next_chunk.Given as goal

-- some first pieces were taken, and joined
abbrev pub invariant-loop-alloc : goal.invariant-loop-alloc
invariant-loop-alloc l = (front : List (List ℕ)) × (0 < length front) × (l.fn.sample ≡ front ++ l.sample) × (l.chunk ≡ concat front)

-- the pieces that are left
abbrev pub decreases-loop-alloc : goal.decreases-loop-alloc
decreases-loop-alloc l = length l.sample
