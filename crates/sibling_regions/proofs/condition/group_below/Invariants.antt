use Rattle.std.proofs.Common.{◌≡◌, ◌≤◌, take, reverse, length}
use Rattle.sibling_regions.specs.Ends.{innermost_group}
use Rattle.sibling_regions.proofs.condition.group_below.Given as goal

-- No body stands from here up to the place.

abbrev pub invariant-loop-below : goal.invariant-loop-below
invariant-loop-below l =
    (l.below ≤ length l.frames.frames)
    × (innermost_group l.sheet (reverse (take l.fn.place l.frames.frames)) ≡ innermost_group l.sheet (reverse (take l.below l.frames.frames)))

abbrev pub decreases-loop-below : goal.decreases-loop-below
decreases-loop-below l = l.below
