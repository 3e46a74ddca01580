-- How the frames of one level are looked at.
use Rattle.std.specs.Prelude.{ℕ, ◌==◌, nat_lt, if◌then◌else◌}
use Rattle.frame_stack.specs.declared.frame.Frame.{Frame}
use Rattle.frame_stack.specs.declared.frame.Frame.TheVariants as frame
use Rattle.sibling_regions.specs.declared.regions.Seen.{Seen}
use Rattle.sibling_regions.specs.declared.regions.Seen.TheVariants as seen

abbrev pub within : (level own : ℕ) → Seen
within level own = if nat_lt own level then seen.Outside else seen.Within

-- what a frame is to a level
abbrev pub seen_as : (level : ℕ) → Frame → Seen
seen_as n (frame.Attributes next asked) = seen.Outside
seen_as n (frame.Source buffer next asked) = seen.Outside
seen_as n (frame.Region asked level) = if level == n then seen.Region asked else within n level
seen_as n (frame.Body template alternative pc locals level spent) = within n level
seen_as n (frame.Call procedure pc locals level) = within n level
seen_as n (frame.Pass base level spent) = within n level
seen_as n f = seen.Within
