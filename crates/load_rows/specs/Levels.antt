-- Frames that are put one on another, with levels that rise.
use Rattle.std.specs.Prelude.{ℕ, ◌≤◌, List, All, IfSome}
use Rattle.frame_stack.specs.declared.frame.Frame.{Frame}
use Rattle.sibling_regions.specs.Standing.{LevelsRise, level_of}

-- a frame has at most a level
abbrev pub IsUnder : (level : ℕ) → Frame → Type 0
IsUnder level f = IfSome (level_of f) (λ own. own ≤ level)

pub record AreRising (level : ℕ) (frames : List Frame) : Type 0 where
  pub rise : LevelsRise frames
  pub under : All (IsUnder level) frames
