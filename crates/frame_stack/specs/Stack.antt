-- The stack of frames.
use Rattle.std.specs.Prelude.{◌≡◌, ℕ, ◌≤◌, List, Some}
use Rattle.frame_stack.specs.declared.frame.Frame.{Frame}
use Rattle.frame_stack.specs.Frame.{instance_of}
use Rattle.frame_stack.specs.Level.{instances}

-- the frames, the outermost first
pub record FrameStack : Type 0 where
  pub frames : List Frame

-- other frames
abbrev pub with_frames : List Frame → FrameStack → FrameStack
with_frames frames stack = record stack { frames = frames }

-- an instance whose level has as many as it may have
abbrev pub IsFull : (limit : ℕ) → Frame → List Frame → Type 0
IsFull limit frame frames = (level : ℕ) × (instance_of frame ≡ Some level) × (limit ≤ instances level frames)
