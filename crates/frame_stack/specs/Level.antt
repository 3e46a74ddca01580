-- The instances of a level.
use Rattle.std.specs.Prelude.{ℕ, not, List, reverse, take_while, count_by}
use Rattle.frame_stack.specs.declared.frame.Frame.{Frame}
use Rattle.frame_stack.specs.Frame.{is_instance, opens_list}

-- the frames that have one set of levels with what is pushed next, the innermost first: those above the innermost list that is
-- open by itself
abbrev pub together : (frames : List Frame) → List Frame
together frames = take_while (λ f. not (opens_list f)) (reverse frames)

-- how many instances of the level are open
abbrev pub instances : (level : ℕ) → (frames : List Frame) → ℕ
instances level frames = count_by (is_instance level) (together frames)
