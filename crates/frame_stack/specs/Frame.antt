-- What a frame is to the levels.
use Rattle.std.specs.Prelude.{ℕ, Bool, true, false, nat_eq, Option, None, Some}
use Rattle.std.specs.Option.{option_map_or}
use Rattle.frame_stack.specs.declared.frame.Frame.{Frame}
use Rattle.frame_stack.specs.declared.frame.Frame.TheVariants.{Body, Call, Attributes, Loop, Region, Source, Skip, Pass}

-- a frame's variant, and its level where it has one
pub data Shape : Type 0 where
  BodyAt : ℕ → Shape
  CallAt : ℕ → Shape
  OfAttributes : Shape
  OfLoop : Shape
  RegionAt : ℕ → Shape
  OfSource : Shape
  OfSkip : Shape
  PassAt : ℕ → Shape

abbrev pub shape : Frame → Shape
shape (Body template alternative pc locals level spent) = BodyAt level
shape (Call procedure pc locals level) = CallAt level
shape (Attributes next asked) = OfAttributes
shape (Loop turn) = OfLoop
shape (Region asked level) = RegionAt level
shape (Source buffer next asked) = OfSource
shape (Skip depth) = OfSkip
shape (Pass base level spent) = PassAt level

-- the level of which a frame of this shape is an instance: templates and procedures are
abbrev pub level_of : Shape → Option ℕ
level_of (BodyAt level) = Some level
level_of (CallAt level) = Some level
level_of s = None

abbrev pub instance_of : Frame → Option ℕ
instance_of f = level_of (shape f)

-- a list that is open by itself, with levels of its own
abbrev pub is_list : Shape → Bool
is_list OfAttributes = true
is_list OfSource = true
is_list s = false

abbrev pub opens_list : Frame → Bool
opens_list f = is_list (shape f)

-- an instance of the level
abbrev pub is_instance : (level : ℕ) → Frame → Bool
is_instance level f = option_map_or (λ l. nat_eq l level) (instance_of f) false
