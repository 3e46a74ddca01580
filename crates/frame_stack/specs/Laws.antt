-- Laws of the levels.
use Rattle.std.specs.Prelude.{◌≡◌, ◌≢◌, ℕ, suc, false, true, List, [], ◌∷◌, ◌++◌, None, Some, map}
use Rattle.frame_stack.specs.declared.frame.Frame.{Frame}
use Rattle.frame_stack.specs.Frame.{instance_of, opens_list, shape}
use Rattle.frame_stack.specs.Level.{instances}

-- an instance is one more of its level, and no other level has one more or fewer
abbrev pub InstanceCounts : Type 0
InstanceCounts =
    (frames : List Frame) (f : Frame) (level : ℕ) → instance_of f ≡ Some level → instances level (frames ++ f ∷ []) ≡ suc (instances level frames)

abbrev pub OthersStay : Type 0
OthersStay =
    (frames : List Frame) (f : Frame) (level other : ℕ) → instance_of f ≡ Some level → other ≢ level
    → instances other (frames ++ f ∷ []) ≡ instances other frames

-- a list that is open by itself has none yet, and any other frame changes nothing
abbrev pub ListBegins : Type 0
ListBegins = (frames : List Frame) (f : Frame) (level : ℕ) → opens_list f ≡ true → instances level (frames ++ f ∷ []) ≡ 0

abbrev pub NoneCounts : Type 0
NoneCounts =
    (frames : List Frame) (f : Frame) (level : ℕ) → instance_of f ≡ None → opens_list f ≡ false
    → instances level (frames ++ f ∷ []) ≡ instances level frames

-- the instances are told by the variants and levels alone
abbrev pub ToldByShapes : Type 0
ToldByShapes = (fs gs : List Frame) (level : ℕ) → map shape fs ≡ map shape gs → instances level fs ≡ instances level gs
