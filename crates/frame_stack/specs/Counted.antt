-- What is kept beside each frame.
use Rattle.std.specs.Prelude.{◌≡◌, ℕ, ◌≤◌, true, List, [], ◌∷◌, ◌++◌, map}
use Rattle.frame_stack.specs.declared.counted.Entry.{Entry}
use Rattle.frame_stack.specs.declared.frame.Frame.{Frame}
use Rattle.frame_stack.specs.Frame.{is_instance, opens_list}
use Rattle.frame_stack.specs.Level.{instances}

abbrev pub frames_of : List Entry → List Frame
frames_of entries = map (λ e. e.frame) entries

-- of the innermost of these frames: an instance is counted with all of its level, no level from `below` on has an instance, and
-- in a list that begins no level has one
pub record IsCounted (frames : List Frame) (e : Entry) : Type 0 where
  pub counted : (level : ℕ) → is_instance level e.frame ≡ true → e.count ≡ instances level frames
  pub bounded : (level : ℕ) → e.below ≤ level → instances level frames ≡ 0
  pub begun : opens_list e.frame ≡ true → e.below ≡ 0

-- so of each frame, with those before it
abbrev pub AreCountedOn : (before : List Frame) → List Entry → Type 0
AreCountedOn before [] = Unit {0}
AreCountedOn before (e ∷ es) = IsCounted (before ++ e.frame ∷ []) e × AreCountedOn (before ++ e.frame ∷ []) es

abbrev pub AreCounted : List Entry → Type 0
AreCounted entries = AreCountedOn [] entries
