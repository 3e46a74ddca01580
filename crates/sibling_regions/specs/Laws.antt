-- Laws of ended regions.
use Rattle.std.specs.Prelude.{◌≡◌, ◌↔◌, ◌<◌, ℕ, true, false, List, [], ◌∷◌, ◌++◌, None, Some, if◌then◌else◌, length, slice_get}
use Rattle.std.specs.Option.{option_or}
use Rattle.frame_stack.specs.Frame.{opens_list}
use Rattle.frame_stack.specs.declared.frame.Frame.{Frame}
use Rattle.instr_code.specs.Code.{code_of}
use Rattle.sheet_model.specs.Sound.{IsReadableSheet}
use Rattle.sheet_model.specs.declared.sheet.Sheet.{Sheet}
use Rattle.sibling_regions.specs.Ends.{Look, ends_frame, is_ended, is_innermost, outermost_ended}
use Rattle.sibling_regions.specs.Standing.{ConditionsCanBeEvaluated, IsAtMost, LevelsRise}

-- The outermost region that a node ends is one that it ends, and below it stands none that it ends.
abbrev pub OutermostIsFirst : Type 0
OutermostIsFirst =
    (l : Look) (frames : List Frame) (place : ℕ)
    → (outermost_ended l frames ≡ Some place)
    ↔ ((is_ended l frames place ≡ true) × ((outer : ℕ) → outer < place → is_ended l frames outer ≡ false))

-- There is none exactly where it ends no region.
abbrev pub NoneWhereNoneEnds : Type 0
NoneWhereNoneEnds = (l : Look) (frames : List Frame) → (outermost_ended l frames ≡ None) ↔ ((place : ℕ) → is_ended l frames place ≡ false)

-- Nothing below a list that is open by itself is ended.
abbrev pub ListHides : Type 0
ListHides = (l : Look) (frames : List Frame) (f : Frame) → opens_list f ≡ true → outermost_ended l (frames ++ f ∷ []) ≡ None

-- Any other frame on top is ended by itself alone, and is the outermost one only where none below it is ended.
abbrev pub TopEndsLast : Type 0
TopEndsLast =
    (l : Look) (frames : List Frame) (f : Frame) → opens_list f ≡ false
    → outermost_ended l (frames ++ f ∷ []) ≡ option_or (outermost_ended l frames) (if ends_frame l frames f then Some (length frames) else None)

-- Levels rise under one frame more where each frame that no list hides has at most its level.
abbrev pub TopRises : Type 0
TopRises =
    (frames : List Frame) (f : Frame) → LevelsRise frames
    → ((place : ℕ) (other : Frame) → is_innermost frames place ≡ true → slice_get frames place ≡ Some other → IsAtMost other f)
    → LevelsRise (frames ++ f ∷ [])

-- The conditions can be evaluated in the code of a sheet whose patterns can be read.
abbrev pub CodeCanBeAsked : Type 0
CodeCanBeAsked = (sheet : Sheet) → IsReadableSheet sheet → ConditionsCanBeEvaluated (code_of sheet)
