-- How far states count: expressions in brackets, arguments of calls, and places above the current one.
use Rattle.std.specs.Prelude.{ℕ, ◌-◌, ◌^◌, ◌≤◌, ⊤, List, [], ◌∷◌}
use Rattle.stxpath_syntax.specs.declared.state.Frame.{Frame}
use Rattle.stxpath_syntax.specs.declared.state.Frame.TheVariants.{Group, Call}
use Rattle.stxpath_syntax.specs.declared.state.Mode.{Mode}
use Rattle.stxpath_syntax.specs.declared.state.Mode.TheVariants.{Attribute, Above, Higher}
use Rattle.stxpath_syntax.specs.declared.state.Owner.{Owner}
use Rattle.stxpath_syntax.specs.declared.state.Owner.TheVariants as owner
use Rattle.stxpath_syntax.specs.declared.state.State.{State}

abbrev pub frame_count : Frame → ℕ
frame_count (Group items count) = count
frame_count (Call name at items count) = count
frame_count _ = 0

abbrev pub owner_count : Owner → ℕ
owner_count (owner.Above n) = n
owner_count _ = 0

abbrev pub mode_count : Mode → ℕ
mode_count (Attribute whose) = owner_count whose
mode_count (Above n) = n
mode_count (Higher n) = n
mode_count _ = 0

-- no frame counts further
abbrev pub CountTo : ℕ → List Frame → Type 0
CountTo n [] = ⊤
CountTo n (frame ∷ frames) = (frame_count frame ≤ n) × CountTo n frames

-- no part of a state counts further
pub record CountsTo (n : ℕ) (state : State) : Type 0 where
  pub frames : CountTo n state.stack
  pub mode : mode_count state.mode ≤ n

-- in 64 bits each of them can count one more
abbrev pub CanCount : List Frame → Type 0
CanCount frames = CountTo (2 ^ 64 - 2) frames

abbrev pub StateCanCount : State → Type 0
StateCanCount state = CountsTo (2 ^ 64 - 2) state
