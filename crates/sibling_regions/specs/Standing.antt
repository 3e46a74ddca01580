-- What a look at the frames of one level stands on.
use Rattle.std.specs.Prelude.{◌≡◌, ◌<◌, ◌≤◌, ℕ, true, List, Option, Some, None, All, IfSome, slice_get}
use Rattle.frame_stack.specs.declared.frame.Frame.{Frame}
use Rattle.frame_stack.specs.declared.frame.Frame.TheVariants as frame
use Rattle.instr_code.specs.declared.code.Code.{Code}
use Rattle.sheet_model.specs.Parts.{conditions}
use Rattle.sheet_model.specs.declared.instr.Instr.TheViews.{out-Instr}
use Rattle.sibling_regions.specs.Ends.{is_innermost}
use Rattle.stxpath_syntax.specs.Shape.{PredicatesCanBeEvaluated}
use Rattle.stxpath_syntax.specs.declared.expr.Pattern.{Pattern}

-- the level of a frame, where it has one
abbrev pub level_of : Frame → Option ℕ
level_of (frame.Body template alternative pc locals level spent) = Some level
level_of (frame.Call procedure pc locals level) = Some level
level_of (frame.Region asked level) = Some level
level_of (frame.Pass base level spent) = Some level
level_of f = None

abbrev pub IsAtMost : (outer inner : Frame) → Type 0
IsAtMost outer inner = IfSome (level_of outer) (λ o. IfSome (level_of inner) (λ i. o ≤ i))

-- where no list that is open by itself stands between, no frame has a higher level than one above it
abbrev pub LevelsRise : List Frame → Type 0
LevelsRise frames =
    (low high : ℕ) (outer inner : Frame) → low < high → is_innermost frames low ≡ true → slice_get frames low ≡ Some outer
    → slice_get frames high ≡ Some inner → IsAtMost outer inner

-- the patterns that end siblings can be evaluated
abbrev pub ConditionsCanBeEvaluated : Code → Type 0
ConditionsCanBeEvaluated code =
    All (λ i. All (λ (p : Pattern). All PredicatesCanBeEvaluated p.alternatives) (conditions (out-Instr i))) code.instrs
