-- Which sibling regions the current node ends.
use Rattle.std.specs.Prelude.{ℕ, ◌+◌, ◌==◌, Bool, true, false, not, ◌&&◌, ◌||◌, List, [], ◌∷◌, Option, Some, None, length, take, drop, reverse, slice_get}
use Rattle.std.specs.List.{find, list_all, range_with_len}
use Rattle.std.specs.Option.{option_and_then, option_map, option_map_or, option_or}
use Rattle.stx_base.specs.declared.limits.Limits.{Limits}
use Rattle.frame_stack.specs.Frame.{opens_list}
use Rattle.frame_stack.specs.declared.frame.Frame.{Frame}
use Rattle.frame_stack.specs.declared.frame.Frame.TheVariants as frame
use Rattle.instr_code.specs.declared.code.Code.{Code}
use Rattle.instr_code.specs.declared.code.Op.{Op}
use Rattle.instr_code.specs.declared.code.Op.TheVariants as op
use Rattle.match_patterns.specs.Fits.{at_current, pattern_fits}
use Rattle.match_patterns.specs.Grouping.{Seen}
use Rattle.node_stack.specs.Path.{Path, level}
use Rattle.sheet_model.specs.declared.instr.Instr.{Instr}
use Rattle.sheet_model.specs.declared.instr.Instr.TheOpen.{Instr-F}
use Rattle.sheet_model.specs.declared.instr.Instr.TheViews.{out-Instr}
use Rattle.sheet_model.specs.declared.instr.When.{When}
use Rattle.sheet_model.specs.declared.sheet.Procedure.{Procedure}
use Rattle.sheet_model.specs.declared.sheet.Sheet.{Sheet}
use Rattle.sheet_model.specs.declared.sheet.Template.{Template}
use Rattle.stxpath_eval.specs.Setting.{Setting}
use Rattle.stxpath_syntax.specs.declared.expr.Pattern.{Pattern}

-- what a run stands on when it looks at a node: the sheet and its code, the path to the node, the variables in sight, and the limits
pub record Look : Type 0 where
  pub sheet : Sheet
  pub code : Code
  pub path : Path
  pub vars : Seen
  pub limits : Limits

-- the instruction whose operation stands at a place
abbrev pub done_by : Op → Option ℕ
done_by (op.Do instr) = Some instr
done_by o = None

abbrev pub instruction_at : Code → (place : ℕ) → Option Instr
instruction_at code place =
    option_and_then (λ o. option_and_then (λ n. slice_get code.instrs n) (done_by o)) (slice_get code.ops place)

-- a node ends the siblings of a process-siblings where it doesn't fit the pattern of `while` or fits that of `until`
abbrev pub fits_there : Setting → (otherwise : Bool) → Option Pattern → Bool
fits_there g otherwise None = otherwise
fits_there g otherwise (Some p) = pattern_fits p g

abbrev pub layer_ends : Setting → Instr-F Instr When → Bool
layer_ends g (Instr-F.ProcessSiblings going until group params at) = not (fits_there g true going) || fits_there g false until
layer_ends g x = false

abbrev pub instruction_ends : Setting → Instr → Bool
instruction_ends g i = layer_ends g (out-Instr i)

-- the group of the body that a frame runs
abbrev pub group_of : Sheet → Frame → Option ℕ
group_of sheet (frame.Body template alternative pc locals level spent) = option_map (λ (t : Template). t.group) (slice_get sheet.templates template)
group_of sheet (frame.Call procedure pc locals level) = option_map (λ (p : Procedure). p.group) (slice_get sheet.procedures procedure)
group_of sheet f = None

-- the group of the innermost body, of frames from the innermost outwards
abbrev pub innermost_group : Sheet → List Frame → Option ℕ
innermost_group sheet [] = None
innermost_group sheet (f ∷ fs) = option_or (group_of sheet f) (innermost_group sheet fs)

-- the current node ends the siblings that the operation at a place asked for; their patterns see the variables of the group
abbrev pub condition_ends : Look → (asked : ℕ) → (group : ℕ) → Bool
condition_ends l asked group =
    option_map_or (instruction_ends (at_current (l.vars group) l.limits l.path)) (instruction_at l.code asked) false

-- the same, in the group of the innermost body of the frames below
abbrev pub asked_ends : Look → (below : List Frame) → (asked : ℕ) → Bool
asked_ends l below asked = option_map_or (condition_ends l asked) (innermost_group l.sheet (reverse below)) false

-- it ends a frame that stands on others: a region of its own level
abbrev pub ends_frame : Look → (below : List Frame) → Frame → Bool
ends_frame l below (frame.Region asked number) = number == level l.path && asked_ends l below asked
ends_frame l below f = false

-- no list that is open by itself stands above a place
abbrev pub is_innermost : List Frame → (place : ℕ) → Bool
is_innermost frames place = list_all (λ f. not (opens_list f)) (drop (place + 1) frames)

-- it ends the frame at a place
abbrev pub is_ended : Look → List Frame → (place : ℕ) → Bool
is_ended l frames place = is_innermost frames place && option_map_or (ends_frame l (take place frames)) (slice_get frames place) false

-- the outermost region that it ends
abbrev pub outermost_ended : Look → List Frame → Option ℕ
outermost_ended l frames = find (is_ended l frames) (range_with_len 0 (length frames))
