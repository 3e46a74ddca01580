-- Bodies among frames.
use Rattle.std.specs.Prelude.{ℕ, ◌==◌, Bool, true, false, if◌then◌else◌, List, [], ◌∷◌, Option, Some, None, is_none, length, reverse, take}
use Rattle.std.specs.Option.{option_and_then}
use Rattle.frame_stack.specs.Change.{with_spent}
use Rattle.frame_stack.specs.declared.frame.Frame.{Frame}
use Rattle.frame_stack.specs.declared.frame.Frame.TheVariants.{Body, Call, Attributes, Loop, Source, Skip}
use Rattle.template_machine.specs.declared.bodies.Role.{Role}
use Rattle.template_machine.specs.declared.bodies.Role.TheVariants as role
use Rattle.template_machine.specs.declared.bodies.Seen.{Seen}
use Rattle.template_machine.specs.declared.bodies.Seen.TheVariants.{Template, Within, Outside}

-- the frames below a place, the innermost first
abbrev pub below : (place : ℕ) → List Frame → List Frame
below place frames = reverse (take place frames)

-- Of frames, the innermost first.

-- a loop of a body, a template's or a procedure's body, or another
abbrev pub role_of : Frame → Role
role_of (Loop turn) = role.Loop
role_of (Body template alternative pc locals level spent) = role.Template
role_of (Call procedure pc locals level) = role.Procedure
role_of f = role.Other

-- the place of the innermost body, below the loops that stand over it; None where something else stands there
abbrev pub body_by : Role → (below : List Frame) → Option ℕ → Option ℕ
body_by role.Loop fs inner = inner
body_by role.Template fs inner = Some (length fs)
body_by role.Procedure fs inner = Some (length fs)
body_by role.Other fs inner = None

abbrev pub body_in : List Frame → Option ℕ
body_in [] = None
body_in (f ∷ fs) = body_by (role_of f) fs (body_in fs)

-- the place of the template's body to whose node it belongs
abbrev pub template_by : Role → (below : List Frame) → Option ℕ → Option ℕ
template_by role.Loop fs inner = inner
template_by role.Template fs inner = Some (length fs)
template_by role.Procedure fs inner = inner
template_by role.Other fs inner = None

abbrev pub template_in : List Frame → Option ℕ
template_in [] = None
template_in (f ∷ fs) = template_by (role_of f) fs (template_in fs)

-- the innermost body changed
abbrev pub on_body : (Frame → Frame) → List Frame → List Frame
on_body f [] = []
on_body f (Loop turn ∷ fs) = Loop turn ∷ on_body f fs
on_body f (x ∷ fs) = f x ∷ fs

-- Of the node of a level: a frame is a template's body of it, or stands within it, or it and all below belong to other nodes.
abbrev pub seen_as : (level : ℕ) → Frame → Seen
seen_as level (Loop turn) = Within
seen_as level (Body template alternative pc locals own spent) = if own == level then Template template else Outside
seen_as level (Call procedure pc locals own) = if own == level then Within else Outside
seen_as level f = Outside

-- its children are gone
abbrev pub spent_by : Seen → Frame → (others spent_others : List Frame) → List Frame
spent_by (Template template) f fs gs = with_spent true f ∷ gs
spent_by Within f fs gs = f ∷ gs
spent_by Outside f fs gs = f ∷ fs

abbrev pub all_spent : (level : ℕ) → List Frame → List Frame
all_spent level [] = []
all_spent level (f ∷ fs) = spent_by (seen_as level f) f fs (all_spent level fs)

-- the templates that are active for it
abbrev pub active_by : Seen → List ℕ → List ℕ
active_by (Template template) active = template ∷ active
active_by Within active = active
active_by Outside active = []

abbrev pub active_in : (level : ℕ) → List Frame → List ℕ
active_in level [] = []
active_in level (f ∷ fs) = active_by (seen_as level f) (active_in level fs)

-- the number of the next attribute, where the innermost list is of attributes
abbrev pub next_of : Frame → Option ℕ
next_of (Attributes next asked) = Some next
next_of f = None

abbrev pub next_in : List Frame → Option ℕ
next_in [] = None
next_in (f ∷ fs) = next_of f

-- how many elements are open in the innermost list, where it is skipped
abbrev pub depth_of : Frame → Option ℕ
depth_of (Skip depth) = Some depth
depth_of f = None

abbrev pub skipped_in : List Frame → Option ℕ
skipped_in [] = None
skipped_in (f ∷ fs) = depth_of f

-- the innermost list is that of a source's document node
abbrev pub is_source : Frame → Bool
is_source (Source buffer next asked) = true
is_source f = false

abbrev pub is_source_in : List Frame → Bool
is_source_in [] = false
is_source_in (f ∷ fs) = is_source f

-- the nodes of the innermost list come as events
abbrev pub takes_events : List Frame → Bool
takes_events fs = is_none (next_in fs)

-- What a body's frame has.

abbrev pub pc_of : Frame → Option ℕ
pc_of (Body template alternative pc locals level spent) = Some pc
pc_of (Call procedure pc locals level) = Some pc
pc_of f = None

-- how many items a loop has bound
abbrev pub turn_of : Frame → Option ℕ
turn_of (Loop turn) = Some turn
turn_of f = None

abbrev pub level_of : Frame → Option ℕ
level_of (Body template alternative pc locals level spent) = Some level
level_of (Call procedure pc locals level) = Some level
level_of f = None

abbrev pub spent_of : Frame → Option Bool
spent_of (Body template alternative pc locals level spent) = Some spent
spent_of f = None

-- the innermost frame that is no loop
abbrev pub frame_in : List Frame → Option Frame
frame_in [] = None
frame_in (Loop turn ∷ fs) = frame_in fs
frame_in (f ∷ fs) = Some f

-- the next operation of the innermost body, and its level
abbrev pub pc_in : List Frame → Option ℕ
pc_in fs = option_and_then pc_of (frame_in fs)

abbrev pub level_in : List Frame → Option ℕ
level_in fs = option_and_then level_of (frame_in fs)

-- whether the children of its node are gone, by the innermost template's body
abbrev pub spent_in : List Frame → Option Bool
spent_in [] = None
spent_in (Loop turn ∷ fs) = spent_in fs
spent_in (Call procedure pc locals level ∷ fs) = spent_in fs
spent_in (Body template alternative pc locals level spent ∷ fs) = Some spent
spent_in (f ∷ fs) = None
