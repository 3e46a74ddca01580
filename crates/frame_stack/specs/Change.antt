-- A frame in which something is changed; one of another kind stays as it is.
use Rattle.std.specs.Prelude.{ℕ, Bool, List, [], slice_get, slice_set}
use Rattle.std.specs.Option.{option_map_or}
use Rattle.frame_stack.specs.declared.frame.Frame.{Frame}
use Rattle.frame_stack.specs.declared.frame.Frame.TheVariants.{Body, Call, Attributes, Loop, Region, Source, Skip, Pass}
use Rattle.frame_stack.specs.declared.locals.Local.{Local}

-- a body with another next operation
abbrev pub with_pc : (pc : ℕ) → Frame → Frame
with_pc next (Body template alternative pc locals level spent) = Body template alternative next locals level spent
with_pc next (Call procedure pc locals level) = Call procedure next locals level
with_pc next f = f

-- a template's body, of whose node the children are processed or skipped, or aren't
abbrev pub with_spent : (spent : Bool) → Frame → Frame
with_spent gone (Body template alternative pc locals level spent) = Body template alternative pc locals level gone
with_spent gone f = f

-- a loop that has bound so many items
abbrev pub with_turn : (turn : ℕ) → Frame → Frame
with_turn bound (Loop turn) = Loop bound
with_turn bound f = f

-- a list that is open by itself, with another number of what comes next
abbrev pub with_next : (next : ℕ) → Frame → Frame
with_next number (Attributes next asked) = Attributes number asked
with_next number (Source buffer next asked) = Source buffer number asked
with_next number f = f

-- nodes that are skipped, so many of them open
abbrev pub with_depth : (depth : ℕ) → Frame → Frame
with_depth open_ (Skip depth) = Skip open_
with_depth open_ f = f

-- a body with other locals
abbrev pub with_locals : (List Local → List Local) → Frame → Frame
with_locals f (Body template alternative pc locals level spent) = Body template alternative pc (f locals) level spent
with_locals f (Call procedure pc locals level) = Call procedure pc (f locals) level
with_locals f frame = frame

abbrev pub locals_of : Frame → List Local
locals_of (Body template alternative pc locals level spent) = locals
locals_of (Call procedure pc locals level) = locals
locals_of f = []

-- frames, of which the one at a place is changed
abbrev pub changed : (Frame → Frame) → (place : ℕ) → List Frame → List Frame
changed f place frames = option_map_or (λ frame. slice_set frames place (f frame)) (slice_get frames place) frames
